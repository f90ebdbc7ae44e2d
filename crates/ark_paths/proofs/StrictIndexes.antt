-- Indexes that rise and lie inside a tree.
use Rattle.std.proofs.Common.{◌≡◌, ℕ, ◌+◌, ◌/◌, ◌<◌, ◌≤◌, ◌^◌, true, nat_eq, nat_lt, List, [], ◌∷◌, length, drop, inl, inr, refl, sym, ◌∙◌, arith, length-drop}
use Rattle.std.proofs.Math.Nat.{div-eq_of_lt, pow-le-pow_right}
use Rattle.std.proofs.lemmas.Bool.{lt-ltb, le-ltb, cases_lt, eq-eqb, ne_eqb}
use Rattle.std.proofs.lemmas.Nat.{pow_pos, le-div}
use Rattle.ark_paths.specs.MultiPathStrict.{are_rising}

-- ---- order

rising-short : (numbers : List ℕ) → length numbers ≤ 1 → are_rising numbers ≡ true
rising-short [] short = refl
rising-short (n ∷ []) short = refl
rising-short (n ∷ next ∷ numbers) short = absurd (omega arith)

pub rising-end : (numbers : List ℕ) (k : ℕ) → length numbers ≤ k + 1 → are_rising (drop k numbers) ≡ true
rising-end numbers k past = rising-short (drop k numbers) (omega (arith, length-drop k numbers))

-- ---- size

module _ (n bits : ℕ) where
  -- a number below a power of two is one that is shifted away
  pub shifted_away : nat_eq (n / 2 ^ bits) 0 ≡ nat_lt n (2 ^ bits)
  shifted_away =
      elim (cases_lt n (2 ^ bits)) [
        | inl lt ↦ eq-eqb (n / 2 ^ bits) 0 (div-eq_of_lt lt) ∙ sym (lt-ltb n (2 ^ bits) lt)
        | inr le ↦
            let some : 1 ≤ n / 2 ^ bits = le-div 1 n (2 ^ bits) (pow_pos bits) (omega (arith, le)) in
            ne_eqb (n / 2 ^ bits) 0 (λ none. omega (arith, some)) ∙ sym (le-ltb n (2 ^ bits) le)
      ]

  pub below_any : n < 2 ^ 64 → 64 ≤ bits → nat_lt n (2 ^ bits) ≡ true
  below_any small far =
      let two : 0 < 2 = omega arith in
      let more : 2 ^ 64 ≤ 2 ^ bits = pow-le-pow_right two far in
      lt-ltb n (2 ^ bits) (omega (arith, more, small))
