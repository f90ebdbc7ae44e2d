-- How many pairs a log hashes.
use Rattle.std.proofs.Common.{◌≡◌, ℕ, ◌+◌, ◌-◌, ◌/◌, ◌<◌, ◌≤◌, ◌^◌, ap, sym, ◌∙◌, arith, inl, inr}
use Rattle.std.proofs.lemmas.Bool.{cases_lt}
use Rattle.std.proofs.lemmas.Nat.{ones_le_self}
use Rattle.std.proofs.Math.Nat.{min-eq_left, min-eq_right}
use Rattle.std.specs.Prelude.{min}
use Rattle.merkle_log.specs.Append.{counted_after, pair_count}
use Rattle.merkle_log.specs.Stored.{stored_count}
use Rattle.merkle_log.proofs.Positions.{count-half, count-rises}

-- those of the complete places above the leaves
pub pair-is : (n : ℕ) → pair_count n ≡ stored_count (n / 2)
pair-is n = omega (arith, count-half n, ones_le_self n)

pub pair-rises : (a b : ℕ) → a ≤ b → pair_count a ≤ pair_count b
pair-rises a b le = omega (arith, pair-is a, pair-is b, count-rises (a / 2) (b / 2) (omega arith))

pub pair-within : (n : ℕ) → pair_count n ≤ n
pair-within n = omega arith

-- ---- sums that stay at the largest `usize`

pub counted-more : (a x y : ℕ) → counted_after (counted_after a x) y ≡ counted_after a (x + y)
counted-more a x y = elim (cases_lt 18446744073709551615 (a + x)) [
  | inl over ↦
      let first : counted_after a x ≡ 18446744073709551615 = min-eq_right (omega arith) in
      ap (λ n. counted_after n y) first ∙ min-eq_right (omega arith) ∙ sym (min-eq_right (omega arith))
  | inr within ↦
      let first : counted_after a x ≡ a + x = min-eq_left within in
      let sum : a + x + y ≡ a + (x + y) = omega arith in
      ap (λ n. counted_after n y) first ∙ ap (λ n. min n 18446744073709551615) sum
]

pub counted-next : (c a x n : ℕ) → c ≡ counted_after a x → n ≡ counted_after c 1 → n ≡ counted_after a (x + 1)
counted-next c a x n so next = next ∙ ap (λ m. counted_after m 1) so ∙ counted-more a x 1

pub counted-same : (c : ℕ) → c < 2 ^ 64 → c ≡ counted_after c 0
counted-same c fits =
    let same : c + 0 ≡ c = omega arith in sym (min-eq_left (omega arith) ∙ same)

pub counted-all : (x : ℕ) → x < 2 ^ 64 → counted_after 0 x ≡ x
counted-all x fits = let same : 0 + x ≡ x = omega arith in min-eq_left (omega arith) ∙ same

-- what is counted from none on
pub counted-growth : (calls counted first last : ℕ) → first ≤ last → last < 2 ^ 64 → calls ≡ counted
    → counted ≡ counted_after 0 (pair_count last - pair_count first) → pair_count first + calls ≡ pair_count last
counted-growth calls counted first last le fits same so =
    let p = pair-rises first last le in
    let q = pair-within last in
    let all = counted-all (pair_count last - pair_count first) (omega arith) in
    let e = same ∙ so ∙ all in omega arith
