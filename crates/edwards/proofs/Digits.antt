-- Multiples of a point, digit by digit to base 16.
use Rattle.std.proofs.Common.{◌≡◌, ℕ, suc, ◌+◌, ◌-◌, ◌*◌, ◌^◌, ◌<◌, ◌≤◌, List, ◌∷◌, length, set, get_or}
use Rattle.std.proofs.Common.{Bool, true, false, eqb, refl, sym, ◌∙◌, ap, subst, arith, pow-suc, inl, inr}
use Rattle.std.proofs.lemmas.Bool.{cases_lt, eqb-true, eqb-false}
use Rattle.std.proofs.lemmas.Grind.{get_or-set_at}
use Rattle.std.proofs.lemmas.List.{get_or-set_other}
use Rattle.ark_groups.specs.Group.{times}
use Rattle.ark_groups.specs.Words.{number}
use Rattle.ark_wide_fields.specs.Choices.{ones, mask_for}
use Rattle.ark_wide_fields.specs.declared.modulus.WideModulus.{Ghosts}
use Rattle.edwards.specs.declared.extended.Extended.{Extended}
use Rattle.edwards.specs.Edwards.{Coordinates, IsOnCurve, sum, neutral, edwards}
use Rattle.edwards.specs.Curves.{IsComplete}
use Rattle.edwards.specs.Extended.{Stands, StandsAt, IsBlank, AreMultiples}
use Rattle.edwards.proofs.Sums.{Quadruples, four_times}

-- the multiple of a point
abbrev pub multiple : ℕ → ℕ → Coordinates → ℕ → Coordinates
multiple p d a m = times (edwards p d) m a

module _ {M : Type 0} {g : Ghosts M} (d : ℕ) (c : IsComplete (number g.P) d) (a : Coordinates)
    (on : IsOnCurve (number g.P) d a) where
  -- doubled four times
  pub sixteen : (e f r : Extended M g) (m : ℕ) → Quadruples d c e f → Quadruples d c f r
      → Stands e (multiple (number g.P) d a m) → Stands r (multiple (number g.P) d a (16 * m))
  sixteen e f r m ef fr of_e =
      subst (λ k. Stands r (multiple (number g.P) d a k)) (whole m)
      (four_times d c f r (m + m + (m + m)) a on fr (four_times d c e f m a on ef of_e))
    where
      whole : (m : ℕ) → m + m + (m + m) + (m + m + (m + m)) + (m + m + (m + m) + (m + m + (m + m))) ≡ 16 * m
      whole m = omega arith

  -- the table begins with zero
  pub first_multiple : (zero : Extended M g) (rest : List (Extended M g)) → Stands zero neutral
      → AreMultiples d a 1 (zero ∷ rest)
  first_multiple zero rest of_zero k below e =
      let none : 0 ≡ k = omega (arith, below) in
      subst (λ n. Stands (get_or (zero ∷ rest) n e) (multiple (number g.P) d a n)) none of_zero

  -- one multiple more in the table
  pub next_multiple : (table : List (Extended M g)) (i : ℕ) (r : Extended M g) → 0 < i → i < length table
      → AreMultiples d a i table → Stands r (sum (number g.P) d (multiple (number g.P) d a (i - 1)) a)
      → AreMultiples d a (i + 1) (set table i r)
  next_multiple table i r some within before of_r k below e =
      elim (cases_lt k i) [
        | inl less ↦ subst (λ t. Stands t (multiple (number g.P) d a k))
            (sym (get_or-set_other table i k r e (λ same. omega (arith, less, same)))) (before k less e)
        | inr past ↦
            let same : k ≡ i = omega (arith, below, past) in
            let whole : suc (i - 1) ≡ k = omega (arith, some, same) in
            subst (λ t. Stands t (multiple (number g.P) d a k)) (sym (get_or-set_at table i k r e same within))
            (subst (λ n. Stands r (multiple (number g.P) d a n)) whole of_r)
      ]

  -- what was added for the digits so far, and the number of those that are left
  pub record Counted (e : Extended M g) (rest i n : ℕ) : Type 0 where
    pub count : ℕ
    pub stands : Stands e (multiple (number g.P) d a count)
    pub fits : 0 < i → rest < 2 ^ 256
    pub whole : count * 2 ^ 256 + rest ≡ n * 16 ^ i

  pub begins : (e : Extended M g) (n : ℕ) → Stands e neutral → Counted e n 0 n
  begins e n of_e =
      record {
        count = 0;
        stands = of_e;
        fits = λ some. absurd (omega (arith, some));
        whole = nothing n;
      }
    where
      nothing : (n : ℕ) → 0 * 2 ^ 256 + n ≡ n * 16 ^ 0
      nothing n = omega arith

-- what stands at an index was found where it was passed, and else nothing
abbrev pub FoundSoFar : {M : Type 0} {g : Ghosts M} → List (Extended M g) → ℕ → ℕ → Extended M g → Type 0
FoundSoFar table index i found =
    (index < i → (s : Coordinates) → StandsAt table index s → Stands found s) × (i ≤ index → IsBlank found)

-- a mask of ones is that of a choice
pub is_chosen : (i index mask : ℕ) → mask ≡ mask_for (eqb i index) → mask ≡ ones → i ≡ index
is_chosen i index mask bits full = step (eqb i index) refl
  where
    step : (b : Bool) → eqb i index ≡ b → i ≡ index
    step true is = eqb-true i index is
    step false is = absurd (clash (sym (bits ∙ ap mask_for is) ∙ full))
      where
        clash : ◌≡◌ {A = ℕ} 0 18446744073709551615 → ⊥
        clash e = omega (arith, e)

pub found_next : {M : Type 0} {g : Ghosts M} (table : List (Extended M g)) (i index mask : ℕ)
    (e found next : Extended M g)
    → mask ≡ mask_for (eqb i index)
    → (mask ≡ ones → (s : Coordinates) → Stands (get_or table i e) s → Stands next s)
    → (mask ≡ 0 → (s : Coordinates) → Stands found s → Stands next s)
    → (mask ≡ 0 → IsBlank found → IsBlank next)
    → FoundSoFar table index i found → FoundSoFar table index (i + 1) next
found_next table i index mask e found next bits first second blank before = step (eqb i index) refl
  where
    step : (b : Bool) → eqb i index ≡ b → FoundSoFar table index (i + 1) next
    step true is =
        let same : i ≡ index = eqb-true i index is in (
          λ below s at. first (bits ∙ ap mask_for is) s (subst (λ k. Stands (get_or table k e) s) (sym same) (at e)),
          λ left. absurd (omega (arith, same, left)),
        )
    step false is =
        let other : i ≡ index → ⊥ = eqb-false i index is in (
          λ below s at. second (bits ∙ ap mask_for is) s (before.0 (omega (arith, below, other)) s at),
          λ left. blank (bits ∙ ap mask_for is) (before.1 (omega (arith, left))),
        )

pub counted_more : (n rest others digit m i : ℕ) → digit * 2 ^ 256 + others ≡ rest * 16
    → m * 2 ^ 256 + rest ≡ n * 16 ^ i
    → (16 * m + digit) * 2 ^ 256 + others ≡ n * 16 ^ (i + 1)
counted_more n rest others digit m i is whole =
    step n rest others digit m (16 ^ i) is whole ∙ ap (λ k. n * k) (sym (pow-suc 16 i) ∙ ap (λ k. 16 ^ k) (after i))
  where
    step : (n rest others digit m q : ℕ) → digit * 2 ^ 256 + others ≡ rest * 16 → m * 2 ^ 256 + rest ≡ n * q
        → (16 * m + digit) * 2 ^ 256 + others ≡ n * (q * 16)
    step n rest others digit m q is whole = omega (arith, is, whole)

    after : (i : ℕ) → suc i ≡ i + 1
    after i = omega arith

pub counted_all : (n m rest : ℕ) → rest < 2 ^ 256 → m * 2 ^ 256 + rest ≡ n * 16 ^ 64 → m ≡ n
counted_all n m rest fits whole = omega (arith, fits, whole)
