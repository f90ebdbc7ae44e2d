-- Matrices row by row.
use Rattle.std.proofs.Common.{◌≡◌, ℕ, ◌+◌, ◌-◌, ◌<◌, nat_lt, Bool, true, false, List, [], ◌∷◌, ◌++◌, length, map, get_or, refl, sym, ap, ◌∙◌, subst, arith}
use Rattle.std.proofs.lemmas.Bool.Decides.{nat_tests}
use Rattle.std.proofs.lemmas.List.{length-append, get_or-map, get_or_append_left, get_or-append_right}
use Rattle.ark_wide_fields.specs.Inverses.{AreInverses}
use Rattle.poseidon_grain.specs.Constants.{sums_with, IsCauchy}

-- the rows of the first numbers, as many as are asked for
pub record AreRows (p : ℕ) (xs ys : List ℕ) (rows : List (List ℕ)) (count : ℕ) : Type 0 where
  pub long : length rows ≡ count
  pub each : (i : ℕ) → i < count → AreInverses p (sums_with p (get_or xs i 0) ys) (get_or rows i [])

pub one_row : (p : ℕ) (xs ys : List ℕ) (rows new : List (List ℕ)) (row : List ℕ) (count x : ℕ)
    → AreRows p xs ys rows count → new ≡ rows ++ row ∷ [] → get_or xs count 0 ≡ x
    → AreInverses p (sums_with p x ys) row → AreRows p xs ys new (count + 1)
one_row p xs ys rows new row count x so_far put is inverses = record {
  long = ap length put ∙ length-append rows (row ∷ []) ∙ omega (arith, so_far.long);
  each = λ i below. subst (λ (t : List (List ℕ)). AreInverses p (sums_with p (get_or xs i 0) ys) (get_or t i []))
      (sym put) (by_test i (nat_lt i count) refl below);
}
  where
    by_test : (i : ℕ) (b : Bool) → nat_lt i count ≡ b → i < count + 1
        → AreInverses p (sums_with p (get_or xs i 0) ys) (get_or (rows ++ row ∷ []) i [])
    by_test i true earlier below =
        let before : i < count = grind (arith, nat_tests, earlier) in
        subst (λ (t : List ℕ). AreInverses p (sums_with p (get_or xs i 0) ys) t)
        (sym (get_or_append_left rows (row ∷ []) [] i (omega (arith, before, so_far.long)))) (so_far.each i before)
    by_test i false last below =
        let here : i ≡ count = grind (arith, nat_tests, last, below) in
        let at : get_or (rows ++ row ∷ []) i [] ≡ row =
        get_or-append_right rows (row ∷ []) count i [] so_far.long (omega (arith, here))
        ∙ ap (λ (n : ℕ). get_or (row ∷ []) n []) {x = i - count} {y = 0} (omega (arith, here)) in
        subst (λ (t : List ℕ). AreInverses p (sums_with p (get_or xs i 0) ys) t) (sym at)
        (subst (λ (n : ℕ). AreInverses p (sums_with p n ys) row) (sym (ap (λ (n : ℕ). get_or xs n 0) here ∙ is))
        inverses)

pub all_rows : (p : ℕ) (xs ys : List ℕ) (rows : List (List ℕ)) (count : ℕ) → count ≡ length xs
    → AreRows p xs ys rows count → IsCauchy p xs ys rows
all_rows p xs ys rows count all so_far = record {
  long = so_far.long ∙ all;
  each = λ i below. so_far.each i (omega (arith, below, all));
}

pub value_at : {X : Type 0} (value : X → ℕ) (xs : List X) (i : ℕ) (x : X) → i < length xs → x ≡ get_or xs i x
    → get_or (map value xs) i 0 ≡ value x
value_at value xs i x within is = get_or-map value xs i x 0 within ∙ sym (ap value is)
