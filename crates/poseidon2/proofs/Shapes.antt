-- The shape of parameters, which `new` tests.
use Rattle.std.proofs.Common.{◌≡◌, ℕ, suc, inr, true, eqb, Ok, Err, List, [], ◌∷◌, length, map, All, refl, sym, ◌∙◌, arith}
use Rattle.std.specs.List.{list_all}
use Rattle.std.proofs.lemmas.Bool.{eq-eqb}
use Rattle.std.proofs.lemmas.List.{length-map}
use Rattle.ark_base.specs.Outcome.{Outcome, AnswersBy}
use Rattle.poseidon2.specs.Permutation.{Poseidon2Parameters, is_width, are_wide, lawful_poseidon2}

module _ {Row F : Type 0} (f : F → ℕ) (items : Row → List F) (width : ℕ) where
  -- rows are tested by their elements, or by the numbers of these
  pub wide-numbers : (rows : List Row)
      → are_wide width (map (λ row. map f (items row)) rows) ≡ list_all (λ row. eqb (length (items row)) width) rows
  wide-numbers [] = refl
  wide-numbers (row ∷ rows) = rw (length-map (items row) f, wide-numbers rows) refl

  pub wide-true : (rows : List Row) → All (λ row. length (items row) ≡ width) rows
      → are_wide width (map (λ row. map f (items row)) rows) ≡ true
  wide-true [] all = refl
  wide-true (row ∷ rows) all =
      rw (eq-eqb (length (map f (items row))) width (length-map (items row) f ∙ all 0 row (omega arith)))
      (wide-true rows (λ k d within. all (suc k) d (omega (arith, within))))

-- parameters of the right shape are lawful
pub lawful-Ok : (c : Poseidon2Parameters) (n : ℕ) → n ≡ length c.diagonal → is_width n ≡ true
    → are_wide n c.first ≡ true → are_wide n c.last ≡ true → lawful_poseidon2 c ≡ Ok c
lawful-Ok c n is width first last = rw (← is, width, first, last) refl

-- a result that is the outcome answers it
pub answers-own : {A : Type 0} (outcome result : Outcome A) → result ≡ outcome → AnswersBy (λ v. v) outcome result
answers-own outcome (Ok value) e = sym e
answers-own outcome (Err error) e = inr (sym e)
