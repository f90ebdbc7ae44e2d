-- Parameters whose constants are drawn have the shape of parameters.
use Rattle.std.proofs.Common.{◌≡◌, ℕ, zero, suc, ◌-◌, ◌/◌, ◌==◌, Bool, true, false, ◌&&◌, List, [], ◌∷◌, length, map, Ok, refl, sym, ap, subst, ◌∙◌, ◌%◌, eq-eqb}
use Rattle.ark_base.specs.declared.error.Error.{Error}
use Rattle.ark_base.specs.Laws.Steps.{done_injective}
use Rattle.ark_base.specs.Outcome.{Outcome, AnswersBy}
use Rattle.std.proofs.Math.ListN.{length-map}
use Rattle.poseidon_grain.specs.Constants.{counts_fit}
use Rattle.poseidon_grain.specs.Grain.{seeded, below_drawn, list_drawn}
use Rattle.poseidon_grain.specs.Poseidon2.{poseidon2_drawn}
use Rattle.poseidon_grain.proofs.Shapes.{length-drawn}
use Rattle.poseidon2.specs.Permutation.{Poseidon2Parameters, is_width, are_wide}
use Rattle.poseidon2.specs.Ready.{drawn_parameters, drawn_outcome, bn254_parameters}

both : (a b : Bool) → a ≡ true → b ≡ true → (a && b) ≡ true
both true b first second = second
both false b first second = absurd cc

-- rows that are drawn one behind the other have one length
rows-wide : (element : ℕ → ℕ × ℕ) (width count register : ℕ)
    → are_wide width (list_drawn (list_drawn element width) count register).0 ≡ true
unfolding list_drawn
rows-wide element width zero register = refl
rows-wide element width (suc count) register =
    let row = list_drawn element width register in
    both (length row.0 == width) _ (eq-eqb (length row.0) width (length-drawn element width register))
    (rows-wide element width count row.1)

-- a diagonal of a width that states have, and counts that fit, give parameters
pub drawn-lawful : (p digits alpha full partial : ℕ) (ds : List ℕ) → is_width (length ds) ≡ true
    → counts_fit (length ds) full partial 0 ≡ true
    → drawn_outcome p digits alpha full partial ds ≡ Ok (drawn_parameters p digits alpha full partial ds)
unfolding poseidon2_drawn
drawn-lawful p digits alpha full partial ds wide fit =
    let element = below_drawn p digits in
    let width = length ds in
    let first = rows-wide element width (full / 2) (seeded digits width full partial) in
    rw (fit, wide, first, rows-wide element width (full - full / 2) _) refl

pub bn254-lawful : (p digits : ℕ) → drawn_outcome p digits 5 8 56 (1 ∷ 1 ∷ 2 ∷ []) ≡ Ok (bn254_parameters p digits)
bn254-lawful p digits = drawn-lawful p digits 5 8 56 (1 ∷ 1 ∷ 2 ∷ []) refl refl

-- what answers the elements of some numbers as the diagonal, answers the parameters of these numbers
pub numbers-answer : (p digits alpha partial : ℕ) (ns ds : List ℕ) (result : Outcome Poseidon2Parameters)
    → is_width (length ns) ≡ true → counts_fit (length ns) 8 partial 0 ≡ true
    → ◌≡◌ {A = Outcome (List ℕ)} (Ok (map (λ n. n % p) ns)) (Ok ds)
    → AnswersBy (λ v. v) (drawn_outcome p digits alpha 8 partial ds) result
    → AnswersBy (λ v. v) (Ok (drawn_parameters p digits alpha 8 partial (map (λ n. n % p) ns))) result
numbers-answer p digits alpha partial ns ds result wide fit same answered =
    let made : map (λ n. n % p) ns ≡ ds = done_injective {A = List ℕ} {E = Error} (map (λ n. n % p) ns) ds same in
    let long : length (map (λ n. n % p) ns) ≡ length ns = length-map ns (λ n. n % p) in
    let lawful = drawn-lawful p digits alpha 8 partial (map (λ n. n % p) ns)
    (ap is_width long ∙ wide) (ap (λ n. counts_fit n 8 partial 0) long ∙ fit) in
    subst (λ (o : Outcome Poseidon2Parameters). AnswersBy (λ v. v) o result)
    (ap (drawn_outcome p digits alpha 8 partial) (sym made) ∙ lawful) answered

-- what answers the diagonal that was made, answers BN254's parameters
pub bn254-answers : (p digits : ℕ) (ds : List ℕ) (result : Outcome Poseidon2Parameters) → 2 % p ≡ 2
    → ◌≡◌ {A = Outcome (List ℕ)} (Ok (1 ∷ 1 ∷ 2 % p ∷ [])) (Ok ds)
    → AnswersBy (λ v. v) (drawn_outcome p digits 5 8 56 ds) result
    → AnswersBy (λ v. v) (Ok (bn254_parameters p digits)) result
bn254-answers p digits ds result two same answered =
    let made : 1 ∷ 1 ∷ 2 % p ∷ [] ≡ ds = done_injective {A = List ℕ} {E = Error} (1 ∷ 1 ∷ 2 % p ∷ []) ds same in
    let numbers : ds ≡ 1 ∷ 1 ∷ 2 ∷ [] = sym made ∙ ap (λ n. 1 ∷ 1 ∷ n ∷ []) two in
    subst (λ (o : Outcome Poseidon2Parameters). AnswersBy (λ v. v) o result)
    (ap (drawn_outcome p digits 5 8 56) numbers ∙ bn254-lawful p digits) answered
