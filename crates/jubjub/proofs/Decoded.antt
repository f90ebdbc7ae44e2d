-- What a search for the first coordinate of a point finds, and the elements that it makes.
use Rattle.std.proofs.Common.{◌≡◌, ℕ, zero, suc, ◌+◌, ◌*◌, ◌%◌, ◌<◌, Bool, true, false, Option, Some, None, refl, sym}
use Rattle.std.proofs.Common.{◌∙◌, ap, arith, ⊎_elim, eqb, true≢false}
use Rattle.std.specs.Prelude.{if◌then◌else◌, option_and_then}
use Rattle.std.specs.Option.{option_map_or}
use Rattle.std.specs.Bool.{Decides}
use Rattle.std.proofs.lemmas.Bool.{and_parts, and_from, eqb-true, eq-eqb, cases_eq}
use Rattle.ark_groups.specs.Group.{times}
use Rattle.jubjub.specs.declared.element.Jubjub.{Jubjub}
use Rattle.jubjub.specs.Edwards.{Coordinates, neutral}
use Rattle.jubjub.specs.Jubjub.{p, d, curve, IsOnJubjub, IsInSubgroup}
use Rattle.jubjub.specs.Elements.{coordinates}
use Rattle.jubjub.specs.Spelling.{is_in_subgroup}
use Rattle.jubjub.specs.Decoding.{least, is_first_over, first_over, tested_element, element_with, is_zero_at}
use Rattle.jubjub.specs.Decoding.{cleared_over}
use Rattle.edwards.specs.Laws.CurveLaws.{same_coordinates}
use Rattle.jubjub.specs.Laws.Elements.{kept, same_element}
use Rattle.jubjub.specs.Laws.Spelling.{in_subgroup-Decides}
use Rattle.jubjub.specs.Laws.Modulus.{has_inverses}
use Rattle.jubjub.specs.Laws.FirstCoordinates.{denominator_some, one_square, same_root}

-- ---- the least number that passes a test

one_more : (n : ℕ) (o : Option ℕ) (b : Bool) (r : Option ℕ) → o ≡ None → (if b then Some n else None) ≡ r
    → option_map_or (λ x. Some x) o (if b then Some n else None) ≡ r
one_more n None b r e is = is
one_more n (Some x) b r e is = absurd (cc)

already : (n x : ℕ) (o rest : Option ℕ) → o ≡ Some x → option_map_or (λ y. Some y) o rest ≡ Some x
already n x None rest e = absurd (cc)
already n x (Some y) rest e = e

refuted : (b : Bool) → (b ≡ true → ⊥) → b ≡ false
refuted true never = absurd (never refl)
refuted false never = refl

pub least_none : (t : ℕ → Bool) (n : ℕ) → ((x : ℕ) → x < n → t x ≡ true → ⊥) → least t n ≡ None
unfolding least
least_none t zero never = refl
least_none t (suc n) never =
    one_more n (least t n) (t n) None (least_none t n (λ x l. never x (omega (arith, l))))
    (ap (λ b. if b then Some n else None) (refuted (t n) (never n (omega arith))))

pub least_some : (t : ℕ → Bool) (n x : ℕ) → x < n → t x ≡ true → ((z : ℕ) → z < n → t z ≡ true → z ≡ x)
    → least t n ≡ Some x
unfolding least
least_some t zero x l passes only = absurd (omega arith)
least_some t (suc n) x l passes only =
    ⊎_elim {C = option_map_or (λ y. Some y) (least t n) (if t n then Some n else None) ≡ Some x}
    (λ e. one_more n (least t n) (t n) (Some x)
    (least_none t n (λ z below h. differ z n x below (only z (omega (arith, below)) h) e))
    (ap (λ b. if b then Some n else None) (ap t (sym e) ∙ passes) ∙ ap (λ k. Some k) (sym e)))
    (λ other. already n x (least t n) (if t n then Some n else None)
    (least_some t n x (lower x n l other) passes (λ z below. only z (omega (arith, below)))))
    (cases_eq x n)
  where
    differ : (z n x : ℕ) → z < n → z ≡ x → x ≡ n → ⊥
    differ z n x below h e = omega (arith, below, h, e)

    lower : (x n : ℕ) → x < suc n → (x ≡ n → ⊥) → x < n
    lower x n l other = omega (arith, l, other)

-- ---- the first coordinate over y

first_from : (y parity x : ℕ) → IsOnJubjub (record { x = x; y = y }) → x % 2 ≡ parity → is_first_over y parity x ≡ true
unfolding is_first_over
first_from y parity x on same = and_from _ _ (eq-eqb _ _ on.equation) (eq-eqb _ _ same)

first_parts : (y parity x : ℕ) → is_first_over y parity x ≡ true
    → ((x * x + 1 + d * x * x * y * y) % p ≡ y * y % p) × (x % 2 ≡ parity)
unfolding is_first_over
first_parts y parity x t =
    let both = and_parts (eqb ((x * x + 1 + d * x * x * y * y) % p) (y * y % p)) (eqb (x % 2) parity) t in
    (eqb-true _ _ both.0, eqb-true _ _ both.1)

pub first_is : (y parity x : ℕ) → IsOnJubjub (record { x = x; y = y }) → x % 2 ≡ parity → first_over y parity ≡ Some x
unfolding first_over
first_is y parity x on same =
    least_some (is_first_over y parity) p x on.x_below (first_from y parity x on same) (λ z below t.
    let both = first_parts y parity z t in
    same_root p has_inverses refl z x below on.x_below
    (one_square p d has_inverses y (denominator_some y) z x both.0 on.equation) (both.1 ∙ sym same))

pub first_none : (y parity : ℕ) → y < p → ((x : ℕ) → IsOnJubjub (record { x = x; y = y }) → x % 2 ≡ parity → ⊥)
    → first_over y parity ≡ None
unfolding first_over
first_none y parity below never =
    least_none (is_first_over y parity) p (λ x l t.
    let both = first_parts y parity x t in
    never x (record { x_below = l; y_below = below; equation = both.0 }) both.1)

-- ---- elements by coordinates

tested_found : (a : Coordinates) (t : Bool) (inside : t ≡ true → IsInSubgroup a) → t ≡ true → (e : Jubjub)
    → coordinates e ≡ a → tested_element a t inside ≡ Some e
tested_found a true inside is e made = ap (λ x. Some x) (same_element _ e (kept a (inside refl) ∙ sym made))
tested_found a false inside is e made = absurd (true≢false (sym is))

pub element_found_with : (a : Coordinates) → IsInSubgroup a → (e : Jubjub) → coordinates e ≡ a → element_with a ≡ Some e
unfolding element_with
element_found_with a s e made =
    tested_found a (is_in_subgroup a) (λ t. (in_subgroup-Decides a).0 t) ((in_subgroup-Decides a).1 s) e made

pub zero_at-Decides : (a : Coordinates) → Decides (is_zero_at a) (a ≡ neutral)
zero_at-Decides a = (
  λ t. let both = and_parts (eqb a.x 0) (eqb a.y 1) t in
      same_coordinates a neutral (eqb-true _ _ both.0) (eqb-true _ _ both.1),
  λ e. and_from _ _ (eq-eqb _ _ (ap (λ (b : Coordinates). b.x) e)) (eq-eqb _ _ (ap (λ (b : Coordinates). b.y) e)),
)

-- ---- eight times the point over y

abbrev cleared : ℕ → ℕ → Coordinates
cleared y x = times curve 8 (record { x = x; y = y })

abbrev then_element : ℕ → ℕ → Option Jubjub
then_element y x = let a : Coordinates = cleared y x in if is_zero_at a then None else element_with a

module _ (y parity : ℕ) where
  pub none_over : y < p → ((x : ℕ) → IsOnJubjub (record { x = x; y = y }) → x % 2 ≡ parity → ⊥)
      → cleared_over y parity ≡ None
  unfolding cleared_over
  none_over below never = ap (option_and_then (then_element y)) (first_none y parity below never)

  module _ (x : ℕ) (on : IsOnJubjub (record { x = x; y = y })) (same : x % 2 ≡ parity) where
    over : cleared_over y parity ≡ then_element y x
    unfolding cleared_over
    over = ap (option_and_then (then_element y)) (first_is y parity x on same)

    pub zero_over : cleared y x ≡ neutral → cleared_over y parity ≡ None
    zero_over e =
        over ∙ ap (λ b. if b then None else element_with (cleared y x)) ((zero_at-Decides (cleared y x)).1 e)

    otherwise : (cleared y x ≡ neutral → ⊥) → cleared_over y parity ≡ element_with (cleared y x)
    otherwise some =
        over ∙ ap (λ b. if b then None else element_with (cleared y x))
        (refuted (is_zero_at (cleared y x)) (λ t. some ((zero_at-Decides (cleared y x)).0 t)))

    pub found_over : (cleared y x ≡ neutral → ⊥) → IsInSubgroup (cleared y x) → (e : Jubjub)
        → coordinates e ≡ cleared y x → cleared_over y parity ≡ Some e
    found_over some s e made = otherwise some ∙ element_found_with (cleared y x) s e made
