-- What 32 bytes say of a point, and that they are one element's alone.
use Rattle.std.proofs.Common.{◌≡◌, ℕ, ◌+◌, ◌-◌, ◌*◌, ◌/◌, ◌%◌, ◌^◌, ◌<◌, ◌≤◌, Bool, true, false, not, refl, sym}
use Rattle.std.proofs.Common.{◌∙◌, ap, ap₂, subst, arith, ◌⊎◌, inl, inr, ⊎_elim, mod-lt, mod-eq_of_lt, lit<, true≢false}
use Rattle.std.proofs.Common.{List, length, Result, Ok, Err}
use Rattle.std.specs.Prelude.{◌↔◌, IsTrue, IfOk, IfErr}
use Rattle.std.specs.Int.{from_bool}
use Rattle.std.proofs.lemmas.Bool.{cases_eq}
use Rattle.ark_base.specs.Reading.{IsBytes}
use Rattle.ark_base.specs.Digits.{number_of_bytes, bytes_of_number}
use Rattle.ark_base.specs.Laws.Digits.{number_of_bytes-bytes_of_number, bytes_of_number-number_of_bytes}
use Rattle.jubjub.specs.declared.element.Jubjub.{Jubjub}
use Rattle.jubjub.specs.declared.compressed.PointFault.{PointFault}
use Rattle.jubjub.specs.declared.compressed.PointFault.TheVariants.{NotBelowModulus, NoPoint, SignOfZero}
use Rattle.jubjub.specs.declared.compressed.PointFault.TheVariants.{OutsideSubgroup}
use Rattle.jubjub.specs.Edwards.{Coordinates}
use Rattle.jubjub.specs.Jubjub.{p, d, IsOnJubjub, IsInSubgroup}
use Rattle.jubjub.specs.Elements.{coordinates}
use Rattle.jubjub.specs.Compressed.{compressed, y_in, parity_in, IsAt, IsFaultAt}
use Rattle.edwards.specs.Laws.CurveLaws.{same_coordinates}
use Rattle.jubjub.specs.Laws.Elements.{same_element}
use Rattle.jubjub.specs.Laws.Modulus.{has_inverses}
use Rattle.edwards.specs.Laws.Quotients.{product_some}
use Rattle.jubjub.specs.Laws.FirstCoordinates.{denominator_some, one_square, over_alike, same_square, other_parity}
use Rattle.jubjub.specs.Laws.FirstCoordinates.{same_root}

-- ---- the bit of the sign

-- the test of the highest of 256 bits
pub highest_bit : (b : Bool) (n : ℕ) → IsTrue b ↔ (n < 2 ^ 255) → n < 2 ^ 256 → from_bool (not b) ≡ n / 2 ^ 255
highest_bit true n t fits = let below : n < 2 ^ 255 = t.0 refl in omega (arith, below)
highest_bit false n t fits =
    let not_below : (n < 2 ^ 255 → ⊥) = λ l. true≢false (sym (t.1 l)) in omega (arith, not_below, fits)

-- the sum with that bit fits
pub with_bit : (r c y b x : ℕ) → r + 2 ^ 256 * c ≡ y + b → b ≡ 2 ^ 255 * (x % 2) → y < p → r ≡ y + 2 ^ 255 * (x % 2)
with_bit r c y b x sum bit below = omega (arith, sum, bit, below)

-- ---- bytes and coordinates

pub y_of : (a : Coordinates) → a.y < p → y_in (compressed a) ≡ a.y
unfolding y_in compressed
y_of a below =
    ap (λ n. n % 2 ^ 255) (number_of_bytes-bytes_of_number 32 (a.y + 2 ^ 255 * (a.x % 2)) (fits a.x a.y below))
    ∙ low a.x a.y below
  where
    fits : (x y : ℕ) → y < p → y + 2 ^ 255 * (x % 2) < 256 ^ 32
    fits x y l = omega (arith, l)

    low : (x y : ℕ) → y < p → (y + 2 ^ 255 * (x % 2)) % 2 ^ 255 ≡ y
    low x y l = omega (arith, l)

pub parity_of : (a : Coordinates) → a.y < p → parity_in (compressed a) ≡ a.x % 2
unfolding parity_in compressed
parity_of a below =
    ap (λ n. n / 2 ^ 255) (number_of_bytes-bytes_of_number 32 (a.y + 2 ^ 255 * (a.x % 2)) (fits a.x a.y below))
    ∙ high a.x a.y below
  where
    fits : (x y : ℕ) → y < p → y + 2 ^ 255 * (x % 2) < 256 ^ 32
    fits x y l = omega (arith, l)

    high : (x y : ℕ) → y < p → (y + 2 ^ 255 * (x % 2)) / 2 ^ 255 ≡ x % 2
    high x y l = omega (arith, l)

-- bytes are those of the coordinates that they say
pub bytes_of_said : (bytes : List ℕ) (a : Coordinates) → length bytes ≡ 32 → IsBytes bytes
    → IsAt (y_in bytes) (parity_in bytes) a → bytes ≡ compressed a
unfolding y_in parity_in compressed
bytes_of_said bytes a long are at =
    sym (bytes_of_number-number_of_bytes bytes are) ∙ ap₂ bytes_of_number long
    (whole (number_of_bytes bytes)
    ∙ ap₂ (λ (y x : ℕ). y + 2 ^ 255 * x) (sym at.second) (sym at.first))
  where
    whole : (n : ℕ) → n ≡ n % 2 ^ 255 + 2 ^ 255 * (n / 2 ^ 255)
    whole n = omega arith

-- ---- points over y

-- the other first coordinate over y
other_over : (y x : ℕ) → IsOnJubjub (record { x = x; y = y }) → 0 < x → IsOnJubjub (record { x = (p - x) % p; y = y })
other_over y x on some = record {
  x_below = mod-lt (p - x) (lit< tt);
  y_below = on.y_below;
  equation =
      over_alike p d has_inverses y (denominator_some y) x ((p - x) % p)
      (sym (same_square p has_inverses refl x ((p - x) % p) some on.x_below refl)) on.equation;
}

-- no first coordinate of one parity, and 0 is none: then there is none
pub no_point : (y : ℕ) (odd : Bool) → ((x : ℕ) → IsOnJubjub (record { x = x; y = y }) → x % 2 ≡ from_bool odd → ⊥)
    → (IsOnJubjub (record { x = 0; y = y }) → ⊥) → (x : ℕ) → IsOnJubjub (record { x = x; y = y }) → ⊥
no_point y odd none zero_off x on =
    ⊎_elim {C = ⊥} (λ same. none x on same) (λ differ. off (cases_eq x 0) differ) (cases_eq (x % 2) (from_bool odd))
  where
    positive : (x : ℕ) → (x ≡ 0 → ⊥) → 0 < x
    positive x some = omega (arith, some)

    turned : (odd : Bool) (x n : ℕ) → (x % 2 ≡ from_bool odd → ⊥) → (n + x) % 2 ≡ 1 → n % 2 ≡ from_bool odd
    turned true x n differ h = omega (arith, differ, h)
    turned false x n differ h = omega (arith, differ, h)

    off : (x ≡ 0) ⊎ (x ≡ 0 → ⊥) → (x % 2 ≡ from_bool odd → ⊥) → ⊥
    off (inl is) differ =
        zero_off (subst (λ (z : ℕ). IsOnJubjub (record { x = z; y = y })) is on)
    off (inr some) differ =
        none ((p - x) % p) (other_over y x on (positive x some))
        (turned odd x ((p - x) % p) differ
        (other_parity p has_inverses refl x ((p - x) % p) (positive x some) on.x_below refl))

-- where 0 is a first coordinate over y, it is the only one
zero_only : (y x : ℕ) → IsOnJubjub (record { x = 0; y = y }) → IsOnJubjub (record { x = x; y = y }) → x ≡ 0
zero_only y x zero_on on = at (cases_eq (x % p) 0)
  where
    at : (x % p ≡ 0) ⊎ (x % p ≡ 0 → ⊥) → x ≡ 0
    at (inl none) = sym (mod-eq_of_lt on.x_below) ∙ none
    at (inr some) = absurd (product_some p has_inverses x x some some
        (one_square p d has_inverses y (denominator_some y) x 0 on.equation zero_on.equation))

-- two points of one y and one parity have the same coordinates
pub one_point : (y parity : ℕ) (a b : Coordinates) → IsOnJubjub a → IsOnJubjub b → IsAt y parity a → IsAt y parity b
    → a ≡ b
one_point y parity a b on_a on_b at_a at_b =
    same_coordinates a b
    (same_root p has_inverses refl a.x b.x on_a.x_below on_b.x_below
    (one_square p d has_inverses y (denominator_some y) a.x b.x
    (moved a on_a at_a.second) (moved b on_b at_b.second)) (at_a.first ∙ sym at_b.first))
    (at_a.second ∙ sym at_b.second)
  where
    moved : (c : Coordinates) → IsOnJubjub c → c.y ≡ y → (c.x * c.x + 1 + d * c.x * c.x * y * y) % p ≡ y * y % p
    moved c on is = subst (λ (z : ℕ). (c.x * c.x + 1 + d * c.x * c.x * z * z) % p ≡ z * z % p) is on.equation

-- what is found where an element is there is that element
pub own : (r : Result Jubjub PointFault) (y parity : ℕ) (e : Jubjub) → y < p
    → IfOk r (λ f. IsAt y parity (coordinates f)) → IfErr r (λ fault. IsFaultAt y parity fault)
    → IsAt y parity (coordinates e) → r ≡ Ok e
own (Ok f) y parity e below found refused at =
    ap (λ (z : Jubjub). Ok z) (same_element f e
    (one_point y parity (coordinates f) (coordinates e) f.in_subgroup.on_curve e.in_subgroup.on_curve found at))
own (Err fault) y parity e below found refused at = absurd (never fault refused)
  where
    on : IsOnJubjub (record { x = (coordinates e).x; y = y })
    on = subst (λ (z : ℕ). IsOnJubjub (record { x = (coordinates e).x; y = z })) at.second e.in_subgroup.on_curve

    none_of : (x : ℕ) → x ≡ 0 → x % 2 ≡ 1 → ⊥
    none_of x is one = omega (arith, is, one)

    never : (f : PointFault) → IsFaultAt y parity f → ⊥
    never NotBelowModulus above = clash y above below
      where
        clash : (y : ℕ) → p ≤ y → y < p → ⊥
        clash y a b = omega (arith, a, b)
    never NoPoint none = none (coordinates e).x on
    never SignOfZero (zero_on, one) =
        none_of (coordinates e).x (zero_only y (coordinates e).x zero_on on) (at.first ∙ one)
    never OutsideSubgroup (a, on_a, at_a, outside) =
        outside (subst IsInSubgroup (sym (one_point y parity a (coordinates e) on_a e.in_subgroup.on_curve at_a at))
        e.in_subgroup)
