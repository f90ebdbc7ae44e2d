-- What 32 bytes say of a point, and that they are one point's alone.
use Rattle.std.proofs.Common.{◌≡◌, ℕ, ◌+◌, ◌-◌, ◌*◌, ◌/◌, ◌%◌, ◌^◌, ◌<◌, ◌≤◌, Bool, true, false, not, refl, sym, ltb}
use Rattle.std.proofs.Common.{◌∙◌, ap, ap₂, subst, arith, ◌⊎◌, inl, inr, ⊎_elim, lit<, true≢false}
use Rattle.std.proofs.Common.{List, length, Result, Ok, Err}
use Rattle.std.specs.Prelude.{◌↔◌, IsTrue, IfOk, IfErr}
use Rattle.std.specs.Int.{from_bool}
use mathlib.Core.Bool.{beq}
use Rattle.std.proofs.lemmas.Bool.{cases_eq, cases_lt, ltb-true, lt-ltb, ltb_from_iff}
use Rattle.ark_base.specs.Reading.{IsBytes}
use Rattle.ark_base.specs.Digits.{number_of_bytes, bytes_of_number}
use Rattle.ark_base.specs.Laws.Digits.{number_of_bytes-bytes_of_number, bytes_of_number-number_of_bytes}
use Rattle.edwards.specs.Edwards.{Coordinates}
use Rattle.edwards.specs.Laws.CurveLaws.{same_coordinates}
use Rattle.baby_jubjub.specs.declared.point.Point.{Point}
use Rattle.baby_jubjub.specs.declared.point.PointFault.{PointFault}
use Rattle.baby_jubjub.specs.declared.point.PointFault.TheVariants.{NotBelowModulus, NotOnCurve, SignOfZero}
use Rattle.baby_jubjub.specs.declared.point.PointFault.TheVariants.{OutsideSubgroup}
use Rattle.baby_jubjub.specs.BabyJubjub.{p, IsOnBabyJubjub}
use Rattle.baby_jubjub.specs.Packed.{half_p, sign, packed_bytes, second_in, sign_in, IsPointAt, IsPointFaultAt}
use Rattle.baby_jubjub.specs.Points.{coordinates}
use Rattle.baby_jubjub.specs.Laws.SamePoint.{same_point}
use Rattle.baby_jubjub.proofs.Roots.{one_square, same_or_opposite}

-- ---- the sign

pub sign_of_test : (b : Bool) (x : ℕ) → IsTrue b ↔ (half_p < x) → from_bool b ≡ sign x
unfolding sign
sign_of_test b x t = ap from_bool (ltb_from_iff t)

sign_is : (x : ℕ) → ((x ≤ half_p) × (sign x ≡ 0)) ⊎ ((half_p < x) × (sign x ≡ 1))
unfolding sign
sign_is x = at (cases_lt half_p x)
  where
    at : (half_p < x) ⊎ (x ≤ half_p) → ((x ≤ half_p) × (sign x ≡ 0)) ⊎ ((half_p < x) × (sign x ≡ 1))
    at (inl l) = inr (l, ap from_bool (lt-ltb half_p x l))
    at (inr l) = inl (l, ap from_bool (low (ltb half_p x) (ltb-true half_p x)))
      where
        low : (b : Bool) → (b ≡ true → half_p < x) → b ≡ false
        low true h = absurd (clash x l (h refl))
          where
            clash : (x : ℕ) → x ≤ half_p → half_p < x → ⊥
            clash x a b = omega (arith, a, b)
        low false h = refl

pub sign_below : (x : ℕ) → sign x < 2
sign_below x = ⊎_elim {C = sign x < 2} (λ e. omega (arith, e.1)) (λ e. omega (arith, e.1)) (sign_is x)

pub sign_of_zero : sign 0 ≡ 0
unfolding sign
sign_of_zero = refl

-- the two first coordinates over a y but 0 have different signs
pub other_sign : (x : ℕ) → x < p → (x ≡ 0 → ⊥) → sign ((p - x) % p) + sign x ≡ 1
other_sign x below some = at (sign_is x) (sign_is ((p - x) % p))
  where
    two : (x n : ℕ) → x < p → (x ≡ 0 → ⊥) → n ≡ (p - x) % p → n + x ≡ p
    two x n l s e = omega (arith, l, s, e)

    make : (x n : ℕ) → n + x ≡ p → x ≤ half_p → n ≤ half_p → ⊥
    make x n e a b = omega (arith, e, a, b)

    over : (x n : ℕ) → n + x ≡ p → half_p < x → half_p < n → ⊥
    over x n e a b = omega (arith, e, a, b)

    sum : ℕ
    sum = (p - x) % p

    whole : sum + x ≡ p
    whole = two x sum below some refl

    at : ((x ≤ half_p) × (sign x ≡ 0)) ⊎ ((half_p < x) × (sign x ≡ 1))
        → ((sum ≤ half_p) × (sign sum ≡ 0)) ⊎ ((half_p < sum) × (sign sum ≡ 1)) → sign sum + sign x ≡ 1
    at (inl a) (inl b) = absurd (make x sum whole a.0 b.0)
    at (inl a) (inr b) = omega (arith, a.1, b.1)
    at (inr a) (inl b) = omega (arith, a.1, b.1)
    at (inr a) (inr b) = absurd (over x sum whole a.0 b.0)

-- where the test of one sign says that it is another, what differs has it
pub flipped : (b o : Bool) (s t : ℕ) → from_bool b ≡ s → beq b o ≡ false → t + s ≡ 1 → t ≡ from_bool o
flipped true true s t is e h = absurd (true≢false e)
flipped true false s t is e h = omega (arith, is, h)
flipped false true s t is e h = omega (arith, is, h)
flipped false false s t is e h = absurd (true≢false e)

pub not_low : (b o : Bool) → from_bool b ≡ 0 → beq b o ≡ false → from_bool o ≡ 1
not_low true o is e = absurd (omega (arith, is))
not_low false true is e = refl
not_low false false is e = absurd (true≢false e)

-- ---- the bit

-- the test of the highest of 256 bits
pub highest_bit : (b : Bool) (n : ℕ) → IsTrue b ↔ (n < 2 ^ 255) → n < 2 ^ 256 → from_bool (not b) ≡ n / 2 ^ 255
highest_bit true n t fits = let below : n < 2 ^ 255 = t.0 refl in omega (arith, below)
highest_bit false n t fits =
    let not_below : (n < 2 ^ 255 → ⊥) = λ l. true≢false (sym (t.1 l)) in omega (arith, not_below, fits)

-- the sum with that bit fits
pub with_bit : (r c y b s : ℕ) → r + 2 ^ 256 * c ≡ y + b → b ≡ 2 ^ 255 * s → s < 2 → y < p → r ≡ y + 2 ^ 255 * s
with_bit r c y b s sum bit few below = omega (arith, sum, bit, few, below)

-- ---- bytes and coordinates

number_packed : (q : Coordinates) → q.y < p → number_of_bytes (packed_bytes q) ≡ q.y + 2 ^ 255 * sign q.x
unfolding packed_bytes
number_packed q below =
    number_of_bytes-bytes_of_number 32 (q.y + 2 ^ 255 * sign q.x) (fits q.y (sign q.x) below (sign_below q.x))
  where
    fits : (y s : ℕ) → y < p → s < 2 → y + 2 ^ 255 * s < 256 ^ 32
    fits y s l m = omega (arith, l, m)

pub y_of : (q : Coordinates) → q.y < p → second_in (packed_bytes q) ≡ q.y
unfolding second_in
y_of q below = ap (λ n. n % 2 ^ 255) (number_packed q below) ∙ low q.y (sign q.x) below
  where
    low : (y s : ℕ) → y < p → (y + 2 ^ 255 * s) % 2 ^ 255 ≡ y
    low y s l = omega (arith, l)

pub sign_of_bytes : (q : Coordinates) → q.y < p → sign_in (packed_bytes q) ≡ sign q.x
unfolding sign_in
sign_of_bytes q below = ap (λ n. n / 2 ^ 255) (number_packed q below) ∙ high q.y (sign q.x) below
  where
    high : (y s : ℕ) → y < p → (y + 2 ^ 255 * s) / 2 ^ 255 ≡ s
    high y s l = omega (arith, l)

-- bytes are those of the coordinates that they say
pub bytes_of_said : (bytes : List ℕ) (q : Coordinates) → length bytes ≡ 32 → IsBytes bytes
    → IsPointAt (second_in bytes) (sign_in bytes) q → bytes ≡ packed_bytes q
unfolding second_in sign_in packed_bytes
bytes_of_said bytes q long are at =
    sym (bytes_of_number-number_of_bytes bytes are) ∙ ap₂ bytes_of_number long
    (whole (number_of_bytes bytes) ∙ ap₂ (λ (y s : ℕ). y + 2 ^ 255 * s) (sym at.second) (sym at.first))
  where
    whole : (n : ℕ) → n ≡ n % 2 ^ 255 + 2 ^ 255 * (n / 2 ^ 255)
    whole n = omega arith

-- ---- one point

moved : (q : Coordinates) (y : ℕ) → IsOnBabyJubjub q → q.y ≡ y → IsOnBabyJubjub (record { x = q.x; y = y })
moved q y on is = subst (λ (z : ℕ). IsOnBabyJubjub (record { x = q.x; y = z })) is on

-- two points of one y and one sign have the same coordinates
pub one_point : (y s : ℕ) (q r : Coordinates) → IsOnBabyJubjub q → IsOnBabyJubjub r → IsPointAt y s q → IsPointAt y s r
    → q ≡ r
one_point y s q r on_q on_r at_q at_r =
    same_coordinates q r
    (⊎_elim {C = q.x ≡ r.x} (λ e. e) opposite (same_or_opposite q.x r.x on_q.x_below on_r.x_below
    (one_square q.x r.x y (moved q y on_q at_q.second) (moved r y on_r at_r.second))))
    (at_q.second ∙ sym at_r.second)
  where
    nothing : (n x : ℕ) → x ≡ 0 → n ≡ (p - x) % p → n ≡ x
    nothing n x none is = omega (arith, none, is)

    clash : (s t : ℕ) → s + t ≡ 1 → s ≡ t → ⊥
    clash s t h e = omega (arith, h, e)

    opposite : q.x ≡ (p - r.x) % p → q.x ≡ r.x
    opposite is = at (cases_eq r.x 0)
      where
        at : (r.x ≡ 0) ⊎ (r.x ≡ 0 → ⊥) → q.x ≡ r.x
        at (inl none) = nothing q.x r.x none is
        at (inr some) = absurd (clash (sign ((p - r.x) % p)) (sign r.x) (other_sign r.x on_r.x_below some)
            (ap sign (sym is) ∙ at_q.first ∙ sym at_r.first))

pub one_packed : (q r : Coordinates) → IsOnBabyJubjub q → IsOnBabyJubjub r → packed_bytes q ≡ packed_bytes r → q ≡ r
one_packed q r on_q on_r e =
    one_point (second_in (packed_bytes r)) (sign_in (packed_bytes r)) q r on_q on_r (record {
      second = sym (y_of q on_q.y_below) ∙ ap second_in e;
      first = sym (sign_of_bytes q on_q.y_below) ∙ ap sign_in e;
    }) (record { second = sym (y_of r on_r.y_below); first = sym (sign_of_bytes r on_r.y_below) })

-- what is found where a point is there is that point
pub own : (f : Result Point PointFault) (y s : ℕ) (q : Point) → y < p → IfOk f (λ r. IsPointAt y s (coordinates r))
    → IfErr f (λ fault. IsPointFaultAt y s fault) → IsPointAt y s (coordinates q) → f ≡ Ok q
own (Ok r) y s q below found refused at =
    ap (λ (z : Point). Ok z)
    (same_point r q (one_point y s (coordinates r) (coordinates q) r.on_curve q.on_curve found at))
own (Err fault) y s q below found refused at = absurd (never fault refused)
  where
    on : IsOnBabyJubjub (record { x = (coordinates q).x; y = y })
    on = moved (coordinates q) y q.on_curve at.second

    never : (f : PointFault) → IsPointFaultAt y s f → ⊥
    never NotBelowModulus above = clash y above below
      where
        clash : (y : ℕ) → p ≤ y → y < p → ⊥
        clash y a b = omega (arith, a, b)
    never NotOnCurve none = none (coordinates q).x on
    never SignOfZero (zero_on, one) =
        clash (sign (coordinates q).x) (at.first ∙ one) (ap sign (zero (coordinates q).x q.on_curve.x_below
        (same_or_opposite (coordinates q).x 0 q.on_curve.x_below (lit< tt)
        (one_square (coordinates q).x 0 y on zero_on))) ∙ sign_of_zero)
      where
        zero : (x : ℕ) → x < p → (x ≡ 0) ⊎ (x ≡ (p - 0) % p) → x ≡ 0
        zero x l (inl e) = e
        zero x l (inr e) = omega (arith, e)

        clash : (s : ℕ) → s ≡ 1 → s ≡ 0 → ⊥
        clash s a b = omega (arith, a, b)
    never OutsideSubgroup outside = outside
