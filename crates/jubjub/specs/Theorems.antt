-- What is proved of the curve and of its prime subgroup.
use Rattle.std.specs.Prelude.{◌≡◌, ℕ, ◌+◌, ◌-◌, ◌*◌, ◌/◌, ◌%◌, ◌^◌, ◌<◌, ◌↔◌}
use Rattle.ark_groups.specs.Group.{times}
pub use Rattle.edwards.specs.Curves.{IsCommutativeGroupOn}
use Rattle.jubjub.specs.declared.element.Jubjub.{Jubjub}
use Rattle.jubjub.specs.Edwards.{Coordinates, cross, over}
use Rattle.jubjub.specs.Jubjub.{p, d, order, curve, IsOnJubjub, IsInSubgroup}
use Rattle.jubjub.specs.Membership.{minus_one_root, member_value}
use Rattle.jubjub.specs.Elements.{coordinates, jubjub, base}

-- a quotient times its divisor is the dividend, modulo p, if p does not divide the divisor
abbrev pub QuotientsAreRight : Type 0
QuotientsAreRight = (a b : ℕ) → (b % p ≡ 0 → ⊥) → over p a b * b % p ≡ a % p

-- no denominator of a sum of two points of the curve is 0 modulo p
abbrev pub SumsOnJubjubAreComplete : Type 0
SumsOnJubjubAreComplete = (a b : Coordinates) → IsOnJubjub a → IsOnJubjub b
    → ((1 + cross d a b) % p ≡ 0 → ⊥) × ((1 + (p - cross d a b % p)) % p ≡ 0 → ⊥)

-- eight times each point of the curve is in the subgroup
abbrev pub CofactorClears : Type 0
CofactorClears = (a : Coordinates) → IsOnJubjub a → IsInSubgroup (times curve 8 a)

-- A point of the curve is in the subgroup: over x = 0 exactly with y = 1, over y = 0 never, and else exactly where the
-- power (p - 1) / 8 of its value is the square root of -1.
pub record PowersTellMembers : Type 0 where
  pub over_zero : (a : Coordinates) → IsOnJubjub a → a.x ≡ 0 → IsInSubgroup a ↔ (a.y ≡ 1)
  pub none_at_zero : (a : Coordinates) → IsOnJubjub a → a.y ≡ 0 → IsInSubgroup a → ⊥
  pub elsewhere : (a : Coordinates) → IsOnJubjub a → (a.x ≡ 0 → ⊥) → (a.y ≡ 0 → ⊥)
      → IsInSubgroup a ↔ (member_value a ^ ((p - 1) / 8) % p ≡ minus_one_root)

-- an element is its coordinates: these are in the subgroup, each pair in it is one element's, and no other's
pub record ElementsAreCoordinates : Type 0 where
  pub inside : (e : Jubjub) → IsInSubgroup (coordinates e)
  pub made : (a : Coordinates) → IsInSubgroup a → (e : Jubjub) × (coordinates e ≡ a)
  pub same : (e f : Jubjub) → coordinates e ≡ coordinates f → e ≡ f

-- each element is zero when it is added as often as the order says
abbrev pub HasOrder : Type 0
HasOrder = (x : Jubjub) → times jubjub order x ≡ jubjub.identity

-- an element that is zero when it is added n times is zero, or the order divides n
abbrev pub HasPrimeOrder : Type 0
HasPrimeOrder = (n : ℕ) (x : Jubjub) → times jubjub n x ≡ jubjub.identity → (n % order ≡ 0 → ⊥) → x ≡ jubjub.identity

-- a number that the order does not divide has an inverse modulo it
abbrev pub HaveInverses : Type 0
HaveInverses = (n : ℕ) → (n % order ≡ 0 → ⊥) → (z : ℕ) × (n * z % order ≡ 1)

-- the first coordinate of an element tells it
abbrev pub FirstCoordinatesTell : Type 0
FirstCoordinatesTell = (a b : Jubjub) → (coordinates a).x ≡ (coordinates b).x → a ≡ b

-- each element is a multiple of the generator below the order, and of no two: so the subgroup has as many elements as
-- its order says
pub record BaseGenerates : Type 0 where
  pub each : (e : Jubjub) → (k : ℕ) × (k < order) × (times jubjub k base ≡ e)
  pub apart : (m n : ℕ) → m < order → n < order → times jubjub m base ≡ times jubjub n base → m ≡ n
