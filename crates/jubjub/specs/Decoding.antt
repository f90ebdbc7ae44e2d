-- Points by their second coordinate and the parity of the first, and elements of the subgroup by them.
use Rattle.std.specs.Prelude.{◌≡◌, ℕ, zero, suc, ◌+◌, ◌*◌, ◌%◌, Bool, true, false, ◌&&◌, eqb, Option, Some, None}
use Rattle.std.specs.Prelude.{if◌then◌else◌, option_and_then}
use Rattle.std.specs.Option.{option_map_or}
use Rattle.ark_groups.specs.Group.{times}
use Rattle.jubjub.specs.declared.element.Jubjub.{Jubjub}
use Rattle.jubjub.specs.Edwards.{Coordinates, neutral}
use Rattle.jubjub.specs.Jubjub.{p, d, curve, IsInSubgroup}
use Rattle.jubjub.specs.Spelling.{is_in_subgroup}
use Rattle.jubjub.specs.Laws.Elements.{element}
use Rattle.jubjub.specs.Laws.Spelling.{in_subgroup-Decides}

-- the least number below n that passes a test, if one does
unfoldable pub least : (ℕ → Bool) → ℕ → Option ℕ
least test zero = None
least test (suc n) = option_map_or (λ x. Some x) (least test n) (if test n then Some n else None)

-- x and y satisfy the curve's equation
abbrev pub IsOver : ℕ → ℕ → Type 0
IsOver y x = (x * x + 1 + d * x * x * y * y) % p ≡ y * y % p

-- whether x is the first coordinate of a point over y, and has this parity
unfoldable pub is_first_over : ℕ → ℕ → ℕ → Bool
is_first_over y parity x = eqb ((x * x + 1 + d * x * x * y * y) % p) (y * y % p) && eqb (x % 2) parity

-- the first coordinate of this parity of a point over y, if there is one
unfoldable pub first_over : ℕ → ℕ → Option ℕ
first_over y parity = least (is_first_over y parity) p

-- the element that a test found to be one
abbrev pub tested_element : (a : Coordinates) (t : Bool) → (t ≡ true → IsInSubgroup a) → Option Jubjub
tested_element a true inside = Some (element a (inside refl'))
  where
    refl' : true ≡ true
    refl' = λ i. true
tested_element a false inside = None

-- the element with these coordinates, if they are in the subgroup
unfoldable pub element_with : Coordinates → Option Jubjub
element_with a = tested_element a (is_in_subgroup a) (λ t. (in_subgroup-Decides a).0 t)

-- whether coordinates are those of zero
abbrev pub is_zero_at : Coordinates → Bool
is_zero_at a = eqb a.x neutral.x && eqb a.y neutral.y

-- the element that is 8 times the point over y with a first coordinate of this parity, if that is one and is not zero
unfoldable pub cleared_over : ℕ → ℕ → Option Jubjub
cleared_over y parity =
    option_and_then (λ x. let a : Coordinates = times curve 8 (record { x = x; y = y }) in
    if is_zero_at a then None else element_with a) (first_over y parity)
