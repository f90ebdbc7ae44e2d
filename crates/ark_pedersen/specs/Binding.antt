-- What two inputs with one Pedersen hash give: a relation among the elements of the windows.
use Rattle.std.specs.Prelude.{◌≡◌, ℕ, zero, suc, ◌+◌, ◌-◌, ◌*◌, ◌/◌, ◌%◌, ◌^◌, ◌≤◌, true, All, Bool, List, [], ◌∷◌, length, take, drop, map, get_or, ◌<◌}
use Rattle.std.specs.Prelude.{Ok, Err, nat_lt, nat_le, if◌then◌else◌}
use Rattle.ark_base.specs.Outcome.{Outcome}
use Rattle.ark_base.specs.declared.error.Error.TheVariants.{IncorrectInputLength, GenericError}
use Rattle.ark_base.specs.declared.error.Refusal.TheVariants.{WindowTooLarge}
use Rattle.ark_groups.specs.Bits.{number_of_bits}
use Rattle.ark_groups.specs.Group.{Group, times}
use Rattle.ark_base.specs.Reading.{IsBytes}
use Rattle.ark_pedersen.specs.Pedersen.{bits_of_bytes, window_bits, windows_hash, full_halves, of_halves}
use Rattle.ark_pedersen.specs.declared.window.Window.{Ghosts as Windows}

-- the numbers of the windows, so many as are asked for, each of so many bits
unfoldable pub window_numbers : ℕ → ℕ → List Bool → List ℕ
window_numbers size zero bits = []
window_numbers size (suc count) bits = number_of_bits (take size bits) ∷ window_numbers size count (drop size bits)

-- place by place, how much more a first number is than a second, modulo r
unfoldable pub differences : ℕ → List ℕ → List ℕ → List ℕ
differences r [] ns = []
differences r (m ∷ ms) [] = []
differences r (m ∷ ms) (n ∷ ns) = ((m % r + (r - n % r)) % r) ∷ differences r ms ns

-- the sum of the elements, each as often as its coefficient says
unfoldable pub combination : {G : Type 0} → Group G → List ℕ → List G → G
combination g [] xs = g.identity
combination g (c ∷ cs) [] = g.identity
combination g (c ∷ cs) (x ∷ xs) = g.plus (times g c x) (combination g cs xs)

-- each coefficient is 0
abbrev pub AreAllZero : List ℕ → Type 0
AreAllZero coefficients = All (λ c. c ≡ 0) coefficients

-- each number of a window stays below the order
abbrev pub windows_fit : {W : Type 0} → ℕ → Windows W → Bool
windows_fit order windows = nat_le (2 ^ windows.WINDOW_SIZE) order

-- the coefficients that two inputs give, one for each window: how much more its number is in the left than in the right
abbrev pub coefficients_of : {W : Type 0} → ℕ → Windows W → List ℕ → List ℕ → List ℕ
coefficients_of order windows left right =
    differences order (window_numbers windows.WINDOW_SIZE windows.NUM_WINDOWS (bits_of_bytes left))
    (window_numbers windows.WINDOW_SIZE windows.NUM_WINDOWS (bits_of_bytes right))

-- the same, refused where a window's number can pass the order, and where an input has more bits than the windows
abbrev pub relation_outcome : {W : Type 0} → ℕ → Windows W → List ℕ → List ℕ → Outcome (List ℕ)
relation_outcome order windows left right =
    if windows_fit order windows then
    (if nat_lt (window_bits windows) (8 * length left) then Err (IncorrectInputLength (length left))
    else if nat_lt (window_bits windows) (8 * length right) then Err (IncorrectInputLength (length right))
    else Ok (coefficients_of order windows left right))
    else Err (GenericError WindowTooLarge)

-- whatever the elements of the windows are: where two inputs have one hash, this combination of them is zero
abbrev pub IsRelation : {G W : Type 0} → Group G → Windows W → List ℕ → List ℕ → List ℕ → Type 0
IsRelation {G} g windows coefficients left right =
    (elements : List G) → length elements ≡ windows.NUM_WINDOWS
    → windows_hash g windows elements left ≡ windows_hash g windows elements right
    → combination g coefficients elements ≡ g.identity

-- ---- couples

-- two inputs as one: one behind the other, and zeros behind them
abbrev pub couple_bytes : {W : Type 0} → Windows W → List ℕ × List ℕ → List ℕ
couple_bytes windows couple = full_halves (window_bits windows / 2) couple.0 couple.1

-- two inputs of one length, each of half of the windows' bits at most
pub record IsCouple {W : Type 0} (windows : Windows W) (couple : List ℕ × List ℕ) : Type 0 where
  pub as_long : length couple.0 ≡ length couple.1
  pub within : 8 * length couple.0 ≤ window_bits windows / 2

-- the coefficients that two couples give
abbrev pub couple_coefficients : {W : Type 0} → ℕ → Windows W → List ℕ × List ℕ → List ℕ × List ℕ → List ℕ
couple_coefficients order windows left right =
    coefficients_of order windows (couple_bytes windows left) (couple_bytes windows right)

-- whatever the windows' elements are: where two couples have one hash, the combination by their coefficients is zero
abbrev pub CouplesGiveRelations : {G W : Type 0} → Group G → ℕ → Windows W → Type 0
CouplesGiveRelations {G} g order windows =
    (elements : List G) (left right : List ℕ × List ℕ) → length elements ≡ windows.NUM_WINDOWS
    → IsCouple windows left → IsCouple windows right
    → of_halves windows (windows_hash g windows elements) left.0 left.1
    ≡ of_halves windows (windows_hash g windows elements) right.0 right.1
    → combination g (couple_coefficients order windows left right) elements ≡ g.identity

-- where the windows fit the order, couples of one length whose coefficients are all 0 are the same
abbrev pub CoupleRelationsAreSome : {W : Type 0} → ℕ → Windows W → Type 0
CoupleRelationsAreSome order windows =
    windows_fit order windows ≡ true → (left right : List ℕ × List ℕ)
    → IsBytes left.0 → IsBytes left.1 → IsBytes right.0 → IsBytes right.1
    → IsCouple windows left → IsCouple windows right → length left.0 ≡ length right.0
    → AreAllZero (couple_coefficients order windows left right) → (left.0 ≡ right.0) × (left.1 ≡ right.1)

-- ---- relations, solved for an element

-- the coefficients' negatives, times z
abbrev pub negatives : ℕ → ℕ → List ℕ → List ℕ
negatives r z coefficients = map (λ c. (r - c % r) * z % r) coefficients

-- the same with 0 at a place
unfoldable pub negatives_but : ℕ → ℕ → ℕ → List ℕ → List ℕ
negatives_but r z place [] = []
negatives_but r z zero (c ∷ cs) = 0 ∷ negatives r z cs
negatives_but r z (suc place) (c ∷ cs) = ((r - c % r) * z % r) ∷ negatives_but r z place cs

-- a relation gives an element whose coefficient has an inverse z as a combination of the others
abbrev pub RelationsGiveElements : {G : Type 0} → Group G → ℕ → Type 0
RelationsGiveElements {G} g order =
    (place z : ℕ) (coefficients : List ℕ) (elements : List G) → place < length coefficients → place < length elements
    → get_or coefficients place 0 * z % order ≡ 1 → combination g coefficients elements ≡ g.identity
    → get_or elements place g.identity ≡ combination g (negatives_but order z place coefficients) elements

-- what is added to a multiple by a number that the order does not divide, and makes it zero, tells the element
abbrev pub RelationsTellElements : {G : Type 0} → Group G → ℕ → Type 0
RelationsTellElements {G} g order =
    (c : ℕ) (x y others : G) → (c % order ≡ 0 → ⊥) → g.plus (times g c x) others ≡ g.identity
    → g.plus (times g c y) others ≡ g.identity → x ≡ y
