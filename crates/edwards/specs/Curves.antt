-- Which twisted Edwards curves are served, and what is proved of each.
use Rattle.std.specs.Prelude.{◌≡◌, ℕ, ◌+◌, ◌-◌, ◌*◌, ◌%◌, ◌<◌, List}
use Rattle.ark_groups.specs.Group.{Group}
use Rattle.number_facts.specs.Powers.{power_mod}
use Rattle.number_facts.specs.Generators.{IsGenerator}
use Rattle.edwards.specs.Edwards.{Coordinates, IsOnCurve, cross, edwards}

-- p is a prime by certificate, -1 is a square modulo p, and d is none
pub record IsComplete (p d : ℕ) : Type 0 where
  pub generator : ℕ
  pub factors : List ℕ
  pub generates : IsGenerator p generator (p - 1) factors
  pub big : 4 < p
  pub half : ℕ
  pub halves : half + half ≡ p - 1
  pub root : ℕ
  pub root_below : root < p
  pub root_of_minus_one : (root * root + 1) % p ≡ 0
  pub other_root : ((p - root) * (p - root) + 1) % p ≡ 0
  pub no_square : power_mod p 255 d half ≡ p - 1

-- the elements that satisfy P are a commutative group
pub record IsCommutativeGroupOn {G : Type 0} (P : G → Type 0) (g : Group G) : Type 0 where
  pub identity_in : P g.identity
  pub plus_in : (x y : G) → P x → P y → P (g.plus x y)
  pub opposite_in : (x : G) → P x → P (g.opposite x)
  pub assoc : (x y z : G) → P x → P y → P z → g.plus (g.plus x y) z ≡ g.plus x (g.plus y z)
  pub comm : (x y : G) → P x → P y → g.plus x y ≡ g.plus y x
  pub left_identity : (x : G) → P x → g.plus g.identity x ≡ x
  pub left_opposite : (x : G) → P x → g.plus (g.opposite x) x ≡ g.identity

-- no denominator of a sum of two points is 0 modulo p
abbrev pub SumsAreComplete : Type 0
SumsAreComplete = (p d : ℕ) → IsComplete p d → (a b : Coordinates) → IsOnCurve p d a → IsOnCurve p d b
    → ((1 + cross d a b) % p ≡ 0 → ⊥) × ((1 + (p - cross d a b % p)) % p ≡ 0 → ⊥)

-- the points of such a curve are a commutative group
abbrev pub PointsAreAGroup : Type 0
PointsAreAGroup = (p d : ℕ) → IsComplete p d → IsCommutativeGroupOn (IsOnCurve p d) (edwards p d)
