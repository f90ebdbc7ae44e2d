-- Jubjub: the curve -x^2 + y^2 = 1 + d x^2 y^2 over the scalar field of BLS12-381.
use Rattle.std.specs.Prelude.{◌≡◌, ℕ}
use Rattle.ark_groups.specs.Group.{Group, times}
use Rattle.jubjub.specs.Edwards.{Coordinates, IsOnCurve, edwards, neutral}

-- the modulus of the coordinates: the order of BLS12-381's groups
abbrev pub p : ℕ
p = 52435875175126190479447740508185965837690552500527637822603658699938581184513

-- -(10240 / 10241) modulo p
abbrev pub d : ℕ
d = 19257038036680949359750312669786877991949435402254120286184196891950884077233

-- the order of the prime subgroup
unfoldable pub order : ℕ
order = 6554484396890773809930967563523245729705921265872317281365359162392183254199

-- the curve's zero, sum and negative
abbrev pub curve : Group Coordinates
curve = edwards p d

-- on the curve
abbrev pub IsOnJubjub : Coordinates → Type 0
IsOnJubjub = IsOnCurve p d

-- in the prime subgroup: on the curve, and zero when it is added as often as the order says
pub record IsInSubgroup (a : Coordinates) : Type 0 where
  pub on_curve : IsOnJubjub a
  pub of_order : times curve order a ≡ neutral

-- the generator of the prime subgroup
abbrev pub base_point : Coordinates
base_point = record {
  x = 8076246640662884909881801758704306714034609987455869804520522091855516602923;
  y = 13262374693698910701929044844600465831413122818447359594527400194675274060458;
}
