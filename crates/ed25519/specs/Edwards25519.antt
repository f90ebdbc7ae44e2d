-- edwards25519: the curve -x^2 + y^2 = 1 + d x^2 y^2 over the numbers modulo 2^255 - 19.
use Rattle.std.specs.Prelude.{ℕ}
use Rattle.ark_groups.specs.Group.{Group}
use Rattle.edwards.specs.Edwards.{Coordinates, IsOnCurve, edwards}

-- 2^255 - 19
abbrev pub p : ℕ
p = 57896044618658097711785492504343953926634992332820282019728792003956564819949

-- -(121665 / 121666) modulo p
abbrev pub d : ℕ
d = 37095705934669439343138083508754565189542113879843219016388785533085940283555

-- the order of the prime subgroup: 2^252 + 27742317777372353535851937790883648493
unfoldable pub order : ℕ
order = 7237005577332262213973186563042994240857116359379907606001950938285454250989

-- the curve's zero, sum and negative
abbrev pub curve : Group Coordinates
curve = edwards p d

-- on the curve
abbrev pub IsOnEd25519 : Coordinates → Type 0
IsOnEd25519 = IsOnCurve p d

-- the point whose multiples are the prime subgroup: y is 4 / 5, and x is even
abbrev pub base_point : Coordinates
base_point = record {
  x = 15112221349535400772501151409588531511454012693041857206046113283949847762202;
  y = 46316835694926478169428394003475163141307993866256225615783033603165251855960;
}

-- a square root of -1
abbrev pub square_root_of_minus_one : ℕ
square_root_of_minus_one = 19681161376707505956807079304988542015446066515923890162744021073123829784752
