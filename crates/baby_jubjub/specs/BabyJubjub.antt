-- Baby Jubjub (ERC-2494): the curve 168700 x^2 + y^2 = 1 + 168696 x^2 y^2 over the scalar field of BN254, in the
-- coordinates of circomlib.
use Rattle.std.specs.Prelude.{◌≡◌, ℕ}
use Rattle.ark_groups.specs.Group.{Group, times}
use Rattle.edwards.specs.Edwards.{Coordinates, neutral}
use Rattle.baby_jubjub.specs.Twisted.{IsOnTwisted, twisted}
use Rattle.baby_jubjub.specs.Scaled.{scaled_by}

-- the modulus of the coordinates: the order of BN254's groups
abbrev pub p : ℕ
p = 21888242871839275222246405745257275088548364400416034343698204186575808495617

-- the order of the prime subgroup; the curve has eight times as many points
unfoldable pub order : ℕ
order = 2736030358979909402780800718157159386076813972158567259200215660948447373041

-- the curve's zero, sum and negative
abbrev pub curve : Group Coordinates
curve = twisted p 168700 168696

-- on the curve
abbrev pub IsOnBabyJubjub : Coordinates → Type 0
IsOnBabyJubjub = IsOnTwisted p 168700 168696

-- in the prime subgroup: on the curve, and zero when it is added as often as the order says
pub record IsInPrimeSubgroup (q : Coordinates) : Type 0 where
  pub on_curve : IsOnBabyJubjub q
  pub of_order : times curve order q ≡ neutral

-- ERC-2494's generator of the curve
abbrev pub generator : Coordinates
generator = record {
  x = 995203441582195749578291179787384436505546430278305826713579947235728471134;
  y = 5472060717959818805561601436314318772137091100104008585924551046643952123905;
}

-- Base8, eight times the generator, whose multiple by the order is zero
abbrev pub base8 : Coordinates
base8 = record {
  x = 5299619240641551281634865583518297030282874472190772894086521144482721001553;
  y = 16950150798460657717958625567821834550301663161624707787222815936182638968203;
}

-- ---- the same curve as -x^2 + y^2 = 1 + d x^2 y^2

-- -168696 / 168700 modulo p
abbrev pub d : ℕ
d = 12181644023421730124874158521699555681764249180949974110617291017600649128846

-- a square root of -168700 modulo p: the factor of x
abbrev pub factor : ℕ
factor = 6360561867910373094066688120553762416144456282423235903351243436111059670888

-- its inverse modulo p
abbrev pub one_over_factor : ℕ
one_over_factor = 19976260017534050147865154401153945156910754191401137453807035910720341838527

-- (s x, y), on that curve
abbrev pub scaled : Coordinates → Coordinates
scaled = scaled_by p factor
