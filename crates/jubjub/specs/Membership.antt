-- The value by which one power tells whether a point is in the prime subgroup.
use Rattle.std.specs.Prelude.{ℕ}
use Rattle.edwards.specs.Eighths as eighths
use Rattle.jubjub.specs.Edwards.{Coordinates}
use Rattle.jubjub.specs.Jubjub.{p}

-- a square root of -1 modulo p
abbrev pub minus_one_root : ℕ
minus_one_root = 3465144826073652318776269530687742778270252468765361963008

-- the slope of the tangent at a point of order 8
abbrev pub tangent_slope : ℕ
tangent_slope = 3720429250113667383027802819337108463347489580617634838598483877947753145878

-- the value of the function that has an eightfold zero at this point
abbrev pub member_value : Coordinates → ℕ
member_value = eighths.telling p minus_one_root tangent_slope
