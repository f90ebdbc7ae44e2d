-- Points that are prepared for sums.
use Rattle.std.specs.Prelude.{◌≡◌, ℕ, ◌+◌, ◌-◌, ◌*◌, ◌%◌}
use Rattle.ark_groups.specs.Words.{number}
use Rattle.ark_wide_fields.specs.declared.modulus.WideModulus.{Ghosts}
use Rattle.ark_wide_fields.specs.declared.fp256.Fp256.{Fp256}
use Rattle.edwards.specs.declared.prepared.Prepared.{Prepared}
use Rattle.edwards.specs.Edwards.{Coordinates}
use Rattle.edwards.specs.Values.{value}

-- three numbers are y - x, y + x and 2 d x y modulo p
pub record ArePrepared (p d less more cross : ℕ) (a : Coordinates) : Type 0 where
  pub less_is : less ≡ (a.y + (p - a.x)) % p
  pub more_is : more ≡ (a.y + a.x) % p
  pub cross_is : cross ≡ 2 * d * a.x * a.y % p

-- three elements of the field are
abbrev pub AreProducts : {M : Type 0} {g : Ghosts M} → ℕ → Fp256 M g → Fp256 M g → Fp256 M g → Coordinates → Type 0
AreProducts {M} {g} d less more cross a = ArePrepared (number g.P) d (value less) (value more) (value cross) a

-- a prepared point is that point
abbrev pub IsPrepared : {M : Type 0} {g : Ghosts M} → ℕ → Prepared M g → Coordinates → Type 0
IsPrepared d b a = AreProducts d b.less b.more b.cross a
