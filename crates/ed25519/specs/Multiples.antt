-- Multiples of the base point by digits to base 16.
use Rattle.std.specs.Prelude.{◌≡◌, ℕ, zero, suc, ◌+◌, ◌-◌, ◌*◌, ◌/◌, ◌%◌, ◌^◌}
use Rattle.ark_groups.specs.Words.{number}
use Rattle.edwards.specs.Edwards.{Coordinates}
use Rattle.ed25519.specs.declared.base.Forms.{Forms}
use Rattle.ed25519.specs.Edwards25519.{d}
use Rattle.ed25519.specs.BaseTable.{in_montgomery_form}
use Rattle.ed25519.specs.Edwards25519.{p}

-- the digits at 0, 4, 8 .. of n to base 16, k of them, each at the place where it stands in n
unfoldable pub every_fourth : ℕ → ℕ → ℕ
every_fourth zero n = 0
every_fourth (suc k) n = every_fourth k n + n / 65536 ^ k % 16 * 65536 ^ k

-- three numbers are the Montgomery forms of y - x, y + x and 2 d x y
pub record IsPreparedEntry (e : Forms) (a : Coordinates) : Type 0 where
  pub less : number e.less ≡ in_montgomery_form (a.y + (p - a.x))
  pub more : number e.more ≡ in_montgomery_form (a.y + a.x)
  pub cross : number e.cross ≡ in_montgomery_form (2 * d * a.x * a.y)

-- three zeros, which are the forms of no point
pub record IsBlankEntry (e : Forms) : Type 0 where
  pub less : number e.less ≡ 0
  pub more : number e.more ≡ 0
  pub cross : number e.cross ≡ 0
