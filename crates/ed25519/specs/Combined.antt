-- Sums of multiples of two points.
use Rattle.std.specs.Prelude.{ℕ}
use Rattle.ark_groups.specs.Group.{times}
use Rattle.edwards.specs.Edwards.{Coordinates}
use Rattle.edwards.specs.declared.extended.Extended.{Extended}
use Rattle.ed25519.specs.declared.moduli.Ed25519FpModulus.{Ed25519FpModulus}
use Rattle.ed25519.specs.contracts.moduli.Ed25519FpModulusWideModulus.TheImpl.{ghosts}
use Rattle.ed25519.specs.Edwards25519.{curve}

-- m a + n b
abbrev pub combined : ℕ → ℕ → Coordinates → Coordinates → Coordinates
combined m n a b = curve.plus (times curve m a) (times curve n b)

-- four coordinates of a point
abbrev pub Four : Type 0
Four = Extended Ed25519FpModulus ghosts
