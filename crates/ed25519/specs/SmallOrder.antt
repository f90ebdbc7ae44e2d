-- Points of small order: those whose multiple by the cofactor, 8, is the neutral point.
use Rattle.std.specs.Prelude.{◌≡◌, ℕ, List}
use Rattle.ark_groups.specs.Group.{times}
use Rattle.edwards.specs.Edwards.{Coordinates, neutral}
use Rattle.ed25519.specs.Edwards25519.{curve, IsOnEd25519}
use Rattle.ed25519.specs.Spelling.{spelling}

-- The bytes are those of a point whose order divides 8.
pub record HasSmallOrder (bytes : List ℕ) : Type 0 where
  pub point : Coordinates
  pub on : IsOnEd25519 point
  pub bytes_are : bytes ≡ spelling point
  pub small : times curve 8 point ≡ neutral
