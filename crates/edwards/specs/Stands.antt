-- Four numbers that stand for a point, with no division.
use Rattle.std.specs.Prelude.{◌≡◌, ℕ, ◌*◌, ◌%◌}
use Rattle.edwards.specs.Edwards.{Coordinates}

-- numbers X, Y, Z and T stand for the point with x = X / Z, y = Y / Z and x y = T / Z
pub record StandFor (p X Y Z T : ℕ) (a : Coordinates) : Type 0 where
  pub some : Z % p ≡ 0 → ⊥
  pub first : X % p ≡ a.x * Z % p
  pub second : Y % p ≡ a.y * Z % p
  pub both : T % p ≡ a.x * a.y * Z % p

-- the first three of them do
pub record StandForApart (p X Y Z : ℕ) (a : Coordinates) : Type 0 where
  pub some : Z % p ≡ 0 → ⊥
  pub first : X % p ≡ a.x * Z % p
  pub second : Y % p ≡ a.y * Z % p
