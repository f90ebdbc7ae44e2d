-- Twisted Edwards curves a x^2 + y^2 = 1 + d x^2 y^2 over the numbers modulo a prime p.
use Rattle.std.specs.Prelude.{◌≡◌, ℕ, ◌+◌, ◌-◌, ◌*◌, ◌%◌, ◌<◌}
use Rattle.ark_groups.specs.Group.{Group}
use Rattle.edwards.specs.Edwards.{Coordinates, over, neutral, negative}

-- coordinates below p that satisfy the equation modulo p
pub record IsOnTwisted (p a d : ℕ) (q : Coordinates) : Type 0 where
  pub x_below : q.x < p
  pub y_below : q.y < p
  pub equation : (a * q.x * q.x + q.y * q.y) % p ≡ (1 + d * q.x * q.x * q.y * q.y) % p

-- what the denominators of a sum differ from 1 by: d x1 x2 y1 y2
abbrev pub twisted_cross : ℕ → Coordinates → Coordinates → ℕ
twisted_cross d q r = d * q.x * r.x * q.y * r.y

-- the sum: x = (x1 y2 + y1 x2) / (1 + d x1 x2 y1 y2), y = (y1 y2 - a x1 x2) / (1 - d x1 x2 y1 y2)
abbrev pub twisted_sum : ℕ → ℕ → ℕ → Coordinates → Coordinates → Coordinates
twisted_sum p a d q r = record {
  x = over p (q.x * r.y + q.y * r.x) (1 + twisted_cross d q r);
  y = over p (q.y * r.y + (p - a * q.x * r.x % p)) (1 + (p - twisted_cross d q r % p));
}

-- coordinates with their zero (0, 1), their sum and their negative (-x, y)
abbrev pub twisted : ℕ → ℕ → ℕ → Group Coordinates
twisted p a d = record { identity = neutral; plus = twisted_sum p a d; opposite = negative p }
