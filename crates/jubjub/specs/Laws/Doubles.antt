-- One more than the square of the first coordinate of a double is a square.
use Rattle.std.proofs.Common.{◌≡◌, ℕ, ◌+◌, ◌*◌, ◌%◌, refl, sym, ◌∙◌, ap, arith}
use Rattle.number_facts.proofs.CongruenceLaws.{sums, products, multiples}

-- where a t = 2 x y and b u = x^2 + y^2 and x^2 + t = y^2, it is (1 + a^2) t^2 = (b u)^2
pub double_squares : (m a b t u x y : ℕ) → a * t % m ≡ (x * y + y * x) % m → b * u % m ≡ (y * y + x * x) % m
    → (x * x + t) % m ≡ y * y % m → (1 + a * a) * (t * t) % m ≡ b * u * (b * u) % m
double_squares m a b t u x y first second on =
    ap (λ n. n % m) (split a t)
    ∙ sums m (t * t) (t * t) (a * t * (a * t)) ((x * y + y * x) * (x * y + y * x)) refl
    (products m (a * t) (x * y + y * x) (a * t) (x * y + y * x) first first)
    ∙ ap (λ n. n % m) (apart t x y)
    ∙ sums m (t * t) (t * t) (y * y * (4 * (x * x))) ((x * x + t) * (4 * (x * x))) refl
    (multiples m (y * y) (x * x + t) (4 * (x * x)) (sym on))
    ∙ ap (λ n. n % m) (whole t x)
    ∙ products m (x * x + t + x * x) (y * y + x * x) (x * x + t + x * x) (y * y + x * x) side side
    ∙ sym (products m (b * u) (y * y + x * x) (b * u) (y * y + x * x) second second)
  where
    split : (a t : ℕ) → (1 + a * a) * (t * t) ≡ t * t + a * t * (a * t)
    split a t = omega arith

    apart : (t x y : ℕ) → t * t + (x * y + y * x) * (x * y + y * x) ≡ t * t + y * y * (4 * (x * x))
    apart t x y = omega arith

    whole : (t x : ℕ) → t * t + (x * x + t) * (4 * (x * x)) ≡ (x * x + t + x * x) * (x * x + t + x * x)
    whole t x = omega arith

    side : (x * x + t + x * x) % m ≡ (y * y + x * x) % m
    side = sums m (x * x + t) (y * y) (x * x) (x * x) on refl
