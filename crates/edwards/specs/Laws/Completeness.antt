-- No denominator of a sum is 0 where -1 is a square modulo p, and d is none.
use Rattle.std.proofs.Common.{◌≡◌, ℕ, ◌+◌, ◌-◌, ◌*◌, ◌%◌, ◌<◌, List, sym, ◌∙◌, ap, arith, mod-eq_of_lt}
use Rattle.std.proofs.Math.Nat.{zero-mod, mod_self}
use Rattle.number_facts.specs.Powers.{power_mod}
use Rattle.number_facts.specs.Generators.{IsGenerator}
use Rattle.number_facts.proofs.Units.{no_root, power_inverse}
use Rattle.edwards.specs.Edwards.{Coordinates, IsOnCurve, cross, inverse}
use Rattle.edwards.specs.Curves.{IsComplete}
use Rattle.edwards.specs.Laws.Quotients.{HasInverses}
use Rattle.edwards.specs.Laws.RootFacts.{roots, fours}
use Rattle.edwards.specs.Laws.CurveLaws.{NoCrossIsOne}

module _ (m d g n : ℕ) (fs : List ℕ) (k : IsGenerator m g n fs) (h : ℕ) (twice : h + h ≡ n) (some : 0 < h) (big : 4 < m)
    (euler : power_mod m 255 d h ≡ m - 1) where
  pos : 0 < m
  pos = omega (arith, big)

  -- with c * c = -1: x1 y1 (c x2 + y2) is 0, since d times its square is a square
  root_is_zero : (c : ℕ) (a b : Coordinates) → (c * c + 1) % m ≡ 0 → IsOnCurve m d a → IsOnCurve m d b
      → cross d a b * cross d a b % m ≡ 1 % m → a.x * a.y * (c * b.x + b.y) % m ≡ 0
  root_is_zero c a b minus on_a on_b one =
      no_root m g n fs k d h twice some (omega (arith, big)) euler (a.x * a.y * (c * b.x + b.y))
      (c * a.x + cross d a b * a.y)
      (roots m c a.x a.y b.x b.y d pos (minus ∙ sym (zero-mod m)) one on_a.equation on_b.equation)

  -- so it is for the other root of -1, and 4 would be 0
  pub no_cross_is_one : (c e : ℕ) → (c * c + 1) % m ≡ 0 → (e * e + 1) % m ≡ 0 → (c + e) % m ≡ 0 → NoCrossIsOne m d
  no_cross_is_one c e minus minus' opposite a b on_a on_b one =
      clash (sym (mod-eq_of_lt big) ∙ fours m c e a.x a.y b.x b.y d pos
      (root_is_zero c a b minus on_a on_b one ∙ sym (zero-mod m))
      (root_is_zero e a b minus' on_a on_b one ∙ sym (zero-mod m)) (opposite ∙ sym (zero-mod m)) one ∙ zero-mod m)
    where
      clash : ◌≡◌ {A = ℕ} 4 0 → ⊥
      clash h = omega arith

module _ (p d : ℕ) (c : IsComplete p d) where
  pub has_inverses : HasInverses p
  unfolding inverse
  has_inverses = record { two = c.generates.two; inverts = power_inverse p c.generator (p - 1) c.factors c.generates }

  pub complete : NoCrossIsOne p d
  complete = no_cross_is_one p d c.generator (p - 1) c.factors c.generates c.half c.halves
      (some c.half p c.halves c.big) c.big c.no_square c.root (p - c.root) c.root_of_minus_one c.other_root
      (ap (λ t. t % p) (whole c.root p c.root_below) ∙ mod_self p)
    where
      some : (h p : ℕ) → h + h ≡ p - 1 → 4 < p → 0 < h
      some h p e l = omega arith

      whole : (r p : ℕ) → r < p → r + (p - r) ≡ p
      whole r p l = omega arith
