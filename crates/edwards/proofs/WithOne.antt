-- Points by four coordinates of which the third is 1.
use Rattle.std.proofs.Common.{◌≡◌, ℕ, ◌*◌, ◌%◌, ◌≤◌, sym, ◌∙◌, ap, arith, mod-eq_of_lt}
use Rattle.edwards.specs.Edwards.{neutral}
use Rattle.edwards.specs.Stands.{StandFor}
use Rattle.edwards.proofs.CrossedProducts.{reduced}

single : (a z : ℕ) → z ≡ 1 → a ≡ a * z
single a z e = alone a ∙ ap (λ t. a * t) (sym e)
  where
    alone : (a : ℕ) → a ≡ a * 1
    alone a = omega arith

one_some : (p z : ℕ) → 2 ≤ p → z ≡ 1 → z % p ≡ 0 → ⊥
one_some p z two e none = clash (sym (mod-eq_of_lt two) ∙ ap (λ t. t % p) (sym e) ∙ none)
  where
    clash : ◌≡◌ {A = ℕ} 1 0 → ⊥
    clash h = omega (arith, h)

pub stands_point : (p x y z t : ℕ) → 2 ≤ p → z ≡ 1 → t ≡ x * y % p → StandFor p x y z t (record { x = x; y = y })
stands_point p x y z t two is_z is_t = record {
  some = one_some p z two is_z;
  first = ap (λ n. n % p) (single x z is_z);
  second = ap (λ n. n % p) (single y z is_z);
  both = reduced p t (x * y) is_t ∙ ap (λ n. n % p) (single (x * y) z is_z);
}

pub stands_neutral : (p x y z t : ℕ) → 2 ≤ p → x ≡ 0 → y ≡ 1 → z ≡ 1 → t ≡ 0 → StandFor p x y z t neutral
stands_neutral p x y z t two is_x is_y is_z is_t = record {
  some = one_some p z two is_z;
  first = ap (λ n. n % p) (is_x ∙ single 0 z is_z);
  second = ap (λ n. n % p) (is_y ∙ single 1 z is_z);
  both = ap (λ n. n % p) (is_t ∙ single 0 z is_z);
}
