use Rattle.std.proofs.Common.{◌≡◌, ℕ, ◌*◌, ◌%◌, sym, ap, ◌∙◌}
use Rattle.std.proofs.Math.Nat.{mul_assoc}
use Rattle.std.proofs.lemmas.Nat.{mul-mod_first, mul-mod_second}
use Rattle.jubjub.specs.Jubjub.{p, d}
use Rattle.jubjub.specs.Values.{value}
use Rattle.jubjub.proofs.extended.crossed.Goals as goal

-- a product of numbers that were reduced
reduced : (c x y m twice both : ℕ) → twice ≡ c % m → both ≡ x * y % m → twice * both % m ≡ c * x * y % m
reduced c x y m twice both one two =
    ap (λ n. n * both % m) one ∙ mul-mod_first c both m ∙ ap (λ n. c * n % m) two ∙ mul-mod_second c (x * y) m
    ∙ ap (λ n. n % m) (sym (mul_assoc c x y))

pub returns : goal.returns
returns c =
    c.mul-2.ensures ∙ reduced (2 * d) (value c.args.x) (value c.args.y) p (value c.twice_coefficient.result)
    (value c.mul.result) c.twice_coefficient.ensures c.mul.ensures
