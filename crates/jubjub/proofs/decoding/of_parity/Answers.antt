use Rattle.std.proofs.Common.{◌≡◌, ℕ, ◌<◌, refl, arith}
use Rattle.ark_groups.specs.Words.{number}
use Rattle.ark_wide_fields.specs.Laws.Fp256.{wide_below}
use Rattle.ark_wide_fields.proofs.PowerSteps.{unless}
use Rattle.jubjub.specs.Jubjub.{p}
use Rattle.jubjub.specs.Values.{value}
use Rattle.jubjub.specs.Laws.Modulus.{has_inverses}
use Rattle.jubjub.specs.Laws.FirstCoordinates.{same_square, other_parity, flipped}
use Rattle.jubjub.proofs.decoding.of_parity.Goals as goal

positive : (n : ℕ) → (n ≡ 0 → ⊥) → 0 < n
positive n some = omega (arith, some)

pub returns-else-is_zero-clause-square : goal.returns-else-is_zero-clause-square
returns-else-is_zero-clause-square c =
    same_square p has_inverses refl (value c.args.root) (value c.neg.result)
    (positive (value c.args.root) (unless c.is_zero.result c.is_zero.ensures c.if-is_zero.false))
    (wide_below c.args.root) c.neg.ensures

pub returns-else-is_zero-clause-parity : goal.returns-else-is_zero-clause-parity
returns-else-is_zero-clause-parity c =
    flipped c.is_odd.result c.args.odd (number c.words.result) (value c.args.root) (value c.neg.result) c.is_odd.ensures
    c.words.ensures c.if-is_odd-odd.false
    (other_parity p has_inverses refl (value c.args.root) (value c.neg.result)
    (positive (value c.args.root) (unless c.is_zero.result c.is_zero.ensures c.if-is_zero.false))
    (wide_below c.args.root) c.neg.ensures)
