use Rattle.std.proofs.Common.{◌≡◌, ◌*◌, ◌%◌, ◌∙◌, ap₂, subst}
use Rattle.std.specs.Bool.{Decides}
use Rattle.ark_wide_fields.specs.Laws.Fp256.{wide_below}
use Rattle.ed25519.specs.Edwards25519.{p}
use Rattle.ed25519.specs.Values.{value}
use Rattle.ed25519.proofs.PointLaws.{right_root, other_root, opposite_square, beq_same, beq_differ}
use Rattle.ed25519.proofs.points.root_of_parity.Goals as goal

pub returns-then-is_odd-odd-clause-parity : goal.returns-then-is_odd-odd-clause-parity
returns-then-is_odd-odd-clause-parity c x below square parity =
    right_root c.is_odd.result c.args.odd x (value c.args.root) below (wide_below c.args.root)
    (subst (λ n. Decides c.is_odd.result (n % 2 ≡ 1)) c.words.ensures c.is_odd.ensures) parity square
    (beq_same c.is_odd.result c.args.odd c.if-is_odd-odd.true)

pub returns-else-is_odd-odd-clause-square : goal.returns-else-is_odd-odd-clause-square
returns-else-is_odd-odd-clause-square c =
    ap₂ (λ a b. a * b % p) c.neg.ensures c.neg.ensures
    ∙ opposite_square p (value c.args.root) (wide_below c.args.root)

pub returns-else-is_odd-odd-clause-parity : goal.returns-else-is_odd-odd-clause-parity
returns-else-is_odd-odd-clause-parity c x below square parity =
    c.neg.ensures ∙ other_root c.is_odd.result c.args.odd x (value c.args.root) below (wide_below c.args.root)
    (subst (λ n. Decides c.is_odd.result (n % 2 ≡ 1)) c.words.ensures c.is_odd.ensures) parity square
    (beq_differ c.is_odd.result c.args.odd c.if-is_odd-odd.false)
