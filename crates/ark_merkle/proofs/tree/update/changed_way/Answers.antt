use Rattle.std.proofs.Common.{refl}
use Rattle.ark_base.proofs.Refusals.{passed_on}
use Rattle.ark_merkle.proofs.tree.update.changed_way.Goals as goal

pub returns-in_err-digest-clause-root : goal.returns-in_err-digest-clause-root
returns-in_err-digest-clause-root g c =
    passed_on _ _ c.from_residual.result c.in_err-digest.field-0.0 c.from_residual.ensures.1 c.in_err-digest.ensures
    (λ refused. rw refused refl)

pub returns-in_err-way-clause-root : goal.returns-in_err-way-clause-root
returns-in_err-way-clause-root g c =
    passed_on _ _ c.from_residual-in_err-way.result c.in_err-way.field-0.0 c.from_residual-in_err-way.ensures.1
    c.in_err-way.ensures.root (λ refused. rw (c.in_ok-digest.ensures, refused) refl)

pub returns-clause-root : goal.returns-clause-root
returns-clause-root g c = rw (c.in_ok-digest.ensures, c.in_ok-way.ensures.root) refl
