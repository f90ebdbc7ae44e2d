use Rattle.std.proofs.Common.{Ok, inr, refl, ap, ◌∙◌}
use Rattle.log_tiles.proofs.Shown.{shown}
use Rattle.log_tiles.proofs.by_proof.continues_by.Goals as goal

pub returns-then-branch-clause-continued : goal.returns-then-branch-clause-continued
returns-then-branch-clause-continued c =
    let old = c.args.old.now in
    let new = c.args.new.now in
    inr (inr (shown old.root old new new.size new.root c.args.path.now refl refl
    (c.in_ok-is_consistent.ensures.verdict ∙ ap Ok c.if-branch.true)))
