use Rattle.std.proofs.Common.{◌∙◌, length, sym, arith}
use Rattle.kept_tree.proofs.Besides.{levels-above}
use Rattle.kept_tree.proofs.MultiPaths.{shared-all, shared-more, shared-stop}
use Rattle.kept_tree.proofs.multi_path.shared_above.Goals as goal

pub returns-then-not-are_same : goal.returns-then-not-are_same
returns-then-not-are_same c =
    rw (levels-above (length c.args.memory.now) _ c.levels_of-levels.ensures)
    (sym (shared-stop c.args.memory.now c.args.before c.args.index c.levels_of-levels.result c.levels.done
    c.levels-test.true c.levels.invariant _ _ c.sibling_digest.ensures c.sibling_digest-in-levels.ensures
    (sym c.are_same.ensures ∙ c.if-not-are_same.true)))

pub levels-preserved : goal.levels-preserved
levels-preserved c =
    shared-more c.args.memory.now c.args.before c.args.index c.levels_of-levels.result c.levels.done
    c.levels-test.true c.levels.invariant _ _ c.sibling_digest.ensures c.sibling_digest-in-levels.ensures
    (sym c.are_same.ensures ∙ c.if-not-are_same.false)

pub returns : goal.returns
returns c =
    rw (levels-above (length c.args.memory.now) _ c.levels_of-levels.ensures)
    (sym (shared-all c.args.memory.now c.args.before c.args.index c.levels_of-levels.result c.levels.done
    (omega arith) (omega arith) c.levels.invariant))
