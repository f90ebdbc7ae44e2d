use Rattle.kept_tree.proofs.MultiPaths.{above-more}
use Rattle.kept_tree.proofs.multi_path.above_from.Goals as goal

pub levels-preserved : goal.levels-preserved
levels-preserved c =
    rw c.in_ok-push.ensures.items (above-more c.args.memory.now c.args.index c.args.levels c.levels.done
    c.levels.digests.items c.sibling_digest.result.now c.levels-test.true c.sibling_digest.ensures c.levels.invariant)
