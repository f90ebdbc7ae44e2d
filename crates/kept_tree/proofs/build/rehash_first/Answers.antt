use Rattle.std.proofs.Common.{arith}
use Rattle.kept_tree.proofs.Rehashed.{rehashes-below}
use Rattle.kept_tree.proofs.build.rehash_first.Goals as goal

pub runs-preserved : goal.runs-preserved
runs-preserved g c = record {
  within = omega (arith, c.runs.invariant.within);
  above = rehashes-below g.H.ArrayHash.node_hash _ c.min-run.result c.runs.inner c.args.count
      c.args.memory.now c.runs.memory _ (omega arith) c.runs.invariant.within (omega arith) c.runs.invariant.above
      c.hash_run.ensures;
}
