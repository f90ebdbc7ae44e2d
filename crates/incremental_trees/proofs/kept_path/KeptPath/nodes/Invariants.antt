use Rattle.std.proofs.Common.{◌≡◌, List, Ok}
use Rattle.ark_paths.specs.Pair.{Digest}
use Rattle.ark_paths.specs.Rows.{digests_of}
use Rattle.incremental_trees.specs.Incremental.{HoldsLeaves}
use Rattle.incremental_trees.specs.KeptPaths.{IsKeptPath}
use Rattle.incremental_trees.specs.Nodes.{nodes_beside}
use Rattle.incremental_trees.proofs.kept_path.KeptPath.nodes.Given as goal

abbrev pub invariant-loop-level : goal.invariant-loop-level
invariant-loop-level g l =
    let hash = g.T.LevelHasher.nodes l.fn.tree.hasher in
    record {
      made : (leaves : List Digest) → HoldsLeaves hash leaves l.fn.tree
          → IsKeptPath hash l.fn.tree.empty leaves l.fn.tree.depth l.fn.self
          → nodes_beside hash l.fn.tree.empty leaves l.level l.fn.self.index
          ≡ Ok (digests_of g.D.Numbered.numbers l.nodes);
    }
