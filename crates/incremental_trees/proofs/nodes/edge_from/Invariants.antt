use Rattle.std.proofs.Common.{◌≡◌, ◌≤◌, ◌/◌, ◌^◌, ℕ, List, map, Ok}
use Rattle.ark_paths.specs.Pair.{Digest}
use Rattle.incremental_trees.specs.Nodes.{node_at}
use Rattle.incremental_trees.proofs.Edges.{IsKept}
use Rattle.incremental_trees.proofs.nodes.edge_from.Given as goal

abbrev pub invariant-loop-level : goal.invariant-loop-level
invariant-loop-level g l =
    let numbers = g.D.Numbered.numbers in
    let hash = g.T.LevelHasher.nodes l.hasher in
    record {
      at : (empty : Digest) (leaves : List Digest) (depth : ℕ)
          → IsKept hash empty leaves l.fn.size depth (map numbers l.empties) (map numbers l.filled)
          → l.top ≤ depth
          → node_at hash empty leaves l.fn.first (l.fn.size / 2 ^ l.fn.first) ≡ Ok (numbers l.fn.lowest)
          → node_at hash empty leaves l.level (l.fn.size / 2 ^ l.level) ≡ Ok (numbers l.node);
    }
