use Rattle.std.proofs.Common.{◌≡◌, ◌+◌, length, get_or, []}
use Rattle.ark_paths.specs.Rows.{digests_of}
use Rattle.incremental_trees.specs.Incremental.{AreEmpty}
use Rattle.incremental_trees.proofs.nodes.empty_nodes.Given as goal

abbrev pub invariant-loop-level : goal.invariant-loop-level
invariant-loop-level g l =
    let numbers = g.D.Numbered.numbers in
    record {
      count : length l.nodes.items ≡ l.level + 1;
      first : get_or (digests_of numbers l.nodes) 0 [] ≡ numbers l.fn.empty;
      made : AreEmpty (g.T.LevelHasher.nodes l.hasher) (numbers l.fn.empty) l.level (digests_of numbers l.nodes);
    }
