use Rattle.std.proofs.Common.{◌≡◌, List, suc, length, map}
use Rattle.ark_crh.specs.Ahead.{lent_couples}
use Rattle.ark_paths.specs.Nodes.{AreFirsts, AreAmongFirst}
use Rattle.ark_paths.specs.Pair.{Digest}
use Rattle.ark_paths.specs.Rows.{digests_of}
use Rattle.ark_paths.proofs.NodeSteps.{AreJoinedTo}
use Rattle.ark_paths.proofs.multi_path.levels.join.Given as goal

-- the nodes before are joined
abbrev pub invariant-nodes : goal.invariant-nodes
invariant-nodes g l =
    let numbers = g.X.Numbered.numbers in
    record {
      many : length l.couples.items ≡ length l.firsts.items;
      inside : AreAmongFirst (length l.indexes) l.firsts.items;
      joined : (above : List (List Digest)) → AreFirsts above l.prefixes (suc l.shared) l.nodes.firsts.items
          → AreJoinedTo above l.prefixes l.indexes l.level l.shared l.nodes.firsts.items
          (digests_of numbers l.nodes.digests) (map (λ x. numbers x.now) l.beside.items) l.node l.firsts.items
          (lent_couples numbers l.couples.items);
    }
