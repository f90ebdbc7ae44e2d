use Rattle.std.proofs.Common.{◌≡◌, ◌-◌, [], length, map, true, Ok}
use Rattle.ark_paths.specs.Nodes.{AllClimb, AreFirsts, AreAmongFirst, paths_after}
use Rattle.ark_paths.specs.MultiPath.{listed_way, multi_verdict}
use Rattle.ark_paths.specs.Rows.{digests_of}
use Rattle.ark_paths.proofs.multi_path.levels.find_accepted.Given as goal

-- where all nodes climb to the root, all is accepted
abbrev pub invariant-rows : goal.invariant-rows
invariant-rows g l =
    let hashes = g.T.TreeHasher.hashes l.hasher in
    let inner = g.D.Numbered.numbers in
    let above = paths_after [] l.prefixes (map (digests_of inner) l.suffixes) in
    let firsts = l.nodes.firsts.items in
    record {
      many : length l.nodes.digests.items ≡ length firsts;
      inside : AreAmongFirst (length l.indexes) firsts;
      apart : AreFirsts above l.prefixes (l.len - l.row) firsts;
      accepted : AllClimb hashes.pair (inner l.root) above l.indexes l.row (l.len - l.row) firsts
          (digests_of inner l.nodes.digests)
          → multi_verdict hashes.pair (map hashes.leaf l.leaves)
          (listed_way g.L.Numbered.numbers inner l.siblings l.prefixes l.suffixes l.indexes) (inner l.root) ≡ Ok true;
    }
