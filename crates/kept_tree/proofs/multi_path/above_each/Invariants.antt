use Rattle.std.proofs.Common.{◌≡◌, [], map, take}
use Rattle.ark_paths.specs.Sharing.{prefixes_of, suffixes_of}
use Rattle.kept_tree.specs.KeptTree.{digests_above}
use Rattle.kept_tree.proofs.multi_path.above_each.Given as goal

abbrev pub invariant-places : goal.invariant-places
invariant-places l =
    let lists = map (digests_above l.memory) (take l.place l.indexes) in
    record {
      prefixes : l.prefixes.items ≡ prefixes_of [] lists;
      suffixes : map (λ digests. digests.items) l.suffixes.items ≡ suffixes_of [] lists;
    }
