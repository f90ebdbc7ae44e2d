use Rattle.std.proofs.Common.{◌≡◌, ◌++◌, length, map, take}
use Rattle.std.specs.List.{zip}
use Rattle.ark_merkle.specs.Changed.{seen_changes}
use Rattle.ark_merkle.proofs.tree.changes.push_changes.Given as goal

abbrev pub invariant-digests : goal.invariant-digests
invariant-digests g l =
    let numbers = g.D.Numbered.numbers in
    record {
      count : l.place ≡ length l.yielded;
      left : l.yielded ++ l.digest-iterator.rest.items ≡ l.fn.digests.items;
      pushed : seen_changes numbers l.changes.items
          ≡ seen_changes numbers l.fn.changes.items ++ zip (take l.place l.places) (map numbers l.yielded);
    }
