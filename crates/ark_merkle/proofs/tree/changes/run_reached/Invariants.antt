use Rattle.std.proofs.Common.{◌≡◌, ◌+◌, ◌++◌, ◌≤◌, length}
use Rattle.std.specs.List.{zip}
use Rattle.ark_crh.specs.Ahead.{lent_couples}
use Rattle.ark_merkle.proofs.HashedCouples.{reached_from}
use Rattle.ark_merkle.proofs.tree.changes.run_reached.Given as goal

abbrev pub invariant-reached : goal.invariant-reached
invariant-reached g l =
    let numbers = g.D.Numbered.numbers in
    record {
      found : reached_from numbers l.row l.changes l.next
          ≡ zip l.places.items (lent_couples numbers l.couples.items) ++ reached_from numbers l.row l.changes l.behind;
      same : length l.places.items ≡ length l.couples.items;
      from : l.next + l.counter ≤ l.behind;
      inside : l.behind ≤ length l.changes;
    }
