use Rattle.std.proofs.Common.{◌≡◌, Bor, length, take}
use Rattle.std.specs.List.{zip}
use Rattle.ark_crh.specs.Ahead.{lent}
use Rattle.ark_merkle.specs.Changed.{seen_changes}
use Rattle.ark_merkle.proofs.tree.batch.parted.Given as goal

abbrev pub invariant-changes : goal.invariant-changes
invariant-changes g l =
    record {
      parts : zip l.indexes.items (lent l.leaves.items)
          ≡ seen_changes (λ (leaf : Bor _). leaf.now) (take l.place l.changes);
      same : length l.indexes.items ≡ length l.leaves.items;
    }
