use Rattle.std.proofs.Common.{◌≡◌, ◌++◌, Bor, take}
use Rattle.ark_merkle.specs.Batch.{last_changes}
use Rattle.ark_merkle.specs.Changed.{lent_changes, seen_changes}
use Rattle.ark_merkle.proofs.tree.batch.last_leaves.Given as goal

abbrev pub invariant-each : goal.invariant-each
invariant-each g l = lent_changes l.last ≡ take l.n l.changes

-- the entries that are left stand behind those that are lent
abbrev pub invariant-entry : goal.invariant-entry
invariant-entry g l =
    lent_changes l.last ++ seen_changes (λ (leaf : Bor _). leaf.now) l.index-iterator ≡ last_changes l.changes
