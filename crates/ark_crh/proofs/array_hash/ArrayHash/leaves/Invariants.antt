use Rattle.std.proofs.Common.{◌≡◌, map, take}
use Rattle.ark_crh.proofs.array_hash.ArrayHash.leaves.Given as goal

abbrev pub invariant-each : goal.invariant-each
invariant-each g l =
    take l.place l.digests ≡ map (λ leaf. g.Self.ArrayHash.leaf_hash leaf.now) (take l.place l.leaves)
