use Rattle.std.proofs.Common.{◌≡◌, map, take}
use Rattle.ark_crh.proofs.array_hash.ArrayHash.nodes.Given as goal

abbrev pub invariant-each : goal.invariant-each
invariant-each g l =
    take l.place l.digests
    ≡ map (λ couple. g.Self.ArrayHash.node_hash couple.0.now couple.1.now) (take l.place l.couples)
