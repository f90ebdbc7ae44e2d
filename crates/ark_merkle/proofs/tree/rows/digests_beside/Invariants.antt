use Rattle.std.proofs.Common.{◌≡◌, map, reverse}
use Rattle.ark_paths.specs.Rows.{beside_in}
use Rattle.ark_merkle.proofs.tree.rows.digests_beside.Given as goal

-- the digests so far are the last ones, in the other order
abbrev pub invariant-loop-level : goal.invariant-loop-level
invariant-loop-level g l = beside_in l.rows l.level l.index ≡ map g.D.Numbered.numbers (reverse l.digests.items)
