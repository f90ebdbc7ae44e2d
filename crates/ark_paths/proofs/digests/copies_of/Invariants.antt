use Rattle.std.proofs.Common.{◌≡◌, map, take}
use Rattle.ark_paths.proofs.digests.copies_of.Given as goal

abbrev pub invariant-loop-digest : goal.invariant-loop-digest
invariant-loop-digest g l = map g.D.Numbered.numbers l.copies.items ≡ map g.D.Numbered.numbers
    (take l.digest-index l.digests)
