use Rattle.std.proofs.Common.{◌≡◌, map}
use Rattle.std.specs.Prelude.{replicate}
use Rattle.ark_paths.proofs.digests.blank_row.Given as goal

abbrev pub invariant-loop : goal.invariant-loop
invariant-loop g l = map g.D.Numbered.numbers l.digests.items ≡ replicate l.counter g.D.DigestItem.blank_numbers
