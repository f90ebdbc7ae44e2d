use Rattle.std.proofs.Common.{◌≡◌, ◌≤◌, length, drop, None}
use Rattle.signed_notes.specs.Cutting.{cut_at_blank}
use Rattle.signed_notes.proofs.cutting.cut_at_blank.Given as goal

abbrev pub invariant-places : goal.invariant-places
invariant-places l = record {
  inside : l.at ≤ length l.bytes;
  none : cut_at_blank (drop l.at l.bytes) ≡ None;
}

abbrev pub decreases-places : goal.decreases-places
decreases-places l = l.at
