use Rattle.std.proofs.Common.{◌≡◌, map, take}
use Rattle.signed_notes.specs.Counting.{lists_key}
use Rattle.signed_notes.specs.Views.{verifier_parts}
use Rattle.signed_notes.proofs.counting.lists_key.Given as goal

abbrev pub invariant-loop-one : goal.invariant-loop-one
invariant-loop-one l = l.any ≡ lists_key (map verifier_parts (take l.one-index l.keys)) (verifier_parts l.key)
