use Rattle.std.proofs.Common.{◌≡◌, map, take}
use Rattle.signed_notes.specs.Joining.{have_alike}
use Rattle.signed_notes.specs.Views.{parts}
use Rattle.signed_notes.proofs.joining.have_alike.Given as goal

abbrev pub invariant-loop-one : goal.invariant-loop-one
invariant-loop-one l = l.any ≡ have_alike (map parts (take l.one-index l.signatures)) (parts l.signature)
