use Rattle.std.proofs.Common.{◌≡◌, take}
use Rattle.ark_pedersen.specs.Pedersen.{lists_in, concatenation}
use Rattle.test_support.proofs.bowe_hopwood.concatenation.Given as goal

abbrev pub invariant-loop-list : goal.invariant-loop-list
invariant-loop-list g l = l.all.items ≡ concatenation (lists_in (take l.list-index l.lists))
