use Rattle.ark_schemes.proofs.Doublings.{DoubledTo}
use Rattle.ark_schemes.proofs.commitment.pedersen.prepared.doubled_element.Given as goal

abbrev pub invariant-loop-i : goal.invariant-loop-i
invariant-loop-i g l = DoubledTo g.C.AdditiveGroup.group l.elements l.i
