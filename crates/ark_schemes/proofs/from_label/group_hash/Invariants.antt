use Rattle.ark_schemes.proofs.GroupHashes.{IsFoundFrom}
use Rattle.ark_schemes.proofs.from_label.group_hash.Given as goal

abbrev pub invariant-loop-last : goal.invariant-loop-last
invariant-loop-last g l = IsFoundFrom g.C.FromDigest.found_in l.label l.text l.last
