use Rattle.std.proofs.Common.{◌≡◌, drop}
use Rattle.ark_pedersen.specs.Pedersen.{lists_in, concatenation, pedersen_sum}
use Rattle.ark_pedersen.proofs.bits.sum_of_bits.Given as goal

-- what was added, and what is still to be added, are the whole
abbrev pub invariant-loop-place : goal.invariant-loop-place
invariant-loop-place g l =
    let group = g.C.AdditiveGroup.group in
    let all = concatenation (lists_in l.generators) in
    group.plus (g.C.AdditiveGroup.total l.sum) (pedersen_sum group (drop l.place all) (drop l.place l.bits))
    ≡ pedersen_sum group all l.bits
