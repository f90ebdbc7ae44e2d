use Rattle.std.proofs.Common.{◌≡◌, ◌*◌, drop}
use Rattle.ark_pedersen.specs.Pedersen.{lists_in, concatenation}
use Rattle.ark_bowe_hopwood.specs.BoweHopwood.{chunks_of, digits_sum}
use Rattle.ark_bowe_hopwood.proofs.bits.sum_of_bits.Given as goal

-- what was added, and what is still to be added, are the whole
abbrev pub invariant-loop-place : goal.invariant-loop-place
invariant-loop-place g l =
    let group = g.G.AdditiveGroup.group in
    let all = concatenation (lists_in l.generators) in
    group.plus (g.G.AdditiveGroup.total l.sum) (digits_sum group (drop l.place all)
    (chunks_of (drop (3 * l.place) l.bits)))
    ≡ digits_sum group all (chunks_of l.bits)
