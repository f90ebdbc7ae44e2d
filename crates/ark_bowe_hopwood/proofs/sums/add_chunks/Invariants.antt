use Rattle.std.proofs.Common.{◌≡◌, ◌-◌, ◌*◌, ℕ, drop}
use Rattle.ark_groups.specs.Bits.{bits_of_number}
use Rattle.ark_pedersen.specs.Pedersen.{lists_in, concatenation}
use Rattle.ark_bowe_hopwood.specs.BoweHopwood.{chunks_of, digits_sum}
use Rattle.ark_bowe_hopwood.proofs.sums.add_chunks.Given as goal

-- what was added, and what is still to be added, are the whole
abbrev pub invariant-loop-place : goal.invariant-loop-place
invariant-loop-place g l =
    let group = g.G.AdditiveGroup.group in
    let total = g.G.AdditiveGroup.total in
    let all = concatenation (lists_in l.generators) in
    let sum = λ (place number : ℕ). digits_sum group (drop place all) (chunks_of (bits_of_number (3 * (l.end - place))
    number)) in
    group.plus (total l.sum) (sum l.place l.number) ≡ group.plus (total l.fn.sum) (sum l.first l.fn.number)
