use Rattle.std.proofs.Common.{◌≡◌, ◌≤◌, ℕ, drop}
use Rattle.ark_groups.specs.Bits.{bits_of_number}
use Rattle.ark_pedersen.specs.Pedersen.{pedersen_sum}
use Rattle.ark_schemes.proofs.commitment.pedersen.add_set_bits.Given as goal

-- what was added, and what is still to be added, are the whole
abbrev pub invariant-loop-word : goal.invariant-loop-word
invariant-loop-word g l =
    let group = g.C.AdditiveGroup.group in
    let total = g.C.AdditiveGroup.total in
    let sum = λ (word : ℕ). pedersen_sum group (drop l.first l.elements) (bits_of_number 64 word) in
    (group.plus (total l.sum) (sum l.word) ≡ group.plus (total l.fn.sum) (sum l.fn.word)) × (l.word ≤ l.fn.word)

abbrev pub decreases-loop-word : goal.decreases-loop-word
decreases-loop-word g l = l.word
