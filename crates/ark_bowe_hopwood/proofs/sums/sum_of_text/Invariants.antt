use Rattle.std.proofs.Common.{◌≡◌, ◌-◌, ◌*◌, ◌++◌, ℕ, drop}
use Rattle.ark_base.specs.Digits.{number_of_bytes}
use Rattle.ark_groups.specs.Bits.{bits_of_number}
use Rattle.ark_pedersen.specs.Pedersen.{lists_in, concatenation}
use Rattle.ark_bowe_hopwood.specs.BoweHopwood.{chunks_of, digits_sum}
use Rattle.ark_bowe_hopwood.proofs.sums.sum_of_text.Given as goal

-- what was added, and what is still to be added, are the whole
abbrev pub invariant-loop-group : goal.invariant-loop-group
invariant-loop-group g l =
    let group = g.G.AdditiveGroup.group in
    let all = concatenation (lists_in l.generators) in
    let text = l.left ++ l.right in
    let sum = λ (i : ℕ). digits_sum group (drop (8 * i) all) (chunks_of (bits_of_number (3 * (l.chunks - 8 * i))
    (number_of_bytes (drop (3 * i) text)))) in
    group.plus (g.G.AdditiveGroup.total l.sum) (sum l.group) ≡ sum 0
