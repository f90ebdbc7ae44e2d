use Rattle.std.proofs.Common.{◌≡◌, ◌≤◌, ◌+◌, ◌*◌, ◌-◌, ℕ, Bool, List, length, drop}
use Rattle.ark_pedersen.specs.Pedersen.{bits_of_bytes, lists_in, sum_from}
use Rattle.ark_pedersen.proofs.sums.add_bytes.Given as goal

-- what was added, and what is still to be added, are the whole
abbrev pub invariant-loop-start : goal.invariant-loop-start
invariant-loop-start g l =
    let group = g.C.AdditiveGroup.group in
    let total = g.C.AdditiveGroup.total in
    let sum = λ (start : ℕ) (bits : List Bool). sum_from group start (lists_in l.generators) bits in
    (group.plus (total l.sum) (sum (l.first + 8 * l.start) (bits_of_bytes (drop l.start l.bytes)))
    ≡ group.plus (total l.fn.sum) (sum l.first (bits_of_bytes l.bytes)))
    × (l.start ≤ length l.bytes)

abbrev pub decreases-loop-start : goal.decreases-loop-start
decreases-loop-start g l = length l.initial.bytes - l.start
