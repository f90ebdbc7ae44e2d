use Rattle.std.proofs.Common.{◌≡◌, ◌++◌, ◌-◌, ◌*◌, drop, map}
use Rattle.ark_pedersen.specs.Binding.{window_numbers, differences}
use Rattle.ark_pedersen.proofs.binding.differences_of.Given as goal

-- what is found, and the differences of the windows that are left, are all differences
abbrev pub invariant-loop-i : goal.invariant-loop-i
invariant-loop-i g l =
    let r = g.F.Field.MODULUS in
    map g.F.Valued.value l.found.items ++ differences r (window_numbers l.size (l.count - l.i)
    (drop (l.size * l.i) l.left))
    (window_numbers l.size (l.count - l.i) (drop (l.size * l.i) l.right))
    ≡ differences r (window_numbers l.size l.count l.left) (window_numbers l.size l.count l.right)
