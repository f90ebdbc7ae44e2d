use Rattle.std.proofs.Common.{◌≡◌, ◌==◌, map, length}
use Rattle.std.specs.List.{list_any}
use Rattle.poseidon_grain.proofs.matrix.is_among.Given as goal

-- it is in what is left where it is in all
abbrev pub invariant-loop-first : goal.invariant-loop-first
invariant-loop-first g l =
    list_any (λ y. g.F.Valued.value l.element == y) (map g.F.Valued.value l.rest)
    ≡ list_any (λ y. g.F.Valued.value l.element == y) (map g.F.Valued.value l.elements)

abbrev pub decreases-loop-first : goal.decreases-loop-first
decreases-loop-first g l = length l.rest
