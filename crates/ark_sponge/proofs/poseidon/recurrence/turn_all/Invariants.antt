use Rattle.std.proofs.Common.{◌≡◌, map, take, fold}
use Rattle.ark_sponge.specs.Recurrence.{short_round}
use Rattle.ark_sponge.proofs.poseidon.recurrence.turn_all.Given as goal

abbrev pub invariant-loop-constant : goal.invariant-loop-constant
invariant-loop-constant g l =
    let f = g.F.Valued.value in
    map f l.state
    ≡ fold (short_round g.F.Field.MODULUS (g.S.SBox.image l.alpha) (map f l.output) (map f l.feedback))
    (map f l.initial.state) (take l.constant-index (map f l.constants))
