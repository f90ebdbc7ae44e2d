use Rattle.std.proofs.Common.{◌≤◌, length-set, map, drop, length, ap, ◌∙◌, arith}
use Rattle.ark_sponge.proofs.Permuting.{numbers-below}
use Rattle.std.proofs.lemmas.List.{length-map, length-drop}
use Rattle.ark_sponge.specs.Table.{short_permutation}
use Rattle.circom.proofs.Hashing.{begun, first_read, hash_is, read_first}
use Rattle.circom.proofs.hash.hash_state.Goals as goal

pub returns-clause-hash : goal.returns-clause-hash
returns-clause-hash g c = λ parameters short one.
    let f = g.F.Valued.value in
    let p = g.F.Field.MODULUS in
    let state = c.args.state.now in
    let after = c.permute.new.state in
    let has : 1 ≤ length after =
    omega (arith, c.permute.auto.state, length-set state 0 c.zero.result, c.requires.some) in
    let start = begun f state c.zero.result c.requires.some c.zero.ensures in
    hash_is p g.S.SBox.image parameters c.args.short.now (map f (drop 1 state)) (map f after)
    (f c.index-state-0.result) (omega (arith, g.F.Field.modulus_laws.at_least_two)) short one
    (omega (arith, length-map (drop 1 state) f, length-drop 1 state, c.requires.wide, c.requires.some))
    (numbers-below f p (drop 1 state) g.met.F.Field.laws.below) (c.permute.ensures
    ∙ ap (short_permutation p g.S.SBox.image c.args.short.now) start)
    (omega (arith, length-map after f, has))
    (read_first f after c.index-state-0.result has c.index-state-0.is)

pub returns-clause-first : goal.returns-clause-first
returns-clause-first g c =
    let f = g.F.Valued.value in
    let state = c.args.state.now in
    let after = c.permute.new.state in
    let has : 1 ≤ length after =
    omega (arith, c.permute.auto.state, length-set state 0 c.zero.result, c.requires.some) in
    first_read f after c.index-state-0.result _ has c.index-state-0.is (c.permute.ensures
    ∙ ap (short_permutation g.F.Field.MODULUS g.S.SBox.image c.args.short.now)
    (begun f state c.zero.result c.requires.some c.zero.ensures))
