use Rattle.std.proofs.Common.{map, ◌∙◌, arith}
use Rattle.std.proofs.lemmas.List.{length-map}
use Rattle.ark_sponge.proofs.Permuting.{numbers-below}
use Rattle.ark_sponge.proofs.poseidon.config.run_partial_rounds.Goals as goal

pub returns-in-Some : goal.returns-in-Some
returns-in-Some g c =
    let f = g.F.Valued.value in
    let state = c.args.state.now in
    let are = rw c.in-Some.is at c.requires.recurrence in
    c.apply.ensures
    ∙ are.1 (g.S.SBox.image c.args.alpha) (map f state)
    (omega (arith, length-map state f, length-map c.args.mds.now (λ row. map f row.items), c.requires.mds))
    (numbers-below f g.F.Field.MODULUS state g.met.F.Field.laws.below)
