use Rattle.ark_poseidon_parameters.proofs.Powers.{first_power, powers_multiplied}
use Rattle.ark_poseidon_parameters.proofs.sbox.seventeenth_power.Goals as goal

pub returns : goal.returns
returns g c =
    let x = g.F.Valued.value c.args.x in
    let p = g.F.Field.MODULUS in
    let first = first_power x p (g.met.F.Field.laws.below c.args.x) in
    let second = powers_multiplied x 1 1 p _ _ _ first first c.mul-second.ensures in
    let fourth = powers_multiplied x 2 2 p _ _ _ second second c.mul-fourth.ensures in
    let eighth = powers_multiplied x 4 4 p _ _ _ fourth fourth c.mul-eighth.ensures in
    let sixteenth = powers_multiplied x 8 8 p _ _ _ eighth eighth c.mul-sixteenth.ensures in
    powers_multiplied x 16 1 p _ _ _ sixteenth first c.mul.ensures
