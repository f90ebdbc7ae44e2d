use Rattle.ark_poseidon_parameters.proofs.Powers.{first_power, powers_multiplied}
use Rattle.ark_poseidon_parameters.proofs.sbox.third_power.Goals as goal

pub returns : goal.returns
returns g c =
    let x = g.F.Valued.value c.args.x in
    let p = g.F.Field.MODULUS in
    let first = first_power x p (g.met.F.Field.laws.below c.args.x) in
    let second = powers_multiplied x 1 1 p _ _ _ first first c.mul-second.ensures in
    powers_multiplied x 2 1 p _ _ _ second first c.mul.ensures
