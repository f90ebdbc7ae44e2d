use Rattle.std.proofs.Common.{ap, ◌∙◌}
use Rattle.poseidon_grain.specs.Grain.{seeded}
use Rattle.poseidon_grain.proofs.Halves.{drawn-parts}
use Rattle.poseidon_grain.proofs.poseidon_two.poseidon2_constants.Goals as goal

pub returns-clause-drawn : goal.returns-clause-drawn
returns-clause-drawn g c =
    let a = c.args in
    let seed = c.seeded-register.ensures
    ∙ ap (λ n. seeded n a.width a.full_rounds a.partial_rounds) c.MODULUS_BIT_SIZE.ensures in
    drawn-parts g.F.Field.MODULUS g.F.Field.MODULUS_BIT_SIZE a.width a.full_rounds a.partial_rounds _ _ _ _ _ _ _ seed
    c.in_ok-first.ensures.made c.in_ok-partial.ensures.made c.in_ok-last.ensures.made
