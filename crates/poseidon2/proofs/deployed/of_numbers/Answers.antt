use Rattle.poseidon2.proofs.Drawn.{numbers-answer}
use Rattle.poseidon2.proofs.deployed.of_numbers.Goals as goal

pub returns : goal.returns
returns g c = numbers-answer _ _ _ _ c.args.numbers.now _ _ c.requires.width c.requires.counts
    c.in_ok-diagonal.ensures c.poseidon2_parameters.ensures
