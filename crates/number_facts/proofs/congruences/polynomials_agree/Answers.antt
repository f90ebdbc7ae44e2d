use Rattle.number_facts.proofs.congruences.polynomials_agree.Goals as goal
use Rattle.number_facts.proofs.PolynomialValues.{same_values}

pub returns : goal.returns
returns c = same_values
