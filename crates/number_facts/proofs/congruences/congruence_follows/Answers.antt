use Rattle.number_facts.proofs.congruences.congruence_follows.Goals as goal
use Rattle.number_facts.proofs.Consequences.{follows}

pub returns : goal.returns
returns c = follows
