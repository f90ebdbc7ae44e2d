use Rattle.jubjub.specs.Jubjub.{d}
use Rattle.jubjub.specs.Laws.Completeness.{jubjub_is_complete}
use Rattle.jubjub.proofs.multiple.scalar_multiple.Goals as goal

pub returns : goal.returns
returns c = c.multiple.ensures d jubjub_is_complete c.twice_coefficient.ensures
