use Rattle.jubjub.specs.Jubjub.{d}
use Rattle.jubjub.specs.Laws.Completeness.{jubjub_is_complete}
use Rattle.jubjub.proofs.multiple.public_sum_of_multiples.Goals as goal

pub returns : goal.returns
returns c = c.sum_of_multiples_public.ensures d jubjub_is_complete c.twice_coefficient.ensures
