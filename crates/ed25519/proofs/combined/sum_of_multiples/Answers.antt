use Rattle.ed25519.specs.Edwards25519.{d}
use Rattle.ed25519.specs.Laws.Curve.{ed25519_is_complete}
use Rattle.ed25519.proofs.combined.sum_of_multiples.Goals as goal

pub returns : goal.returns
returns c = c.sum_of_multiples_public.ensures d ed25519_is_complete c.requires
