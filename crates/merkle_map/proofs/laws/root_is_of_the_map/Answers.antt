use Rattle.merkle_map.proofs.Same.{same-root}
use Rattle.merkle_map.proofs.laws.root_is_of_the_map.Goals as goal

pub returns : goal.returns
returns g c = λ a b a_map b_map same. same-root (g.H.MapViews.hashes c.args._hasher.now) a b a_map b_map same
