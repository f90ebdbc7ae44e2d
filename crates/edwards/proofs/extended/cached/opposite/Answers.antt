use Rattle.ark_groups.specs.Words.{number}
use Rattle.edwards.specs.Values.{value}
use Rattle.edwards.proofs.CachedSums.{negative_cached}
use Rattle.edwards.proofs.extended.cached.opposite.Goals as goal

pub returns : goal.returns
returns g c d s on of_b =
    let b = c.args.b in
    negative_cached (number g.M.WideModulus.P) d (value b.less) (value b.more) (value b.scale) (value b.cross)
    (value c.neg.result) c.neg.ensures s on of_b
