use Rattle.std.proofs.Common.{sym, ◌∙◌}
use Rattle.std.proofs.lemmas.Simd.{length-zip2}
use Rattle.edwards.proofs.entries.or.Goals as goal

pub returns-clause-wide : goal.returns-clause-wide
returns-clause-wide c = length-zip2 _ c.args.x c.args.y (c.fits-x.0 ∙ sym c.fits-y.0) ∙ c.fits-x.0
