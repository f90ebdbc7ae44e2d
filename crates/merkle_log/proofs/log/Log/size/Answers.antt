use Rattle.std.proofs.Common.{ap, sym, length, ◌∙◌}
use Rattle.merkle_log.proofs.Positions.{length-row_of}
use Rattle.merkle_log.proofs.log.Log.size.Goals as goal

pub returns : goal.returns
returns g c = c.size.ensures ∙ sym (length-row_of c.self.inside.stored 0) ∙ ap (λ log. length log.digests)
    c.self.view_is
