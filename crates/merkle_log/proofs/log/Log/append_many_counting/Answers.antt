use Rattle.std.proofs.Common.{◌≡◌, length, ap, sym, ◌∙◌}
use Rattle.merkle_log.proofs.Positions.{length-row_of}
use Rattle.merkle_log.proofs.log.Log.append_many_counting.Goals as goal

pub returns-in-Ok-clause-count : goal.returns-in-Ok-clause-count
returns-in-Ok-clause-count g c =
    let old = c.reserve.new.self in
    let new = c.append_each.new.stored in
    let before : length c.args.self.now.digests ≡ old.size =
    sym (ap (λ log. length log.digests) c.self.view_is) ∙ length-row_of c.self.inside.stored 0
    ∙ sym (ap (λ stored. stored.size) c.in_ok-reserve.ensures.same) in
    rw (before, length-row_of new 0) c.in-Ok.ensures.counts
