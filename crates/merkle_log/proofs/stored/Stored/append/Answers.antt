use Rattle.std.proofs.Common.{sym, ◌∙◌}
use Rattle.std.proofs.lemmas.List.{length-map}
use Rattle.merkle_log.proofs.Completing.{completes-count, completes-appends}
use Rattle.merkle_log.proofs.stored.Stored.append.Goals as goal

pub invariant_of-self : goal.invariant_of-self
invariant_of-self g c =
    sym (length-map c.complete.new.digests.items g.D.Numbered.numbers) ∙ completes-count c.in-Ok.ensures.completed
    (length-map c.self.inside.digests.items g.D.Numbered.numbers ∙ c.self.invariant)

pub returns-in-Ok-clause-appended : goal.returns-in-Ok-clause-appended
returns-in-Ok-clause-appended g c =
    rw (← c.self.view_is) (completes-appends c.in-Ok.ensures.completed
    (length-map c.self.inside.digests.items g.D.Numbered.numbers
    ∙ c.self.invariant))
