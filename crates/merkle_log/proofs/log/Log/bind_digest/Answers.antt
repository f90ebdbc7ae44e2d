use Rattle.merkle_log.proofs.Climbing.{if_ok}
use Rattle.merkle_log.proofs.log.Log.bind_digest.Goals as goal

pub returns-clause-stands : goal.returns-clause-stands
returns-clause-stands g c =
    rw (← c.self.view_is) (if_ok c.log_binding_of.result (λ binding known is.
    known is (g.D.Numbered.numbers c.self.inside.empty)) c.log_binding_of.ensures.stands)

pub returns-clause-collides : goal.returns-clause-collides
returns-clause-collides g c =
    rw (← c.self.view_is) (if_ok c.log_binding_of.result (λ binding known level is.
    known level is (g.D.Numbered.numbers c.self.inside.empty)) c.log_binding_of.ensures.collides)
