use Rattle.std.proofs.Common.{ap, sym, ◌∙◌}
use Rattle.merkle_log.proofs.Climbing.{if_ok}
use Rattle.merkle_log.proofs.log.Log.bind.Goals as goal

pub returns-clause-stands : goal.returns-clause-stands
returns-clause-stands g c =
    let hashed = ap (λ log. (g.T.TreeHasher.hashes log.hasher).leaf c.args.leaf.now) (sym c.self.view_is)
    ∙ c.in_ok-digest.ensures in
    if_ok c.bind_digest.result (λ binding known is. (g.D.Numbered.numbers c.in_ok-digest.digest, hashed, known is))
    c.bind_digest.ensures.stands

pub returns-clause-collides : goal.returns-clause-collides
returns-clause-collides g c =
    let hashed = ap (λ log. (g.T.TreeHasher.hashes log.hasher).leaf c.args.leaf.now) (sym c.self.view_is)
    ∙ c.in_ok-digest.ensures in
    if_ok c.bind_digest.result (λ binding known level is.
    (g.D.Numbered.numbers c.in_ok-digest.digest, hashed, known level is)) c.bind_digest.ensures.collides
