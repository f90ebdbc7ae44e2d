use Rattle.std.proofs.Common.{◌-◌, map, take, sym, ◌∙◌}
use Rattle.merkle_log.specs.Binding.{IsHighest}
use Rattle.merkle_log.specs.Stored.{row_at}
use Rattle.merkle_log.proofs.Climbing.{shown-stands, shown-collides}
use Rattle.merkle_log.proofs.bind.log_binding_of.Goals as goal

pub returns-clause-stands : goal.returns-clause-stands
returns-clause-stands g c = λ is empty.
    shown-stands (IsHighest (g.T.TreeHasher.hashes c.args.hasher.now).pair.upper empty (take c.args.size
    (row_at c.args.rows.now 0)) c.args.index (c.args.size - 1) (g.D.Numbered.numbers c.args.digest.now)
    (map g.D.Numbered.numbers c.args.path.now)) c.in_ok-highest.highest (sym c.binding_by.ensures ∙ is)
    (c.in_ok-highest.ensures.highest empty)

pub returns-clause-collides : goal.returns-clause-collides
returns-clause-collides g c = λ level is empty.
    shown-collides (IsHighest (g.T.TreeHasher.hashes c.args.hasher.now).pair.upper empty (take c.args.size
    (row_at c.args.rows.now 0)) c.args.index (c.args.size - 1) (g.D.Numbered.numbers c.args.digest.now)
    (map g.D.Numbered.numbers c.args.path.now)) c.in_ok-highest.highest level (sym c.binding_by.ensures ∙ is)
    (c.in_ok-highest.ensures.highest empty)
