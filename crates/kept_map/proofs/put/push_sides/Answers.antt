use Rattle.std.proofs.Common.{true, false, sym, subst}
use Rattle.kept_map.specs.Changed.{fork_of}
use Rattle.kept_map.specs.KeptMap.{LaidAt}
use Rattle.kept_map.proofs.Made.{sides-made}
use Rattle.kept_map.proofs.put.push_sides.Goals as goal

pub returns-then-is_right-clause-lies : goal.returns-then-is_right-clause-lies
returns-then-is_right-clause-lies c = λ h entries tree other own beside.
    let made = sides-made h entries c.args.forks.now c.push_fork.new.forks c.args.count.now c.push_fork.result
    c.push_fork.ensures.before c.push_fork.ensures.digest c.push_fork.ensures.number true c.args.own c.args.beside
    tree other
    c.push_fork.ensures.left c.push_fork.ensures.right own beside in
    subst (λ b. LaidAt h entries c.push_fork.new.forks c.push_fork.new.count c.push_fork.result (fork_of b tree other))
    (sym c.if-is_right.true)
    (subst (λ n. LaidAt h entries c.push_fork.new.forks n c.push_fork.result (fork_of true tree other))
    (sym c.push_fork.ensures.count) made)

pub returns-else-is_right-clause-lies : goal.returns-else-is_right-clause-lies
returns-else-is_right-clause-lies c = λ h entries tree other own beside.
    let made = sides-made h entries c.args.forks.now c.push_fork-else-is_right.new.forks c.args.count.now
    c.push_fork-else-is_right.result
    c.push_fork-else-is_right.ensures.before c.push_fork-else-is_right.ensures.digest
    c.push_fork-else-is_right.ensures.number false c.args.own c.args.beside tree other
    c.push_fork-else-is_right.ensures.left c.push_fork-else-is_right.ensures.right own beside in
    subst (λ b. LaidAt h entries c.push_fork-else-is_right.new.forks c.push_fork-else-is_right.new.count
    c.push_fork-else-is_right.result (fork_of b tree other))
    (sym c.if-is_right.false)
    (subst (λ n. LaidAt h entries c.push_fork-else-is_right.new.forks n c.push_fork-else-is_right.result (fork_of
    false tree other))
    (sym c.push_fork-else-is_right.ensures.count) made)
