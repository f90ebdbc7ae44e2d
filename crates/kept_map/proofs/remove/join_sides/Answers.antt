use Rattle.std.proofs.Common.{◌+◌, true, sym, subst}
use Rattle.kept_map.specs.Changed.{rejoined_of}
use Rattle.kept_map.specs.KeptMap.{fork_count}
use Rattle.kept_map.specs.Lying.{LiesMade}
use Rattle.kept_map.proofs.Removing.{made-turned}
use Rattle.kept_map.proofs.remove.join_sides.Goals as goal

pub returns-then-is_right-clause-made : goal.returns-then-is_right-clause-made
returns-then-is_right-clause-made c = λ h nothing entries tree other own beside.
    subst (λ b. LiesMade h entries c.join.new.forks c.join.new.count c.join.result (rejoined_of b nothing tree other)
    c.args.count.now (fork_count tree + fork_count other)) (sym c.if-is_right.true)
    (made-turned h entries c.join.new.forks c.join.new.count c.join.result (rejoined_of true nothing tree other)
    c.args.count.now (fork_count other) (fork_count tree) (c.join.ensures.made h nothing entries other tree beside own))
