use Rattle.std.proofs.Common.{◌≡◌, map}
use Rattle.std.specs.Option.{option_copied}
use Rattle.acp_run.specs.Arguments.{values}
use Rattle.acp_run.specs.Lines.{tokens_left}
use Rattle.acp_run.proofs.Values.{behind, left_size}
use Rattle.acp_run.proofs.session.arguments.values.Given as goal

-- the values so far, and what the tokens that are left say, are the whole
abbrev pub invariant-loop-left : goal.invariant-loop-left
invariant-loop-left g l = (p : _) → values (g.A.Argument.value_of p) (tokens_left (option_copied l.fn.left))
    ≡ behind (map (g.A.Argument.seen p) l.values.items) (values (g.A.Argument.value_of p)
    (tokens_left (option_copied l.left)))

abbrev pub decreases-loop-left : goal.decreases-loop-left
decreases-loop-left g l = left_size (option_copied l.left)
