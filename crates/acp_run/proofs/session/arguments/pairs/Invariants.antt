use Rattle.std.proofs.Common.{◌≡◌, map}
use Rattle.std.specs.Option.{option_copied}
use Rattle.acp_run.specs.Arguments.{pairs}
use Rattle.acp_run.specs.Lines.{tokens_left}
use Rattle.acp_run.proofs.Values.{behind, left_size}
use Rattle.acp_run.proofs.session.arguments.pairs.Given as goal

-- the pairs so far, and what the tokens that are left say, are the whole
abbrev pub invariant-loop-left : goal.invariant-loop-left
invariant-loop-left g l = (p : _) (q : _) →
    let said = pairs (g.A.Argument.value_of p) (g.B.Argument.value_of q) in
    let so_far = map (λ x. (g.A.Argument.seen p x.0, g.B.Argument.seen q x.1)) l.pairs.items in
    said (tokens_left (option_copied l.fn.left)) ≡ behind so_far (said (tokens_left (option_copied l.left)))

abbrev pub decreases-loop-left : goal.decreases-loop-left
decreases-loop-left g l = left_size (option_copied l.left)
