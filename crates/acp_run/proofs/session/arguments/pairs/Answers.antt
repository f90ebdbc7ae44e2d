use Rattle.std.proofs.Common.{◌∙◌, map, ap, sym}
use Rattle.std.specs.Option.{option_map, option_copied}
use Rattle.std.proofs.lemmas.List.{map_push}
use Rattle.acp_run.specs.Arguments.{pairs}
use Rattle.acp_run.specs.Lines.{tokens_left}
use Rattle.acp_run.proofs.Values.{behind, behind-start, behind-more}
use Rattle.acp_run.proofs.session.arguments.pairs.Goals as goal

pub loop-left-init : goal.loop-left-init
loop-left-init g c = λ p q.
    let seen : g.row.A-Value.Denot × g.row.B-Value.Denot → g.A.Argument.Seen × g.B.Argument.Seen =
    λ x. (g.A.Argument.seen p x.0, g.B.Argument.seen q x.1) in
    behind-start (map seen c.new-pairs.result.items) _ (ap (map seen) c.new-pairs.ensures.items)

pub loop-left-preserved : goal.loop-left-preserved
loop-left-preserved g c = λ p q.
    let said = pairs (g.A.Argument.value_of p) (g.B.Argument.value_of q) in
    let seen : g.row.A-Value.Denot × g.row.B-Value.Denot → g.A.Argument.Seen × g.B.Argument.Seen =
    λ x. (g.A.Argument.seen p x.0, g.B.Argument.seen q x.1) in
    let front = map seen c.loop-left.pairs.items in
    let so_far = c.loop-left.invariant p q ∙ ap (λ o. behind front (said (tokens_left (option_copied o)))) c.in-Some.is
    ∙ ap (λ ts. behind front (said ts)) c.in-Some-first_two_tokens.ensures.some in
    rw (c.in_ok-push-in-Some-2.ensures.items, map_push) (behind-more _ front _ _ _ so_far
    (sym (c.in_ok-pair.ensures p q) ∙ ap (option_map seen) c.in-Some-2.is))
