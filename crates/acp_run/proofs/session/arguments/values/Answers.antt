use Rattle.std.proofs.Common.{◌∙◌, map, ap, sym}
use Rattle.std.specs.Option.{option_map, option_copied}
use Rattle.std.proofs.lemmas.List.{map_push}
use Rattle.acp_run.specs.Arguments.{values}
use Rattle.acp_run.specs.Lines.{tokens_left}
use Rattle.acp_run.proofs.Values.{behind, behind-more, behind-nothing, behind-all}
use Rattle.acp_run.proofs.session.arguments.values.Goals as goal

pub returns-in-None : goal.returns-in-None
returns-in-None g c = λ p.
    let value = g.A.Argument.value_of p in
    let front = map (g.A.Argument.seen p) c.loop-left.values.items in
    let so_far = c.loop-left.invariant p ∙ ap (λ o. behind front (values value (tokens_left (option_copied o))))
    c.in-Some.is ∙ ap (λ ts. behind front (values value ts)) c.first_token.ensures.tokens in
    sym (behind-nothing _ front _ _ so_far (sym (c.in_ok-value.ensures p) ∙ ap (option_map (g.A.Argument.seen p))
    c.in-None.is))

pub loop-left-preserved : goal.loop-left-preserved
loop-left-preserved g c = λ p.
    let value = g.A.Argument.value_of p in
    let front = map (g.A.Argument.seen p) c.loop-left.values.items in
    let so_far = c.loop-left.invariant p ∙ ap (λ o. behind front (values value (tokens_left (option_copied o))))
    c.in-Some.is ∙ ap (λ ts. behind front (values value ts)) c.first_token.ensures.tokens in
    rw (c.in_ok-push-in-Some-2.ensures.items, map_push) (behind-more _ front _ _ _ so_far (sym (c.in_ok-value.ensures p)
    ∙ ap (option_map (g.A.Argument.seen p)) c.in-Some-2.is))

pub returns : goal.returns
returns g c = λ p.
    let value = g.A.Argument.value_of p in
    let front = map (g.A.Argument.seen p) c.loop-left.values.items in
    sym (behind-all _ front (c.loop-left.invariant p
    ∙ ap (λ o. behind front (values value (tokens_left (option_copied o)))) c.in_default.is))
