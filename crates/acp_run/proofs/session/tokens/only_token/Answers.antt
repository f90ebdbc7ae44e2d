use Rattle.std.proofs.Common.{◌∙◌, ◌∷◌, ap}
use Rattle.std.specs.Option.{option_copied}
use Rattle.acp_run.specs.Lines.{tokens_left}
use Rattle.acp_run.proofs.Cutting.{not_one}
use Rattle.acp_run.proofs.session.tokens.only_token.Goals as goal

pub returns-in-Some-clause-none : goal.returns-in-Some-clause-none
returns-in-Some-clause-none c = λ token one. not_one _ token c.first_token.result.0.now c.in-Some.field-0.now
    (ap (λ o. tokens_left (option_copied o)) c.in_ok-left.was ∙ c.first_token.ensures.tokens
    ∙ ap (λ o. c.first_token.result.0.now ∷ tokens_left (option_copied o)) c.in-Some.is) one
