use Rattle.std.proofs.Common.{◌+◌, arith, add-one}
use Rattle.std.proofs.lemmas.List.{take_rest}
use Rattle.acp_run.proofs.Cutting.{tokens_of-one, tokens_of-cut}
use Rattle.acp_run.proofs.session.tokens.first_token.Goals as goal

pub returns-in-None-clause-tokens : goal.returns-in-None-clause-tokens
returns-in-None-clause-tokens c = tokens_of-one c.args.line.now (λ k lt here. c.in-None.ensures k (omega arith) lt here)

pub returns-in-Some-clause-tokens : goal.returns-in-Some-clause-tokens
returns-in-Some-clause-tokens c =
    let xs = c.args.line.now in
    let i = c.in-Some.space in
    let cut = tokens_of-cut xs i c.in-Some.ensures.0.high c.in-Some.ensures.1 (λ k lt here. c.in-Some.ensures.0.before k
    (omega arith) lt here) in
    rw (take_rest xs (i + 1), add-one) cut
