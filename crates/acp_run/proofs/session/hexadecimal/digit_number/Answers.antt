use Rattle.std.proofs.Common.{ap, ◌∙◌, get_or, arith}
use Rattle.std.proofs.lemmas.List.FromFn.{get_or-map-range_with_len}
use Rattle.acp_run.specs.Tokens.{digit_number}
use Rattle.acp_run.proofs.session.hexadecimal.digit_number.Goals as goal

pub returns : goal.returns
returns c =
    ap (λ list. get_or list c.args.digit 0) c.all_digits.ensures
    ∙ get_or-map-range_with_len digit_number 0 256 c.args.digit c.args.digit 0 (omega (arith, c.ranges.digit))
    (omega arith)
