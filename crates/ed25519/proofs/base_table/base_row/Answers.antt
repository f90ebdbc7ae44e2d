use Rattle.std.proofs.Common.{◌-◌, [], get_or, ◌∙◌, ap, arith}
use Rattle.ed25519.proofs.BaseRows.{row_from}
use Rattle.ed25519.proofs.base_table.base_row.Goals as goal

pub returns-then-i-lt4 : goal.returns-then-i-lt4
returns-then-i-lt4 c =
    ap (λ r. get_or r c.args.i []) c.first_rows.ensures ∙ row_from 0 c.args.i c.args.i []
    (omega (arith, c.if-i-lt4.true)) (omega arith)

pub returns-then-i-lt8 : goal.returns-then-i-lt8
returns-then-i-lt8 c =
    let i = c.args.i in
    ap (λ r. get_or r (i - 4) []) c.second_rows.ensures ∙ row_from 64 (i - 4) i []
    (omega (arith, c.if-i-lt8.true)) (omega (arith, c.if-i-lt4.false))

pub returns-then-i-lt12 : goal.returns-then-i-lt12
returns-then-i-lt12 c =
    let i = c.args.i in
    ap (λ r. get_or r (i - 8) []) c.third_rows.ensures ∙ row_from 128 (i - 8) i []
    (omega (arith, c.if-i-lt12.true)) (omega (arith, c.if-i-lt8.false))

pub returns-else-i-lt12 : goal.returns-else-i-lt12
returns-else-i-lt12 c =
    let i = c.args.i in
    ap (λ r. get_or r (i - 12) []) c.last_rows.ensures ∙ row_from 192 (i - 12) i []
    (omega (arith, c.requires)) (omega (arith, c.if-i-lt12.false))
