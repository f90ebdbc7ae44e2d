use Rattle.std.proofs.Common.{arith, ◌∙◌}
use Rattle.ark_paths.proofs.Tables.{put_at-within, put_at-end, put_at-past}
use Rattle.ark_paths.proofs.multi_path.table.put.Goals as goal

pub returns-then-place-len-clause-items : goal.returns-then-place-len-clause-items
returns-then-place-len-clause-items g c = put_at-within c.args.items.now.items c.args.place c.args.item
    (omega (arith, c.if-place-len.true, c.len.ensures))

pub returns-in_ok-push-clause-items : goal.returns-in_ok-push-clause-items
returns-in_ok-push-clause-items g c = c.in_ok-push.ensures.items ∙ put_at-end c.args.items.now.items c.args.place
    c.args.item (omega (arith, c.if-place-len-2.true, c.len-else-place-len.ensures))

pub returns-else-place-len-2-clause-items : goal.returns-else-place-len-2-clause-items
returns-else-place-len-2-clause-items g c = put_at-past c.args.items.now.items c.args.place c.args.item
    (omega (arith, c.if-place-len-2.false, c.if-place-len.false, c.len.ensures, c.len-else-place-len.ensures))
