use Rattle.std.proofs.Common.{◌-◌, ◌+◌, arith, sym}
use Rattle.merkle_log.specs.Asked.{own_count}
use Rattle.merkle_log.proofs.Asking.{beside-here, own-least, right-of}
use Rattle.merkle_log.proofs.Tests.{if_odd, if_even}
use Rattle.merkle_log.proofs.paths.beside.Goals as goal

pub at-requires-clause-held : goal.at-requires-clause-held
at-requires-clause-held g c =
    let index = c.args.index in
    let least = own-least c.args.last_index c.args.last.now in
    beside-here (g.R.Rows.Holds c.args.rows.now) c.args.level index (own_count c.args.last_index c.args.last.now)
    (index - 1) c.requires.held (sym (if_odd index (index - 1) (index + 1) c.if-index-eq1.true))
    (omega (arith, c.requires.inside))

pub at-requires-then-index-last_index-clause-held : goal.at-requires-then-index-last_index-clause-held
at-requires-then-index-last_index-clause-held g c =
    let index = c.args.index in
    let least = own-least c.args.last_index c.args.last.now in
    beside-here (g.R.Rows.Holds c.args.rows.now) c.args.level index (own_count c.args.last_index c.args.last.now)
    (index + 1) c.requires.held (sym (if_even index (index - 1) (index + 1) (omega arith))) (omega arith)

pub last_of-requires-clause-held : goal.last_of-requires-clause-held
last_of-requires-clause-held g c = λ own.
    let index = c.args.index in
    let more = right-of index c.args.last_index c.requires.stands (omega arith) in
    beside-here (g.R.Rows.Holds c.args.rows.now) c.args.level index (own_count c.args.last_index c.args.last.now)
    c.args.last_index c.requires.held (omega (arith, if_even index (index - 1) (index + 1) (omega arith))) own
