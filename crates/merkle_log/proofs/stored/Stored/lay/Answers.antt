use Rattle.std.proofs.Common.{◌+◌, arith}
use Rattle.merkle_log.proofs.Counted.{pair-rises}
use Rattle.merkle_log.proofs.LaidRows.{front-seen}
use Rattle.merkle_log.proofs.stored.Stored.lay.Goals as goal

pub overflow_sub-result-in-Ok : goal.overflow_sub-result-in-Ok
overflow_sub-result-in-Ok g c = omega (
  arith,
  pair-rises c.self.inside.size (c.self.inside.size + c.args.count) (omega arith),
  c.in-Ok.ensures.whole,
  c.self.invariant,
  c.len.ensures,
  c.len-before.ensures,
  c.self.inside.digests.ok.0,
  c.lay_rows.new.digests.ok.0,
)

pub returns-in-Ok-clause-extends : goal.returns-in-Ok-clause-extends
returns-in-Ok-clause-extends g c =
    rw (← c.self.view_is) (record {
      size = omega arith;
      front = front-seen g.D.Numbered.numbers _ c.self.inside.digests.items _ c.self.invariant
          c.in-Ok.ensures.front;
    })

pub returns-in-Ok-clause-count : goal.returns-in-Ok-clause-count
returns-in-Ok-clause-count g c =
    rw (← c.self.view_is) (omega (
      arith,
      pair-rises c.self.inside.size (c.self.inside.size + c.args.count) (omega arith),
      c.in-Ok.ensures.whole,
      c.self.invariant,
      c.len.ensures,
      c.len-before.ensures,
      c.self.inside.digests.ok.0,
      c.lay_rows.new.digests.ok.0,
    ))
