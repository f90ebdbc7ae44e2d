use Rattle.std.proofs.Common.{◌++◌, ◌∙◌, refl, arith}
use Rattle.merkle_log.specs.Kept.{stored_front}
use Rattle.merkle_log.proofs.Levels.{risen-all, risen-first, risen-fits, risen-next, risen-room}
use Rattle.merkle_log.proofs.kept.growth.levels.raise_from.Goals as goal

pub levels-init : goal.levels-init
levels-init g c = record {
  same = refl;
  risen = risen-first (stored_front (g.R.Rows.stored c.args.rows.now) ++ c.args.more.now) c.args.size c.args.total
      c.args.from;
}

pub raise-requires : goal.raise-requires
raise-requires g c = record {
  room = risen-room c.levels.invariant.risen c.requires.size c.requires.stored c.requires.held c.requires.longer
      c.requires.fits (omega (arith, c.requires.room, c.levels.invariant.same));
}

pub overflow_add-level : goal.overflow_add-level
overflow_add-level g c =
    let low = risen-fits c.levels.invariant.risen (omega (arith, c.levels-test.true)) c.requires.fits in
    omega arith

pub levels-preserved : goal.levels-preserved
levels-preserved g c = record {
  same = c.raise.ensures.same ∙ c.levels.invariant.same;
  risen = risen-next c.levels.invariant.risen c.raise.ensures.raised;
}

pub returns-clause-rises : goal.returns-clause-rises
returns-clause-rises g c = λ rises level. risen-all c.levels.invariant.risen (omega (arith, c.levels-test.false)) rises
    level

pub returns-clause-leaves : goal.returns-clause-leaves
returns-clause-leaves g c = c.levels.invariant.risen.leaves
