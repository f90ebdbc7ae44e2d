use Rattle.std.proofs.Common.{◌≡◌, refl, sym, ◌∙◌, inl, inr, arith}
use Rattle.std.proofs.lemmas.Bool.{cases_lt}
use Rattle.ark_trees.specs.Rfc6962.{node_of}
use Rattle.merkle_log.specs.Stored.{row_at}
use Rattle.merkle_log.proofs.Positions.{length-row_of}
use Rattle.merkle_log.proofs.KeptRows.{length-up, keeps-of}
use Rattle.merkle_log.proofs.Hashed.{stored-all}
use Rattle.merkle_log.proofs.kept.Kept.is_sound.Goals as goal

pub levels-init : goal.levels-init
levels-init c = record {
  count = c.size-count.ensures.size ∙ sym (length-row_of c.args.self.now 0);
  fits = omega (arith, c.size-count.ensures.size);
  hashed = λ level below. absurd (omega arith);
}

pub is_hashed-requires-clause-count : goal.is_hashed-requires-clause-count
is_hashed-requires-clause-count c = omega (arith, c.levels.invariant.count, length-up c.args.self.now c.levels.level)

pub levels-preserved : goal.levels-preserved
levels-preserved c =
    let fits = c.levels.invariant.fits in
    record {
      count = omega (arith, c.levels.invariant.count, length-up c.args.self.now c.levels.level);
      fits = omega arith;
      hashed = λ level below. elim (cases_lt level c.levels.level) [
        | inl less ↦ c.levels.invariant.hashed level less
        | inr here ↦
            let e : level ≡ c.levels.level = omega arith in
            rw (e) (c.is_hashed.ensures.hashed c.if-not-is_hashed.false)
      ];
    }

pub returns-clause-sound : goal.returns-clause-sound
returns-clause-sound c = λ yes.
    keeps-of c.args.self.now.size (row_at c.args.self.now 0) c.args.self.now.digests (length-row_of c.args.self.now 0)
    (rw (← c.size-count.ensures.size) c.size-count.ensures.inside) refl
    (stored-all node_of c.args.self.now c.levels.level c.levels.invariant.hashed (omega (
      arith,
      c.levels.invariant.count,
    )))
