use Rattle.std.proofs.Common.{◌+◌, ◌/◌, ap, sym, ◌∙◌, arith}
use Rattle.std.proofs.lemmas.List.{length-set}
use Rattle.circom.proofs.Changing.{climb-refused, climbs-all, climbs-next, level-above}
use Rattle.merkle_log.proofs.Positions.{length-row_of, up-more}
use Rattle.circom.proofs.change.climb.Goals as goal

pub hash_over-requires-clause-paired : goal.hash_over-requires-clause-paired
hash_over-requires-clause-paired c =
    omega (arith, c.levels-test.true, c.levels.invariant.count_is, length-row_of c.args.kept.now c.levels.level)

pub bounds-over-level : goal.bounds-over-level
bounds-over-level c =
    let above = level-above c.args.kept.now.size c.levels.level c.levels.place c.levels.count
    (omega (arith, c.size-count.ensures.size, c.size-count.ensures.fits)) c.levels.invariant.count_is
    c.levels-test.true in
    omega (arith, c.levels.invariant.long, c.requires.room)

pub returns-in-Err-clause-refused : goal.returns-in-Err-clause-refused
returns-in-Err-clause-refused c =
    let no = c.in-Err.ensures.refused in
    climb-refused c.args.kept.now.size no.0 c.levels.invariant.at c.levels.invariant.place_is
    c.levels.invariant.count_is c.levels-test.true no.1

pub levels-preserved : goal.levels-preserved
levels-preserved c =
    let above = level-above c.args.kept.now.size c.levels.level c.levels.place c.levels.count
    (omega (arith, c.size-count.ensures.size, c.size-count.ensures.fits)) c.levels.invariant.count_is
    c.levels-test.true in
    record {
      long = length-set c.levels.over (c.levels.level + 1) c.in-Ok.digest ∙ c.levels.invariant.long;
      place_is = ap (λ n. n / 2) c.levels.invariant.place_is ∙ sym (up-more c.levels.level c.args.index);
      count_is = ap (λ n. n / 2) c.levels.invariant.count_is ∙ sym (up-more c.levels.level c.args.kept.now.size);
      inside = c.levels-test.true;
      fits = omega (arith, c.levels.invariant.fits);
      low = above;
      at = climbs-next c.levels.invariant.at c.levels.invariant.place_is
          (omega (arith, c.levels.invariant.long, c.requires.room)) c.in-Ok.ensures.digest;
    }

pub returns-clause-climbs : goal.returns-clause-climbs
returns-clause-climbs c = λ level has. climbs-all c.args.kept.now.size c.levels.invariant.at
    (λ more. omega (
      arith,
      c.levels-test.false,
      c.levels.invariant.place_is,
      c.levels.invariant.count_is,
      up-more c.levels.level c.args.index,
      up-more c.levels.level c.args.kept.now.size,
    )) level has
