use Rattle.std.proofs.Common.{sym, ◌∙◌, arith}
use Rattle.merkle_log.proofs.Lengths.{counts-right, counts-alone, counts-end}
use Rattle.merkle_log.proofs.path_lengths.count_beside.Goals as goal
use Rattle.merkle_log.proofs.path_lengths.count_beside.Goals.{then-has_beside, else-has_beside}

pub levels-init : goal.levels-init
levels-init c = record {
  most = omega arith;
  at = λ k high. record {
    levels = k;
    high = high;
    inside = c.requires;
    is =
        omega arith;
  };
}

pub overflow_add-used : goal.overflow_add-used
overflow_add-used c = omega (arith, c.levels.invariant.most, c.ranges.last.fits)

pub levels-preserved : goal.levels-preserved
levels-preserved c =
    elim c.if-has_beside.branch [
      | then-has_beside w ↦ record {
        most = omega (arith, c.levels.invariant.most, w.used-is);
        at = λ k high. rw (w.used-is) (counts-right (c.levels.invariant.at k high) c.levels-test.true
            (sym c.has_beside.ensures ∙ w.if-has_beside.true));
      }
      | else-has_beside w ↦ record {
        most = omega (arith, c.levels.invariant.most, w.used-is);
        at = λ k high. rw (w.used-is) (counts-alone (c.levels.invariant.at k high) c.levels-test.true
            (sym c.has_beside.ensures ∙ w.if-has_beside.false));
      }
    ]

pub returns-clause-count : goal.returns-clause-count
returns-clause-count c = λ k high. counts-end (c.levels.invariant.at k high) (omega arith)

pub returns-clause-most : goal.returns-clause-most
returns-clause-most c = omega (arith, c.levels.invariant.most)
