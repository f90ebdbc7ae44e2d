use Rattle.std.proofs.Common.{refl, arith}
use Rattle.merkle_log.proofs.Lengths.{leads-odd, leads-first, leads-later}
use Rattle.merkle_log.proofs.path_lengths.count_from.Goals as goal

pub complete-init : goal.complete-init
complete-init c =
    record {
      most = omega (arith, c.requires.inside);
      inside = c.requires.inside;
      at = λ k high. record { levels = k; high = high; inside = c.requires.inside; is = refl };
    }

pub complete-preserved : goal.complete-preserved
complete-preserved c =
    record {
      most = omega (arith, c.complete.invariant.most);
      inside = omega (arith, c.complete.invariant.inside);
      at = λ k high. leads-odd (c.complete.invariant.at k high) (omega arith);
    }

pub returns-then-index-eq0 : goal.returns-then-index-eq0
returns-then-index-eq0 c = λ k high. leads-first (c.complete.invariant.at k high) (omega arith)
    c.count_beside-beside.result c.count_beside-beside.ensures.count

pub returns : goal.returns
returns c = λ k high. leads-later (c.complete.invariant.at k high) (omega arith) (omega arith)
    c.count_beside-beside.result c.count_beside-beside.ensures.count
