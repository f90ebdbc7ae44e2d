use Rattle.std.proofs.Common.{◌≡◌, ◌∙◌, ◌-◌, length, Bool, true, false, not, refl, sym, arith}
use Rattle.std.proofs.lemmas.Bool.{false≢true}
use Rattle.ark_merkle.proofs.MultiCommon.{beside_at, beside_at-place, beside-level, beside-bound, beside-alike, common-same, common-other}
use Rattle.ark_merkle.proofs.tree.multi_proof.digests_in_common.Goals as goal
use Rattle.ark_merkle.proofs.tree.multi_proof.digests_in_common.Goals.{else-here-there-via-then-here-there+else-ne, else-here-there-via-else-here-there}

from_not : (b : Bool) → false ≡ not b → b ≡ true
from_not true is = refl
from_not false is = absurd (false≢true is)

pub overflow_shr-before : goal.overflow_shr-before
overflow_shr-before g c = beside-level c.args.rows.now (c.len.result - 1 - c.loop-above.above) c.args.before
    c.requires.before (omega arith)

pub overflow_shr-index : goal.overflow_shr-index
overflow_shr-index g c = beside-level c.args.rows.now (c.len.result - 1 - c.loop-above.above) c.args.index
    c.requires.index (omega arith)

pub at-requires-clause-place : goal.at-requires-clause-place
at-requires-clause-place g c = beside-bound c.args.rows.now (c.len.result - 1 - c.loop-above.above) c.args.before
    c.requires.before (omega arith) c.neighbour_of-there.result c.neighbour_of-there.ensures

pub at-requires-then-here-there-clause-place : goal.at-requires-then-here-there-clause-place
at-requires-then-here-there-clause-place g c = beside-bound c.args.rows.now (c.len.result - 1 - c.loop-above.above)
    c.args.index c.requires.index (omega arith) c.neighbour_of-here.result c.neighbour_of-here.ensures

pub returns-then-ne : goal.returns-then-ne
returns-then-ne g c =
    let alike = beside-alike c.args.rows.now _ _ _ c.requires.before c.requires.index (omega arith)
    c.neighbour_of-there.ensures c.neighbour_of-here.ensures c.at.ensures c.at-then-here-there.ensures in
    let equal = (g.met.D.DigestItem.equal_if_same c.at.result.now c.at-then-here-there.result.now).1 in
    sym (common-other c.args.rows.now _ _ (c.len.result - 1 - c.loop-above.above) _ c.loop-above.above (omega arith)
    c.loop-above.auto.above c.loop-above.invariant (λ same. false≢true (sym (rw (equal (alike.1 same)) at
    c.if-ne.ensures))))

pub loop-above-preserved : goal.loop-above-preserved
loop-above-preserved g c =
    let rows = c.args.rows.now in
    let level = c.len.result - 1 - c.loop-above.above in
    let same : beside_at rows level c.args.before ≡ beside_at rows level c.args.index = elim c.else-here-there.branch [
      | else-here-there-via-then-here-there+else-ne w ↦
          (beside-alike rows level _ _ c.requires.before c.requires.index (omega arith) c.neighbour_of-there.ensures
          c.neighbour_of-here.ensures w.at.ensures w.at-then-here-there.ensures).0
          ((g.met.D.DigestItem.equal_if_same _ _).0 (from_not _ w.if-ne.ensures))
      | else-here-there-via-else-here-there w ↦ beside_at-place rows level c.args.before c.args.index
          (sym c.neighbour_of-there.ensures ∙ sym w.if-here-there.false ∙ c.neighbour_of-here.ensures)
    ] in
    common-same rows c.args.before c.args.index level (length rows) c.loop-above.above (omega arith)
    c.loop-above.auto.above c.loop-above.invariant same
