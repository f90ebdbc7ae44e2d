use Rattle.std.proofs.Common.{map, ap, sym, ◌∙◌, arith}
use Rattle.ark_sponge.proofs.Loops.{rows_same-more}
use Rattle.ark_sponge.proofs.poseidon.recurrence.matrices.are_same.Goals as goal

pub loop-i-preserved : goal.loop-i-preserved
loop-i-preserved g c =
    let f = g.F.Valued.value in
    let same = c.is_same.ensures c.if-not-is_same.false in
    rows_same-more f (λ v. v.items) c.args.first.now c.args.second.now c.loop-i.i c.index-first-i.result
    c.index-second-i.result (omega arith) (omega arith) c.index-first-i.is c.index-second-i.is
    (sym (ap (map f) c.deref.ensures.value) ∙ same ∙ ap (map f) c.deref-in-loop-i.ensures.value) c.loop-i.invariant
