use Rattle.std.proofs.Common.{sym, ◌∙◌, arith}
use Rattle.std.proofs.lemmas.Bool.{not-false}
use Rattle.ark_sponge.proofs.Loops.{same-more}
use Rattle.ark_sponge.proofs.poseidon.recurrence.matrices.is_same.Goals as goal

pub loop-i-preserved : goal.loop-i-preserved
loop-i-preserved g c =
    let f = g.F.Valued.value in
    let x = c.index-first-i.result in
    let y = c.index-second-i.result in
    same-more f c.args.first.now c.args.second.now c.loop-i.i x y (omega arith) (omega arith) c.index-first-i.is
    c.index-second-i.is
    ((g.met.F.Field.equal_if_same x y).0 (not-false _ (sym c.ne.ensures ∙ c.if-ne.false)))
    c.loop-i.invariant
