use Rattle.std.proofs.Common.{refl}
use Rattle.std.proofs.lemmas.Result.{err_from_is_err_and}
use Rattle.log_tiles.proofs.Honest.{hindered-index, own-head}
use Rattle.log_tiles.proofs.OtherLogs.{not-of, unproved}
use Rattle.log_tiles.proofs.following.prove_in_tiles.Goals as goal

pub returns-in_err-if_same-in-Ok-clause-refused : goal.returns-in_err-if_same-in-Ok-clause-refused
returns-in_err-if_same-in-Ok-clause-refused g c = λ obeys.
    let file = g.D.Disk.seen c.args.disk.now in
    let proof = c.in-Ok.proof in
    let e = err_from_is_err_and c.from_residual.result c.from_residual.ensures.1 in
    rw (e.1, e.2) (unproved file c.args.head.now c.args.index _ c.in_err-if_same-in-Ok.ensures.damaged
    (not-of file c.args.head.now proof.size proof.root (c.in-Ok.ensures.root obeys)
    (c.in_err-if_same-in-Ok.ensures.other refl)))

pub returns-in-Err-clause-honest : goal.returns-in-Err-clause-honest
returns-in-Err-clause-honest g c = λ obeys leaves log own inside.
    hindered-index leaves (g.D.Disk.seen c.args.disk.now) log c.args.head.now own c.args.index c.in-Err.stop inside
    (c.in-Err.ensures.refused obeys)

pub returns-in_err-if_same-in-Ok-clause-honest : goal.returns-in_err-if_same-in-Ok-clause-honest
returns-in_err-if_same-in-Ok-clause-honest g c = λ obeys leaves log own inside.
    absurd (own-head leaves (g.D.Disk.seen c.args.disk.now) log c.args.head.now own (c.in-Ok.ensures.root obeys)
    (c.in_err-if_same-in-Ok.ensures.other refl))
