use Rattle.std.proofs.Common.{inl, inr, refl, subst, arith}
use Rattle.std.proofs.lemmas.Result.{err_from_is_err_and}
use Rattle.log_tiles.specs.Following.{IsShown}
use Rattle.log_tiles.proofs.Honest.{front-root, hindered-first, hindered-older, hindered-same, own-head}
use Rattle.log_tiles.proofs.Shown.{shown}
use Rattle.log_tiles.proofs.OtherLogs.{if-uncontinued, not-of, uncontinued}
use Rattle.log_tiles.proofs.following.continues.Goals as goal

pub returns-then-are_same-2-clause-continued : goal.returns-then-are_same-2-clause-continued
returns-then-are_same-2-clause-continued g c =
    let old = c.args.old.now in
    let new = c.args.new.now in
    let same = c.in_ok-if_same.ensures.same in
    let own = shown c.in-Ok-consistency.proof.old_root old new c.in-Ok-consistency.proof.size
    c.in-Ok-consistency.proof.root c.in-Ok-consistency.proof.path.items same.0 same.1
    c.in-Ok-consistency.ensures.accepted in
    inr (inr (subst (λ root. IsShown root old new) (c.are_same-2.ensures.0 c.if-are_same-2.true) own))

pub returns-clause-fork : goal.returns-clause-fork
returns-clause-fork g c = λ is.
    let old = c.args.old.now in
    let new = c.args.new.now in
    let same = c.in_ok-if_same.ensures.same in
    let other = c.in-Ok-consistency.proof.old_root in
    inr (
      other,
      (
        (λ e. let yes = c.are_same-2.ensures.1 e in let no = c.if-are_same-2.false in cc),
        shown other old new c.in-Ok-consistency.proof.size c.in-Ok-consistency.proof.root
            c.in-Ok-consistency.proof.path.items same.0 same.1 c.in-Ok-consistency.ensures.accepted,
      ),
    )

pub returns-in-Err-clause-refused : goal.returns-in-Err-clause-refused
returns-in-Err-clause-refused g c = λ obeys. inl (c.in-Err.ensures.refused obeys)

pub returns-then-old-eq0-clause-refused : goal.returns-then-old-eq0-clause-refused
returns-then-old-eq0-clause-refused g c = λ obeys.
    if-uncontinued (g.D.Disk.seen c.args.disk.now) c.args.old.now c.args.new.now c.in-Ok.root.0 c.in-Ok.root.1
    c.if_same.result (λ leaves log. let own = c.in-Ok.ensures.root obeys leaves log in (own.0, own.2))
    c.if_same.ensures.damaged c.if_same.ensures.other

pub returns-in_err-if_same-clause-refused : goal.returns-in_err-if_same-clause-refused
returns-in_err-if_same-clause-refused g c = λ obeys.
    let file = g.D.Disk.seen c.args.disk.now in
    let proof = c.in-Ok-consistency.proof in
    let e = err_from_is_err_and c.from_residual.result c.from_residual.ensures.1 in
    rw (e.1, e.2) (uncontinued file c.args.old.now c.args.new.now _ c.in_err-if_same.ensures.damaged
    (not-of file c.args.new.now proof.size proof.root (c.in-Ok-consistency.ensures.root obeys)
    (c.in_err-if_same.ensures.other refl)))

pub returns-clause-refused : goal.returns-clause-refused
returns-clause-refused g c = λ obeys. returns-clause-fork g c refl

pub returns-in-Err-clause-honest : goal.returns-in-Err-clause-honest
returns-in-Err-clause-honest g c = λ obeys leaves log own front.
    hindered-first leaves (g.D.Disk.seen c.args.disk.now) log c.in-Err.stop (c.in-Err.ensures.refused obeys)

pub returns-then-old-eq0-clause-honest : goal.returns-then-old-eq0-clause-honest
returns-then-old-eq0-clause-honest g c = λ obeys leaves log own front.
    hindered-same leaves (g.D.Disk.seen c.args.disk.now) log c.args.new.now own c.if_same.result
    (λ others file. let known = c.in-Ok.ensures.root obeys others file in (known.0, known.2)) c.if_same.ensures.other

pub returns-in-Err-consistency-clause-honest : goal.returns-in-Err-consistency-clause-honest
returns-in-Err-consistency-clause-honest g c = λ obeys leaves log own front.
    hindered-older leaves c.args.old.now c.args.new.now own front log c.in-Err-consistency.stop
    (omega (arith, c.if-old-eq0.false)) (c.in-Err-consistency.ensures.refused obeys)

pub returns-in_err-if_same-clause-honest : goal.returns-in_err-if_same-clause-honest
returns-in_err-if_same-clause-honest g c = λ obeys leaves log own front.
    absurd (own-head leaves (g.D.Disk.seen c.args.disk.now) log c.args.new.now own
    (c.in-Ok-consistency.ensures.root obeys) (c.in_err-if_same.ensures.other refl))

pub returns-clause-honest : goal.returns-clause-honest
returns-clause-honest g c = λ obeys leaves log own front.
    let same = front-root leaves c.args.old.now c.args.new.now own front
    (c.in-Ok-consistency.ensures.old_root obeys leaves log) in
    let yes = c.are_same-2.ensures.1 same in
    let no = c.if-are_same-2.false in
    cc
