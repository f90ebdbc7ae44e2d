use Rattle.std.proofs.Common.{[], inr, sym, subst}
use Rattle.log_checkpoints.specs.Adding.{IsRejectedProof}
use Rattle.log_tiles.proofs.Still.{still}
use Rattle.log_tiles.specs.Led.{IsProofFault}
use Rattle.log_tiles.specs.declared.following.Head.{Head}
use Rattle.log_checkpoints.proofs.adding.answer_adding.Goals as goal

-- a head to which no step is made
none : Head
none = record { size = 0; root = [] }

pub returns-in-Err-Rejected-clause-turn : goal.returns-in-Err-Rejected-clause-turn
returns-in-Err-Rejected-clause-turn g c = λ obeys. record {
  head = none;
  move = still g.F.HeadFile.holds g.F.HeadFile.may_leave g.F.HeadFile.moment g.F.HeadFile.left_since
      g.met.F.HeadFile.only_now c.args.file.now none;
  signed = tt;
}

pub returns-in-Err-Failed-clause-turn : goal.returns-in-Err-Failed-clause-turn
returns-in-Err-Failed-clause-turn g c = λ obeys. record {
  head = none;
  move = still g.F.HeadFile.holds g.F.HeadFile.may_leave g.F.HeadFile.moment g.F.HeadFile.left_since
      g.met.F.HeadFile.only_now c.args.file.now none;
  signed = tt;
}

pub returns-in-Some-clause-denied : goal.returns-in-Some-clause-denied
returns-in-Some-clause-denied g c = λ obeys.
    let made = c.in-Ok.made in
    let by = c.in-Ok.ensures.head in
    let told = rw (c.in-Err-Proof.field-0-is, c.deref.ensures.value) at c.in-Err-Proof.ensures.refused obeys in
    let of_held = subst (λ (h : Head). IsProofFault h made.old_size made.head made.path.items c.in-Err-Proof.why)
    (sym told.0) told.1 in
    let denied = c.in-Some.ensures.denied made.old_size made.head made.path.items of_held in
    let of_old = subst (λ (h : Head). IsRejectedProof h made.old_size made.head made.path.items c.in-Some.why) told.0
    denied in
    inr (record {
      old = made.old_size;
      path = made.path.items;
      note = made.note.now;
      read = c.in-Ok.ensures.read;
      told = inr (
        by.stated,
        by.opened,
        subst (λ (h : Head). IsRejectedProof (g.F.HeadFile.holds c.args.file.now) made.old_size h made.path.items
            c.in-Some.why) by.head_is of_old,
      );
    })
