use Rattle.std.proofs.Common.{◌≡◌, ℕ, [], ap₂, subst}
use Rattle.ark_paths.specs.Pair.{Digest}
use Rattle.log_checkpoints.specs.Witnessing.{head_of}
use Rattle.log_tiles.proofs.Still.{still}
use Rattle.log_tiles.specs.Followers.{IsUnmoved}
use Rattle.log_tiles.specs.declared.following.Head.{Head}
use Rattle.signed_notes.specs.Views.{checkpoint_parts}
use Rattle.log_checkpoints.proofs.witnessing.witness_checkpoint.Goals as goal

-- a head to which no step is made
none : Head
none = record { size = 0; root = [] }

pub returns-in-Err-clause-turn : goal.returns-in-Err-clause-turn
returns-in-Err-clause-turn g c = λ obeys. record {
  head = none;
  move = still g.F.HeadFile.holds g.F.HeadFile.may_leave g.F.HeadFile.moment g.F.HeadFile.left_since
      g.met.F.HeadFile.only_now c.args.file.now none;
  signed = tt;
}

pub returns-in-Err-cosign-clause-turn : goal.returns-in-Err-cosign-clause-turn
returns-in-Err-cosign-clause-turn g c = λ obeys. record {
  head = none;
  move = still g.F.HeadFile.holds g.F.HeadFile.may_leave g.F.HeadFile.moment g.F.HeadFile.left_since
      g.met.F.HeadFile.only_now c.args.file.now none;
  signed = tt;
}

pub returns-in-Err-follow-clause-refused : goal.returns-in-Err-follow-clause-refused
returns-in-Err-follow-clause-refused g c = λ obeys reads.
    let file = g.D.Disk.seen c.args.disk.now in
    let old = g.F.HeadFile.holds c.args.file.now in
    let stated = checkpoint_parts c.in-Ok.checkpoint in
    let same : c.head_of.result ≡ head_of stated =
    ap₂ (λ (n : ℕ) (r : Digest). record { size = n; root = r }) c.head_of.ensures.size c.head_of.ensures.root in (
      stated,
      c.in-Ok.ensures.opened,
      subst (λ (head : Head). IsUnmoved file old head c.in-Err-follow.why) same
          (c.in-Err-follow.ensures.refused obeys reads),
    )
