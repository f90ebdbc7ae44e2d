use Rattle.std.proofs.Common.{inl, inr, arith}
use Rattle.log_tiles.proofs.Published.{put-in_place, stays-old}
use Rattle.log_tiles.proofs.publication.put_checkpoint.Goals as goal

pub returns-in_err-sync-clause-any_moment : goal.returns-in_err-sync-clause-any_moment
returns-in_err-sync-clause-any_moment g c obeys =
    stays-old _ _ _ _ _ _ _ (c.sync.ensures.time obeys) (g.met.F.Folder.only_now c.args.folder.now)

pub returns-in_err-write-clause-any_moment : goal.returns-in_err-write-clause-any_moment
returns-in_err-write-clause-any_moment g c obeys left since =
    let synced = c.write.ensures.obeys obeys in
    let first = c.sync.ensures.time synced in
    elim ((c.write.ensures.time obeys).nothing_else _ left first.later since) [
      | inl past ↦ stays-old _ _ _ _ _ _ _ first (g.met.F.Folder.only_now c.args.folder.now) left past
      | inr between ↦ put-in_place _ _ _ _ (c.sync.ensures.crash synced) (c.in_ok-sync.ensures.durable synced) left
          between
    ]

pub returns-clause-any_moment : goal.returns-clause-any_moment
returns-clause-any_moment g c obeys left since =
    let written = c.sync-2.ensures.obeys obeys in
    let synced = c.write.ensures.obeys written in
    let first = c.sync.ensures.time synced in
    let second = c.write.ensures.time written in
    elim ((c.sync-2.ensures.time obeys).nothing_else _ left (omega (arith, first.later, second.later)) since) [
      | inr between ↦ put-in_place _ _ _ _ (c.sync.ensures.crash synced) (c.in_ok-sync.ensures.durable synced) left
          (c.write.ensures.crash written left between)
      | inl before ↦ elim (second.nothing_else _ left first.later before) [
        | inr between ↦ put-in_place _ _ _ _ (c.sync.ensures.crash synced) (c.in_ok-sync.ensures.durable synced)
            left between
        | inl past ↦ stays-old _ _ _ _ _ _ _ first (g.met.F.Folder.only_now c.args.folder.now) left past
      ]
    ]
