use Rattle.std.proofs.lemmas.List.{get_or_default}
use Rattle.log_tiles.proofs.Written.{one-more, stays-on}
use Rattle.log_tiles.proofs.publication.write_each.Goals as goal

pub tiles-preserved : goal.tiles-preserved
tiles-preserved g c =
    let (stayed, written) = c.tiles.invariant in
    let step = c.write_tile.ensures in (
      stays-on _ _ _ _ _ _ _ stayed (record { obeyed = step.obeys; crash = step.crash; time = step.time }),
      λ obeys there folder.
          one-more _ _ _ _ _ _ _ (λ d. get_or_default c.args.tiles.now c.tiles.place _ d c.tiles-test.true)
          c.tiles-test.true (written obeys there (step.obeys folder))
          (c.in_ok-write_tile.ensures.written obeys there folder) (step.others obeys there folder),
    )
