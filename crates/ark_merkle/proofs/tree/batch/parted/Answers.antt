use Rattle.std.proofs.Common.{refl, arith, Bor, [], ◌∷◌}
use Rattle.std.proofs.lemmas.List.{length-append, length-map, map_push}
use Rattle.ark_crh.specs.Ahead.{lent}
use Rattle.ark_merkle.proofs.ChangeRuns.{zip-parted}
use Rattle.ark_merkle.proofs.tree.batch.parted.Goals as goal

pub changes-preserved : goal.changes-preserved
changes-preserved g c =
    let so = c.changes.invariant in
    record {
      parts = rw (c.in_ok-push.ensures.items, c.in_ok-push-2.ensures.items, map_push)
          (zip-parted (λ change. (change.0, change.1.now)) c.args.changes.now c.changes.place
          c.index-changes-place.result c.changes.indexes.items (lent c.changes.leaves.items) _ _ so.parts
          (omega (arith, so.same, length-map c.changes.leaves.items (λ (leaf : Bor _). leaf.now)))
          c.changes-test.true c.index-changes-place.is refl);
      same = rw (c.in_ok-push.ensures.items, c.in_ok-push-2.ensures.items)
          (omega (
            arith,
            so.same,
            length-append c.changes.indexes.items (c.index-changes-place.result.0 ∷ []),
            length-append c.changes.leaves.items (c.index-changes-place.result.1 ∷ []),
          ));
    }
