use Rattle.std.proofs.Common.{[], ◌∷◌, arith}
use Rattle.std.proofs.lemmas.List.{length-append, length-map, map_push}
use Rattle.ark_crh.specs.Ahead.{lent_couple, lent_couples}
use Rattle.ark_merkle.proofs.ChangeRuns.{zip-taken}
use Rattle.ark_merkle.proofs.HashedCouples.{reached_from}
use Rattle.ark_merkle.proofs.tree.changes.run_reached.Goals.{else-reached-test, then-reached-test+then-behind-changes}
use Rattle.ark_merkle.proofs.tree.changes.run_reached.Goals as goal

pub reached-preserved : goal.reached-preserved
reached-preserved g c =
    let numbers = g.D.Numbered.numbers in
    let from = reached_from numbers c.args.row.now c.args.changes.now in
    let so = c.reached.invariant in
    record {
      found = rw (c.in_ok-push.ensures.items, c.in_ok-push-2.ensures.items, map_push)
          (zip-taken (from c.args.next) (from c.reached.behind) (from c.reached_by-reached.result.behind)
          c.reached.places.items (lent_couples numbers c.reached.couples.items) _ _ so.found
          c.reached_by-reached.ensures.reached
          (omega (arith, so.same, length-map c.reached.couples.items (lent_couple numbers))));
      same = rw (c.in_ok-push.ensures.items, c.in_ok-push-2.ensures.items)
          (omega (
            arith,
            so.same,
            length-append c.reached.places.items (c.reached_by-reached.result.place ∷ []),
            length-append c.reached.couples.items
                ((c.reached_by-reached.result.left, c.reached_by-reached.result.right) ∷ []),
          ));
      from = omega (arith, so.from, c.reached_by-reached.ensures.more);
      inside = c.reached_by-reached.ensures.inside;
    }

pub returns-clause-more : goal.returns-clause-more
returns-clause-more g c = elim c.reached-test.branch [
  | else-reached-test w ↦ omega (arith, c.reached.invariant.from, w.reached-test.false, c.requires.next)
  | then-reached-test+then-behind-changes w ↦ omega (arith, w.if-behind-changes.true, c.requires.next)
]
