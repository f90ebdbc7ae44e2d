use Rattle.std.proofs.Common.{◌≡◌, ◌<◌, ◌∙◌, ◌++◌, length, map, arith, ap, sym, [], ◌∷◌, append_assoc}
use Rattle.std.proofs.lemmas.List.{length-append, length-map, map_push}
use Rattle.ark_merkle.specs.Changed.{seen_changes}
use Rattle.ark_merkle.proofs.ChangeRuns.{zip-pushed}
use Rattle.ark_merkle.proofs.tree.changes.push_changes.Goals as goal

pub digests-preserved : goal.digests-preserved
digests-preserved g c =
    let numbers = g.D.Numbered.numbers in
    let so = c.digests.invariant in
    let rest = c.next.new.self.rest.items in
    let left : c.digests.yielded ++ (c.in-Some.digest ∷ rest) ≡ c.args.digests.items =
    ap (λ ds. c.digests.yielded ++ ds) (sym c.in-Some.ensures.steps.0) ∙ so.left in
    let inside : c.digests.place < length c.args.places.now =
    omega (arith, so.count, c.requires, ap length left, length-append c.digests.yielded (c.in-Some.digest ∷ rest)) in
    record {
      count = omega (arith, so.count, length-append c.digests.yielded (c.in-Some.digest ∷ []));
      left = append_assoc c.digests.yielded (c.in-Some.digest ∷ []) rest ∙ left;
      pushed = rw (c.in_ok-push.ensures.items, map_push, map_push)
          (zip-pushed (seen_changes numbers c.args.changes.now.items) (seen_changes numbers c.digests.changes.items)
          c.args.places.now c.digests.place (map numbers c.digests.yielded) (numbers c.in-Some.digest) so.pushed
          (omega (arith, so.count, length-map c.digests.yielded numbers)) inside);
    }
