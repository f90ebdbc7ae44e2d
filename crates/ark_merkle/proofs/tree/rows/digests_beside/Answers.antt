use Rattle.std.proofs.Common.{◌≡◌, ◌-◌, Ok, sym, ap, ◌∙◌, add-one, refl, arith}
use Rattle.std.proofs.lemmas.List.{reverse-append}
use Rattle.ark_base.specs.Laws.Steps.{done_injective}
use Rattle.ark_paths.proofs.PlaceLemmas.{level-fits, beside-inside}
use Rattle.ark_merkle.proofs.tree.rows.digests_beside.Goals as goal

pub overflow_shr-index : goal.overflow_shr-index
overflow_shr-index g c =
    let holds = c.requires.holds in
    let fits = level-fits c.args.rows.now holds.size holds.levels c.loop-level.level c.args.index
    (omega (arith, c.requires.count)) holds.inside holds.small in
    omega arith

pub at-requires : goal.at-requires
at-requires g c = record {
  row = omega (arith, c.requires.count);
  place = rw (c.neighbour_of-place.ensures, add-one) (beside-inside c.args.rows.now c.args.index c.requires.holds _
      (omega (arith, c.requires.count)));
}

pub loop-level-preserved : goal.loop-level-preserved
loop-level-preserved g c =
    let copied = (g.met.D.DigestItem.seen_alike _ _).0 (done_injective _ _ c.in_ok-duplicate.ensures) in
    let is = rw (rw add-one at c.neighbour_of-place.ensures) at (sym c.at.ensures) ∙ copied in
    rw (c.in_ok-push.ensures.items, reverse-append, add-one, is, c.loop-level.invariant) refl

pub returns : goal.returns
returns g c =
    let last : c.args.count - 1 ≡ c.loop-level.level =
    omega (arith, c.loop-level-test.false, c.loop-level.auto.level-end, c.saturating_sub-level-end.ensures) in
    rw (c.reverse.ensures.items, last) (ap Ok c.loop-level.invariant)
