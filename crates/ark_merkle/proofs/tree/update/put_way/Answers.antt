use Rattle.std.proofs.Common.{◌<◌, length, refl, arith}
use Rattle.std.proofs.lemmas.List.{length-map, map-set}
use Rattle.ark_paths.proofs.PlaceLemmas.{level-fits}
use Rattle.ark_paths.proofs.Readings.{digest_read}
use Rattle.ark_merkle.proofs.Puts.{are_put-more, place-to_put}
use Rattle.ark_merkle.proofs.tree.update.put_way.Goals as goal

pub overflow_shr-index : goal.overflow_shr-index
overflow_shr-index g c =
    let fits = level-fits c.args.rows.now _ c.requires.holds.levels c.loop-level.level c.args.index
    (omega (arith, c.requires.count, c.args.way.ok.0)) c.requires.holds.inside c.requires.holds.small in
    omega arith

pub exchange-requires : goal.exchange-requires
exchange-requires g c =
    let below : c.loop-level.level < length c.loop-level.rows =
    omega (arith, c.loop-level.invariant.count, c.requires.count, c.args.way.ok.0) in
    record {
      row = below;
      place = place-to_put _ _ _ _ _ _ c.loop-level.invariant c.requires.holds below;
    }

pub loop-level-preserved : goal.loop-level-preserved
loop-level-preserved g c =
    let long = rw (length-map, length-map) at c.loop-level.invariant.long in
    let here : c.loop-level.level < length c.loop-level.way.items = omega (arith, c.args.way.ok.0) in
    let read = digest_read g.D.Numbered.numbers c.loop-level.way c.loop-level.level c.index_mut.result.now here
    c.index_mut.ensures.value in
    rw (c.exchange.ensures, map-set) (are_put-more _ _ _ _ _ _ c.loop-level.invariant _ _
    (omega (arith, c.loop-level.invariant.count, c.requires.count, c.args.way.ok.0)) (rw read refl))
