use Rattle.std.proofs.Common.{◌∷◌, ◌++◌, ◌*◌, [], take, drop, refl, ap, arith, sym, ◌∙◌}
use Rattle.merkle_log.specs.Kept.{front}
use Rattle.merkle_log.proofs.Positions.{length-row_of}
use Rattle.log_file.specs.LogFile.{stored_in}
use Rattle.log_tiles.specs.Tiles.{rows_in}
use Rattle.log_tiles.proofs.Rows.{more-of, tile-inside, tile-level}
use Rattle.log_tiles.proofs.tile.read_places.Goals as goal

pub overflow_mul-tile : goal.overflow_mul-tile
overflow_mul-tile g c = omega (arith, tile-level c.args.size c.args.tile c.requires.fits c.requires.tile)

pub read_place-requires-clause-inside : goal.read_place-requires-clause-inside
read_place-requires-clause-inside g c =
    tile-inside c.args.size c.places.place c.args.tile c.requires.tile (omega arith)

pub places-init : goal.places-init
places-init g c = record {
  fits = omega (arith, c.none_ahead-ahead.ensures);
  ahead = λ obeys inside. rw (c.none_ahead-ahead.ensures) refl;
  read = λ obeys inside. refl;
}

pub places-preserved : goal.places-preserved
places-preserved g c = record {
  fits = c.in_ok-digest.ensures.count;
  ahead = λ obeys inside. c.in_ok-digest.ensures.ahead obeys inside (c.places.invariant.ahead obeys inside);
  read = λ obeys inside.
      let seen = g.D.Disk.seen c.args.disk.now in
      let size = c.args.size in
      let tile = c.args.tile in
      let row = rows_in size seen (8 * tile.level) in
      let below = tile-inside size c.places.place tile c.requires.tile (omega arith) in
      let long = length-row_of (front size (stored_in size seen)) (8 * tile.level) in
      let own = c.in_ok-digest.ensures.digest obeys inside (c.places.invariant.ahead obeys inside) in
      c.put.ensures ∙ ap (λ l. l ++ (c.in_ok-digest.digest ∷ [])) (c.places.invariant.read obeys inside)
      ∙ ap (λ d. take c.places.place (drop (256 * tile.index) row) ++ (d ∷ [])) own
      ∙ sym (more-of row (256 * tile.index) c.places.place (omega arith));
}
