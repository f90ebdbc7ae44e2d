use Rattle.std.proofs.Common.{◌-◌, ◌<◌, ap, sym, ◌∙◌, arith, [], get_or}
use Rattle.std.proofs.lemmas.List.{get_or_append_left, get_or-append_right, get_or-take}
use Rattle.merkle_log.specs.Kept.{stored_front}
use Rattle.merkle_log.specs.Stored.{position, stored_count}
use Rattle.merkle_log.proofs.KeptPlaces.{inside-up}
use Rattle.merkle_log.proofs.KeptRows.{front-long}
use Rattle.merkle_log.proofs.Positions.{length-row_of, position-beyond, position-within, row_of-at}
use Rattle.merkle_log.proofs.kept.growth.digest_among.Goals as goal

pub at-requires-clause-complete : goal.at-requires-clause-complete
at-requires-clause-complete g c =
    let stored = g.R.Rows.stored c.args.rows.now in
    let below = inside-up c.args.level c.args.place stored.size (omega (arith, c.requires.size)) in
    omega (arith, length-row_of stored c.args.level)

pub at-requires-clause-held : goal.at-requires-clause-held
at-requires-clause-held g c = c.requires.held (inside-up c.args.level c.args.place c.args.size (omega arith))

pub returns-then-place-level : goal.returns-then-place-level
returns-then-place-level g c =
    let stored = g.R.Rows.stored c.args.rows.now in
    let place = position c.args.level c.args.place in
    let below = inside-up c.args.level c.args.place stored.size (omega (arith, c.requires.size)) in
    let inside : place < stored_count stored.size =
    position-within c.args.level c.args.place stored.size (omega (arith, c.requires.size)) in
    c.at.ensures ∙ row_of-at stored c.args.level c.args.place below
    ∙ sym (get_or-take (stored_count stored.size) stored.digests place [] inside)
    ∙ sym (get_or_append_left (stored_front stored) c.args.more.now [] place (omega (
      arith,
      front-long stored c.args.size c.requires.size c.requires.whole,
      ap stored_count c.requires.size,
    )))

pub returns-else-place-level : goal.returns-else-place-level
returns-else-place-level g c =
    let stored = g.R.Rows.stored c.args.rows.now in
    let place = position c.args.level c.args.place in
    let beyond = position-beyond c.args.level c.args.place c.args.size (omega arith) in
    let right = get_or-append_right (stored_front stored) c.args.more.now (stored_count c.args.size) place []
    (front-long stored c.args.size c.requires.size c.requires.whole) beyond in
    sym (right ∙ ap (λ n. get_or c.args.more.now (n - stored_count c.args.size) []) (sym c.position_of.ensures)
    ∙ ap (λ n. get_or c.args.more.now (c.position_of.result - n) []) (sym c.stored_count.ensures))

pub overflow_sub-result : goal.overflow_sub-result
overflow_sub-result g c =
    let beyond = position-beyond c.args.level c.args.place c.args.size (omega arith) in
    rw (c.position_of.ensures, c.stored_count.ensures) beyond

pub bounds-more-position_of : goal.bounds-more-position_of
bounds-more-position_of g c =
    let beyond = position-beyond c.args.level c.args.place c.args.size (omega arith) in
    let inside = c.requires.inside in
    omega (arith, c.position_of.ensures, c.stored_count.ensures)
