use Rattle.std.proofs.Common.{ap, arith, sym, ◌∙◌, [], get_or}
use Rattle.merkle_log.specs.Kept.{front}
use Rattle.merkle_log.proofs.Positions.{place-within, position-within, row_of-at}
use Rattle.log_file.specs.LogFile.{stored_in}
use Rattle.log_store.proofs.Reading.{level-low, stored-at}
use Rattle.log_tiles.proofs.tile.read_place.Goals as goal

pub position_of-position-requires-clause-level : goal.position_of-position-requires-clause-level
position_of-position-requires-clause-level g c =
    omega (arith, level-low c.args.level c.args.size c.requires.fits (omega (arith, c.requires.inside)))

pub position_of-position-requires-clause-below : goal.position_of-position-requires-clause-below
position_of-position-requires-clause-below g c =
    omega (arith, place-within c.args.level c.args.place c.args.size c.requires.inside, c.requires.fits)

pub position_of-position-requires-clause-fits : goal.position_of-position-requires-clause-fits
position_of-position-requires-clause-fits g c =
    let within = position-within c.args.level c.args.place c.args.size
    (place-within c.args.level c.args.place c.args.size c.requires.inside) in
    omega (arith, c.requires.fits)

pub look_at-requires-clause-before : goal.look_at-requires-clause-before
look_at-requires-clause-before g c =
    let within = position-within c.args.level c.args.place c.args.size
    (place-within c.args.level c.args.place c.args.size c.requires.inside) in
    omega (arith, c.position_of-position.ensures, c.stored_count.ensures)

pub look_at-requires-clause-near : goal.look_at-requires-clause-near
look_at-requires-clause-near g c = omega (arith, c.stored_count.ensures, c.requires.near)

pub digest_in-requires-clause-near : goal.digest_in-requires-clause-near
digest_in-requires-clause-near g c =
    let within = position-within c.args.level c.args.place c.args.size
    (place-within c.args.level c.args.place c.args.size c.requires.inside) in
    omega (arith, c.position_of-position.ensures, c.requires.near)

pub returns-clause-ahead : goal.returns-clause-ahead
returns-clause-ahead g c = λ obeys inside ahead.
    c.in_ok-look_at.ensures.ahead obeys (omega (arith, c.stored_count.ensures, inside)) ahead

pub returns-clause-digest : goal.returns-clause-digest
returns-clause-digest g c = λ obeys inside ahead.
    let seen = g.D.Disk.seen c.args.disk.now in
    let size = c.args.size in
    let within = position-within c.args.level c.args.place size
    (place-within c.args.level c.args.place size c.requires.inside) in
    let stored = stored_in size seen in
    let at = stored-at size c.position_of-position.result seen (omega (arith, c.position_of-position.ensures)) in
    let same = ap (λ n. get_or stored n []) c.position_of-position.ensures in
    let row = row_of-at (front size stored) c.args.level c.args.place c.requires.inside in
    c.in_ok-digest.ensures obeys
    (c.in_ok-look_at.ensures.ahead obeys (omega (arith, c.stored_count.ensures, inside)) ahead)
    (omega (arith, c.position_of-position.ensures, inside)) ∙ at ∙ same ∙ sym row
