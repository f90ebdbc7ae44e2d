use Rattle.std.proofs.Common.{◌+◌, ◌*◌, arith}
use Rattle.merkle_log.proofs.Levels.{child-held, child-spot}
use Rattle.merkle_log.proofs.kept.growth.levels.two_below.Goals as goal

pub digest_among-left-requires-clause-level : goal.digest_among-left-requires-clause-level
digest_among-left-requires-clause-level g c =
    let place = c.min-place.result in
    (child-spot c.requires.room place (2 * place) (omega (arith, c.requires.some, c.min-place.ensures))
    (omega arith)).level_fits

pub digest_among-left-requires-clause-below : goal.digest_among-left-requires-clause-below
digest_among-left-requires-clause-below g c =
    let place = c.min-place.result in
    (child-spot c.requires.room place (2 * place) (omega (arith, c.requires.some, c.min-place.ensures))
    (omega arith)).below

pub digest_among-left-requires-clause-inside : goal.digest_among-left-requires-clause-inside
digest_among-left-requires-clause-inside g c =
    let place = c.min-place.result in
    (child-spot c.requires.room place (2 * place) (omega (arith, c.requires.some, c.min-place.ensures))
    (omega arith)).inside

pub digest_among-left-requires-clause-near : goal.digest_among-left-requires-clause-near
digest_among-left-requires-clause-near g c =
    let place = c.min-place.result in
    (child-spot c.requires.room place (2 * place) (omega (arith, c.requires.some, c.min-place.ensures))
    (omega arith)).near

pub digest_among-left-requires-clause-held : goal.digest_among-left-requires-clause-held
digest_among-left-requires-clause-held g c =
    let place = c.min-place.result in
    child-held c.requires.room place (2 * place) (omega (arith, c.requires.some, c.min-place.ensures)) (omega arith)

pub digest_among-right-requires-clause-level : goal.digest_among-right-requires-clause-level
digest_among-right-requires-clause-level g c =
    let place = c.min-place.result in
    (child-spot c.requires.room place (2 * place + 1) (omega (arith, c.requires.some, c.min-place.ensures))
    (omega arith)).level_fits

pub digest_among-right-requires-clause-below : goal.digest_among-right-requires-clause-below
digest_among-right-requires-clause-below g c =
    let place = c.min-place.result in
    (child-spot c.requires.room place (2 * place + 1) (omega (arith, c.requires.some, c.min-place.ensures))
    (omega arith)).below

pub digest_among-right-requires-clause-inside : goal.digest_among-right-requires-clause-inside
digest_among-right-requires-clause-inside g c =
    let place = c.min-place.result in
    (child-spot c.requires.room place (2 * place + 1) (omega (arith, c.requires.some, c.min-place.ensures))
    (omega arith)).inside

pub digest_among-right-requires-clause-near : goal.digest_among-right-requires-clause-near
digest_among-right-requires-clause-near g c =
    let place = c.min-place.result in
    (child-spot c.requires.room place (2 * place + 1) (omega (arith, c.requires.some, c.min-place.ensures))
    (omega arith)).near

pub digest_among-right-requires-clause-held : goal.digest_among-right-requires-clause-held
digest_among-right-requires-clause-held g c =
    let place = c.min-place.result in
    child-held c.requires.room place (2 * place + 1) (omega (arith, c.requires.some, c.min-place.ensures))
    (omega arith)
