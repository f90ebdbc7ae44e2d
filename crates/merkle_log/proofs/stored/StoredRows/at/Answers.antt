use Rattle.std.proofs.Common.{◌<◌, length, map, get_or, [], ap, sym, ◌∙◌, arith}
use Rattle.merkle_log.specs.Stored.{position}
use Rattle.merkle_log.specs.Walk.{index_up}
use Rattle.merkle_log.proofs.Positions.{place-within, position-within, level-fits, size-within, row_of-at, row-inside}
use Rattle.merkle_log.proofs.stored.StoredRows.at.Goals as goal

pub digest_at-requires-clause-below : goal.digest_at-requires-clause-below
digest_at-requires-clause-below g c =
    omega (
      arith,
      place-within c.args.level c.args.place c.self.inside.size (row-inside _ _ c.args.level c.args.place c.self.view_is
          c.requires.complete),
      size-within c.self.inside.size,
      c.self.invariant,
      c.self.inside.digests.ok.0,
    )

pub digest_at-requires-clause-level : goal.digest_at-requires-clause-level
digest_at-requires-clause-level g c = level-fits c.args.level c.args.place (digest_at-requires-clause-below g c)

pub digest_at-requires-clause-inside : goal.digest_at-requires-clause-inside
digest_at-requires-clause-inside g c =
    let within = place-within c.args.level c.args.place c.self.inside.size (row-inside _ _ c.args.level c.args.place
    c.self.view_is c.requires.complete) in
    let place = position-within c.args.level c.args.place c.self.inside.size within in
    omega (arith, c.self.invariant, ap length c.deref.ensures.value)

pub returns : goal.returns
returns g c =
    let numbers = g.D.Numbered.numbers in
    let below : c.args.place < index_up c.args.level c.self.inside.size =
    row-inside _ _ c.args.level c.args.place c.self.view_is c.requires.complete in
    rw (← c.self.view_is) (c.digest_at.ensures ∙ ap (λ l. get_or (map numbers l) (position c.args.level c.args.place)
    []) c.deref.ensures.value
    ∙ sym (row_of-at (record { size = c.self.inside.size; digests = map numbers c.self.inside.digests.items })
    c.args.level c.args.place below))
