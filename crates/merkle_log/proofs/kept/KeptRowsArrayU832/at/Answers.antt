use Rattle.std.proofs.Common.{◌<◌, [], get_or, ap, sym, ◌∙◌, arith}
use Rattle.merkle_log.specs.Stored.{position}
use Rattle.merkle_log.specs.Walk.{index_up}
use Rattle.merkle_log.proofs.Making.{map-itself}
use Rattle.merkle_log.proofs.Positions.{place-within, position-within, level-fits, row_of-at, row-inside}
use Rattle.merkle_log.proofs.kept.KeptRowsArrayU832.at.Goals as goal

pub digest_at-requires-clause-below : goal.digest_at-requires-clause-below
digest_at-requires-clause-below c = omega (
  arith,
  place-within c.args.level c.args.place c.self.inside.size (row-inside _ _ c.args.level c.args.place c.self.view_is
      c.requires.complete),
  c.self.invariant.0,
)

pub digest_at-requires-clause-level : goal.digest_at-requires-clause-level
digest_at-requires-clause-level c = level-fits c.args.level c.args.place (digest_at-requires-clause-below c)

pub digest_at-requires-clause-inside : goal.digest_at-requires-clause-inside
digest_at-requires-clause-inside c =
    let within = place-within c.args.level c.args.place c.self.inside.size (row-inside _ _ c.args.level c.args.place
    c.self.view_is c.requires.complete) in
    let place = position-within c.args.level c.args.place c.self.inside.size within in
    omega (arith, c.self.invariant.1)

pub returns : goal.returns
returns c =
    let below : c.args.place < index_up c.args.level c.self.inside.size =
    row-inside _ _ c.args.level c.args.place c.self.view_is c.requires.complete in
    rw (← c.self.view_is) (c.digest_at.ensures
    ∙ ap (λ l. get_or l (position c.args.level c.args.place) []) (map-itself c.self.inside.digests.now)
    ∙ sym (row_of-at (record { size = c.self.inside.size; digests = c.self.inside.digests.now }) c.args.level
    c.args.place below))
