use Rattle.std.proofs.Common.{◌<◌, [], get_or, Option, Some, None, ap, sym, ◌∙◌, arith}
use Rattle.ark_paths.specs.Pair.{Digest}
use Rattle.merkle_log.specs.Stored.{row_at}
use Rattle.merkle_log.specs.Walk.{index_up}
use Rattle.merkle_log.proofs.Positions.{length-row_of, level-fits, place-within, position-within}
use Rattle.log_store.specs.Spots.{found}
use Rattle.log_store.proofs.spots.SpotsRowsArrayU832.at.Goals as goal

pub position_of-requires-clause-below : goal.position_of-requires-clause-below
position_of-requires-clause-below g c =
    let below : c.args.place < index_up c.args.level g.W.Whole.whole.size =
    omega (arith, c.requires.complete, length-row_of g.W.Whole.whole c.args.level) in
    omega (arith, place-within c.args.level c.args.place g.W.Whole.whole.size below, c.requires.held.0)

pub position_of-requires-clause-level : goal.position_of-requires-clause-level
position_of-requires-clause-level g c =
    level-fits c.args.level c.args.place (position_of-requires-clause-below g c)

pub position_of-requires-clause-fits : goal.position_of-requires-clause-fits
position_of-requires-clause-fits g c =
    let size = g.W.Whole.whole.size in
    let below : c.args.place < index_up c.args.level size =
    omega (arith, c.requires.complete, length-row_of g.W.Whole.whole c.args.level) in
    let within = position-within c.args.level c.args.place size (place-within c.args.level c.args.place size below) in
    omega (arith, c.requires.held.0)

pub find_spot-requires : goal.find_spot-requires
find_spot-requires g c = (
  get_or (row_at g.W.Whole.whole c.args.level) c.args.place [],
  ap (found c.args.self.now.spots.now) c.position_of.ensures ∙ c.requires.held.1,
)

pub returns : goal.returns
returns g c = ap digest_in (sym c.find_spot.ensures ∙ ap (found c.args.self.now.spots.now) c.position_of.ensures
    ∙ c.requires.held.1)
  where
    digest_in : Option Digest → Digest
    digest_in None = []
    digest_in (Some digest) = digest
