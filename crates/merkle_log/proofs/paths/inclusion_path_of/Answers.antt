use Rattle.std.proofs.Common.{◌≡◌, ◌+◌, ◌-◌, [], get_or, length, refl, ◌∙◌, subst, arith}
use Rattle.merkle_log.specs.Asked.{Holding, IsBeside, IsPeak}
use Rattle.merkle_log.specs.Stored.{row_at}
use Rattle.merkle_log.proofs.Backs.{beside-first}
use Rattle.merkle_log.proofs.Givens.{known_if_ok}
use Rattle.merkle_log.proofs.Rooms.{room-first}
use Rattle.merkle_log.proofs.Verdicts.{pow_above}
use Rattle.merkle_log.proofs.Seeding.{path-first}
use Rattle.merkle_log.proofs.paths.inclusion_path_of.Goals as goal

pub path_from-requires-clause-last : goal.path_from-requires-clause-last
path_from-requires-clause-last g c = omega (arith, c.requires.within, c.requires.inside)

pub path_from-requires-clause-peaks : goal.path_from-requires-clause-peaks
path_from-requires-clause-peaks g c =
    let one : c.args.size ≡ c.args.size - 1 + 1 = omega (arith, c.requires.inside) in
    subst (λ n. Holding (g.R.Rows.Holds c.args.rows.now) 0 (IsPeak n)) one c.requires.peaks

pub path_from-requires-clause-beside : goal.path_from-requires-clause-beside
path_from-requires-clause-beside g c =
    let one : c.args.size ≡ c.args.size - 1 + 1 = omega (arith, c.requires.inside) in
    subst (λ n. Holding (g.R.Rows.Holds c.args.rows.now) 0 (IsBeside c.args.index n)) one c.requires.beside

pub path_from-requires-clause-room : goal.path_from-requires-clause-room
path_from-requires-clause-room g c =
    room-first c.args.index c.args.size (length c.args.path.now) c.requires.inside c.requires.room

pub returns-clause-path : goal.returns-clause-path
returns-clause-path g c = λ stored empty.
    rw (← path-first empty stored c.args.index c.args.size (get_or (row_at (g.R.Rows.stored c.args.rows.now) 0)
    (c.args.size - 1) []) (omega (arith, c.requires.inside)) c.requires.within refl
    [] refl)
    (c.path_from.ensures.path stored empty c.args.size (omega (arith, pow_above c.args.size)))

pub returns-clause-counts : goal.returns-clause-counts
returns-clause-counts g c =
    known_if_ok c.path_from.result (λ counts. counts c.args.size (omega (arith, pow_above c.args.size))
    ∙ beside-first _ c.args.index c.args.size c.requires.none (omega (arith, c.requires.inside)))
    c.path_from.ensures.counts
