use Rattle.std.proofs.Common.{◌-◌, ◌*◌, arith, refl}
use Rattle.merkle_log.specs.Stored.{row_at}
use Rattle.merkle_log.proofs.Givens.{given_on}
use Rattle.merkle_log.proofs.MultiCounts.{halves, high-place}
use Rattle.merkle_log.proofs.MultiMaking.{complete-hash, edge-gives, edge-refused, node-down, place-there}
use Rattle.merkle_log.proofs.multi_making.+digest_at.Goals as goal

pub at-requires-clause-complete : goal.at-requires-clause-complete
at-requires-clause-complete g t c =
    place-there (g.R.Rows.stored c.args.rows.now) c.args.size c.args.level c.args.place c.requires.within
    (c.is_complete.ensures.complete c.if-is_complete.true)

pub returns-then-is_complete-clause-digest : goal.returns-then-is_complete-clause-digest
returns-then-is_complete-clause-digest g t c = λ stored empty.
    rw (
      complete-hash stored empty c.args.size c.args.level c.args.place c.requires.within
          (c.is_complete.ensures.complete c.if-is_complete.true),
      ← c.at.ensures,
    ) c.copied.ensures

pub digest_at-requires : goal.digest_at-requires
digest_at-requires g t c κs lives =
    let high = high-place c.args.size c.args.level c.args.place c.requires.inside
    (c.is_complete.ensures.other c.if-is_complete.false) in
    let h = halves c.args.level c.args.place high in (
      omega (arith, c.decreases, high),
      (
        lives.0,
        (
          lives.1.0,
          (
            lives.1.1.0,
            (
              lives.1.1.1,
              (
                omega (
                  arith,
                  c.requires.level,
                ),
                (omega (arith, h.first, c.requires.inside), (c.requires.within, c.requires.held)),
              ),
            ),
          ),
        ),
      ),
    )

pub digest_at-requires-2 : goal.digest_at-requires-2
digest_at-requires-2 g t c κs lives =
    let high = high-place c.args.size c.args.level c.args.place c.requires.inside
    (c.is_complete.ensures.other c.if-is_complete.false) in
    let h = halves c.args.level c.args.place high in (
      omega (arith, c.decreases, high),
      (
        lives.0,
        (
          lives.1.0,
          (
            lives.1.1.0,
            (
              lives.1.1.1,
              (
                omega (
                  arith,
                  c.requires.level,
                ),
                (omega (arith, h.second, c.middle_of-bound.ensures), (c.requires.within, c.requires.held)),
              ),
            ),
          ),
        ),
      ),
    )

pub returns-then-bound-size-clause-digest : goal.returns-then-bound-size-clause-digest
returns-then-bound-size-clause-digest g t c = λ stored empty.
    let high = high-place c.args.size c.args.level c.args.place c.requires.inside
    (c.is_complete.ensures.other c.if-is_complete.false) in
    rw (node-down (g.H.NodeHasher.hash c.args.hasher.now) empty (row_at (g.R.Rows.stored c.args.rows.now) 0) c.args.size
    c.args.level c.args.place c.middle_of-bound.result c.requires.within high c.middle_of-bound.ensures
    c.if-bound-size.true) (c.digest_at.ensures.digest stored empty)

pub returns-in_err-last-clause-digest : goal.returns-in_err-last-clause-digest
returns-in_err-last-clause-digest g t c = λ stored empty.
    let high = high-place c.args.size c.args.level c.args.place c.requires.inside
    (c.is_complete.ensures.other c.if-is_complete.false) in
    given_on _ _ _ c.from_residual.result c.in_err-last.field-0.0 c.from_residual.ensures.1
    (c.in_err-last.ensures.digest stored empty) (λ refused. edge-refused stored empty c.args.size c.args.level
    c.args.place c.middle_of-bound.result c.requires.within high c.middle_of-bound.ensures c.if-bound-size.false
    refused)

pub at-requires-2-clause-complete : goal.at-requires-2-clause-complete
at-requires-2-clause-complete g t c =
    let high = high-place c.args.size c.args.level c.args.place c.requires.inside
    (c.is_complete.ensures.other c.if-is_complete.false) in
    let h = halves c.args.level c.args.place high in
    place-there (g.R.Rows.stored c.args.rows.now) c.args.size (c.args.level - 1) (2 * c.args.place) c.requires.within
    (omega (arith, h.second, c.middle_of-bound.ensures))

pub at-requires-2-clause-held : goal.at-requires-2-clause-held
at-requires-2-clause-held g t c =
    let high = high-place c.args.size c.args.level c.args.place c.requires.inside
    (c.is_complete.ensures.other c.if-is_complete.false) in
    let h = halves c.args.level c.args.place high in
    c.requires.held (c.args.level - 1) (2 * c.args.place) (omega (arith, h.second, c.middle_of-bound.ensures))

pub returns-clause-digest : goal.returns-clause-digest
returns-clause-digest g t c = λ stored empty.
    let high = high-place c.args.size c.args.level c.args.place c.requires.inside
    (c.is_complete.ensures.other c.if-is_complete.false) in
    rw (edge-gives stored empty c.args.size c.args.level c.args.place c.middle_of-bound.result c.requires.within high
    c.middle_of-bound.ensures c.if-bound-size.false (c.in_ok-last.ensures.digest stored empty) c.at-2.ensures refl)
    (rw (c.in_ok-last.ensures.same) at c.node.ensures.answer)
