use Rattle.std.proofs.Common.{◌≡◌, ◌+◌, ◌-◌, ◌*◌, length, map, take, drop, arith, refl, ◌∙◌}
use Rattle.merkle_log.specs.Multi.{count_around}
use Rattle.merkle_log.specs.Stored.{row_at}
use Rattle.merkle_log.proofs.Givens.{given_on}
use Rattle.merkle_log.proofs.MultiCounts.{emptied, filled, halves, around-none, around-alone}
use Rattle.merkle_log.proofs.MultiHashing.{both}
use Rattle.merkle_log.proofs.MultiMaking.{behind-nothing, hashes-alone, hashes-leaf, left-behind, left-refused, one-behind, one-refused}
use Rattle.merkle_log.proofs.multi_making.+put_around.Goals as goal

pub returns-in_err-proof-clause-put : goal.returns-in_err-proof-clause-put
returns-in_err-proof-clause-put g t c = λ stored empty.
    let none = emptied c.args.indexes.now c.is_empty.result c.is_empty.ensures c.if-is_empty.true in
    given_on _ _ _ c.from_residual.result c.in_err-proof.field-0.0 c.from_residual.ensures.1
    (c.in_err-proof.ensures.digest stored empty)
    (λ refused. one-refused (g.H.NodeHasher.hash c.args.hasher.now) empty (row_at (g.R.Rows.stored c.args.rows.now) 0)
    c.args.size c.args.place c.requires.within _ c.args.level
    c.args.indexes.now _ none refused)

pub bounds-proof-at : goal.bounds-proof-at
bounds-proof-at g t c =
    let none = emptied c.args.indexes.now c.is_empty.result c.is_empty.ensures c.if-is_empty.true in
    omega (arith, c.requires.room, around-none c.args.size c.args.place c.args.level c.args.indexes.now none)

pub overflow_add-result : goal.overflow_add-result
overflow_add-result g t c =
    let none = emptied c.args.indexes.now c.is_empty.result c.is_empty.ensures c.if-is_empty.true in
    omega (
      arith,
      c.requires.room,
      c.requires.fits,
      around-none c.args.size c.args.place c.args.level
          c.args.indexes.now none,
    )

pub returns-then-is_empty-clause-next : goal.returns-then-is_empty-clause-next
returns-then-is_empty-clause-next g t c =
    let none = emptied c.args.indexes.now c.is_empty.result c.is_empty.ensures c.if-is_empty.true in
    omega (arith, around-none c.args.size c.args.place c.args.level c.args.indexes.now none)

pub returns-then-is_empty-clause-put : goal.returns-then-is_empty-clause-put
returns-then-is_empty-clause-put g t c = λ stored empty.
    let none = emptied c.args.indexes.now c.is_empty.result c.is_empty.ensures c.if-is_empty.true in
    one-behind (g.H.NodeHasher.hash c.args.hasher.now) empty (row_at (g.R.Rows.stored c.args.rows.now) 0) c.args.size
    c.args.place c.requires.within g.D.Numbered.numbers c.args.proof.now
    c.args.level c.args.at (c.args.at + 1) c.args.indexes.now _ none (c.in_ok-proof.ensures.digest stored empty)
    (omega (arith, c.requires.room, around-none c.args.size c.args.place c.args.level c.args.indexes.now none)) refl

pub returns-then-level-eq0-clause-put : goal.returns-then-level-eq0-clause-put
returns-then-level-eq0-clause-put g t c = λ stored empty.
    let some = filled c.args.indexes.now c.is_empty.result c.is_empty.ensures c.if-is_empty.false in
    rw (hashes-leaf (g.H.NodeHasher.hash c.args.hasher.now) empty (row_at (g.R.Rows.stored c.args.rows.now) 0)
    c.args.size c.args.place
    c.requires.within c.args.level c.args.indexes.now some c.if-level-eq0.true) (behind-nothing _)

pub put_around-requires : goal.put_around-requires
put_around-requires g t c κs lives =
    let some = filled c.args.indexes.now c.is_empty.result c.is_empty.ensures c.if-is_empty.false in
    let h = halves c.args.level c.args.place (omega arith) in (
      omega (arith, c.decreases),
      (
        lives.0,
        (
          lives.1.0,
          (
            lives.1.1.0,
            (
              lives.1.1.1,
              (
                omega (arith, c.requires.level),
                (
                  omega (arith, h.first, c.requires.inside),
                  (
                    c.requires.within,
                    (
                      c.requires.held,
                      (
                        omega (
                          arith,
                          c.requires.room,
                          around-alone c.args.size c.args.place c.args.level c.args.indexes.now (omega arith) some
                              (omega arith),
                        ),
                        c.requires.fits,
                      ),
                    ),
                  ),
                ),
              ),
            ),
          ),
        ),
      ),
    )

pub returns-then-bound-size-clause-put : goal.returns-then-bound-size-clause-put
returns-then-bound-size-clause-put g t c = λ stored empty.
    let some = filled c.args.indexes.now c.is_empty.result c.is_empty.ensures c.if-is_empty.false in
    rw (hashes-alone (g.H.NodeHasher.hash c.args.hasher.now) empty (row_at (g.R.Rows.stored c.args.rows.now) 0)
    c.args.size c.args.place
    c.requires.within c.args.level c.middle_of-bound.result c.args.indexes.now (omega arith) some
    c.middle_of-bound.ensures c.if-bound-size.true) (c.put_around.ensures.put stored empty)

pub returns-then-bound-size-clause-next : goal.returns-then-bound-size-clause-next
returns-then-bound-size-clause-next g t c =
    let some = filled c.args.indexes.now c.is_empty.result c.is_empty.ensures c.if-is_empty.false in
    rw (around-alone c.args.size c.args.place c.args.level c.args.indexes.now (omega arith) some (omega arith))
    c.put_around.ensures.next

pub put_around-requires-2 : goal.put_around-requires-2
put_around-requires-2 g t c κs lives =
    let some = filled c.args.indexes.now c.is_empty.result c.is_empty.ensures c.if-is_empty.false in
    let b = both c.args.size c.args.level c.args.place c.middle_of-bound.result c.args.indexes.now (omega arith)
    some c.middle_of-bound.ensures c.if-bound-size.false c.requires.inside c.count_below-count.result
    c.count_below-count.ensures.count in (
      omega (arith, c.decreases),
      (
        lives.0,
        (
          lives.1.0,
          (
            lives.1.1.0,
            (
              lives.1.1.1,
              (
                omega (arith, c.requires.level),
                (
                  b.left_inside,
                  (
                    c.requires.within,
                    (
                      c.requires.held,
                      (
                        omega (arith, c.requires.room, b.total),
                        c.requires.fits,
                      ),
                    ),
                  ),
                ),
              ),
            ),
          ),
        ),
      ),
    )

pub returns-in_err-next-clause-put : goal.returns-in_err-next-clause-put
returns-in_err-next-clause-put g t c = λ stored empty.
    let some = filled c.args.indexes.now c.is_empty.result c.is_empty.ensures c.if-is_empty.false in
    given_on _ _ _ c.from_residual-in_err-next.result c.in_err-next.field-0.0 c.from_residual-in_err-next.ensures.1
    (c.in_err-next.ensures.put stored empty)
    (λ refused. left-refused (g.H.NodeHasher.hash c.args.hasher.now) empty (row_at (g.R.Rows.stored c.args.rows.now)
    0) c.args.size c.args.place
    c.requires.within c.args.level c.middle_of-bound.result c.args.indexes.now (omega arith) some
    c.middle_of-bound.ensures c.if-bound-size.false c.count_below-count.result c.count_below-count.ensures.count
    (map g.D.Numbered.numbers (take c.args.at c.args.proof.now)) _ refused)

pub put_around-requires-3 : goal.put_around-requires-3
put_around-requires-3 g t c κs lives =
    let some = filled c.args.indexes.now c.is_empty.result c.is_empty.ensures c.if-is_empty.false in
    let b = both c.args.size c.args.level c.args.place c.middle_of-bound.result c.args.indexes.now (omega arith)
    some c.middle_of-bound.ensures c.if-bound-size.false c.requires.inside c.count_below-count.result
    c.count_below-count.ensures.count in (
      omega (arith, c.decreases),
      (
        lives.0,
        (
          lives.1.0,
          (
            lives.1.1.0,
            (
              lives.1.1.1,
              (
                omega (arith, c.requires.level),
                (
                  b.right_inside,
                  (
                    c.requires.within,
                    (
                      c.requires.held,
                      (
                        omega (
                          arith,
                          c.requires.room,
                          b.total,
                          c.in_ok-next.ensures.next,
                          c.in_ok-next.ensures.long,
                        ),
                        omega (
                          arith,
                          c.requires.fits,
                          c.in_ok-next.ensures.long,
                        ),
                      ),
                    ),
                  ),
                ),
              ),
            ),
          ),
        ),
      ),
    )

pub returns-clause-put : goal.returns-clause-put
returns-clause-put g t c = λ stored empty.
    let some = filled c.args.indexes.now c.is_empty.result c.is_empty.ensures c.if-is_empty.false in
    rw (left-behind (g.H.NodeHasher.hash c.args.hasher.now) empty (row_at (g.R.Rows.stored c.args.rows.now) 0)
    c.args.size c.args.place
    c.requires.within c.args.level c.middle_of-bound.result c.args.indexes.now (omega arith) some
    c.middle_of-bound.ensures c.if-bound-size.false c.count_below-count.result c.count_below-count.ensures.count
    (map g.D.Numbered.numbers (take c.args.at c.args.proof.now)) _
    (c.in_ok-next.ensures.put stored empty)) (rw (c.in_ok-next.ensures.same) at (c.put_around-3.ensures.put (rw
    (c.in_ok-next.ensures.same) stored) empty))

pub returns-clause-next : goal.returns-clause-next
returns-clause-next g t c =
    let some = filled c.args.indexes.now c.is_empty.result c.is_empty.ensures c.if-is_empty.false in
    let b = both c.args.size c.args.level c.args.place c.middle_of-bound.result c.args.indexes.now (omega arith)
    some c.middle_of-bound.ensures c.if-bound-size.false c.requires.inside c.count_below-count.result
    c.count_below-count.ensures.count in
    let all : c.args.at + count_around c.args.size c.args.level c.args.place c.args.indexes.now ≡ c.in_ok-next.next
    + count_around c.args.size (c.args.level - 1) (2 * c.args.place + 1) (take (length c.args.indexes.now
    - c.count_below-count.result) (drop c.count_below-count.result c.args.indexes.now))
    = omega (arith, b.total, c.in_ok-next.ensures.next) in
    rw (all) c.put_around-3.ensures.next

pub returns-clause-long : goal.returns-clause-long
returns-clause-long g t c = c.put_around-3.ensures.long ∙ c.in_ok-next.ensures.long
