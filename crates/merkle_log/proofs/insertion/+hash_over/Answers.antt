use Rattle.std.proofs.Common.{suc, ◌≡◌, ◌^◌, ◌-◌, length, arith, ap, ◌∙◌}
use Rattle.merkle_log.proofs.Givens.{given_on}
use Rattle.merkle_log.proofs.Inserting.{Parts, alone, both-gives, cut-level, left-refused, right-refused, some-levels}
use Rattle.merkle_log.proofs.Tests.{twice}
use Rattle.merkle_log.proofs.insertion.+hash_over.Goals as goal

pub overflow_sub-below : goal.overflow_sub-below
overflow_sub-below g t c =
    omega (
      arith,
      some-levels c.args.level c.args.size (length c.args.more.now) c.requires.some c.requires.few
          (λ one. c.if-peaks-more-eq1.false (omega (arith, one, c.requires.peaks))),
    )

pub hash_over-requires : goal.hash_over-requires
hash_over-requires g t c κs lives =
    let high = some-levels c.args.level c.args.size (length c.args.more.now) c.requires.some c.requires.few
    (λ one. c.if-peaks-more-eq1.false (omega (arith, one, c.requires.peaks))) in (
      omega (arith, c.decreases, high),
      (
        lives.0,
        (
          lives.1.0,
          (
            lives.1.1,
            (
              omega (arith, c.requires.level),
              (
                c.requires.some,
                (omega (arith, c.if-size-more.true, c.power-half.ensures), (c.requires.fits, c.requires.peaks)),
              ),
            ),
          ),
        ),
      ),
    )

pub returns-then-size-more-clause-hashed : goal.returns-then-size-more-clause-hashed
returns-then-size-more-clause-hashed g t c = λ none.
    let high = some-levels c.args.level c.args.size (length c.args.more.now) c.requires.some c.requires.few
    (λ one. c.if-peaks-more-eq1.false (omega (arith, one, c.requires.peaks))) in
    rw (alone g.D.Numbered.numbers (g.H.NodeHasher.hash c.args.hasher.now) none c.args.level c.args.size
    c.args.peaks.now c.args.more.now high (omega (arith, c.if-size-more.true, c.power-half.ensures)))
    (c.hash_over.ensures.hashed none)

pub split_at-requires : goal.split_at-requires
split_at-requires g t c =
    let cut = cut-level c.args.level c.args.size (length c.args.more.now) c.power-half.result c.min-own.result
    c.power-half.ensures c.min-own.ensures c.if-size-more.false c.requires.few
    (λ one. c.if-peaks-more-eq1.false (omega (arith, one, c.requires.peaks))) in
    omega (arith, cut.ones, c.requires.peaks)

pub returns-in_err-left-clause-hashed : goal.returns-in_err-left-clause-hashed
returns-in_err-left-clause-hashed g t c = λ none.
    let p : Parts c.args.level c.args.size c.power-half.result c.min-own.result c.args.peaks.now c.args.more.now
    c.split_at.result.0.now c.split_at.result.1.now c.split_at-2.result.0.now c.split_at-2.result.1.now = record {
      high = some-levels c.args.level c.args.size (length c.args.more.now) c.requires.some c.requires.few
          (λ one. c.if-peaks-more-eq1.false (omega (arith, one, c.requires.peaks)));
      half_is = c.power-half.ensures;
      own_is = c.min-own.ensures;
      many = c.if-peaks-more-eq1.false;
      above = c.if-size-more.false;
      first_is = c.split_at.ensures.front;
      last_is = c.split_at.ensures.back;
      front_is = c.split_at-2.ensures.front;
      back_is = c.split_at-2.ensures.back;
    } in
    given_on _ _ _ c.from_residual.result c.in_err-left.field-0.0 c.from_residual.ensures.1
    (c.in_err-left.ensures.hashed none) (λ refused. left-refused p g.D.Numbered.numbers
    (g.H.NodeHasher.hash c.args.hasher.now) none refused)

pub hash_over-requires-3 : goal.hash_over-requires-3
hash_over-requires-3 g t c κs lives =
    let cut = cut-level c.args.level c.args.size (length c.args.more.now) c.power-half.result c.min-own.result
    c.power-half.ensures c.min-own.ensures c.if-size-more.false c.requires.few
    (λ one. c.if-peaks-more-eq1.false (omega (arith, one, c.requires.peaks))) in
    let high = some-levels c.args.level c.args.size (length c.args.more.now) c.requires.some c.requires.few
    (λ one. c.if-peaks-more-eq1.false (omega (arith, one, c.requires.peaks))) in
    let up : c.args.level ≡ suc (c.args.level - 1) = omega (arith, high) in
    let two = twice (c.args.level - 1) in (
      omega (arith, c.decreases, high),
      (
        lives.0,
        (
          lives.1.0,
          (
            lives.1.1,
            (
              omega (arith, c.requires.level),
              (
                omega (arith, cut.back, c.power-half.ensures, c.split_at-2.ensures.back_len, c.if-size-more.false),
                (
                  omega (
                    arith,
                    cut.back,
                    c.power-half.ensures,
                    c.split_at-2.ensures.back_len,
                    c.requires.few,
                    ap (λ n. 2 ^ n) up,
                    two,
                  ),
                  (
                    omega (arith, cut.back, c.power-half.ensures, c.split_at-2.ensures.back_len, c.requires.fits),
                    omega (arith, cut.ones, c.split_at.ensures.back_len, c.requires.peaks),
                  ),
                ),
              ),
            ),
          ),
        ),
      ),
    )

pub returns-in_err-right-clause-hashed : goal.returns-in_err-right-clause-hashed
returns-in_err-right-clause-hashed g t c = λ none.
    let p : Parts c.args.level c.args.size c.power-half.result c.min-own.result c.args.peaks.now c.args.more.now
    c.split_at.result.0.now c.split_at.result.1.now c.split_at-2.result.0.now c.split_at-2.result.1.now = record {
      high = some-levels c.args.level c.args.size (length c.args.more.now) c.requires.some c.requires.few
          (λ one. c.if-peaks-more-eq1.false (omega (arith, one, c.requires.peaks)));
      half_is = c.power-half.ensures;
      own_is = c.min-own.ensures;
      many = c.if-peaks-more-eq1.false;
      above = c.if-size-more.false;
      first_is = c.split_at.ensures.front;
      last_is = c.split_at.ensures.back;
      front_is = c.split_at-2.ensures.front;
      back_is = c.split_at-2.ensures.back;
    } in
    given_on _ _ _ c.from_residual-in_err-right.result c.in_err-right.field-0.0 c.from_residual-in_err-right.ensures.1
    (rw (c.in_ok-left.ensures.same) at (c.in_err-right.ensures.hashed none)) (λ refused. right-refused p
    g.D.Numbered.numbers (g.H.NodeHasher.hash c.args.hasher.now) none (c.in_ok-left.ensures.hashed none) refused)

pub first_known-left_digest-requires : goal.first_known-left_digest-requires
first_known-left_digest-requires g t c =
    let cut = cut-level c.args.level c.args.size (length c.args.more.now) c.power-half.result c.min-own.result
    c.power-half.ensures c.min-own.ensures c.if-size-more.false c.requires.few
    (λ one. c.if-peaks-more-eq1.false (omega (arith, one, c.requires.peaks))) in
    omega (arith, cut.first, c.power-half.ensures, c.split_at.ensures.front_len, c.split_at-2.ensures.front_len)

pub first_known-right_digest-requires : goal.first_known-right_digest-requires
first_known-right_digest-requires g t c =
    let cut = cut-level c.args.level c.args.size (length c.args.more.now) c.power-half.result c.min-own.result
    c.power-half.ensures c.min-own.ensures c.if-size-more.false c.requires.few
    (λ one. c.if-peaks-more-eq1.false (omega (arith, one, c.requires.peaks))) in
    omega (
      arith,
      cut.last,
      cut.ones,
      c.requires.peaks,
      c.power-half.ensures,
      c.split_at.ensures.back_len,
      c.split_at-2.ensures.back_len,
    )

pub returns-in_err-node-clause-hashed : goal.returns-in_err-node-clause-hashed
returns-in_err-node-clause-hashed g t c = λ none.
    let p : Parts c.args.level c.args.size c.power-half.result c.min-own.result c.args.peaks.now c.args.more.now
    c.split_at.result.0.now c.split_at.result.1.now c.split_at-2.result.0.now c.split_at-2.result.1.now = record {
      high = some-levels c.args.level c.args.size (length c.args.more.now) c.requires.some c.requires.few
          (λ one. c.if-peaks-more-eq1.false (omega (arith, one, c.requires.peaks)));
      half_is = c.power-half.ensures;
      own_is = c.min-own.ensures;
      many = c.if-peaks-more-eq1.false;
      above = c.if-size-more.false;
      first_is = c.split_at.ensures.front;
      last_is = c.split_at.ensures.back;
      front_is = c.split_at-2.ensures.front;
      back_is = c.split_at-2.ensures.back;
    } in
    given_on _ _ _ c.from_residual-in_err-node.result c.in_err-node.field-0.0 c.from_residual-in_err-node.ensures.1
    (rw (c.in_ok-right.ensures.same, c.in_ok-left.ensures.same) at c.in_err-node.ensures.answer)
    (λ refused. both-gives p g.D.Numbered.numbers (g.H.NodeHasher.hash c.args.hasher.now) none
    (c.in_ok-left.ensures.hashed none) (rw (c.in_ok-left.ensures.same) at (c.in_ok-right.ensures.hashed none))
    (c.first_known-left_digest.ensures none) (c.first_known-right_digest.ensures none) ∙ refused)

pub returns-clause-hashed : goal.returns-clause-hashed
returns-clause-hashed g t c = λ none.
    let p : Parts c.args.level c.args.size c.power-half.result c.min-own.result c.args.peaks.now c.args.more.now
    c.split_at.result.0.now c.split_at.result.1.now c.split_at-2.result.0.now c.split_at-2.result.1.now = record {
      high = some-levels c.args.level c.args.size (length c.args.more.now) c.requires.some c.requires.few
          (λ one. c.if-peaks-more-eq1.false (omega (arith, one, c.requires.peaks)));
      half_is = c.power-half.ensures;
      own_is = c.min-own.ensures;
      many = c.if-peaks-more-eq1.false;
      above = c.if-size-more.false;
      first_is = c.split_at.ensures.front;
      last_is = c.split_at.ensures.back;
      front_is = c.split_at-2.ensures.front;
      back_is = c.split_at-2.ensures.back;
    } in
    both-gives p g.D.Numbered.numbers (g.H.NodeHasher.hash c.args.hasher.now) none
    (c.in_ok-left.ensures.hashed none) (rw (c.in_ok-left.ensures.same) at (c.in_ok-right.ensures.hashed none))
    (c.first_known-left_digest.ensures none) (c.first_known-right_digest.ensures none)
    ∙ (rw (c.in_ok-right.ensures.same, c.in_ok-left.ensures.same) at c.in_ok-node.ensures.answer)
