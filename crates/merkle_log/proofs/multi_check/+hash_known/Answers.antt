use Rattle.std.proofs.Common.{arith, ◌∙◌, ◌+◌, ◌-◌, ◌*◌, length, take, drop}
use Rattle.std.proofs.lemmas.List.{length-take, length-drop}
use Rattle.merkle_log.proofs.Givens.{given_on}
use Rattle.merkle_log.proofs.MultiCounts.{emptied, filled, halves, around-alone, pairs-none, pairs-leaf, pairs-alone}
use Rattle.merkle_log.proofs.MultiHashing.{around-some, both, both-gives, left-refused, right-refused, alone-hash}
use Rattle.merkle_log.proofs.multi_check.+hash_known.Goals as goal

pub returns-then-is_empty-clause-counts : goal.returns-then-is_empty-clause-counts
returns-then-is_empty-clause-counts g t c =
    let none = emptied c.args.indexes.now c.is_empty.result c.is_empty.ensures c.if-is_empty.true in
    omega (arith, c.requires.counted, pairs-none c.args.size c.args.place c.args.level c.args.indexes.now none)

pub returns-then-level-eq0-clause-counts : goal.returns-then-level-eq0-clause-counts
returns-then-level-eq0-clause-counts g t c =
    omega (
      arith,
      c.requires.counted,
      pairs-leaf c.args.size c.args.place c.args.level c.args.indexes.now
          c.if-level-eq0.true,
    )

pub hash_known-requires : goal.hash_known-requires
hash_known-requires g t c κs lives =
    let h = halves c.args.level c.args.place (omega arith) in
    let some = filled c.args.indexes.now c.is_empty.result c.is_empty.ensures c.if-is_empty.false in (
      omega (arith, c.decreases),
      (
        lives.0,
        (
          lives.1.0,
          (
            lives.1.1,
            (
              omega (arith, c.requires.level),
              (
                omega (
                  arith,
                  h.first,
                  c.requires.inside,
                ),
                (
                  c.requires.leaves,
                  (
                    omega (
                      arith,
                      c.requires.proof,
                      around-alone c.args.size
                          c.args.place c.args.level c.args.indexes.now (omega arith) some (omega arith),
                    ),
                    (c.requires.fits, c.requires.counted),
                  ),
                ),
              ),
            ),
          ),
        ),
      ),
    )

pub returns-then-bound-size-clause-hashed : goal.returns-then-bound-size-clause-hashed
returns-then-bound-size-clause-hashed g t c =
    let some = filled c.args.indexes.now c.is_empty.result c.is_empty.ensures c.if-is_empty.false in
    rw (alone-hash c.args.size c.args.level c.args.place c.middle_of-bound.result c.args.indexes.now (omega arith) some
    c.middle_of-bound.ensures c.if-bound-size.true g.D.Numbered.numbers (g.H.NodeHasher.hash c.args.hasher.now)
    c.args.leaves.now c.args.proof.now) c.hash_known.ensures.hashed

pub returns-then-bound-size-clause-used : goal.returns-then-bound-size-clause-used
returns-then-bound-size-clause-used g t c =
    let some = filled c.args.indexes.now c.is_empty.result c.is_empty.ensures c.if-is_empty.false in
    rw (around-alone c.args.size c.args.place c.args.level c.args.indexes.now (omega arith) some (omega arith))
    c.hash_known.ensures.used

pub returns-then-bound-size-clause-counts : goal.returns-then-bound-size-clause-counts
returns-then-bound-size-clause-counts g t c =
    let some = filled c.args.indexes.now c.is_empty.result c.is_empty.ensures c.if-is_empty.false in
    rw (pairs-alone c.args.size c.args.place c.args.level c.args.indexes.now (omega arith) some (omega arith))
    c.hash_known.ensures.counts

pub hash_known-requires-2 : goal.hash_known-requires-2
hash_known-requires-2 g t c κs lives =
    let some = filled c.args.indexes.now c.is_empty.result c.is_empty.ensures c.if-is_empty.false in
    let b = both c.args.size c.args.level c.args.place c.middle_of-bound.result c.args.indexes.now (omega arith)
    some c.middle_of-bound.ensures c.if-bound-size.false c.requires.inside c.count_below-count.result
    c.count_below-count.ensures.count in (
      omega (arith, c.decreases),
      (
        lives.0,
        (
          lives.1.0,
          (
            lives.1.1,
            (
              omega (arith, c.requires.level),
              (
                b.left_inside,
                (
                  omega (
                    arith,
                    c.requires.leaves,
                    length-take c.count_below-count.result c.args.leaves.now,
                    length-take c.count_below-count.result c.args.indexes.now,
                  ),
                  (
                    omega (arith, c.requires.proof, b.total),
                    (c.requires.fits, c.requires.counted),
                  ),
                ),
              ),
            ),
          ),
        ),
      ),
    )

pub returns-in_err-left-clause-hashed : goal.returns-in_err-left-clause-hashed
returns-in_err-left-clause-hashed g t c =
    let some = filled c.args.indexes.now c.is_empty.result c.is_empty.ensures c.if-is_empty.false in
    given_on _ _ _ c.from_residual.result c.in_err-left.field-0.0 c.from_residual.ensures.1 c.in_err-left.ensures.hashed
    (λ refused. left-refused c.args.size c.args.level c.args.place c.middle_of-bound.result c.args.indexes.now (omega
    arith)
    some c.middle_of-bound.ensures c.if-bound-size.false c.requires.inside c.count_below-count.result
    c.count_below-count.ensures.count g.D.Numbered.numbers (g.H.NodeHasher.hash c.args.hasher.now) c.args.leaves.now
    c.args.proof.now refused)

pub hash_known-requires-3 : goal.hash_known-requires-3
hash_known-requires-3 g t c κs lives =
    let some = filled c.args.indexes.now c.is_empty.result c.is_empty.ensures c.if-is_empty.false in
    let b = both c.args.size c.args.level c.args.place c.middle_of-bound.result c.args.indexes.now (omega arith)
    some c.middle_of-bound.ensures c.if-bound-size.false c.requires.inside c.count_below-count.result
    c.count_below-count.ensures.count in (
      omega (arith, c.decreases),
      (
        lives.0,
        (
          lives.1.0,
          (
            lives.1.1,
            (
              omega (arith, c.requires.level),
              (
                b.right_inside,
                (
                  omega (
                    arith,
                    c.requires.leaves,
                    length-take (length c.args.leaves.now - c.count_below-count.result) (drop
                        c.count_below-count.result c.args.leaves.now),
                    length-drop c.count_below-count.result c.args.leaves.now,
                    length-take (length c.args.indexes.now - c.count_below-count.result) (drop
                        c.count_below-count.result c.args.indexes.now),
                    length-drop c.count_below-count.result c.args.indexes.now,
                  ),
                  (
                    omega (
                      arith,
                      c.requires.proof,
                      b.total,
                      c.in_ok-left.ensures.used,
                      length-take (length c.args.proof.now
                          - c.in_ok-left.used) (drop c.in_ok-left.used c.args.proof.now),
                      length-drop c.in_ok-left.used c.args.proof.now,
                    ),
                    (
                      omega (
                        arith,
                        c.requires.fits,
                        length-take (length c.args.proof.now - c.in_ok-left.used) (drop c.in_ok-left.used
                            c.args.proof.now),
                        length-drop c.in_ok-left.used c.args.proof.now,
                      ),
                      omega (arith, c.in_ok-left.ensures.counts),
                    ),
                  ),
                ),
              ),
            ),
          ),
        ),
      ),
    )

pub returns-in_err-right-clause-hashed : goal.returns-in_err-right-clause-hashed
returns-in_err-right-clause-hashed g t c =
    let some = filled c.args.indexes.now c.is_empty.result c.is_empty.ensures c.if-is_empty.false in
    given_on _ _ _ c.from_residual-in_err-right.result c.in_err-right.field-0.0 c.from_residual-in_err-right.ensures.1
    (rw (c.in_ok-left.ensures.same) at c.in_err-right.ensures.hashed)
    (λ refused. right-refused c.args.size c.args.level c.args.place c.middle_of-bound.result c.args.indexes.now (omega
    arith)
    some c.middle_of-bound.ensures c.if-bound-size.false c.requires.inside c.count_below-count.result
    c.count_below-count.ensures.count g.D.Numbered.numbers (g.H.NodeHasher.hash c.args.hasher.now) c.args.leaves.now
    c.args.proof.now
    c.in_ok-left.used c.in_ok-left.ensures.used c.in_ok-left.ensures.hashed refused)

pub digest_known-left_digest-requires-clause-proof : goal.digest_known-left_digest-requires-clause-proof
digest_known-left_digest-requires-clause-proof g t c = λ none.
    omega (
      arith,
      c.in_ok-left.ensures.used,
      c.in_ok-left.ensures.within,
      around-some c.args.size (c.args.level - 1)
          (2 * c.args.place) (take c.count_below-count.result c.args.indexes.now),
    )

pub digest_known-right_digest-requires-clause-proof : goal.digest_known-right_digest-requires-clause-proof
digest_known-right_digest-requires-clause-proof g t c = λ none.
    omega (
      arith,
      c.in_ok-right.ensures.used,
      c.in_ok-right.ensures.within,
      around-some c.args.size (c.args.level - 1)
          (2 * c.args.place + 1) (take (length c.args.indexes.now - c.count_below-count.result) (drop
          c.count_below-count.result c.args.indexes.now)),
    )

pub returns-in_err-node-clause-hashed : goal.returns-in_err-node-clause-hashed
returns-in_err-node-clause-hashed g t c =
    let some = filled c.args.indexes.now c.is_empty.result c.is_empty.ensures c.if-is_empty.false in
    given_on _ _ _ c.from_residual-in_err-node.result c.in_err-node.field-0.0 c.from_residual-in_err-node.ensures.1
    (rw (c.in_ok-right.ensures.same, c.in_ok-left.ensures.same) at c.in_err-node.ensures.answer)
    (λ refused. both-gives c.args.size c.args.level c.args.place c.middle_of-bound.result c.args.indexes.now (omega
    arith)
    some c.middle_of-bound.ensures c.if-bound-size.false c.requires.inside c.count_below-count.result
    c.count_below-count.ensures.count g.D.Numbered.numbers (g.H.NodeHasher.hash c.args.hasher.now) c.args.leaves.now
    c.args.proof.now
    c.in_ok-left.used c.in_ok-left.ensures.used c.in_ok-left.ensures.hashed (rw (c.in_ok-left.ensures.same) at
    c.in_ok-right.ensures.hashed) c.digest_known-left_digest.ensures c.digest_known-right_digest.ensures ∙ refused)

pub overflow_add-result : goal.overflow_add-result
overflow_add-result g t c =
    omega (
      arith,
      c.requires.fits,
      c.in_ok-left.ensures.within,
      c.in_ok-right.ensures.within,
      length-take (length c.args.proof.now - c.in_ok-left.used) (drop
          c.in_ok-left.used c.args.proof.now),
      length-drop c.in_ok-left.used c.args.proof.now,
    )

pub returns-clause-hashed : goal.returns-clause-hashed
returns-clause-hashed g t c =
    let some = filled c.args.indexes.now c.is_empty.result c.is_empty.ensures c.if-is_empty.false in
    both-gives c.args.size c.args.level c.args.place c.middle_of-bound.result c.args.indexes.now (omega arith)
    some c.middle_of-bound.ensures c.if-bound-size.false c.requires.inside c.count_below-count.result
    c.count_below-count.ensures.count g.D.Numbered.numbers (g.H.NodeHasher.hash c.args.hasher.now) c.args.leaves.now
    c.args.proof.now
    c.in_ok-left.used c.in_ok-left.ensures.used c.in_ok-left.ensures.hashed (rw (c.in_ok-left.ensures.same) at
    c.in_ok-right.ensures.hashed) c.digest_known-left_digest.ensures c.digest_known-right_digest.ensures
    ∙ (rw (c.in_ok-right.ensures.same, c.in_ok-left.ensures.same) at c.in_ok-node.ensures.answer)

pub returns-clause-used : goal.returns-clause-used
returns-clause-used g t c =
    let some = filled c.args.indexes.now c.is_empty.result c.is_empty.ensures c.if-is_empty.false in
    let b = both c.args.size c.args.level c.args.place c.middle_of-bound.result c.args.indexes.now (omega arith)
    some c.middle_of-bound.ensures c.if-bound-size.false c.requires.inside c.count_below-count.result
    c.count_below-count.ensures.count in
    omega (arith, b.total, c.in_ok-left.ensures.used, c.in_ok-right.ensures.used)

pub returns-clause-within : goal.returns-clause-within
returns-clause-within g t c =
    omega (
      arith,
      c.in_ok-left.ensures.within,
      c.in_ok-right.ensures.within,
      length-take (length c.args.proof.now - c.in_ok-left.used) (drop
          c.in_ok-left.used c.args.proof.now),
      length-drop c.in_ok-left.used c.args.proof.now,
    )

pub returns-clause-counts : goal.returns-clause-counts
returns-clause-counts g t c =
    let some = filled c.args.indexes.now c.is_empty.result c.is_empty.ensures c.if-is_empty.false in
    let b = both c.args.size c.args.level c.args.place c.middle_of-bound.result c.args.indexes.now (omega arith)
    some c.middle_of-bound.ensures c.if-bound-size.false c.requires.inside c.count_below-count.result
    c.count_below-count.ensures.count in
    omega (arith, b.pairs, c.in_ok-left.ensures.counts, c.in_ok-right.ensures.counts, c.in_ok-node.ensures.counts)
