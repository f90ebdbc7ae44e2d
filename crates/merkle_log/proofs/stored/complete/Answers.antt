use Rattle.std.proofs.Common.{◌≡◌, ◌-◌, length, map, get_or, refl, ap, ◌∙◌, inl, inr, arith, take, []}
use Rattle.std.proofs.lemmas.Result.{err_from_is_err_and}
use Rattle.merkle_log.proofs.Completing.{completing-first, completing-long, completing-front, completing-place, completing-inside, completing-next, completing-refused, completing-end, completing-pairs, digest-read}
use Rattle.merkle_log.specs.Append.{counted_after}
use Rattle.merkle_log.proofs.Counted.{counted-same, counted-next}
use Rattle.merkle_log.proofs.stored.complete.Goals as goal

pub odd-init : goal.odd-init
odd-init g c = record {
  same = refl;
  counted = counted-same (g.W.PairHasher.counted c.args.hasher.now) c.requires.counted;
  at = completing-first _ _ c.args.size _ c.args.digest _
      c.in_ok-push.ensures.items;
}

pub overflow_sub-last : goal.overflow_sub-last
overflow_sub-last g c =
    omega (arith, completing-long c.odd.invariant.at, c.len-last.ensures, c.odd.digests.ok.0)

pub digest_at-requires-clause-level : goal.digest_at-requires-clause-level
digest_at-requires-clause-level g c = (completing-place c.odd.invariant.at c.ranges.size.fits c.odd-test.true).0

pub digest_at-requires-clause-below : goal.digest_at-requires-clause-below
digest_at-requires-clause-below g c =
    omega (arith, (completing-place c.odd.invariant.at c.ranges.size.fits c.odd-test.true).1, c.ranges.size.fits)

pub digest_at-requires-clause-inside : goal.digest_at-requires-clause-inside
digest_at-requires-clause-inside g c =
    omega (
      arith,
      completing-inside c.odd.invariant.at c.ranges.size.fits c.odd-test.true c.requires.whole,
      completing-long c.odd.invariant.at,
      ap length c.deref.ensures.value,
    )

pub index-requires : goal.index-requires
index-requires g c =
    omega (arith, completing-long c.odd.invariant.at, c.len-last.ensures, c.odd.digests.ok.0)

pub returns-in_err-up-clause-front : goal.returns-in_err-up-clause-front
returns-in_err-up-clause-front g c = completing-front c.odd.invariant.at

pub returns-in_err-up-clause-refused : goal.returns-in_err-up-clause-refused
returns-in_err-up-clause-refused g c =
    let result = err_from_is_err_and c.from_residual-in_err-up.result c.from_residual-in_err-up.ensures.1 in
    let numbers = g.D.Numbered.numbers in
    let last : c.len-last.result - 1 ≡ length c.odd.digests.items - 1 =
    omega (arith, c.len-last.ensures, c.odd.digests.ok.0) in
    let left : numbers c.digest_at.result.now ≡ get_or (map numbers c.odd.digests.items) _ [] =
    rw (c.deref.ensures.value) at c.digest_at.ensures in
    let right = digest-read numbers c.odd.digests.items (c.len-last.result - 1) c.index.result.now
    (omega (arith, last, completing-long c.odd.invariant.at)) c.index.ensures in
    rw (result.1, result.2) (elim (rw (c.odd.invariant.same) at c.in_err-up.ensures.answer) [
      | inl memory ↦ inl memory
      | inr refused ↦ inr (completing-refused c.odd.invariant.at c.ranges.size.fits c.odd-test.true c.requires.whole
          (c.len-last.result - 1) last _ (rw (← left, ← right) refused))
    ])

pub returns-in_err-up-clause-same : goal.returns-in_err-up-clause-same
returns-in_err-up-clause-same g c = c.upper.ensures.same ∙ c.odd.invariant.same

pub returns-in_err-push-2-clause-front : goal.returns-in_err-push-2-clause-front
returns-in_err-push-2-clause-front g c =
    ap (take (length c.args.digests.now.items)) c.in_err-push-2.ensures.items ∙ completing-front c.odd.invariant.at

pub returns-in_err-push-2-clause-same : goal.returns-in_err-push-2-clause-same
returns-in_err-push-2-clause-same g c = c.upper.ensures.same ∙ c.odd.invariant.same

pub overflow_add-level : goal.overflow_add-level
overflow_add-level g c =
    omega (arith, (completing-place c.odd.invariant.at c.ranges.size.fits c.odd-test.true).0)

pub odd-preserved : goal.odd-preserved
odd-preserved g c =
    let numbers = g.D.Numbered.numbers in
    let last : c.len-last.result - 1 ≡ length c.odd.digests.items - 1 =
    omega (arith, c.len-last.ensures, c.odd.digests.ok.0) in
    let left : numbers c.digest_at.result.now ≡ get_or (map numbers c.odd.digests.items) _ [] =
    rw (c.deref.ensures.value) at c.digest_at.ensures in
    let right = digest-read numbers c.odd.digests.items (c.len-last.result - 1) c.index.result.now
    (omega (arith, last, completing-long c.odd.invariant.at)) c.index.ensures in
    record {
      same = c.upper.ensures.same ∙ c.odd.invariant.same;
      counted = counted-next _ _ c.odd.level _ c.odd.invariant.counted c.upper.ensures.counts;
      at = completing-next c.odd.invariant.at c.ranges.size.fits c.odd-test.true c.requires.whole
          (c.len-last.result - 1) last c.in_ok-up.up c.push-in-odd.new.self.items c.in_ok-push-2.ensures.items
          (rw (← left, ← right, ← c.odd.invariant.same) c.in_ok-up.ensures.answer);
    }

pub returns-clause-completed : goal.returns-clause-completed
returns-clause-completed g c = completing-end c.odd.invariant.at (omega arith)

pub returns-clause-front : goal.returns-clause-front
returns-clause-front g c = completing-front c.odd.invariant.at

pub returns-clause-same : goal.returns-clause-same
returns-clause-same g c = c.odd.invariant.same

pub returns-clause-counts : goal.returns-clause-counts
returns-clause-counts g c =
    c.odd.invariant.counted
    ∙ ap (counted_after (g.W.PairHasher.counted c.args.hasher.now)) (completing-pairs c.odd.invariant.at (omega arith))
