use Rattle.std.proofs.Common.{◌≡◌, ◌-◌, ◌+◌, ◌/◌, refl, ap, arith, inl, inr}
use Rattle.std.proofs.lemmas.List.{length-map}
use Rattle.std.proofs.lemmas.Result.{err_from_is_err_and}
use Rattle.std.specs.Prelude.{count_ones}
use Rattle.merkle_log.proofs.Positions.{half_ones}
use Rattle.merkle_log.proofs.Completing.{digest-read}
use Rattle.merkle_log.proofs.Merging.{made-first, made-next, made-refused, merging-first, merging-next, merging-end, peaks-more}
use Rattle.merkle_log.proofs.frontier.merge.Goals as goal

pub odd-init : goal.odd-init
odd-init g c = record {
  left = c.requires.count;
  within = omega arith;
  made = made-first (length-map c.args.peaks.now g.D.Numbered.numbers);
  same = refl;
  at = λ empty row size own. merging-first empty (length-map c.args.peaks.now g.D.Numbered.numbers) size own;
}

pub overflow_sub-left : goal.overflow_sub-left
overflow_sub-left g c = omega (arith, half_ones c.odd.count, c.odd.invariant.left)

pub bounds-peaks-left : goal.bounds-peaks-left
bounds-peaks-left g c = omega (arith, half_ones c.odd.count, c.odd.invariant.left, c.odd.invariant.within)

pub odd-preserved : goal.odd-preserved
odd-preserved g c =
    let numbers = g.D.Numbered.numbers in
    let up : (c.odd.count + 1) / 2 ≡ c.odd.count / 2 + 1 = omega arith in
    let own : c.odd.left ≡ c.odd.left - 1 + 1 = omega (arith, half_ones c.odd.count, c.odd.invariant.left) in
    let peak = digest-read numbers c.args.peaks.now (c.odd.left - 1) c.index-peaks-left.result
    (omega (arith, c.odd.invariant.within, own)) c.index-peaks-left.is in
    record {
      left = omega (arith, half_ones c.odd.count, c.odd.invariant.left);
      within = omega (arith, c.odd.invariant.within);
      made = made-next c.odd.invariant.made c.odd-test.true (c.odd.left - 1) own _
          (rw (← peak) c.in_ok-last.ensures);
      same = omega (arith, c.odd.invariant.same, half_ones (c.odd.count + 1), ap count_ones up);
      at = λ empty row size own. merging-next g.D.Numbered.numbers c.args.peaks.now
          (c.odd.invariant.at empty row size own) c.odd-test.true (c.odd.left - 1)
          (omega (arith, half_ones c.odd.count, c.odd.invariant.left)) c.odd.invariant.within c.index-peaks-left.result
          c.index-peaks-left.is c.in_ok-last.ensures;
    }

pub returns-in_err-last-clause-refused : goal.returns-in_err-last-clause-refused
returns-in_err-last-clause-refused g c =
    let numbers = g.D.Numbered.numbers in
    let own : c.odd.left ≡ c.odd.left - 1 + 1 = omega (arith, half_ones c.odd.count, c.odd.invariant.left) in
    let peak = digest-read numbers c.args.peaks.now (c.odd.left - 1) c.index-peaks-left.result
    (omega (arith, c.odd.invariant.within, own)) c.index-peaks-left.is in
    let result = err_from_is_err_and c.from_residual.result c.from_residual.ensures.1 in
    rw (result.1, result.2) (elim c.in_err-last.ensures [
      | inl memory ↦ inl memory
      | inr refused ↦ inr (made-refused c.odd.invariant.made c.odd-test.true (c.odd.left - 1) own _
          (rw (← peak) refused))
    ])

pub returns-clause-merged : goal.returns-clause-merged
returns-clause-merged g c = λ row size own.
    peaks-more row (g.D.Numbered.numbers c.args.digest) size (λ empty. merging-end
    (c.odd.invariant.at empty row size own)
    (omega arith))

pub returns-clause-count : goal.returns-clause-count
returns-clause-count g c =
    let even : (c.odd.count + 1) / 2 ≡ c.odd.count / 2 = omega arith in
    omega (
      arith,
      c.odd.invariant.left,
      c.odd.invariant.same,
      half_ones c.odd.count,
      half_ones (c.odd.count + 1),
      ap count_ones even,
    )
