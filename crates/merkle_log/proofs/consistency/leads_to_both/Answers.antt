use Rattle.std.proofs.Common.{length, ap, sym, ◌∙◌, arith, Ok}
use Rattle.std.proofs.lemmas.Bool.{ne_eqb}
use Rattle.ark_base.specs.Outcome.{◌>>=◌}
use Rattle.ark_base.proofs.Refusals.{passed_on}
use Rattle.merkle_log.specs.Verdict.{ends_at_both}
use Rattle.merkle_log.proofs.Along.{along-alone, slice-short, slice-refused, slice-next, slice-all, slice-left}
use Rattle.merkle_log.proofs.consistency.leads_to_both.Goals as goal
use Rattle.merkle_log.proofs.consistency.leads_to_both.Goals.{then-has_beside+else-used-path+in_ok-ends, else-has_beside, then-used-path-2, else-used-path-2}

pub returns-then-used-path : goal.returns-then-used-path
returns-then-used-path g c = λ k high.
    ap (λ o. o >>= ends_at_both (g.D.Numbered.numbers c.args.old_root.now) (g.D.Numbered.numbers c.args.new_root.now))
    (slice-short g.D.Numbered.numbers c.args.path.now c.levels.used (c.levels.invariant.along k high) c.levels-test.true
    (sym c.has_beside.ensures ∙ c.if-has_beside.true) (omega arith))

pub returns-in_err-ends : goal.returns-in_err-ends
returns-in_err-ends g c = λ k high.
    passed_on _ _ c.from_residual-in_err-ends.result c.in_err-ends.field-0.0 c.from_residual-in_err-ends.ensures.1
    c.in_err-ends.ensures
    (λ refused. ap (λ o. o >>= ends_at_both (g.D.Numbered.numbers c.args.old_root.now)
    (g.D.Numbered.numbers c.args.new_root.now))
    (slice-refused g.D.Numbered.numbers c.args.path.now c.levels.used
    (c.levels.invariant.along k high) c.levels-test.true
    (sym c.has_beside.ensures ∙ c.if-has_beside.true) (omega (arith, c.levels.invariant.used)) c.index-path-used.is
    refused))

pub levels-preserved : goal.levels-preserved
levels-preserved g c = elim c.if-has_beside.branch [
  | then-has_beside+else-used-path+in_ok-ends w ↦ record {
    used = omega (arith, c.levels.invariant.used);
    along = λ k high. rw (w.ends-is, w.used-is) (slice-next g.D.Numbered.numbers c.args.path.now c.levels.used
        (c.levels.invariant.along k high)
        c.levels-test.true (sym c.has_beside.ensures ∙ w.if-has_beside.true)
        (omega (arith, c.levels.invariant.used)) w.index-path-used.is w.in_ok-ends.ensures);
  }
  | else-has_beside w ↦ record {
    used = omega (arith, c.levels.invariant.used);
    along = λ k high. rw (w.ends-is, w.used-is) (along-alone (c.levels.invariant.along k high) c.levels-test.true
        (sym c.has_beside.ensures ∙ w.if-has_beside.false));
  }
]

pub returns : goal.returns
returns g c = λ k high.
    elim c.if-used-path-2.branch [
      | then-used-path-2 w ↦ ap (λ o. o >>= ends_at_both (g.D.Numbered.numbers c.args.old_root.now)
          (g.D.Numbered.numbers c.args.new_root.now))
          (slice-all g.D.Numbered.numbers c.args.path.now c.levels.used (c.levels.invariant.along k high)
          (omega arith) (omega arith))
          ∙ ap Ok (sym w.are_both_same.ensures ∙ sym w.result-is)
      | else-used-path-2 w ↦ ap (λ o. o >>= ends_at_both (g.D.Numbered.numbers c.args.old_root.now)
          (g.D.Numbered.numbers c.args.new_root.now))
          (slice-left g.D.Numbered.numbers c.args.path.now c.levels.used (c.levels.invariant.along k high)
          (omega arith) (omega (arith, c.levels.invariant.used)))
          ∙ ap Ok (sym (ne_eqb c.levels.used (length c.args.path.now) (λ e. omega arith)) ∙ sym w.result-is)
    ]
