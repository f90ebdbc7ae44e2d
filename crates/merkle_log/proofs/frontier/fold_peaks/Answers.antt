use Rattle.std.proofs.Common.{◌-◌, length, sym, ◌∙◌, arith}
use Rattle.std.proofs.lemmas.List.{length-map}
use Rattle.ark_base.specs.declared.error.Error.{Error}
use Rattle.ark_base.specs.Laws.Steps.{done_injective}
use Rattle.ark_base.proofs.Refusals.{passed_on}
use Rattle.merkle_log.proofs.Completing.{digest-read}
use Rattle.merkle_log.proofs.Merging.{folding-first, folding-next, folding-refused, folding-last}
use Rattle.merkle_log.proofs.frontier.fold_peaks.Goals as goal

pub left-init : goal.left-init
left-init g c = record {
  within = omega (arith, c.requires);
  at = λ empty digests size frontier. folding-first empty (length c.args.peaks.now - 1) frontier
      (omega (arith, length-map c.args.peaks.now g.D.Numbered.numbers, c.requires))
      (sym (digest-read g.D.Numbered.numbers c.args.peaks.now (length c.args.peaks.now - 1) c.index-peaks-left.result
      (omega (arith, c.requires)) c.index-peaks-left.is) ∙ done_injective {E = Error} _ _ c.in_ok-last.ensures);
}

pub returns-in_err-last-2 : goal.returns-in_err-last-2
returns-in_err-last-2 g c = λ empty digests size frontier.
    passed_on _ _ c.from_residual-in_err-last-2.result c.in_err-last-2.field-0.0 c.from_residual-in_err-last-2.ensures.1
    c.in_err-last-2.ensures
    (λ refused. folding-refused (folding-next g.D.Numbered.numbers c.args.peaks.now
    (c.left.invariant.at empty digests size frontier) (c.left.left - 1) (omega arith)
    (omega (arith, c.left.invariant.within)) c.index-peaks-left-in-left.result c.index-peaks-left-in-left.is refused))

pub left-preserved : goal.left-preserved
left-preserved g c = record {
  within = omega (arith, c.left.invariant.within);
  at = λ empty digests size frontier. folding-next g.D.Numbered.numbers c.args.peaks.now
      (c.left.invariant.at empty digests size frontier) (c.left.left - 1) (omega arith)
      (omega (arith, c.left.invariant.within)) c.index-peaks-left-in-left.result c.index-peaks-left-in-left.is
      c.in_ok-last-2.ensures;
}

pub returns : goal.returns
returns g c = λ empty digests size frontier. folding-last (c.left.invariant.at empty digests size frontier)
    (omega arith)
