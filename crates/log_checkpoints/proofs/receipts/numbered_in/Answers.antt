use Rattle.std.proofs.Common.{arith, refl, sym, ◌∙◌, inl, inr, ap}
use Rattle.std.proofs.lemmas.Result.{err_from_is_err_and}
use Rattle.decimals.specs.Decimals.{decimal_number}
use Rattle.signed_notes.specs.Cutting.{cut}
use Rattle.signed_notes.proofs.CheckpointTexts.{number-read}
use Rattle.signed_notes.proofs.Cuts.{cut_parts}
use Rattle.log_checkpoints.proofs.ReceiptTexts.{index-line, whole}
use Rattle.log_checkpoints.proofs.receipts.numbered_in.Goals as goal

pub returns-in_default-clause-refused : goal.returns-in_default-clause-refused
returns-in_default-clause-refused c = inl (
  refl,
  λ n path note is.
      let both = sym (ap (cut 10) is.spelled ∙ index-line n path note is.fits) ∙ c.in_default.ensures in
      absurd cc,
)

pub returns-in_default-decimal_number-clause-refused : goal.returns-in_default-decimal_number-clause-refused
returns-in_default-decimal_number-clause-refused c = inl (
  refl,
  λ n path note is.
      let cuts = cut_parts _ _ _ _ (sym c.in-Some.ensures ∙ ap (cut 10) is.spelled ∙ index-line n path note is.fits) in
      let read = sym c.in_default-decimal_number.is ∙ c.decimal_number.ensures ∙ ap decimal_number cuts.0
      ∙ number-read n is.fits in
      absurd cc,
)

pub returns-in_err-path-clause-refused : goal.returns-in_err-path-clause-refused
returns-in_err-path-clause-refused c =
    let e = err_from_is_err_and c.from_residual.result c.from_residual.ensures.1 in
    rw (e.1, e.2) (elim c.in_err-path.ensures.refused [
      | inl wrong ↦ inl (
        wrong.0,
        λ n path note is.
            let cuts = cut_parts _ _ _ _ (sym c.in-Some.ensures ∙ ap (cut 10) is.spelled
            ∙ index-line n path note is.fits) in
            wrong.1 path note is.path_is cuts.1,
      )
      | inr memory ↦ inr memory
    ])

pub returns-clause-read : goal.returns-clause-read
returns-clause-read c = record {
  fits = omega arith;
  path_is = c.in_ok-path.ensures.path;
  spelled = whole c.args.bytes.now c.in-Some.line.now c.in-Some.rest.now c.in_ok-path.note.now
      c.in-Some-decimal_number.number c.in_ok-path.path.items c.in-Some.ensures
      (sym c.decimal_number.ensures ∙ c.in-Some-decimal_number.is) c.in_ok-path.ensures.read;
}
