use Rattle.std.proofs.Common.{◌++◌, ap, codes, option_map, refl, sym, inl, inr, vec_items, ◌∙◌}
use Rattle.std.proofs.lemmas.Result.{err_from_is_err_and}
use Rattle.log_checkpoints.specs.Receipts.{extra_line, numbered}
use Rattle.log_checkpoints.proofs.OneReading.{never-bad, one-extra, untitled}
use Rattle.log_checkpoints.proofs.ReceiptTexts.{one-rest}
use Rattle.log_checkpoints.proofs.receipts.read_receipt.Goals as goal

pub returns-in_default-clause-refused : goal.returns-in_default-clause-refused
returns-in_default-clause-refused c = inl (
  refl,
  λ extra index path note is.
      c.in_default.ensures (extra_line extra ++ (codes "index " ++ numbered index path note)) is.spelled,
)

pub returns-in_err-extra-clause-refused : goal.returns-in_err-extra-clause-refused
returns-in_err-extra-clause-refused c =
    let e = err_from_is_err_and c.from_residual.result c.from_residual.ensures.1 in
    rw (e.1, e.2) (elim c.in_err-extra.ensures.refused [
      | inl wrong ↦ inl (
        wrong.0,
        λ extra index path note is.
            never-bad c.args.bytes.now c.in-Some.titled.now wrong.1 extra index path note is c.in-Some.ensures,
      )
      | inr memory ↦ inr memory
    ])

pub returns-in_default-after-clause-refused : goal.returns-in_default-after-clause-refused
returns-in_default-after-clause-refused c = inl (
  refl,
  λ extra index path note is.
      let bytes = c.in-Some.titled.now in
      let one = one-extra (option_map vec_items c.in_ok-extra.extra) extra bytes c.in_ok-extra.indexed.now
      (numbered index path note) c.in_ok-extra.ensures.read is.extra_is
      (untitled extra index path note c.args.bytes.now bytes is c.in-Some.ensures) in
      c.in_default-after.ensures (numbered index path note) one.1,
)

pub returns-in_err-number-clause-refused : goal.returns-in_err-number-clause-refused
returns-in_err-number-clause-refused c =
    let e = err_from_is_err_and c.from_residual-in_err-number.result c.from_residual-in_err-number.ensures.1 in
    rw (e.1, e.2) (elim c.in_err-number.ensures.refused [
      | inl wrong ↦ inl (
        wrong.0,
        λ extra index path note is.
            let bytes = c.in-Some.titled.now in
            let one = one-extra (option_map vec_items c.in_ok-extra.extra) extra bytes c.in_ok-extra.indexed.now
            (numbered index path note) c.in_ok-extra.ensures.read is.extra_is
            (untitled extra index path note c.args.bytes.now bytes is c.in-Some.ensures) in
            wrong.1 index path note (record {
              fits = is.fits;
              path_is = is.path_is;
              spelled = one-rest (codes "index ") c.in-Some-after.rest.now (numbered index path note)
                  (sym c.in-Some-after.ensures ∙ one.1);
            }),
      )
      | inr memory ↦ inr memory
    ])

pub returns-clause-read : goal.returns-clause-read
returns-clause-read c =
    let read = c.in_ok-number.ensures.read in
    let extra = c.in_ok-extra.ensures.read in
    record {
      fits = read.fits;
      extra_is = extra.extra_is;
      path_is = read.path_is;
      spelled = c.in-Some.ensures ∙ ap (λ l. codes "c2sp.org/tlog-proof@v1\n" ++ l) (extra.spelled
          ∙ ap (λ l. extra_line (option_map vec_items c.in_ok-extra.extra) ++ l) (c.in-Some-after.ensures
          ∙ ap (λ l. codes "index " ++ l) read.spelled));
    }
