use Rattle.std.proofs.Common.{◌≡◌, ◌++◌, ◌∷◌, [], true, false, Result, Ok, Err, refl, sym, ap, ◌∙◌, inl, inr, arith}
use Rattle.std.proofs.lemmas.List.{length-append}
use Rattle.std.proofs.lemmas.Result.{err_from_is_err_and}
use Rattle.std.specs.List.{flat_map}
use Rattle.std.specs.Result.{is_err, is_ok}
use Rattle.signed_notes.specs.Cutting.{cut}
use Rattle.signed_notes.proofs.ReadBack.{cut-whole}
use Rattle.log_checkpoints.specs.Receipts.{digest_line}
use Rattle.log_checkpoints.proofs.ReceiptTexts.{bytes-more, empty_line, line-left, lined-more, next-left, none-left, some_line}
use Rattle.log_checkpoints.proofs.receipts.path_in.Goals as goal

pushed : {A E : Type 0} (result : Result A E) → is_err result ≡ false → is_ok result ≡ true
pushed (Ok value) not = refl
pushed (Err error) not = absurd cc

pub lines-init : goal.lines-init
lines-init c = record {
  few = omega arith;
  long = rw (c.new-path.ensures.items) refl;
  bytes = rw (c.new-path.ensures.items) tt;
  read = rw (c.new-path.ensures.items) refl;
  left = λ path note are is. none-left path note are c.args.bytes.now is;
}

pub returns-in_default-clause-refused : goal.returns-in_default-clause-refused
returns-in_default-clause-refused c = inl (
  refl,
  λ path note are is.
      let left = c.lines.invariant.left path note are is in
      line-left _ note (sym (ap (cut 10) left.is) ∙ c.in_default.ensures),
)

pub returns-then-is_empty-clause-read : goal.returns-then-is_empty-clause-read
returns-then-is_empty-clause-read c =
    let none : c.in-Some.line.now ≡ [] = empty_line c.in-Some.line.now (sym c.is_empty.ensures ∙ c.if-is_empty.true) in
    c.lines.invariant.read ∙ ap (λ l. flat_map digest_line c.lines.path.items ++ l)
    (sym (cut-whole 10 c.lines.rest.now c.in-Some.line.now c.in-Some.behind.now c.in-Some.ensures)
    ∙ ap (λ l. l ++ (10 ∷ c.in-Some.behind.now)) none)

pub returns-then-is_empty-clause-path : goal.returns-then-is_empty-clause-path
returns-then-is_empty-clause-path c =
    (omega (arith, c.lines.invariant.long, c.lines-test.true), c.lines.invariant.bytes)

pub returns-in_err-digest-clause-refused : goal.returns-in_err-digest-clause-refused
returns-in_err-digest-clause-refused c =
    let e = err_from_is_err_and c.from_residual.result c.from_residual.ensures.1 in
    rw (e.1, e.2) (elim c.in_err-digest.ensures.refused [
      | inl wrong ↦ inl (
        wrong.0,
        λ path note are is.
            let next = next-left path note c.lines.rest.now c.in-Some.line.now c.in-Some.behind.now c.lines.count
            (c.lines.invariant.left path note are is) c.in-Some.ensures
            (some_line c.in-Some.line.now (sym c.is_empty.ensures ∙ c.if-is_empty.false)) in
            wrong.1 next.digest next.bytes next.line_is,
      )
      | inr memory ↦ inr memory
    ])

pub lines-preserved : goal.lines-preserved
lines-preserved c = record {
  few = omega (arith, c.lines-test.true);
  long = rw (c.push.ensures.items, pushed c.push.result (sym c.is_err.ensures.value ∙ c.if-is_err.false))
      (omega (arith, c.lines.invariant.long, length-append c.lines.path.items (c.in_ok-digest.digest ∷ [])));
  bytes = rw (c.push.ensures.items, pushed c.push.result (sym c.is_err.ensures.value ∙ c.if-is_err.false))
      (bytes-more c.lines.path.items c.in_ok-digest.digest c.lines.invariant.bytes c.in_ok-digest.ensures.bytes);
  read = rw (c.push.ensures.items, pushed c.push.result (sym c.is_err.ensures.value ∙ c.if-is_err.false))
      (lined-more c.lines.path.items c.in_ok-digest.digest c.args.bytes.now
      c.in-Some.line.now c.lines.rest.now c.in-Some.behind.now c.lines.invariant.read c.in-Some.ensures
      c.in_ok-digest.ensures.read);
  left = λ path note are is. (next-left path note c.lines.rest.now c.in-Some.line.now c.in-Some.behind.now
      c.lines.count (c.lines.invariant.left path note are is) c.in-Some.ensures
      (some_line c.in-Some.line.now (sym c.is_empty.ensures ∙ c.if-is_empty.false))).left;
}

pub returns-clause-refused : goal.returns-clause-refused
returns-clause-refused c = inl (
  refl,
  λ path note are is.
      let left = c.lines.invariant.left path note are is in
      omega (arith, left.few, are.0, c.lines-test.false),
)
