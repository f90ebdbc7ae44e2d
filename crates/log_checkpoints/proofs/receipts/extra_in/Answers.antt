use Rattle.std.proofs.Common.{◌++◌, ◌∷◌, [], ap, codes, refl, sym, inl, ◌∙◌, append_assoc}
use Rattle.base64.specs.Engines.{standard}
use Rattle.base64.specs.GeneralPurpose.{encode_of}
use Rattle.signed_notes.proofs.Cuts.{cut_parts}
use Rattle.signed_notes.proofs.ReadBack.{cut-whole}
use Rattle.log_checkpoints.proofs.OneReading.{extra-cut}
use Rattle.log_checkpoints.proofs.ReceiptTexts.{never-none}
use Rattle.log_checkpoints.proofs.receipts.extra_in.Goals as goal

pub returns-in_default-cut_line-clause-refused : goal.returns-in_default-cut_line-clause-refused
returns-in_default-cut_line-clause-refused c =
    let behind = c.in-Some.rest.now in
    inl (
      refl,
      record {
        behind = behind;
        begins = c.in-Some.ensures;
        bad = λ extra rest are is.
            let both = sym (extra-cut c.args.bytes.now behind extra rest c.in-Some.ensures is)
            ∙ c.in_default-cut_line.ensures in
            absurd cc;
      },
    )

pub returns-in-Ok-clause-read : goal.returns-in-Ok-clause-read
returns-in-Ok-clause-read c =
    let behind = c.in-Some-cut_line.behind.now in
    let word = encode_of standard c.in-Ok.extra.items in
    let line = sym (cut-whole 10 c.in-Some.rest.now c.in-Some-cut_line.line.now behind c.in-Some-cut_line.ensures)
    ∙ ap (λ l. l ++ (10 ∷ behind)) (c.in-Ok.ensures.exact (refl, refl)) ∙ sym (append_assoc word (10 ∷ []) behind) in
    record {
      extra_is = c.in-Ok.ensures.bytes;
      spelled = c.in-Some.ensures ∙ ap (λ l. codes "extra " ++ l) line
          ∙ sym (append_assoc (codes "extra ") (word ++ (10 ∷ [])) behind);
      none = λ other. absurd (never-none c.in-Ok.extra.items other);
    }

pub returns-in-Err-DecodeError-clause-refused : goal.returns-in-Err-DecodeError-clause-refused
returns-in-Err-DecodeError-clause-refused c =
    let behind = c.in-Some.rest.now in
    inl (
      refl,
      record {
        behind = behind;
        begins = c.in-Some.ensures;
        bad = λ extra rest are is.
            let cuts = cut_parts _ _ _ _ (sym c.in-Some-cut_line.ensures
            ∙ extra-cut c.args.bytes.now behind extra rest c.in-Some.ensures is) in
            let read = (c.in-Err-DecodeError.ensures.strict (refl, refl) extra are).1 cuts.0 in
            let both = sym read ∙ (rw c.in-Err-DecodeError.field-0-is at c.in-Err-DecodeError.ensures.err) in
            absurd cc;
      },
    )
