use Rattle.std.proofs.lemmas.Bool.{and_left, false_from_ne_true}
use Rattle.std.proofs.lemmas.Str.{IsUtf8-from_is_utf8}
use Rattle.signed_notes.proofs.texts.text_of.Goals as goal

pub returns-in_default : goal.returns-in_default
returns-in_default c =
    and_left _ _ (false_from_ne_true _ (λ e. c.in_default.ensures.cases.0 (IsUtf8-from_is_utf8 c.args.bytes.now e)))
