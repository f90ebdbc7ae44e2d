use Rattle.std.proofs.Common.{◌≡◌, Ok, refl, subst, ◌∙◌, sym}
use Rattle.base64.proofs.EngineFacts.{decode_of-encode_of}
use Rattle.base64.specs.Engines.{standard}
use Rattle.base64.specs.GeneralPurpose.{decode_of}
use Rattle.signed_notes.proofs.symbols.is_word_of.Goals as goal

pub returns : goal.returns
returns c = λ is. subst (λ word. decode_of standard word ≡ Ok c.args.bytes.now)
    (sym c.word_of.ensures ∙ c.is_word.ensures is) (decode_of-encode_of standard c.args.bytes.now refl c.fits-bytes)
