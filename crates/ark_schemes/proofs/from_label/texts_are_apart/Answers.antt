use Rattle.ark_schemes.proofs.LabelTexts.{texts_apart, no_place_text}
use Rattle.ark_schemes.proofs.from_label.texts_are_apart.Goals as goal

pub returns-clause-apart : goal.returns-clause-apart
returns-clause-apart c = texts_apart

pub returns-clause-zcash : goal.returns-clause-zcash
returns-clause-zcash c = no_place_text
