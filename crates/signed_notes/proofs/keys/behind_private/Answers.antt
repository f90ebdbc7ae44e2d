use Rattle.std.proofs.Common.{sym, ◌∙◌}
use Rattle.std.proofs.lemmas.Bool.{not-false}
use Rattle.std.proofs.lemmas.List.{take_rest}
use Rattle.signed_notes.proofs.keys.behind_private.Goals as goal

pub returns : goal.returns
returns c = (not-false _ (sym c.ne.ensures ∙ c.if-ne.false), take_rest c.args.text.now 12)
