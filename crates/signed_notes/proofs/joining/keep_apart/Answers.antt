use Rattle.std.proofs.Common.{not, rules, ap, map, ◌∙◌}
use Rattle.std.proofs.lemmas.Fn.{filter_same}
use Rattle.signed_notes.specs.Joining.{have_alike}
use Rattle.signed_notes.specs.Notes.{SignatureParts}
use Rattle.signed_notes.specs.Views.{parts}
use Rattle.signed_notes.proofs.Tests.{filter-seen}
use Rattle.signed_notes.proofs.joining.keep_apart.Goals as goal

pub returns : goal.returns
returns c =
    let is_apart = λ (s : SignatureParts). not (have_alike (map parts c.args.others.now) s) in
    ap (map parts) (filter_same _ (λ x. is_apart (parts x)) _ (λ x b f' k. search rules) _ _ c.retain.ensures.filtered)
    ∙ filter-seen parts is_apart c.args.signatures.now.items
