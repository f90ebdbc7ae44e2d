use Rattle.std.proofs.Common.{nat_le, rules, ap, map, ◌∙◌}
use Rattle.std.proofs.lemmas.Fn.{filter_same}
use Rattle.signed_notes.specs.Cosignatures.{stated_time}
use Rattle.signed_notes.specs.Notes.{SignatureParts}
use Rattle.signed_notes.specs.Views.{parts}
use Rattle.signed_notes.proofs.Tests.{filter-seen}
use Rattle.signed_notes.proofs.opening.keep_since.Goals as goal

pub returns : goal.returns
returns c =
    let is_late = λ (s : SignatureParts). nat_le c.args.since (stated_time s.bytes) in
    ap (map parts) (filter_same _ (λ x. is_late (parts x)) _ (λ x b f' k. search rules) _ _ c.retain.ensures.filtered)
    ∙ filter-seen parts is_late c.args.signatures.now.items
