use Rattle.std.proofs.Common.{rules, ap, map, ◌∙◌}
use Rattle.std.proofs.lemmas.Fn.{filter_same}
use Rattle.signed_notes.specs.Joining.{names_any}
use Rattle.signed_notes.specs.Views.{parts, verifier_parts}
use Rattle.signed_notes.proofs.Tests.{filter-seen}
use Rattle.signed_notes.proofs.joining.keep_named.Goals as goal

pub returns : goal.returns
returns c =
    let is_named = names_any (map verifier_parts c.args.keys.now) in
    ap (map parts) (filter_same _ (λ x. is_named (parts x)) _ (λ x b f' k. search rules) _ _ c.retain.ensures.filtered)
    ∙ filter-seen parts is_named c.args.signatures.now.items
