use Rattle.std.proofs.Common.{◌≡◌, ◌++◌, ◌∷◌, [], map, ap, sym, refl, ◌∙◌, append_assoc}
use Rattle.std.proofs.lemmas.List.{append-nil, map-append}
use Rattle.signed_notes.specs.Verifying.{is_named, naming}
use Rattle.signed_notes.specs.Views.{parts, verifier_parts}
use Rattle.signed_notes.proofs.Tests.{filter-keeps, filter-skips, nothing-long}
use Rattle.signed_notes.proofs.cosignature.naming.Goals as goal

pub signatures-init : goal.signatures-init
signatures-init c =
    rw (c.new-kept.ensures.items, c.into_iter-signature-iterator.ensures.into_iter_gives.0) refl

pub signatures-preserved-in-Continue-1 : goal.signatures-preserved-in-Continue-1
signatures-preserved-in-Continue-1 c =
    let key = verifier_parts c.args.key.now in
    let kept = map parts c.signatures.kept.items in
    let own = parts c.in-Some.signature in
    let rest = map parts c.next.new.self.rest.items in
    ap (λ xs. map parts xs ++ naming key rest) c.in_ok-push.ensures.items
    ∙ ap (λ l. l ++ naming key rest) (map-append parts c.signatures.kept.items (c.in-Some.signature ∷ []))
    ∙ append_assoc kept (own ∷ []) (naming key rest)
    ∙ ap (λ l. kept ++ l) (sym (filter-keeps (is_named key) own rest (sym c.if-is_named.ensures)))
    ∙ ap (λ xs. kept ++ naming key (map parts xs)) (sym c.in-Some.ensures.steps.0) ∙ c.signatures.invariant

pub signatures-preserved : goal.signatures-preserved
signatures-preserved c =
    let key = verifier_parts c.args.key.now in
    let kept = map parts c.signatures.kept.items in
    let own = parts c.in-Some.signature in
    let rest = map parts c.next.new.self.rest.items in
    ap (λ l. kept ++ l) (sym (filter-skips (is_named key) own rest (sym c.if-is_named.ensures)))
    ∙ ap (λ xs. kept ++ naming key (map parts xs)) (sym c.in-Some.ensures.steps.0) ∙ c.signatures.invariant

pub returns-clause-named : goal.returns-clause-named
returns-clause-named c =
    let key = verifier_parts c.args.key.now in
    let kept = map parts c.signatures.kept.items in
    let rest = c.signatures.signature-iterator.rest in
    let none : rest.items ≡ [] = nothing-long rest.items (sym rest.ok.0 ∙ c.in-None.ensures.steps.0) in
    sym (append-nil kept) ∙ ap (λ xs. kept ++ naming key (map parts xs)) (sym none)
    ∙ c.signatures.invariant
