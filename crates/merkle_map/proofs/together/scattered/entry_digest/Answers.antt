use Rattle.std.proofs.Common.{◌≡◌, [], get_or, arith, refl, sym, ◌∙◌}
use Rattle.std.proofs.lemmas.List.{get_or_default}
use Rattle.merkle_map.proofs.Ahead.{entry-at}
use Rattle.merkle_map.proofs.together.scattered.entry_digest.Goals as goal

pub returns-then-is_entry : goal.returns-then-is_entry
returns-then-is_entry g c = λ h hashed.
    let numbers = g.D.Numbered.numbers in
    let own = get_or c.args.entries.now c.args.place ([], []) in
    let key : c.args.entry.now.key ≡ own.0 = sym (c.if-is_entry.ensures.key refl) in
    let value : c.args.entry.now.value ≡ own.1 = sym (c.if-is_entry.ensures.value refl) in
    (λ i. h.leaf (key i) (value i))
    ∙ entry-at numbers h c.args.entries.now c.args.digests.now c.args.place own c.index-digests-place.result hashed
    (omega arith) (omega arith) (get_or_default c.args.entries.now c.args.place ([], []) own (omega arith))
    c.index-digests-place.is
    ∙ c.in_ok-digest.ensures
