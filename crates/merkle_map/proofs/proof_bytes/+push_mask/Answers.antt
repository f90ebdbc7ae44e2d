use Rattle.std.proofs.Common.{◌-◌, ◌<◌, ◌≡◌, ◌++◌, ◌∷◌, [], OnOk, map, sym, ◌∙◌, ap, subst, append-nil, append_assoc, rules}
use Rattle.merkle_map.specs.ProofBytes.{is_given, number_of, packed}
use Rattle.merkle_map.proofs.ProofReading.{packed-none, packed-step}
use Rattle.merkle_map.proofs.proof_bytes.+push_mask.Goals as goal

pub returns-then-count-eq0-clause-written : goal.returns-then-count-eq0-clause-written
returns-then-count-eq0-clause-written t c =
    let old = c.args.dest.now.items in
    sym (append-nil old) ∙ ap (λ l. old ++ l)
    (sym (packed-none c.args.count (map (is_given c.args.nothing.now) c.args.siblings.now) (search rules)))

pub returns-clause-written : goal.returns-clause-written
returns-clause-written t c =
    let some : 0 < c.args.count = search rules in
    let f = is_given c.args.nothing.now in
    let old = c.args.dest.now.items in
    let next = c.args.count - 1 in
    subst (λ l. OnOk c.push_mask.result (c.push_mask.new.dest.items ≡ l))
    (ap (λ l. l ++ packed next (map f c.behind.result.now)) (c.in_ok-push.ensures.items
    ∙ ap (λ n. old ++ n ∷ []) c.bits_of.ensures)
    ∙ append_assoc old (number_of 8 (map f c.args.siblings.now) ∷ []) (packed next (map f c.behind.result.now))
    ∙ ap (λ l. old ++ number_of 8 (map f c.args.siblings.now) ∷ packed next (map f l)) c.behind.ensures
    ∙ ap (λ l. old ++ l) (sym (packed-step f c.args.count c.args.siblings.now some)))
    c.push_mask.ensures.written
