use Rattle.std.proofs.Common.{◌+◌, true, false, ap, sym, ◌∙◌, arith}
use Rattle.merkle_map.specs.Changes.{losing}
use Rattle.merkle_map.specs.Parts.{shape}
use Rattle.merkle_map.specs.Rests.{rest_of, rest_beside, rest_seen}
use Rattle.merkle_map.proofs.Places.{fork_within}
use Rattle.merkle_map.proofs.Rest.{rest-on}
use Rattle.merkle_map.proofs.remove.+rest_without.Goals as goal

pub bit_of-requires : goal.bit_of-requires
bit_of-requires g t c = fork_within _ (ap (shape g.D.Numbered.numbers) c.in-Fork.is) _ c.requires

pub overflow_add-level-else-bit_of : goal.overflow_add-level-else-bit_of
overflow_add-level-else-bit_of g t c =
    let inside = fork_within _ (ap (shape g.D.Numbered.numbers) c.in-Fork.is) _ c.requires in omega (arith, inside)

pub returns-then-bit_of : goal.returns-then-bit_of
returns-then-bit_of g t c =
    let numbers = g.D.Numbered.numbers in
    let nothing = numbers c.args.nothing.now in
    c.rest_joined.ensures
    ∙ ap (λ r. rest_beside r c.rest_now.result) (c.rest_without.ensures
    ∙ ap (λ s. rest_of (losing nothing (c.args.level + 1) c.args.key.now (shape numbers s.right)))
    c.deref-in-Fork.ensures)
    ∙ ap (rest_beside _) (c.rest_now.ensures
    ∙ ap (λ s. rest_seen nothing (shape numbers s.left)) c.deref-in-Fork.ensures)
    ∙ sym (rest-on nothing c.args.level (ap (shape numbers) c.in-Fork.is) c.args.key.now true
    (sym c.bit_of.ensures ∙ c.if-bit_of.true))

pub returns-else-bit_of : goal.returns-else-bit_of
returns-else-bit_of g t c =
    let numbers = g.D.Numbered.numbers in
    let nothing = numbers c.args.nothing.now in
    c.rest_joined-else-bit_of.ensures
    ∙ ap (λ r. rest_beside r c.rest_now-else-bit_of.result) (c.rest_without-else-bit_of.ensures
    ∙ ap (λ s. rest_of (losing nothing (c.args.level + 1) c.args.key.now (shape numbers s.left)))
    c.deref-in-Fork.ensures)
    ∙ ap (rest_beside _) (c.rest_now-else-bit_of.ensures
    ∙ ap (λ s. rest_seen nothing (shape numbers s.right)) c.deref-in-Fork.ensures)
    ∙ sym (rest-on nothing c.args.level (ap (shape numbers) c.in-Fork.is) c.args.key.now false
    (sym c.bit_of.ensures ∙ c.if-bit_of.false))
