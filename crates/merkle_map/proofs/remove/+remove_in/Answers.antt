use Rattle.std.proofs.Common.{true, false, arith, ap, sym, ◌∙◌, subst}
use Rattle.merkle_map.specs.Kept.{IsKept}
use Rattle.merkle_map.specs.Parts.{shape}
use Rattle.merkle_map.specs.Tree.{Fork}
use Rattle.merkle_map.proofs.Places.{fork_within}
use Rattle.merkle_map.proofs.Rest.{becomes_side}
use Rattle.merkle_map.proofs.remove.+remove_in.Goals as goal

pub bit_of-requires : goal.bit_of-requires
bit_of-requires g t c = fork_within _ (ap (shape g.D.Numbered.numbers) c.in-Fork.is) _ c.requires

pub overflow_add-level-else-bit_of : goal.overflow_add-level-else-bit_of
overflow_add-level-else-bit_of g t c =
    let inside = fork_within _ (ap (shape g.D.Numbered.numbers) c.in-Fork.is) _ c.requires in omega (arith, inside)

pub returns-then-bit_of-clause-lost : goal.returns-then-bit_of-clause-lost
returns-then-bit_of-clause-lost g t c = λ nothing.
    let seen = shape g.D.Numbered.numbers in
    becomes_side nothing c.args.level
    (ap seen c.in-Fork.is ∙ ap (λ s. Fork (seen s.left) (seen s.right)) (sym c.deref_mut.ensures.value))
    c.args.key.now true (seen c.remove_in.new.part) (seen c.collapse.new.part) (sym c.bit_of.ensures ∙ c.if-bit_of.true)
    (c.remove_in.ensures.lost nothing) (c.collapse.ensures.joined nothing)

pub returns-else-bit_of-clause-lost : goal.returns-else-bit_of-clause-lost
returns-else-bit_of-clause-lost g t c = λ nothing.
    let seen = shape g.D.Numbered.numbers in
    becomes_side nothing c.args.level
    (ap seen c.in-Fork.is ∙ ap (λ s. Fork (seen s.left) (seen s.right)) (sym c.deref_mut.ensures.value))
    c.args.key.now false (seen c.remove_in-else-bit_of.new.part) (seen c.collapse-else-bit_of.new.part)
    (sym c.bit_of.ensures ∙ c.if-bit_of.false) (c.remove_in-else-bit_of.ensures.lost nothing)
    (c.collapse-else-bit_of.ensures.joined nothing)

pub returns-then-bit_of-clause-digests : goal.returns-then-bit_of-clause-digests
returns-then-bit_of-clause-digests g t c = λ h kept.
    let old = subst (IsKept g.D.Numbered.numbers h) c.in-Fork.is kept in
    let now = subst (λ s. IsKept g.D.Numbered.numbers h s.left × IsKept g.D.Numbered.numbers h s.right)
    (sym c.deref_mut.ensures.value) (old.1, old.2) in
    c.collapse.ensures.digests h (now.0, c.remove_in.ensures.digests h now.1)

pub returns-else-bit_of-clause-digests : goal.returns-else-bit_of-clause-digests
returns-else-bit_of-clause-digests g t c = λ h kept.
    let old = subst (IsKept g.D.Numbered.numbers h) c.in-Fork.is kept in
    let now = subst (λ s. IsKept g.D.Numbered.numbers h s.left × IsKept g.D.Numbered.numbers h s.right)
    (sym c.deref_mut.ensures.value) (old.1, old.2) in
    c.collapse-else-bit_of.ensures.digests h (c.remove_in-else-bit_of.ensures.digests h now.0, now.1)
