use Rattle.std.proofs.Common.{true, false, ap, sym, ◌∙◌, subst}
use Rattle.merkle_map.specs.Kept.{IsKept}
use Rattle.merkle_map.specs.Parts.{entry_seen, shape}
use Rattle.merkle_map.specs.Tree.{Fork, way, StandsAt}
use Rattle.merkle_map.proofs.Keys.{length-way}
use Rattle.merkle_map.proofs.Places.{answers_side}
use Rattle.merkle_map.proofs.put.+put_in.Goals as goal

pub apart_from-requires-clause-together : goal.apart_from-requires-clause-together
apart_from-requires-clause-together g t c =
    let own = c.args.own.key in
    let stands = subst (λ p. StandsAt (way c.args.level own)
    (shape g.D.Numbered.numbers p)) c.in-One.is c.requires.stands in
    sym stands.1 ∙ ap (λ n. way n c.in-One.entry.value.key) (length-way c.args.level own)
    ∙ ap (λ e. way c.args.level e.key) (sym c.deref_mut-entry.ensures.value)

pub returns-then-bit_of-clause-changed : goal.returns-then-bit_of-clause-changed
returns-then-bit_of-clause-changed g t c =
    let seen = shape g.D.Numbered.numbers in
    answers_side c.args.level
    (ap seen c.in-Fork.is ∙ ap (λ s. Fork (seen s.left) (seen s.right)) (sym c.deref_mut.ensures.value))
    (entry_seen c.args.own) true c.put_in.result (seen c.put_in.new.part)
    (sym c.bit_of.ensures ∙ c.if-bit_of.true) c.put_in.ensures.changed

pub returns-else-bit_of-clause-changed : goal.returns-else-bit_of-clause-changed
returns-else-bit_of-clause-changed g t c =
    let seen = shape g.D.Numbered.numbers in
    answers_side c.args.level
    (ap seen c.in-Fork.is ∙ ap (λ s. Fork (seen s.left) (seen s.right)) (sym c.deref_mut.ensures.value))
    (entry_seen c.args.own) false c.put_in-else-bit_of.result
    (seen c.put_in-else-bit_of.new.part) (sym c.bit_of.ensures ∙ c.if-bit_of.false)
    c.put_in-else-bit_of.ensures.changed

pub returns-in_ok-two-in-One-clause-digests : goal.returns-in_ok-two-in-One-clause-digests
returns-in_ok-two-in-One-clause-digests g t c = λ h kept. c.in_ok-two-in-One.ensures.kept h

pub returns-then-bit_of-clause-digests : goal.returns-then-bit_of-clause-digests
returns-then-bit_of-clause-digests g t c = λ h kept.
    let old = subst (IsKept g.D.Numbered.numbers h) c.in-Fork.is kept in
    let now = subst (λ s. IsKept g.D.Numbered.numbers h s.left × IsKept g.D.Numbered.numbers h s.right)
    (sym c.deref_mut.ensures.value) (old.1, old.2) in (tt, now.0, c.put_in.ensures.digests h now.1)

pub returns-else-bit_of-clause-digests : goal.returns-else-bit_of-clause-digests
returns-else-bit_of-clause-digests g t c = λ h kept.
    let old = subst (IsKept g.D.Numbered.numbers h) c.in-Fork.is kept in
    let now = subst (λ s. IsKept g.D.Numbered.numbers h s.left × IsKept g.D.Numbered.numbers h s.right)
    (sym c.deref_mut.ensures.value) (old.1, old.2) in (tt, c.put_in-else-bit_of.ensures.digests h now.0, now.1)
