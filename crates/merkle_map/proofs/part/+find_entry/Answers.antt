use Rattle.std.proofs.Common.{◌+◌, true, false, ap, sym, ◌∙◌, arith}
use Rattle.merkle_map.specs.Changes.{known_at}
use Rattle.merkle_map.specs.Parts.{shape}
use Rattle.merkle_map.proofs.Places.{fork_within, known-on}
use Rattle.merkle_map.proofs.part.+find_entry.Goals as goal

pub bit_of-requires : goal.bit_of-requires
bit_of-requires g t c = fork_within _ (ap (shape g.D.Numbered.numbers) c.in-Fork.is) _ c.requires

pub overflow_add-level-else-bit_of : goal.overflow_add-level-else-bit_of
overflow_add-level-else-bit_of g t c =
    let inside = fork_within _ (ap (shape g.D.Numbered.numbers) c.in-Fork.is) _ c.requires in omega (arith, inside)

pub returns-then-bit_of : goal.returns-then-bit_of
returns-then-bit_of g t c =
    let seen = shape g.D.Numbered.numbers in
    known-on c.args.level (ap seen c.in-Fork.is) c.args.key.now true (sym c.bit_of.ensures ∙ c.if-bit_of.true)
    ∙ ap (λ s. known_at (c.args.level + 1) c.args.key.now (seen s.right)) (sym c.deref-in-Fork.ensures)
    ∙ c.find_entry.ensures

pub returns-else-bit_of : goal.returns-else-bit_of
returns-else-bit_of g t c =
    let seen = shape g.D.Numbered.numbers in
    known-on c.args.level (ap seen c.in-Fork.is) c.args.key.now false (sym c.bit_of.ensures ∙ c.if-bit_of.false)
    ∙ ap (λ s. known_at (c.args.level + 1) c.args.key.now (seen s.left)) (sym c.deref-in-Fork.ensures)
    ∙ c.find_entry-else-bit_of.ensures
