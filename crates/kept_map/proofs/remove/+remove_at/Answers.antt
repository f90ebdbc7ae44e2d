use Rattle.std.proofs.Common.{Ok, ◌≡◌, not, refl, arith, ap, sym, ◌∙◌}
use Rattle.std.specs.Str.{bytes_eq}
use Rattle.merkle_map.specs.Map.{MapHashes}
use Rattle.merkle_map.specs.Tree.{Empty, One, Shape}
use Rattle.kept_map.specs.KeptMap.{entry_in, fork_count}
use Rattle.kept_map.specs.Lying.{LiesOn}
use Rattle.kept_map.specs.Parts.{part_number}
use Rattle.kept_map.proofs.Descent.{ForkOn, entry-on, fork-on, lies-within, none-on, nothing-on, on_err}
use Rattle.kept_map.proofs.Frames.{take-before}
use Rattle.kept_map.proofs.Putting.{beside-kept}
use Rattle.kept_map.proofs.Removing.{made-is, losing-nothing, losing-other, losing-own, remove-fork}
use Rattle.kept_map.proofs.remove.+remove_at.Goals.{In-Entry, In-Fork}
use Rattle.kept_map.proofs.remove.+remove_at.Goals as goal

pub returns-in_err-part_of-clause-sound : goal.returns-in_err-part_of-clause-sound
returns-in_err-part_of-clause-sound t c = on_err c.from_residual.result (λ h tree on.
    none-on h c.args.entries.now c.args.forks.now c.args.count.now c.args.number c.args.level c.args.key.now tree on
    c.in_err-part_of.ensures.none)

pub returns-in-Nothing-clause-made : goal.returns-in-Nothing-clause-made
returns-in-Nothing-clause-made t c = λ h nothing tree on.
    let is = nothing-on h c.args.entries.now c.args.forks.now c.args.count.now c.args.number c.args.level c.args.key.now
    tree on (ap part_number (sym c.in-Nothing.is) ∙ c.in_ok-part_of.ensures.number) in
    made-is h c.args.entries.now c.args.forks.now c.args.count.now 0 Empty _ (fork_count tree)
    (losing-nothing nothing c.args.level c.args.key.now tree is) (refl, omega arith)

-- the entry at the number
alone : (t : _) (c : In-Entry t) (h : MapHashes) (tree : Shape)
    → LiesOn h c.args.entries.now c.args.forks.now c.args.count.now c.args.number c.args.level c.args.key.now tree
    → tree ≡ One (entry_in c.args.entries.now c.in-Entry.place)
alone t c h tree on = entry-on h c.args.entries.now c.args.forks.now c.args.count.now c.args.number c.args.level
    c.args.key.now tree on c.in-Entry.place (ap part_number (sym c.in-Entry.is) ∙ c.in_ok-part_of.ensures.number)

pub returns-then-are_same_keys-clause-made : goal.returns-then-are_same_keys-clause-made
returns-then-are_same_keys-clause-made t c = λ h nothing tree on.
    let is = alone t (goal.at.returns-then-are_same_keys-clause-made t c).In-Entry h tree on in
    let same = ap (λ k. bytes_eq k c.args.key.now) (sym c.key_at.ensures) ∙ sym c.are_same_keys.ensures
    ∙ c.if-are_same_keys.true in
    made-is h c.args.entries.now c.args.forks.now c.args.count.now 0 Empty _ (fork_count tree)
    (losing-own nothing c.args.level c.args.key.now tree _ is same) (refl, omega arith)

pub returns-else-are_same_keys-clause-made : goal.returns-else-are_same_keys-clause-made
returns-else-are_same_keys-clause-made t c = λ h nothing tree on.
    let is = alone t (goal.at.returns-else-are_same_keys-clause-made t c).In-Entry h tree on in
    let differ = ap (λ k. bytes_eq k c.args.key.now) (sym c.key_at.ensures) ∙ sym c.are_same_keys.ensures
    ∙ c.if-are_same_keys.false in
    made-is h c.args.entries.now c.args.forks.now c.args.count.now c.args.number tree _ (fork_count tree)
    (losing-other nothing c.args.level c.args.key.now tree _ is differ ∙ ap (λ t. Ok t) (sym is)) (
      lies-within h c.args.entries.now c.args.forks.now c.args.count.now c.args.number c.args.level c.args.key.now
          tree on,
      omega arith,
    )

-- the fork at the number
forked : (t : _) (c : In-Fork t) (h : MapHashes) (tree : Shape)
    → LiesOn h c.args.entries.now c.args.forks.now c.args.count.now c.args.number c.args.level c.args.key.now tree
    → ForkOn h c.args.entries.now c.args.forks.now c.args.count.now c.in-Fork.place c.args.level c.args.key.now tree
forked t c h tree on = fork-on h c.args.entries.now c.args.forks.now c.args.count.now c.args.number c.args.level
    c.args.key.now tree on c.in-Fork.place (ap part_number (sym c.in-Fork.is) ∙ c.in_ok-part_of.ensures.number)

pub returns-then-level-ge256-clause-sound : goal.returns-then-level-ge256-clause-sound
returns-then-level-ge256-clause-sound t c = λ h tree on.
    let below = (forked t (goal.at.returns-then-level-ge256-clause-sound t c).In-Fork h tree on).below in
    omega (arith, below)

pub returns-in_err-new-in-Fork-clause-sound : goal.returns-in_err-new-in-Fork-clause-sound
returns-in_err-new-in-Fork-clause-sound t c = on_err c.from_residual-in_err-new-in-Fork.result (λ h tree on.
    let fork = forked t (goal.at.returns-in_err-new-in-Fork-clause-sound t c).In-Fork h tree on in
    c.in_err-new-in-Fork.ensures.sound h _ (fork.side c.bit_of-is_right.result (sym c.bit_of-is_right.ensures)
    c.side_at-side.result c.side_at-side.ensures))

pub returns-in_ok-new-in-Fork-clause-before : goal.returns-in_ok-new-in-Fork-clause-before
returns-in_ok-new-in-Fork-clause-before t c = take-before c.args.count.now c.remove_at.new.count c.args.forks.now
    c.remove_at.new.forks c.join_sides.new.forks c.remove_at.ensures.more c.remove_at.ensures.before
    c.join_sides.ensures.before

pub returns-in_ok-new-in-Fork-clause-made : goal.returns-in_ok-new-in-Fork-clause-made
returns-in_ok-new-in-Fork-clause-made t c = λ h nothing tree on.
    let entries = c.args.entries.now in
    let key = c.args.key.now in
    let bit = c.bit_of-is_right.result in
    let fork = forked t (goal.at.returns-in_ok-new-in-Fork-clause-made t c).In-Fork h tree on in
    let here = sym c.bit_of-is_right.ensures in
    let under = c.in_ok-new-in-Fork.ensures.made h nothing _
    (fork.side bit here c.side_at-side.result c.side_at-side.ensures) in
    let beside = beside-kept h entries c.args.forks.now c.remove_at.new.forks c.args.count.now c.remove_at.new.count
    c.in-Fork.place c.args.level key tree fork c.remove_at.ensures.more c.remove_at.ensures.before (not bit)
    c.side_at-beside.result c.side_at-beside.ensures in
    remove-fork h entries c.args.forks.now c.remove_at.new.forks c.join_sides.new.forks c.args.count.now
    c.remove_at.new.count c.join_sides.new.count c.join_sides.result c.in_ok-new-in-Fork.new nothing c.in-Fork.place
    c.args.level key tree fork bit here under (c.join_sides.ensures.made h nothing entries under.tree _ under.lies
    beside)
