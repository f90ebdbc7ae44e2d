use Rattle.std.proofs.Common.{◌≡◌, false, not, arith, ap, sym, ◌∙◌}
use Rattle.std.proofs.lemmas.Result.{IfOk-weaker, on_err_weaker}
use Rattle.std.specs.Str.{bytes_eq}
use Rattle.merkle_map.specs.Changes.{with_value}
use Rattle.merkle_map.specs.Map.{MapHashes, bit_of}
use Rattle.merkle_map.specs.Tree.{One, Shape}
use Rattle.kept_map.specs.KeptMap.{entry_in, fork_count}
use Rattle.kept_map.specs.Lying.{LiesOn}
use Rattle.kept_map.specs.Parts.{part_number}
use Rattle.kept_map.proofs.Descent.{ForkOn, entry-on, fork-on, none-on, nothing-on, on_err}
use Rattle.kept_map.proofs.Frames.{take-before}
use Rattle.kept_map.proofs.Putting.{beside-kept, made-as, made-one, put-fork, shares-way, with-nothing, with-other, with-same}
use Rattle.kept_map.proofs.put.+put_at.Goals.{After-bit_of-is_right, Else-are_same_keys, In-Entry, In-Fork}
use Rattle.kept_map.proofs.put.+put_at.Goals as goal

pub returns-in_err-part_of-clause-sound : goal.returns-in_err-part_of-clause-sound
returns-in_err-part_of-clause-sound t c = on_err c.from_residual.result (λ h tree on.
    none-on h c.args.entries.now c.args.forks.now c.args.count.now c.args.number c.args.level
    (entry_in c.args.entries.now c.args.own).key tree on c.in_err-part_of.ensures.none)

pub returns-in-Nothing-clause-made : goal.returns-in-Nothing-clause-made
returns-in-Nothing-clause-made t c = λ h tree on.
    let own = entry_in c.args.entries.now c.args.own in
    let is = nothing-on h c.args.entries.now c.args.forks.now c.args.count.now c.args.number c.args.level own.key
    tree on
    (ap part_number (sym c.in-Nothing.is) ∙ c.in_ok-part_of.ensures.number) in
    made-one h c.args.entries.now c.args.forks.now c.args.count.now c.number_of_entry.result _ c.args.own (fork_count
    tree)
    c.number_of_entry.ensures c.requires.own (with-nothing c.args.level own tree is)

-- the entry at the number
alone : (t : _) (c : In-Entry t) (h : MapHashes) (tree : Shape)
    → LiesOn h c.args.entries.now c.args.forks.now c.args.count.now c.args.number c.args.level
    (entry_in c.args.entries.now c.args.own).key tree → tree ≡ One (entry_in c.args.entries.now c.in-Entry.other)
alone t c h tree on = entry-on h c.args.entries.now c.args.forks.now c.args.count.now c.args.number c.args.level
    (entry_in c.args.entries.now c.args.own).key tree on c.in-Entry.other
    (ap part_number (sym c.in-Entry.is) ∙ c.in_ok-part_of.ensures.number)

pub returns-then-are_same_keys-clause-made : goal.returns-then-are_same_keys-clause-made
returns-then-are_same_keys-clause-made t c = λ h tree on.
    let own = entry_in c.args.entries.now c.args.own in
    let is = alone t (goal.at.returns-then-are_same_keys-clause-made t c).In-Entry h tree on in
    let same = ap (λ k. bytes_eq k own.key) (sym c.key_at.ensures)
    ∙ ap (bytes_eq c.key_at.result) (sym c.key_at-in-Entry.ensures) ∙ sym c.are_same_keys.ensures
    ∙ c.if-are_same_keys.true in
    made-one h c.args.entries.now c.args.forks.now c.args.count.now c.number_of_entry-then-are_same_keys.result _
    c.args.own
    (fork_count tree) c.number_of_entry-then-are_same_keys.ensures c.requires.own (with-same c.args.level own tree _
    is same)

-- the two keys are not the same
differ : (t : _) (c : Else-are_same_keys t) → bytes_eq (entry_in c.args.entries.now c.in-Entry.other).key
    (entry_in c.args.entries.now c.args.own).key ≡ false
differ t c = ap (λ k. bytes_eq k (entry_in c.args.entries.now c.args.own).key) (sym c.key_at.ensures)
    ∙ ap (bytes_eq c.key_at.result) (sym c.key_at-in-Entry.ensures) ∙ sym c.are_same_keys.ensures
    ∙ c.if-are_same_keys.false

pub returns-else-are_same_keys-clause-made : goal.returns-else-are_same_keys-clause-made
returns-else-are_same_keys-clause-made t c = IfOk-weaker c.apart.result _ _ (λ new made. λ h tree on.
    let own = entry_in c.args.entries.now c.args.own in
    let is = alone t (goal.at.returns-else-are_same_keys-clause-made t c).In-Entry h tree on in
    made-as h c.args.entries.now c.apart.new.forks c.apart.new.count new (with_value c.args.level own tree) _
    c.args.count.now (fork_count tree) (with-other c.args.level own tree _ is
    (differ t (goal.at.returns-else-are_same_keys-clause-made t c).Else-are_same_keys)) (made h)) c.apart.ensures.made

pub returns-else-are_same_keys-clause-sound : goal.returns-else-are_same_keys-clause-sound
returns-else-are_same_keys-clause-sound t c = on_err_weaker c.apart.result (λ none. λ h tree on.
    let is = alone t (goal.at.returns-else-are_same_keys-clause-sound t c).In-Entry h tree on in
    none (differ t (goal.at.returns-else-are_same_keys-clause-sound t c).Else-are_same_keys)
    (shares-way c.args.level (entry_in c.args.entries.now c.args.own).key tree _ is on.stands)) c.apart.ensures.sound

-- the fork at the number
forked : (t : _) (c : In-Fork t) (h : MapHashes) (tree : Shape)
    → LiesOn h c.args.entries.now c.args.forks.now c.args.count.now c.args.number c.args.level
    (entry_in c.args.entries.now c.args.own).key tree → ForkOn h c.args.entries.now c.args.forks.now c.args.count.now
    c.in-Fork.place c.args.level (entry_in c.args.entries.now c.args.own).key tree
forked t c h tree on = fork-on h c.args.entries.now c.args.forks.now c.args.count.now c.args.number c.args.level
    (entry_in c.args.entries.now c.args.own).key tree on c.in-Fork.place
    (ap part_number (sym c.in-Fork.is) ∙ c.in_ok-part_of.ensures.number)

pub returns-then-level-ge256-clause-sound : goal.returns-then-level-ge256-clause-sound
returns-then-level-ge256-clause-sound t c = λ h tree on.
    let below = (forked t (goal.at.returns-then-level-ge256-clause-sound t c).In-Fork h tree on).below in
    omega (arith, below)

-- the way's bit at the level
way-bit : (t : _) (c : After-bit_of-is_right t)
    → bit_of c.args.level (entry_in c.args.entries.now c.args.own).key ≡ c.bit_of-is_right.result
way-bit t c = ap (bit_of c.args.level) (sym c.key_at-in-Fork.ensures) ∙ sym c.bit_of-is_right.ensures

pub returns-in_err-new-in-Fork-clause-sound : goal.returns-in_err-new-in-Fork-clause-sound
returns-in_err-new-in-Fork-clause-sound t c = on_err c.from_residual-in_err-new-in-Fork.result (λ h tree on.
    let fork = forked t (goal.at.returns-in_err-new-in-Fork-clause-sound t c).In-Fork h tree on in
    c.in_err-new-in-Fork.ensures.sound h _ (fork.side c.bit_of-is_right.result
    (way-bit t (goal.at.returns-in_err-new-in-Fork-clause-sound t c).After-bit_of-is_right) c.side_at-side.result
    c.side_at-side.ensures))

pub returns-in_ok-new-in-Fork-clause-before : goal.returns-in_ok-new-in-Fork-clause-before
returns-in_ok-new-in-Fork-clause-before t c = take-before c.args.count.now c.put_at.new.count c.args.forks.now
    c.put_at.new.forks c.push_sides.new.forks c.put_at.ensures.more c.put_at.ensures.before c.push_sides.ensures.before

pub returns-in_ok-new-in-Fork-clause-made : goal.returns-in_ok-new-in-Fork-clause-made
returns-in_ok-new-in-Fork-clause-made t c = λ h tree on.
    let entries = c.args.entries.now in
    let own = entry_in entries c.args.own in
    let bit = c.bit_of-is_right.result in
    let fork = forked t (goal.at.returns-in_ok-new-in-Fork-clause-made t c).In-Fork h tree on in
    let here = way-bit t (goal.at.returns-in_ok-new-in-Fork-clause-made t c).After-bit_of-is_right in
    let under = c.in_ok-new-in-Fork.ensures.made h _ (fork.side bit here c.side_at-side.result
    c.side_at-side.ensures) in
    let beside = beside-kept h entries c.args.forks.now c.put_at.new.forks c.args.count.now c.put_at.new.count
    c.in-Fork.place c.args.level own.key tree fork c.put_at.ensures.more c.put_at.ensures.before (not bit)
    c.side_at-beside.result c.side_at-beside.ensures in
    put-fork h entries c.args.forks.now c.put_at.new.forks c.push_sides.new.forks c.args.count.now c.put_at.new.count
    c.push_sides.new.count c.push_sides.result c.in_ok-new-in-Fork.new c.in-Fork.place c.args.level own tree fork bit
    here
    under c.push_sides.ensures.count (c.push_sides.ensures.lies h entries under.tree _ under.lies beside)
