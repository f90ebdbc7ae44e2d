use Rattle.std.proofs.Common.{Err, rules, ◌≡◌, ◌+◌, length, refl, arith, ap, sym, ◌∙◌, subst}
use Rattle.merkle_map.specs.Changes.{entry_of}
use Rattle.merkle_map.specs.Map.{MapHashes}
use Rattle.merkle_map.specs.Tree.{One, Shape}
use Rattle.kept_map.specs.Copied.{IsBehind, IsCopied, LiesBelow}
use Rattle.kept_map.specs.KeptMap.{entry_in}
use Rattle.kept_map.specs.declared.head.MapFault.TheVariants.{NoMap}
use Rattle.kept_map.specs.Parts.{part_number}
use Rattle.kept_map.proofs.Copied.{copied-entry, copied-fork, copied-nothing, full-entry, full-fork, room-left, room-right}
use Rattle.kept_map.proofs.Copying.{ForkBelow, behind-fork, behind-then, same_fault, entry-below, fork-below, none-below, nothing-below}
use Rattle.kept_map.proofs.Descent.{on_err}
use Rattle.kept_map.proofs.copy.+copy_at.Goals.{After-copy_at-in-Fork, In-Entry, In-Fork, In_ok-left-in-Fork, In_ok-right-in-Fork}
use Rattle.kept_map.proofs.copy.+copy_at.Goals as goal

pub returns-in_err-part_of-clause-sound : goal.returns-in_err-part_of-clause-sound
returns-in_err-part_of-clause-sound t c = on_err c.from_residual.result (λ h tree on room.
    none-below h c.args.entries.now c.args.forks.now c.args.number c.args.level tree on c.in_err-part_of.ensures.none)

pub returns-in-Nothing-clause-copied : goal.returns-in-Nothing-clause-copied
returns-in-Nothing-clause-copied t c = λ h tree on.
    copied-nothing h c.args.to_entries.now c.args.to_forks.now c.args.to.now tree
    (nothing-below h c.args.entries.now c.args.forks.now c.args.number c.args.level tree on
    (ap part_number (sym c.in-Nothing.is) ∙ c.in_ok-part_of.ensures.number))

-- the entry at the number
alone : (t : _) (c : In-Entry t) (h : MapHashes) (tree : Shape)
    → LiesBelow h c.args.entries.now c.args.forks.now c.args.number c.args.level tree
    → tree ≡ One (entry_in c.args.entries.now c.in-Entry.place)
alone t c h tree on = entry-below h c.args.entries.now c.args.forks.now c.args.number c.args.level tree on
    c.in-Entry.place (ap part_number (sym c.in-Entry.is) ∙ c.in_ok-part_of.ensures.number)

pub returns-then-to_entries-to-clause-sound : goal.returns-then-to_entries-to-clause-sound
returns-then-to_entries-to-clause-sound t c = λ h tree on room.
    full-entry c.args.to_entries.now c.args.to_forks.now c.args.to.now tree _
    (alone t (goal.at.returns-then-to_entries-to-clause-sound t c).In-Entry h tree on) room c.if-to_entries-to.true

pub returns-else-to_entries-to-clause-copied : goal.returns-else-to_entries-to-clause-copied
returns-else-to_entries-to-clause-copied t c = λ h tree on.
    let is = alone t (goal.at.returns-else-to_entries-to-clause-copied t c).In-Entry h tree on in
    let long : length c.key_at-key.result ≡ 32 = search rules in
    let same = ap (λ k. entry_of k (entry_in c.args.entries.now c.in-Entry.place).value) (sym c.key_at-key.ensures)
    ∙ ap (entry_of c.key_at-key.result) (sym c.value_at-value.ensures) in
    copied-entry h c.args.to_entries.now c.push_entry.new.entries c.args.to_forks.now c.args.to.now _
    c.key_at-key.result
    c.value_at-value.result long (omega arith) tree (is ∙ ap One same) c.push_entry.ensures.written
    c.push_entry.ensures.count refl c.push_entry.result c.push_entry.ensures.number

-- the fork at the number
forked : (t : _) (c : In-Fork t) (h : MapHashes) (tree : Shape)
    → LiesBelow h c.args.entries.now c.args.forks.now c.args.number c.args.level tree
    → ForkBelow h c.args.entries.now c.args.forks.now c.in-Fork.place c.args.level tree
forked t c h tree on = fork-below h c.args.entries.now c.args.forks.now c.args.number c.args.level tree on
    c.in-Fork.place (ap part_number (sym c.in-Fork.is) ∙ c.in_ok-part_of.ensures.number)

pub returns-then-level-ge256-clause-sound : goal.returns-then-level-ge256-clause-sound
returns-then-level-ge256-clause-sound t c = λ h tree on room.
    let below = (forked t (goal.at.returns-then-level-ge256-clause-sound t c).In-Fork h tree on).below in
    omega (arith, below)

pub returns-in_err-left-in-Fork-clause-sound : goal.returns-in_err-left-in-Fork-clause-sound
returns-in_err-left-in-Fork-clause-sound t c = on_err c.from_residual-in_err-left-in-Fork.result (λ h tree on room.
    let fork = forked t (goal.at.returns-in_err-left-in-Fork-clause-sound t c).In-Fork h tree on in
    c.in_err-left-in-Fork.ensures.sound h fork.at.left
    (subst (λ n. LiesBelow h c.args.entries.now c.args.forks.now n (c.args.level + 1) fork.at.left)
    (sym c.left_at-left.ensures) fork.on_left)
    (room-left h c.args.entries.now c.args.forks.now c.in-Fork.place c.args.level tree fork c.args.to_entries.now
    c.args.to_forks.now c.args.to.now room))

-- what both copies wrote
both : (t : _) (c : After-copy_at-in-Fork t)
    → IsBehind c.args.to.now c.copy_at-in-Fork.new.to c.args.to_entries.now c.copy_at-in-Fork.new.to_entries
    c.args.to_forks.now c.copy_at-in-Fork.new.to_forks
both t c = behind-then c.args.to.now c.copy_at.new.to c.copy_at-in-Fork.new.to c.args.to_entries.now
    c.copy_at.new.to_entries c.copy_at-in-Fork.new.to_entries c.args.to_forks.now c.copy_at.new.to_forks
    c.copy_at-in-Fork.new.to_forks c.copy_at.ensures.behind c.copy_at-in-Fork.ensures.behind

pub returns-in_err-right-in-Fork-clause-behind : goal.returns-in_err-right-in-Fork-clause-behind
returns-in_err-right-in-Fork-clause-behind t c =
    both t (goal.at.returns-in_err-right-in-Fork-clause-behind t c).After-copy_at-in-Fork

pub returns-then-to_forks-to-clause-behind : goal.returns-then-to_forks-to-clause-behind
returns-then-to_forks-to-clause-behind t c =
    both t (goal.at.returns-then-to_forks-to-clause-behind t c).After-copy_at-in-Fork

pub returns-else-to_forks-to-clause-behind : goal.returns-else-to_forks-to-clause-behind
returns-else-to_forks-to-clause-behind t c =
    behind-fork c.args.to.now c.copy_at-in-Fork.new.to _ c.args.to_entries.now c.copy_at-in-Fork.new.to_entries
    c.args.to_forks.now c.copy_at-in-Fork.new.to_forks c.push_hashed.new.forks
    (both t (goal.at.returns-else-to_forks-to-clause-behind t c).After-copy_at-in-Fork) c.push_hashed.ensures.before
    refl
    c.push_hashed.ensures.count

-- what the first copy made
left_copied : (t : _) (c : In_ok-left-in-Fork t) (h : MapHashes) (tree : Shape)
    (fork : ForkBelow h c.args.entries.now c.args.forks.now c.in-Fork.place c.args.level tree)
    → IsCopied h c.copy_at.new.to_entries c.copy_at.new.to_forks c.args.to.now c.copy_at.new.to
    c.in_ok-left-in-Fork.left fork.at.left
left_copied t c h tree fork = c.in_ok-left-in-Fork.ensures.copied h fork.at.left
    (subst (λ n. LiesBelow h c.args.entries.now c.args.forks.now n (c.args.level + 1) fork.at.left)
    (sym c.left_at-left.ensures) fork.on_left)

pub returns-in_err-right-in-Fork-clause-sound : goal.returns-in_err-right-in-Fork-clause-sound
returns-in_err-right-in-Fork-clause-sound t c = on_err c.from_residual-in_err-right-in-Fork.result (λ h tree on room.
    let fork = forked t (goal.at.returns-in_err-right-in-Fork-clause-sound t c).In-Fork h tree on in
    let left = left_copied t (goal.at.returns-in_err-right-in-Fork-clause-sound t c).In_ok-left-in-Fork h tree fork in
    c.in_err-right-in-Fork.ensures.sound h fork.at.right
    (subst (λ n. LiesBelow h c.args.entries.now c.args.forks.now n (c.args.level + 1) fork.at.right)
    (sym c.right_at-right.ensures) fork.on_right)
    (room-right h c.args.entries.now c.args.forks.now c.in-Fork.place c.args.level tree fork c.args.to_entries.now
    c.args.to_forks.now c.copy_at.new.to_entries c.copy_at.new.to_forks c.args.to.now c.copy_at.new.to
    c.in_ok-left-in-Fork.left left c.copy_at.auto.to_entries c.copy_at.auto.to_forks room))

-- what the second copy made
right_copied : (t : _) (c : In_ok-right-in-Fork t) (h : MapHashes) (tree : Shape)
    (fork : ForkBelow h c.args.entries.now c.args.forks.now c.in-Fork.place c.args.level tree)
    → IsCopied h c.copy_at-in-Fork.new.to_entries c.copy_at-in-Fork.new.to_forks c.copy_at.new.to
    c.copy_at-in-Fork.new.to c.in_ok-right-in-Fork.right fork.at.right
right_copied t c h tree fork = c.in_ok-right-in-Fork.ensures.copied h fork.at.right
    (subst (λ n. LiesBelow h c.args.entries.now c.args.forks.now n (c.args.level + 1) fork.at.right)
    (sym c.right_at-right.ensures) fork.on_right)

pub returns-then-to_forks-to-clause-sound : goal.returns-then-to_forks-to-clause-sound
returns-then-to_forks-to-clause-sound t c = λ h tree on room.
    let fork = forked t (goal.at.returns-then-to_forks-to-clause-sound t c).In-Fork h tree on in
    full-fork h c.args.entries.now c.args.forks.now c.in-Fork.place c.args.level tree fork
    c.args.to_entries.now c.args.to_forks.now c.copy_at.new.to_entries c.copy_at.new.to_forks c.args.to.now
    c.copy_at.new.to c.in_ok-left-in-Fork.left
    (left_copied t (goal.at.returns-then-to_forks-to-clause-sound t c).In_ok-left-in-Fork h tree fork)
    c.copy_at.auto.to_entries c.copy_at.auto.to_forks c.copy_at-in-Fork.new.to_entries c.copy_at-in-Fork.new.to_forks
    c.copy_at-in-Fork.new.to c.in_ok-right-in-Fork.right
    (right_copied t (goal.at.returns-then-to_forks-to-clause-sound t c).In_ok-right-in-Fork h tree fork)
    c.copy_at-in-Fork.auto.to_forks c.if-to_forks-to.true room

pub returns-else-to_forks-to-clause-copied : goal.returns-else-to_forks-to-clause-copied
returns-else-to_forks-to-clause-copied t c = λ h tree on.
    let pushed = c.push_hashed.ensures in
    let fork = forked t (goal.at.returns-else-to_forks-to-clause-copied t c).In-Fork h tree on in
    copied-fork h c.args.entries.now c.args.forks.now c.in-Fork.place c.args.level tree fork
    c.copy_at.new.to_entries c.copy_at.new.to_forks c.copy_at-in-Fork.new.to_entries c.copy_at-in-Fork.new.to_forks
    c.args.to.now c.copy_at.new.to c.copy_at-in-Fork.new.to c.in_ok-left-in-Fork.left c.in_ok-right-in-Fork.right
    (left_copied t (goal.at.returns-else-to_forks-to-clause-copied t c).In_ok-left-in-Fork h tree fork)
    (right_copied t (goal.at.returns-else-to_forks-to-clause-copied t c).In_ok-right-in-Fork h tree fork)
    c.copy_at-in-Fork.ensures.behind c.copy_at-in-Fork.ensures.inside.0 c.push_hashed.new.forks c.push_hashed.result
    pushed.before (pushed.digest ∙ c.kept_digest-digest.ensures) pushed.left
    pushed.right pushed.number _ refl pushed.count

pub returns-in_err-part_of-clause-there : goal.returns-in_err-part_of-clause-there
returns-in_err-part_of-clause-there t c = λ h tree on is.
    none-below h c.args.entries.now c.args.forks.now c.args.number c.args.level tree on c.in_err-part_of.ensures.none

pub returns-then-level-ge256-clause-there : goal.returns-then-level-ge256-clause-there
returns-then-level-ge256-clause-there t c = λ h tree on is.
    let below = (forked t (goal.at.returns-then-level-ge256-clause-there t c).In-Fork h tree on).below in
    omega (arith, below)

pub returns-in_err-left-in-Fork-clause-there : goal.returns-in_err-left-in-Fork-clause-there
returns-in_err-left-in-Fork-clause-there t c = λ h tree on is.
    let fork = forked t (goal.at.returns-in_err-left-in-Fork-clause-there t c).In-Fork h tree on in
    c.in_err-left-in-Fork.ensures.there h fork.at.left
    (subst (λ n. LiesBelow h c.args.entries.now c.args.forks.now n (c.args.level + 1) fork.at.left)
    (sym c.left_at-left.ensures) fork.on_left)
    (ap Err (same_fault c.from_residual-in_err-left-in-Fork.result c.in_err-left-in-Fork.field-0.0 NoMap
    c.from_residual-in_err-left-in-Fork.ensures.1 is))

pub returns-in_err-right-in-Fork-clause-there : goal.returns-in_err-right-in-Fork-clause-there
returns-in_err-right-in-Fork-clause-there t c = λ h tree on is.
    let fork = forked t (goal.at.returns-in_err-right-in-Fork-clause-there t c).In-Fork h tree on in
    c.in_err-right-in-Fork.ensures.there h fork.at.right
    (subst (λ n. LiesBelow h c.args.entries.now c.args.forks.now n (c.args.level + 1) fork.at.right)
    (sym c.right_at-right.ensures) fork.on_right)
    (ap Err (same_fault c.from_residual-in_err-right-in-Fork.result c.in_err-right-in-Fork.field-0.0 NoMap
    c.from_residual-in_err-right-in-Fork.ensures.1 is))
