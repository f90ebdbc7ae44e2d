use Rattle.std.proofs.Common.{◌≡◌, ◌+◌, ◌*◌, ◌∷◌, ◌++◌, true, false, take, IfNone, arith, ap, sym, ◌∙◌, subst}
use Rattle.merkle_map.specs.Bytes.{IsOf32, spelled}
use Rattle.merkle_map.specs.Changes.{entry_of}
use Rattle.merkle_map.specs.Pruned.{pruned}
use Rattle.merkle_map.specs.Tree.{One}
use Rattle.kept_map.specs.KeptMap.{LaidAt, entry_in, fork_count, kept_hashes, left_at}
use Rattle.kept_map.specs.Many.{IsHiddenBy, IsWrittenAt}
use Rattle.kept_map.specs.Parts.{part_number}
use Rattle.kept_map.specs.declared.prove.ProveFault.TheVariants.{OutOfMemory}
use Rattle.kept_map.proofs.Climbing.{as-before}
use Rattle.kept_map.proofs.Lies.{fork-below, lies-fork, lies-part}
use Rattle.kept_map.proofs.Written.{done-on, pruned-empty, pruned-one, written-entry, written-fork, written-hidden, written-nothing}
use Rattle.kept_map.proofs.many.+write_shown.Goals.{then-level-ge-LEVELS-via-then-level-ge-LEVELS, then-level-ge-LEVELS-via-else-level-ge-LEVELS+then-budget-eq0}
use Rattle.kept_map.proofs.many.+write_shown.Goals as goal

pub returns-in_err-part_of-clause-found : goal.returns-in_err-part_of-clause-found
returns-in_err-part_of-clause-found g t c = λ first tree bits lies stands long few.
    let h = kept_hashes g.H.ArrayHash.leaf_hash g.H.ArrayHash.node_hash g.H.KeptHash.nothing_hash in
    let there = lies-part h c.args.entries.now c.args.forks.now first c.args.count c.args.number tree lies in
    absurd (c.in_err-part_of.ensures.none there.0 there.1 there.2)

pub returns-then-level-ge-LEVELS-clause-found : goal.returns-then-level-ge-LEVELS-clause-found
returns-then-level-ge-LEVELS-clause-found g t c = λ first tree bits lies stands long few.
    let k = c.in-Fork.place in
    let h = kept_hashes g.H.ArrayHash.leaf_hash g.H.ArrayHash.node_hash g.H.KeptHash.nothing_hash in
    let is : c.args.number ≡ 2 * k + 2 = sym c.in_ok-part_of.ensures.number ∙ ap part_number c.in-Fork.is in
    let it = fork-below h (take first c.args.entries.now) c.args.forks.now c.args.count c.args.number k c.args.level
    bits tree is lies stands long in
    let short = it.sides.within in
    let counts = it.counts in
    elim c.then-level-ge-LEVELS.branch [
      | then-level-ge-LEVELS-via-then-level-ge-LEVELS w ↦
          let deep = w.if-level-ge-LEVELS.true in absurd (omega (arith, deep, short))
      | then-level-ge-LEVELS-via-else-level-ge-LEVELS+then-budget-eq0 w ↦
          let none = w.if-budget-eq0.true in absurd (omega (arith, none, few, counts))
    ]

pub returns-in_err-write_shown-in-None-clause-found : goal.returns-in_err-write_shown-in-None-clause-found
returns-in_err-write_shown-in-None-clause-found g t c = λ first tree bits lies stands long few.
    let forks = c.args.forks.now in
    let k = c.in-Fork.place in
    let h = kept_hashes g.H.ArrayHash.leaf_hash g.H.ArrayHash.node_hash g.H.KeptHash.nothing_hash in
    let is : c.args.number ≡ 2 * k + 2 = sym c.in_ok-part_of.ensures.number ∙ ap part_number c.in-Fork.is in
    let it = fork-below h (take first c.args.entries.now) forks c.args.count c.args.number k c.args.level
    bits tree is lies stands long in
    let counts = it.counts in
    let same : c.digest_to_hide.new.budget ≡ c.args.budget.now =
    subst (λ found. IfNone found (c.digest_to_hide.new.budget ≡ c.args.budget.now)) c.in-None.is
    c.in_ok-digest-in-Fork.ensures.same in
    let no = c.in_err-write_shown-in-None.ensures.found first it.left (false ∷ bits)
    (subst (λ n. LaidAt h (take first c.args.entries.now) forks k n it.left) (sym c.left_at-left.ensures) it.on_left)
    it.sides.on_left (it.sides.long false) (omega (arith, few, counts, same)) in
    as-before c.from_residual-in_err-write_shown-in-None.result c.in_err-write_shown-in-None.field-0.0 OutOfMemory
    c.from_residual-in_err-write_shown-in-None.ensures.1 no

pub returns-in_ok-push-in-Nothing-clause-written : goal.returns-in_ok-push-in-Nothing-clause-written
returns-in_ok-push-in-Nothing-clause-written g t c =
    let entries = c.args.entries.now in
    let forks = c.args.forks.now in
    let h = kept_hashes g.H.ArrayHash.leaf_hash g.H.ArrayHash.node_hash g.H.KeptHash.nothing_hash in
    let is : c.args.number ≡ 0 = sym c.in_ok-part_of.ensures.number ∙ ap part_number c.in-Nothing.is in
    subst (IsWrittenAt h entries forks c.args.number _ c.args.bytes.now.items) (sym
    c.in_ok-push-in-Nothing.ensures.items)
    (written-nothing h entries forks c.args.number (pruned h false false c.args.level c.args.keys.now)
    c.args.bytes.now.items is (pruned-empty h c.args.level c.args.keys.now))

pub returns-in_ok-push_entry-in-Entry-clause-written : goal.returns-in_ok-push_entry-in-Entry-clause-written
returns-in_ok-push_entry-in-Entry-clause-written g t c =
    let entries = c.args.entries.now in
    let forks = c.args.forks.now in
    let k = c.in-Entry.place in
    let h = kept_hashes g.H.ArrayHash.leaf_hash g.H.ArrayHash.node_hash g.H.KeptHash.nothing_hash in
    let is : c.args.number ≡ 2 * k + 1 = sym c.in_ok-part_of.ensures.number ∙ ap part_number c.in-Entry.is in
    let own : One (entry_of c.key_at-key.result c.value_at.result) ≡ One (entry_in entries k) =
    ap (λ key. One (entry_of key c.value_at.result)) c.key_at-key.ensures
    ∙ ap (λ value. One (entry_of (entry_in entries k).key value)) c.value_at.ensures in
    written-entry h entries forks c.args.number (pruned h false false c.args.level c.args.keys.now)
    c.args.bytes.now.items k c.push_entry.new.dest.items is (pruned-one h c.args.level c.args.keys.now) (subst IsOf32
    own c.in_ok-push_entry-in-Entry.ensures.sized)
    (c.in_ok-push_entry-in-Entry.ensures.written ∙ ap (λ s. c.args.bytes.now.items ++ spelled s) own)

pub returns-in_ok-push_hidden-in-Some-clause-written : goal.returns-in_ok-push_hidden-in-Some-clause-written
returns-in_ok-push_hidden-in-Some-clause-written g t c =
    let entries = c.args.entries.now in
    let forks = c.args.forks.now in
    let k = c.in-Fork.place in
    let h = kept_hashes g.H.ArrayHash.leaf_hash g.H.ArrayHash.node_hash g.H.KeptHash.nothing_hash in
    let is : c.args.number ≡ 2 * k + 2 = sym c.in_ok-part_of.ensures.number ∙ ap part_number c.in-Fork.is in
    written-hidden h entries forks c.args.number c.args.level c.args.keys.now c.args.bytes.now.items k is
    c.in-Some.digest c.push_hidden.new.dest.items
    (subst (IsHiddenBy h entries forks c.args.number c.args.keys.now) c.in-Some.is
    c.in_ok-digest-in-Fork.ensures.hidden)
    c.in_ok-push_hidden-in-Some.ensures.sized c.in_ok-push_hidden-in-Some.ensures.written

pub returns-in_ok-write_shown-in-None-clause-written : goal.returns-in_ok-write_shown-in-None-clause-written
returns-in_ok-write_shown-in-None-clause-written g t c =
    let entries = c.args.entries.now in
    let forks = c.args.forks.now in
    let keys = c.args.keys.now in
    let k = c.in-Fork.place in
    let mid = c.write_shown.new.bytes.items in
    let h = kept_hashes g.H.ArrayHash.leaf_hash g.H.ArrayHash.node_hash g.H.KeptHash.nothing_hash in
    let is : c.args.number ≡ 2 * k + 2 = sym c.in_ok-part_of.ensures.number ∙ ap part_number c.in-Fork.is in
    let on_left = c.sides_of.result.0.now in
    let on_right = c.sides_of.result.1.now in
    done-on c.write_shown-in-None.result
    (IsWrittenAt h entries forks c.right_at-right.result (pruned h false false (c.args.level + 1) on_right) mid
    c.write_shown-in-None.new.bytes.items)
    (IsWrittenAt h entries forks c.args.number (pruned h false false c.args.level keys) c.args.bytes.now.items
    c.write_shown-in-None.new.bytes.items)
    (λ right. written-fork h entries forks c.args.number c.args.level keys c.args.bytes.now.items k is mid
    c.write_shown-in-None.new.bytes.items on_left on_right
    (subst (IsHiddenBy h entries forks c.args.number keys) c.in-None.is c.in_ok-digest-in-Fork.ensures.hidden)
    c.sides_of.ensures.left c.sides_of.ensures.right
    (subst (λ old. IsWrittenAt h entries forks (left_at forks k) (pruned h false false (c.args.level + 1) on_left) old
    mid) c.in_ok-push-in-None.ensures.items
    (subst (λ n. IsWrittenAt h entries forks n (pruned h false false (c.args.level + 1) on_left)
    c.push-in-None.new.self.items mid) c.left_at-left.ensures c.in_ok-write_shown-in-None.ensures.written))
    (subst (λ n. IsWrittenAt h entries forks n (pruned h false false (c.args.level + 1) on_right) mid
    c.write_shown-in-None.new.bytes.items) c.right_at-right.ensures right))
    c.write_shown-in-None.ensures.written

pub returns-in_ok-write_shown-in-None-clause-found : goal.returns-in_ok-write_shown-in-None-clause-found
returns-in_ok-write_shown-in-None-clause-found g t c = λ first tree bits lies stands long few.
    let forks = c.args.forks.now in
    let k = c.in-Fork.place in
    let h = kept_hashes g.H.ArrayHash.leaf_hash g.H.ArrayHash.node_hash g.H.KeptHash.nothing_hash in
    let is : c.args.number ≡ 2 * k + 2 = sym c.in_ok-part_of.ensures.number ∙ ap part_number c.in-Fork.is in
    let it = fork-below h (take first c.args.entries.now) forks c.args.count c.args.number k c.args.level
    bits tree is lies stands long in
    let counts = it.counts in
    let same : c.digest_to_hide.new.budget ≡ c.args.budget.now =
    subst (λ found. IfNone found (c.digest_to_hide.new.budget ≡ c.args.budget.now)) c.in-None.is
    c.in_ok-digest-in-Fork.ensures.same in
    let spent = c.in_ok-write_shown-in-None.ensures.spent first it.left
    (subst (λ n. LaidAt h (take first c.args.entries.now) forks k n it.left) (sym c.left_at-left.ensures)
    it.on_left) in
    c.write_shown-in-None.ensures.found first it.right (true ∷ bits)
    (subst (λ n. LaidAt h (take first c.args.entries.now) forks k n it.right) (sym c.right_at-right.ensures)
    it.on_right)
    it.sides.on_right (it.sides.long true) (omega (arith, few, counts, same, spent))

pub returns-in_ok-write_shown-in-None-clause-spent : goal.returns-in_ok-write_shown-in-None-clause-spent
returns-in_ok-write_shown-in-None-clause-spent g t c =
    let entries = c.args.entries.now in
    let forks = c.args.forks.now in
    let k = c.in-Fork.place in
    let h = kept_hashes g.H.ArrayHash.leaf_hash g.H.ArrayHash.node_hash g.H.KeptHash.nothing_hash in
    let is : c.args.number ≡ 2 * k + 2 = sym c.in_ok-part_of.ensures.number ∙ ap part_number c.in-Fork.is in
    let same : c.digest_to_hide.new.budget ≡ c.args.budget.now =
    subst (λ found. IfNone found (c.digest_to_hide.new.budget ≡ c.args.budget.now)) c.in-None.is
    c.in_ok-digest-in-Fork.ensures.same in
    done-on c.write_shown-in-None.result _ _
    (λ right first tree lies.
    let it = lies-fork h (take first entries) forks c.args.count c.args.number k tree is lies in
    let counts : fork_count tree ≡ 1 + (fork_count it.left + fork_count it.right) = ap fork_count it.is in
    let left_spent = c.in_ok-write_shown-in-None.ensures.spent first it.left
    (subst (λ n. LaidAt h (take first entries) forks k n it.left) (sym c.left_at-left.ensures) it.on_left) in
    let right_spent = right first it.right
    (subst (λ n. LaidAt h (take first entries) forks k n it.right) (sym c.right_at-right.ensures) it.on_right) in
    omega (arith, counts, same, left_spent, right_spent))
    c.write_shown-in-None.ensures.spent
