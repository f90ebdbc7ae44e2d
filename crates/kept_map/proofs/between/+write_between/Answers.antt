use Rattle.std.proofs.Common.{◌≡◌, ◌+◌, ◌*◌, ◌∷◌, ◌++◌, OnOk, true, false, take, arith, ap, sym, ◌∙◌, subst}
use Rattle.merkle_map.specs.Bytes.{IsOf32, spelled}
use Rattle.merkle_map.specs.Changes.{entry_of}
use Rattle.merkle_map.specs.Tree.{One}
use Rattle.kept_map.specs.Between.{between}
use Rattle.kept_map.specs.KeptMap.{LaidAt, entry_in, fork_count, kept_hashes, left_at}
use Rattle.kept_map.specs.Many.{IsWrittenAt}
use Rattle.kept_map.specs.Parts.{part_number}
use Rattle.kept_map.specs.declared.prove.ProveFault.TheVariants.{OutOfMemory}
use Rattle.kept_map.proofs.Betweens.{between-fork}
use Rattle.kept_map.proofs.Climbing.{as-before}
use Rattle.kept_map.proofs.Lies.{fork-below, lies-fork, lies-part}
use Rattle.kept_map.proofs.Written.{done-on, written-entry, written-sides}
use Rattle.kept_map.proofs.between.+write_between.Goals.{then-level-ge-LEVELS-via-then-level-ge-LEVELS, then-level-ge-LEVELS-via-else-level-ge-LEVELS+then-budget-eq0}
use Rattle.kept_map.proofs.between.+write_between.Goals as goal

pub returns-then-is_outside-clause-written : goal.returns-then-is_outside-clause-written
returns-then-is_outside-clause-written g t c =
    let h = kept_hashes g.H.ArrayHash.leaf_hash g.H.ArrayHash.node_hash g.H.KeptHash.nothing_hash in
    subst (λ out. OnOk c.write_shown.result (IsWrittenAt h c.args.entries.now c.args.forks.now c.args.number
    (between h out c.args.on_first c.args.on_last c.args.level c.args.first.now c.args.last.now)
    c.args.bytes.now.items c.write_shown.new.bytes.items)) (sym c.if-is_outside.true) c.write_shown.ensures.written

pub returns-in_err-part_of-clause-found : goal.returns-in_err-part_of-clause-found
returns-in_err-part_of-clause-found g t c = λ first tree bits lies stands long few.
    let h = kept_hashes g.H.ArrayHash.leaf_hash g.H.ArrayHash.node_hash g.H.KeptHash.nothing_hash in
    let there = lies-part h c.args.entries.now c.args.forks.now first c.args.count c.args.number tree lies in
    absurd (c.in_err-part_of.ensures.none there.0 there.1 there.2)

pub returns-then-level-ge-LEVELS-clause-found : goal.returns-then-level-ge-LEVELS-clause-found
returns-then-level-ge-LEVELS-clause-found g t c = λ first tree bits lies stands long few.
    let k = c.in-Fork.place in
    let h = kept_hashes g.H.ArrayHash.leaf_hash g.H.ArrayHash.node_hash g.H.KeptHash.nothing_hash in
    let is : c.args.number ≡ 2 * k + 2 = sym c.in_ok-part_of.ensures.number ∙ ap part_number c.in-Fork.is in
    let it = fork-below h (take first c.args.entries.now) c.args.forks.now c.args.count c.args.number k c.args.level
    bits tree is lies stands long in
    let short = it.sides.within in
    let counts = it.counts in
    elim c.then-level-ge-LEVELS.branch [
      | then-level-ge-LEVELS-via-then-level-ge-LEVELS w ↦
          let deep = w.if-level-ge-LEVELS.true in absurd (omega (arith, deep, short))
      | then-level-ge-LEVELS-via-else-level-ge-LEVELS+then-budget-eq0 w ↦
          let none = w.if-budget-eq0.true in absurd (omega (arith, none, few, counts))
    ]

pub returns-in_err-write_between-in-Fork-clause-found : goal.returns-in_err-write_between-in-Fork-clause-found
returns-in_err-write_between-in-Fork-clause-found g t c = λ first tree bits lies stands long few.
    let forks = c.args.forks.now in
    let k = c.in-Fork.place in
    let h = kept_hashes g.H.ArrayHash.leaf_hash g.H.ArrayHash.node_hash g.H.KeptHash.nothing_hash in
    let is : c.args.number ≡ 2 * k + 2 = sym c.in_ok-part_of.ensures.number ∙ ap part_number c.in-Fork.is in
    let it = fork-below h (take first c.args.entries.now) forks c.args.count c.args.number k c.args.level
    bits tree is lies stands long in
    let counts = it.counts in
    let no = c.in_err-write_between-in-Fork.ensures.found first it.left (false ∷ bits)
    (subst (λ n. LaidAt h (take first c.args.entries.now) forks k n it.left) (sym c.left_at-left.ensures) it.on_left)
    it.sides.on_left (it.sides.long false) (omega (arith, few, counts)) in
    as-before c.from_residual-in_err-write_between-in-Fork.result c.in_err-write_between-in-Fork.field-0.0 OutOfMemory
    c.from_residual-in_err-write_between-in-Fork.ensures.1 no

pub returns-in_ok-push_entry-in-Entry-clause-written : goal.returns-in_ok-push_entry-in-Entry-clause-written
returns-in_ok-push_entry-in-Entry-clause-written g t c =
    let entries = c.args.entries.now in
    let forks = c.args.forks.now in
    let k = c.in-Entry.place in
    let h = kept_hashes g.H.ArrayHash.leaf_hash g.H.ArrayHash.node_hash g.H.KeptHash.nothing_hash in
    let is : c.args.number ≡ 2 * k + 1 = sym c.in_ok-part_of.ensures.number ∙ ap part_number c.in-Entry.is in
    let own : One (entry_of c.key_at-key.result c.value_at.result) ≡ One (entry_in entries k) =
    ap (λ key. One (entry_of key c.value_at.result)) c.key_at-key.ensures
    ∙ ap (λ value. One (entry_of (entry_in entries k).key value)) c.value_at.ensures in
    written-entry h entries forks c.args.number _ c.args.bytes.now.items k c.push_entry.new.dest.items is
    (λ entry. ap (λ out. between h out c.args.on_first c.args.on_last c.args.level c.args.first.now c.args.last.now
    (One entry)) c.if-is_outside.false) (subst IsOf32 own c.in_ok-push_entry-in-Entry.ensures.sized)
    (c.in_ok-push_entry-in-Entry.ensures.written ∙ ap (λ s. c.args.bytes.now.items ++ spelled s) own)

pub returns-in_ok-write_between-in-Fork-clause-written : goal.returns-in_ok-write_between-in-Fork-clause-written
returns-in_ok-write_between-in-Fork-clause-written g t c =
    let entries = c.args.entries.now in
    let forks = c.args.forks.now in
    let k = c.in-Fork.place in
    let mid = c.write_between.new.bytes.items in
    let new = c.write_between-in-Fork.new.bytes.items in
    let h = kept_hashes g.H.ArrayHash.leaf_hash g.H.ArrayHash.node_hash g.H.KeptHash.nothing_hash in
    let is : c.args.number ≡ 2 * k + 2 = sym c.in_ok-part_of.ensures.number ∙ ap part_number c.in-Fork.is in
    let low = c.turns-low.result in
    let high = c.turns-high.result in
    let first = c.args.first.now in
    let last = c.args.last.now in
    let lefts = between h low c.args.on_first high (c.args.level + 1) first last in
    let rights = between h high low c.args.on_last (c.args.level + 1) first last in
    done-on c.write_between-in-Fork.result
    (IsWrittenAt h entries forks c.right_at-right.result rights mid new)
    (IsWrittenAt h entries forks c.args.number (between h c.args.is_outside c.args.on_first c.args.on_last c.args.level
    first last) c.args.bytes.now.items new)
    (λ right. subst (λ out. IsWrittenAt h entries forks c.args.number (between h out c.args.on_first c.args.on_last
    c.args.level first last) c.args.bytes.now.items new) (sym c.if-is_outside.false)
    (written-sides h entries forks c.args.number (between h false c.args.on_first c.args.on_last c.args.level first
    last)
    c.args.bytes.now.items k is lefts rights mid new
    (λ some count left right l r lies. between-fork h first last c.args.on_first c.args.on_last c.args.level low high
    c.turns-low.ensures c.turns-high.ensures left right l r)
    (subst (λ old. IsWrittenAt h entries forks (left_at forks k) lefts old mid) c.in_ok-push-in-Fork.ensures.items
    (subst (λ n. IsWrittenAt h entries forks n lefts c.push-in-Fork.new.self.items mid) c.left_at-left.ensures
    c.in_ok-write_between-in-Fork.ensures.written))
    (subst (λ n. IsWrittenAt h entries forks n rights mid new) c.right_at-right.ensures right)))
    c.write_between-in-Fork.ensures.written

pub returns-in_ok-write_between-in-Fork-clause-found : goal.returns-in_ok-write_between-in-Fork-clause-found
returns-in_ok-write_between-in-Fork-clause-found g t c = λ first tree bits lies stands long few.
    let forks = c.args.forks.now in
    let k = c.in-Fork.place in
    let h = kept_hashes g.H.ArrayHash.leaf_hash g.H.ArrayHash.node_hash g.H.KeptHash.nothing_hash in
    let is : c.args.number ≡ 2 * k + 2 = sym c.in_ok-part_of.ensures.number ∙ ap part_number c.in-Fork.is in
    let it = fork-below h (take first c.args.entries.now) forks c.args.count c.args.number k c.args.level
    bits tree is lies stands long in
    let counts = it.counts in
    let spent = c.in_ok-write_between-in-Fork.ensures.spent first it.left
    (subst (λ n. LaidAt h (take first c.args.entries.now) forks k n it.left) (sym c.left_at-left.ensures)
    it.on_left) in
    c.write_between-in-Fork.ensures.found first it.right (true ∷ bits)
    (subst (λ n. LaidAt h (take first c.args.entries.now) forks k n it.right) (sym c.right_at-right.ensures)
    it.on_right)
    it.sides.on_right (it.sides.long true) (omega (arith, few, counts, spent))

pub returns-in_ok-write_between-in-Fork-clause-spent : goal.returns-in_ok-write_between-in-Fork-clause-spent
returns-in_ok-write_between-in-Fork-clause-spent g t c =
    let entries = c.args.entries.now in
    let forks = c.args.forks.now in
    let k = c.in-Fork.place in
    let h = kept_hashes g.H.ArrayHash.leaf_hash g.H.ArrayHash.node_hash g.H.KeptHash.nothing_hash in
    let is : c.args.number ≡ 2 * k + 2 = sym c.in_ok-part_of.ensures.number ∙ ap part_number c.in-Fork.is in
    done-on c.write_between-in-Fork.result _ _
    (λ right first tree lies.
    let it = lies-fork h (take first entries) forks c.args.count c.args.number k tree is lies in
    let counts : fork_count tree ≡ 1 + (fork_count it.left + fork_count it.right) = ap fork_count it.is in
    let left_spent = c.in_ok-write_between-in-Fork.ensures.spent first it.left
    (subst (λ n. LaidAt h (take first entries) forks k n it.left) (sym c.left_at-left.ensures) it.on_left) in
    let right_spent = right first it.right
    (subst (λ n. LaidAt h (take first entries) forks k n it.right) (sym c.right_at-right.ensures) it.on_right) in
    omega (arith, counts, left_spent, right_spent))
    c.write_between-in-Fork.ensures.spent
