use Rattle.std.proofs.Common.{◌≡◌, ◌<◌, ◌+◌, ◌-◌, ◌*◌, ◌∷◌, Ok, true, false, length, arith, ap, sym, ◌∙◌, subst}
use Rattle.std.proofs.Math.Seq.{take-length}
use Rattle.merkle_map.specs.Tree.{IsKey, StandsAt, way}
use Rattle.kept_map.specs.Checking.{IsTreeAt, path_bits}
use Rattle.kept_map.specs.Digests.{IsDigestAt}
use Rattle.kept_map.specs.KeptMap.{IsKeptFor, LaidAt, kept_digest, fork_count, kept_hashes, left_at, right_at}
use Rattle.kept_map.specs.Parts.{IsThere, part_number}
use Rattle.kept_map.proofs.Checks.{digest-all, entry-on, length-path, tree-entry, tree-fork, weight-at}
use Rattle.kept_map.proofs.Lies.{lies-fork, lies-part, sides-stand}
use Rattle.kept_map.proofs.Rehashing.{entry-digest, fork-digest, nothing-digest, rehashed-none}
use Rattle.kept_map.proofs.check.+check_in.Goals.{then-level-ge-LEVELS-via-then-level-ge-LEVELS, then-level-ge-LEVELS-via-else-level-ge-LEVELS+then-budget-eq0, then-level-ge-LEVELS-via-else-level-ge-LEVELS+else-budget-eq0+then-weight_of-lt2}
use Rattle.kept_map.proofs.check.+check_in.Goals as goal

pub returns-in_err-part_of-clause-found : goal.returns-in_err-part_of-clause-found
returns-in_err-part_of-clause-found g t c = λ tree lies stands few.
    let entries = c.args.entries.now in
    let forks = c.args.forks.now in
    let h = kept_hashes g.H.ArrayHash.leaf_hash g.H.ArrayHash.node_hash g.H.KeptHash.nothing_hash in
    let there = lies-part h entries forks (length entries) c.args.count c.args.number tree
    (subst (λ es. LaidAt h es forks c.args.count c.args.number tree) (sym (take-length entries)) lies) in
    absurd (c.in_err-part_of.ensures.none there.0 there.1 there.2)

pub returns-in-Nothing-clause-digest : goal.returns-in-Nothing-clause-digest
returns-in-Nothing-clause-digest g t c =
    let entries = c.args.entries.now in
    let forks = c.args.forks.now in
    let h = kept_hashes g.H.ArrayHash.leaf_hash g.H.ArrayHash.node_hash g.H.KeptHash.nothing_hash in
    let is : c.args.number ≡ 0 = sym c.in_ok-part_of.ensures.number ∙ ap part_number c.in-Nothing.is in
    subst (IsDigestAt h entries forks c.args.number) (sym c.nothing.ensures)
    (nothing-digest g.H.ArrayHash.leaf_hash g.H.ArrayHash.node_hash g.H.KeptHash.nothing_hash entries forks
    c.args.number is)

pub returns-then-not-is_on-clause-found : goal.returns-then-not-is_on-clause-found
returns-then-not-is_on-clause-found g t c = λ tree lies stands few.
    let h = kept_hashes g.H.ArrayHash.leaf_hash g.H.ArrayHash.node_hash g.H.KeptHash.nothing_hash in
    let is : c.args.number ≡ 2 * c.in-Entry.place + 1 = sym c.in_ok-part_of.ensures.number ∙ ap part_number
    c.in-Entry.is in
    let on = entry-on h c.args.entries.now c.args.forks.now c.args.count c.args.number c.in-Entry.place c.args.level
    c.args.path.now tree is lies
    stands in
    absurd (c.is_on.ensures.off c.if-not-is_on.true
    (ap (λ key. way c.args.level key) c.key_at.ensures ∙ on))

pub returns-else-not-is_on-clause-digest : goal.returns-else-not-is_on-clause-digest
returns-else-not-is_on-clause-digest g t c =
    let entries = c.args.entries.now in
    let forks = c.args.forks.now in
    let h = kept_hashes g.H.ArrayHash.leaf_hash g.H.ArrayHash.node_hash g.H.KeptHash.nothing_hash in
    let is : c.args.number ≡ 2 * c.in-Entry.place + 1 = sym c.in_ok-part_of.ensures.number ∙ ap part_number
    c.in-Entry.is in
    subst (IsDigestAt h entries forks c.args.number) (sym c.leaf.ensures)
    (entry-digest g.H.ArrayHash.leaf_hash g.H.ArrayHash.node_hash g.H.KeptHash.nothing_hash entries forks
    c.args.number c.in-Entry.place is)

pub returns-else-not-is_on-clause-tree : goal.returns-else-not-is_on-clause-tree
returns-else-not-is_on-clause-tree g t c =
    let entries = c.args.entries.now in
    let h = kept_hashes g.H.ArrayHash.leaf_hash g.H.ArrayHash.node_hash g.H.KeptHash.nothing_hash in
    let is : c.args.number ≡ 2 * c.in-Entry.place + 1 = sym c.in_ok-part_of.ensures.number ∙ ap part_number
    c.in-Entry.is in
    let inside : c.in-Entry.place < length entries = subst (IsThere (length entries) c.args.count) c.in-Entry.is
    c.in_ok-part_of.ensures.among in
    tree-entry h entries c.args.forks.now c.args.count c.args.number c.in-Entry.place c.args.level c.args.budget.now
    c.args.path.now is
    inside (subst IsKey c.key_at.ensures c.is_on.ensures.key)
    (ap (λ key. way c.args.level key) (sym c.key_at.ensures) ∙ c.is_on.ensures.on c.if-not-is_on.false)

pub overflow_add-weight_of : goal.overflow_add-weight_of
overflow_add-weight_of g t c =
    let a = c.weight_of.ensures.small in
    let b = c.weight_of-else-budget-eq0.ensures.small in
    omega (arith, a, b)

pub returns-then-level-ge-LEVELS-clause-found : goal.returns-then-level-ge-LEVELS-clause-found
returns-then-level-ge-LEVELS-clause-found g t c = λ tree lies stands few.
    let entries = c.args.entries.now in
    let forks = c.args.forks.now in
    let k = c.in-Fork.place in
    let h = kept_hashes g.H.ArrayHash.leaf_hash g.H.ArrayHash.node_hash g.H.KeptHash.nothing_hash in
    let is : c.args.number ≡ 2 * k + 2 = sym c.in_ok-part_of.ensures.number ∙ ap part_number c.in-Fork.is in
    let bits = path_bits c.args.level c.args.path.now in
    let it = lies-fork h entries forks c.args.count c.args.number k tree is lies in
    let sides = sides-stand c.args.level bits tree it.left it.right (length-path c.args.level c.args.path.now) it.is
    stands in
    let counts : fork_count tree ≡ 1 + (fork_count it.left + fork_count it.right) = ap fork_count it.is in
    let short = sides.within in
    let weighs = sides.weighs in
    elim c.then-level-ge-LEVELS.branch [
      | then-level-ge-LEVELS-via-then-level-ge-LEVELS w ↦
          let deep = w.if-level-ge-LEVELS.true in absurd (omega (arith, deep, short))
      | then-level-ge-LEVELS-via-else-level-ge-LEVELS+then-budget-eq0 w ↦
          let none = w.if-budget-eq0.true in absurd (omega (arith, none, few, counts))
      | then-level-ge-LEVELS-via-else-level-ge-LEVELS+else-budget-eq0+then-weight_of-lt2 w ↦
          let left = weight-at h entries forks k c.left_at-left.result it.left w.weight_of.result
          w.weight_of.ensures.nothing w.weight_of.ensures.entry w.weight_of.ensures.fork
          (subst (λ n. LaidAt h entries forks k n it.left) (sym c.left_at-left.ensures) it.on_left) in
          let right = weight-at h entries forks k c.right_at-right.result it.right
          w.weight_of-else-budget-eq0.result w.weight_of-else-budget-eq0.ensures.nothing
          w.weight_of-else-budget-eq0.ensures.entry w.weight_of-else-budget-eq0.ensures.fork
          (subst (λ n. LaidAt h entries forks k n it.right) (sym c.right_at-right.ensures) it.on_right) in
          let light = w.if-weight_of-lt2.true in
          absurd (omega (arith, light, left, right, weighs))
    ]

pub returns-in_err-l-in-Fork-clause-found : goal.returns-in_err-l-in-Fork-clause-found
returns-in_err-l-in-Fork-clause-found g t c = λ tree lies stands few.
    let entries = c.args.entries.now in
    let forks = c.args.forks.now in
    let k = c.in-Fork.place in
    let h = kept_hashes g.H.ArrayHash.leaf_hash g.H.ArrayHash.node_hash g.H.KeptHash.nothing_hash in
    let is : c.args.number ≡ 2 * k + 2 = sym c.in_ok-part_of.ensures.number ∙ ap part_number c.in-Fork.is in
    let bits = path_bits c.args.level c.args.path.now in
    let it = lies-fork h entries forks c.args.count c.args.number k tree is lies in
    let sides = sides-stand c.args.level bits tree it.left it.right (length-path c.args.level c.args.path.now) it.is
    stands in
    let counts : fork_count tree ≡ 1 + (fork_count it.left + fork_count it.right) = ap fork_count it.is in
    let no : false ≡ true = c.in_err-l-in-Fork.ensures.found it.left
    (subst (λ n. LaidAt h entries forks k n it.left) (sym c.left_at-left.ensures) it.on_left)
    (subst (λ b. StandsAt b it.left) (sym c.with_bit-low.ensures) sides.on_left)
    (omega (arith, few, counts)) in
    absurd cc

pub returns-in_err-r-in-Fork-clause-found : goal.returns-in_err-r-in-Fork-clause-found
returns-in_err-r-in-Fork-clause-found g t c = λ tree lies stands few.
    let entries = c.args.entries.now in
    let forks = c.args.forks.now in
    let k = c.in-Fork.place in
    let h = kept_hashes g.H.ArrayHash.leaf_hash g.H.ArrayHash.node_hash g.H.KeptHash.nothing_hash in
    let is : c.args.number ≡ 2 * k + 2 = sym c.in_ok-part_of.ensures.number ∙ ap part_number c.in-Fork.is in
    let bits = path_bits c.args.level c.args.path.now in
    let it = lies-fork h entries forks c.args.count c.args.number k tree is lies in
    let sides = sides-stand c.args.level bits tree it.left it.right (length-path c.args.level c.args.path.now) it.is
    stands in
    let counts : fork_count tree ≡ 1 + (fork_count it.left + fork_count it.right) = ap fork_count it.is in
    let left_spent = c.in_ok-l-in-Fork.ensures.spent it.left
    (subst (λ n. LaidAt h entries forks k n it.left) (sym c.left_at-left.ensures) it.on_left) in
    let no : false ≡ true = c.in_err-r-in-Fork.ensures.found it.right
    (subst (λ n. LaidAt h entries forks k n it.right) (sym c.right_at-right.ensures) it.on_right)
    (subst (λ b. StandsAt b it.right) (sym c.with_bit-high.ensures) sides.on_right)
    (omega (arith, few, counts, left_spent)) in
    absurd cc

pub returns-then-not-is_kept_for-clause-found : goal.returns-then-not-is_kept_for-clause-found
returns-then-not-is_kept_for-clause-found g t c = λ tree lies stands few.
    let entries = c.args.entries.now in
    let forks = c.args.forks.now in
    let k = c.in-Fork.place in
    let h = kept_hashes g.H.ArrayHash.leaf_hash g.H.ArrayHash.node_hash g.H.KeptHash.nothing_hash in
    let is : c.args.number ≡ 2 * k + 2 = sym c.in_ok-part_of.ensures.number ∙ ap part_number c.in-Fork.is in
    let left : IsDigestAt h entries forks (left_at forks k) c.in_ok-l-in-Fork.l =
    subst (λ n. IsDigestAt h entries forks n c.in_ok-l-in-Fork.l) c.left_at-left.ensures
    c.in_ok-l-in-Fork.ensures.digest in
    let right : IsDigestAt h entries forks (right_at forks k) c.in_ok-r-in-Fork.r =
    subst (λ n. IsDigestAt h entries forks n c.in_ok-r-in-Fork.r) c.right_at-right.ensures
    c.in_ok-r-in-Fork.ensures.digest in
    let digest : IsDigestAt h entries forks c.args.number c.node-digest.result =
    subst (IsDigestAt h entries forks c.args.number) (sym c.node-digest.ensures)
    (fork-digest g.H.ArrayHash.leaf_hash g.H.ArrayHash.node_hash g.H.KeptHash.nothing_hash entries forks forks
    c.args.number k c.in_ok-l-in-Fork.l c.in_ok-r-in-Fork.r is left
    (rehashed-none h entries forks) right) in
    let it = lies-fork h entries forks c.args.count c.args.number k tree is lies in
    absurd (c.is_kept_for.ensures.no c.if-not-is_kept_for.true
    (subst (IsKeptFor (Ok c.node-digest.result)) (sym c.kept_digest.ensures)
    (subst (λ o. IsKeptFor o (kept_digest forks k))
    (digest-all h entries forks c.args.count c.args.number c.node-digest.result tree digest lies) it.digest)))

pub returns-else-not-is_kept_for-clause-digest : goal.returns-else-not-is_kept_for-clause-digest
returns-else-not-is_kept_for-clause-digest g t c =
    let entries = c.args.entries.now in
    let forks = c.args.forks.now in
    let k = c.in-Fork.place in
    let h = kept_hashes g.H.ArrayHash.leaf_hash g.H.ArrayHash.node_hash g.H.KeptHash.nothing_hash in
    let is : c.args.number ≡ 2 * k + 2 = sym c.in_ok-part_of.ensures.number ∙ ap part_number c.in-Fork.is in
    let left : IsDigestAt h entries forks (left_at forks k) c.in_ok-l-in-Fork.l =
    subst (λ n. IsDigestAt h entries forks n c.in_ok-l-in-Fork.l) c.left_at-left.ensures
    c.in_ok-l-in-Fork.ensures.digest in
    let right : IsDigestAt h entries forks (right_at forks k) c.in_ok-r-in-Fork.r =
    subst (λ n. IsDigestAt h entries forks n c.in_ok-r-in-Fork.r) c.right_at-right.ensures
    c.in_ok-r-in-Fork.ensures.digest in
    let digest : IsDigestAt h entries forks c.args.number c.node-digest.result =
    subst (IsDigestAt h entries forks c.args.number) (sym c.node-digest.ensures)
    (fork-digest g.H.ArrayHash.leaf_hash g.H.ArrayHash.node_hash g.H.KeptHash.nothing_hash entries forks forks
    c.args.number k c.in_ok-l-in-Fork.l c.in_ok-r-in-Fork.r is left
    (rehashed-none h entries forks) right) in
    digest

pub returns-else-not-is_kept_for-clause-tree : goal.returns-else-not-is_kept_for-clause-tree
returns-else-not-is_kept_for-clause-tree g t c =
    let entries = c.args.entries.now in
    let forks = c.args.forks.now in
    let k = c.in-Fork.place in
    let h = kept_hashes g.H.ArrayHash.leaf_hash g.H.ArrayHash.node_hash g.H.KeptHash.nothing_hash in
    let is : c.args.number ≡ 2 * k + 2 = sym c.in_ok-part_of.ensures.number ∙ ap part_number c.in-Fork.is in
    let bits = path_bits c.args.level c.args.path.now in
    let left : IsDigestAt h entries forks (left_at forks k) c.in_ok-l-in-Fork.l =
    subst (λ n. IsDigestAt h entries forks n c.in_ok-l-in-Fork.l) c.left_at-left.ensures
    c.in_ok-l-in-Fork.ensures.digest in
    let right : IsDigestAt h entries forks (right_at forks k) c.in_ok-r-in-Fork.r =
    subst (λ n. IsDigestAt h entries forks n c.in_ok-r-in-Fork.r) c.right_at-right.ensures
    c.in_ok-r-in-Fork.ensures.digest in
    let digest : IsDigestAt h entries forks c.args.number c.node-digest.result =
    subst (IsDigestAt h entries forks c.args.number) (sym c.node-digest.ensures)
    (fork-digest g.H.ArrayHash.leaf_hash g.H.ArrayHash.node_hash g.H.KeptHash.nothing_hash entries forks forks
    c.args.number k c.in_ok-l-in-Fork.l c.in_ok-r-in-Fork.r is left
    (rehashed-none h entries forks) right) in
    let below : k < c.args.count = subst (IsThere (length entries) c.args.count) c.in-Fork.is
    c.in_ok-part_of.ensures.among in
    let low : IsTreeAt h entries forks k (left_at forks k) (false ∷ bits) (c.args.budget.now - 1)
    c.check_in.new.budget =
    subst (λ n. IsTreeAt h entries forks k n (false ∷ bits) (c.args.budget.now - 1) c.check_in.new.budget)
    c.left_at-left.ensures
    (subst (λ b. IsTreeAt h entries forks k c.left_at-left.result b (c.args.budget.now - 1) c.check_in.new.budget)
    c.with_bit-low.ensures c.in_ok-l-in-Fork.ensures.tree) in
    let high : IsTreeAt h entries forks k (right_at forks k) (true ∷ bits) c.check_in.new.budget
    c.check_in-in-Fork.new.budget =
    subst (λ n. IsTreeAt h entries forks k n (true ∷ bits) c.check_in.new.budget c.check_in-in-Fork.new.budget)
    c.right_at-right.ensures
    (subst (λ b. IsTreeAt h entries forks k c.right_at-right.result b c.check_in.new.budget
    c.check_in-in-Fork.new.budget) c.with_bit-high.ensures c.in_ok-r-in-Fork.ensures.tree) in
    let wl = weight-at h entries forks k c.left_at-left.result low.tree c.weight_of.result c.weight_of.ensures.nothing
    c.weight_of.ensures.entry c.weight_of.ensures.fork
    (subst (λ n. LaidAt h entries forks k n low.tree) (sym c.left_at-left.ensures) low.lies) in
    let wr = weight-at h entries forks k c.right_at-right.result high.tree c.weight_of-else-budget-eq0.result
    c.weight_of-else-budget-eq0.ensures.nothing c.weight_of-else-budget-eq0.ensures.entry
    c.weight_of-else-budget-eq0.ensures.fork
    (subst (λ n. LaidAt h entries forks k n high.tree) (sym c.right_at-right.ensures) high.lies) in
    let heavy = c.if-weight_of-lt2.false in
    let deep = c.if-level-ge-LEVELS.false in
    let long = length-path c.args.level c.args.path.now in
    let some = c.if-budget-eq0.false in
    let left_more : (c.args.budget.now - 1) + 1 ≡ c.args.budget.now = omega (arith, some) in
    subst (λ n. IsTreeAt h entries forks c.args.count c.args.number bits n c.check_in-in-Fork.new.budget) left_more
    (tree-fork g.H.ArrayHash.leaf_hash g.H.ArrayHash.node_hash g.H.KeptHash.nothing_hash entries forks c.args.count
    c.args.number k (c.args.budget.now - 1) c.check_in-in-Fork.new.budget bits c.in_ok-l-in-Fork.l
    c.in_ok-r-in-Fork.r
    (record {
      between = c.check_in.new.budget;
      left = low;
      right = high;
      left_digest = left;
      right_digest = right;
    })
    is below (omega (arith, deep, long)) (omega (arith, heavy, wl, wr))
    (subst (λ d. IsKeptFor (Ok d) (kept_digest forks k)) c.node-digest.ensures
    (subst (IsKeptFor (Ok c.node-digest.result)) c.kept_digest.ensures
    (c.is_kept_for.ensures.yes c.if-not-is_kept_for.false))))

pub returns-else-not-is_kept_for-clause-spent : goal.returns-else-not-is_kept_for-clause-spent
returns-else-not-is_kept_for-clause-spent g t c = λ tree lies.
    let entries = c.args.entries.now in
    let forks = c.args.forks.now in
    let k = c.in-Fork.place in
    let h = kept_hashes g.H.ArrayHash.leaf_hash g.H.ArrayHash.node_hash g.H.KeptHash.nothing_hash in
    let is : c.args.number ≡ 2 * k + 2 = sym c.in_ok-part_of.ensures.number ∙ ap part_number c.in-Fork.is in
    let it = lies-fork h entries forks c.args.count c.args.number k tree is lies in
    let counts : fork_count tree ≡ 1 + (fork_count it.left + fork_count it.right) = ap fork_count it.is in
    let left_spent = c.in_ok-l-in-Fork.ensures.spent it.left
    (subst (λ n. LaidAt h entries forks k n it.left) (sym c.left_at-left.ensures) it.on_left) in
    let right_spent = c.in_ok-r-in-Fork.ensures.spent it.right
    (subst (λ n. LaidAt h entries forks k n it.right) (sym c.right_at-right.ensures) it.on_right) in
    omega (arith, counts, left_spent, right_spent)
