use Rattle.std.proofs.Common.{◌≡◌, ◌+◌, ◌*◌, ◌∷◌, true, false, take, replicate, arith, ap, sym, ◌∙◌, subst}
use Rattle.std.specs.Str.{bytes_eq}
use Rattle.kept_map.specs.Digests.{IsDigestAt}
use Rattle.kept_map.specs.KeptMap.{LaidAt, fork_count, kept_hashes}
use Rattle.kept_map.specs.Parts.{part_number}
use Rattle.kept_map.proofs.Lies.{lies-fork, lies-part, sides-stand}
use Rattle.kept_map.proofs.Rehashing.{entry-digest, fork-digest, kept-digest, nothing-digest, rehashed-none}
use Rattle.kept_map.proofs.prove.+digest_of.Goals.{then-level-ge-LEVELS-via-then-level-ge-LEVELS, then-level-ge-LEVELS-via-else-level-ge-LEVELS+then-budget-eq0}
use Rattle.kept_map.proofs.prove.+digest_of.Goals as goal

pub returns-in_err-part_of-clause-found : goal.returns-in_err-part_of-clause-found
returns-in_err-part_of-clause-found g t c = λ first tree bits lies stands long few.
    let h = kept_hashes g.H.ArrayHash.leaf_hash g.H.ArrayHash.node_hash g.H.KeptHash.nothing_hash in
    let there = lies-part h c.args.entries.now c.args.forks.now first c.args.count c.args.number tree lies in
    absurd (c.in_err-part_of.ensures.none there.0 there.1 there.2)

pub returns-in-Nothing-clause-digest : goal.returns-in-Nothing-clause-digest
returns-in-Nothing-clause-digest g t c =
    let entries = c.args.entries.now in
    let forks = c.args.forks.now in
    let h = kept_hashes g.H.ArrayHash.leaf_hash g.H.ArrayHash.node_hash g.H.KeptHash.nothing_hash in
    let is : c.args.number ≡ 0 = sym c.in_ok-part_of.ensures.number ∙ ap part_number c.in-Nothing.is in
    subst (IsDigestAt h entries forks c.args.number) (sym c.nothing.ensures)
    (nothing-digest g.H.ArrayHash.leaf_hash g.H.ArrayHash.node_hash g.H.KeptHash.nothing_hash entries
    forks c.args.number is)

pub returns-in-Entry-clause-digest : goal.returns-in-Entry-clause-digest
returns-in-Entry-clause-digest g t c =
    let entries = c.args.entries.now in
    let forks = c.args.forks.now in
    let h = kept_hashes g.H.ArrayHash.leaf_hash g.H.ArrayHash.node_hash g.H.KeptHash.nothing_hash in
    let is : c.args.number ≡ 2 * c.in-Entry.place + 1 = sym c.in_ok-part_of.ensures.number ∙ ap part_number
    c.in-Entry.is in
    subst (IsDigestAt h entries forks c.args.number) (sym c.leaf.ensures)
    (entry-digest g.H.ArrayHash.leaf_hash g.H.ArrayHash.node_hash g.H.KeptHash.nothing_hash entries
    forks c.args.number c.in-Entry.place is)

pub returns-then-not-is_unhashed-clause-digest : goal.returns-then-not-is_unhashed-clause-digest
returns-then-not-is_unhashed-clause-digest g t c =
    let entries = c.args.entries.now in
    let forks = c.args.forks.now in
    let k = c.in-Fork.place in
    let h = kept_hashes g.H.ArrayHash.leaf_hash g.H.ArrayHash.node_hash g.H.KeptHash.nothing_hash in
    let is : c.args.number ≡ 2 * k + 2 = sym c.in_ok-part_of.ensures.number ∙ ap part_number c.in-Fork.is in
    subst (IsDigestAt h entries forks c.args.number) (sym c.kept_digest-kept.ensures)
    (kept-digest h entries forks c.args.number k is
    (ap (λ d. bytes_eq d (replicate 32 0)) (sym c.kept_digest-kept.ensures) ∙ sym c.is_unhashed.ensures
    ∙ c.if-not-is_unhashed.true))

pub returns-then-level-ge-LEVELS-clause-found : goal.returns-then-level-ge-LEVELS-clause-found
returns-then-level-ge-LEVELS-clause-found g t c = λ first tree bits lies stands long few.
    let k = c.in-Fork.place in
    let h = kept_hashes g.H.ArrayHash.leaf_hash g.H.ArrayHash.node_hash g.H.KeptHash.nothing_hash in
    let is : c.args.number ≡ 2 * k + 2 = sym c.in_ok-part_of.ensures.number ∙ ap part_number c.in-Fork.is in
    let it = lies-fork h (take first c.args.entries.now) c.args.forks.now c.args.count c.args.number k tree
    is lies in
    let sides = sides-stand c.args.level bits tree it.left it.right long it.is stands in
    let counts : fork_count tree ≡ 1 + (fork_count it.left + fork_count it.right) = ap fork_count it.is in
    let short = sides.within in
    elim c.then-level-ge-LEVELS.branch [
      | then-level-ge-LEVELS-via-then-level-ge-LEVELS w ↦
          let deep = w.if-level-ge-LEVELS.true in absurd (omega (arith, deep, short))
      | then-level-ge-LEVELS-via-else-level-ge-LEVELS+then-budget-eq0 w ↦
          let none = w.if-budget-eq0.true in absurd (omega (arith, none, few, counts))
    ]

pub returns-in_err-left-in-Fork-clause-found : goal.returns-in_err-left-in-Fork-clause-found
returns-in_err-left-in-Fork-clause-found g t c = λ first tree bits lies stands long few.
    let entries = c.args.entries.now in
    let forks = c.args.forks.now in
    let k = c.in-Fork.place in
    let h = kept_hashes g.H.ArrayHash.leaf_hash g.H.ArrayHash.node_hash g.H.KeptHash.nothing_hash in
    let is : c.args.number ≡ 2 * k + 2 = sym c.in_ok-part_of.ensures.number ∙ ap part_number c.in-Fork.is in
    let it = lies-fork h (take first entries) forks c.args.count c.args.number k tree
    is lies in
    let sides = sides-stand c.args.level bits tree it.left it.right long it.is stands in
    let counts : fork_count tree ≡ 1 + (fork_count it.left + fork_count it.right) = ap fork_count it.is in
    let no : false ≡ true = c.in_err-left-in-Fork.ensures.found first it.left (false ∷ bits)
    (subst (λ n. LaidAt h (take first entries) forks k n it.left)
    (sym c.left_at.ensures) it.on_left) sides.on_left (sides.long false) (omega (arith, few, counts)) in
    absurd cc

pub returns-in_err-right-in-Fork-clause-found : goal.returns-in_err-right-in-Fork-clause-found
returns-in_err-right-in-Fork-clause-found g t c = λ first tree bits lies stands long few.
    let entries = c.args.entries.now in
    let forks = c.args.forks.now in
    let k = c.in-Fork.place in
    let h = kept_hashes g.H.ArrayHash.leaf_hash g.H.ArrayHash.node_hash g.H.KeptHash.nothing_hash in
    let is : c.args.number ≡ 2 * k + 2 = sym c.in_ok-part_of.ensures.number ∙ ap part_number c.in-Fork.is in
    let it = lies-fork h (take first entries) forks c.args.count c.args.number k tree
    is lies in
    let sides = sides-stand c.args.level bits tree it.left it.right long it.is stands in
    let counts : fork_count tree ≡ 1 + (fork_count it.left + fork_count it.right) = ap fork_count it.is in
    let left_spent = c.in_ok-left-in-Fork.ensures.spent first it.left
    (subst (λ n. LaidAt h (take first entries) forks k n it.left)
    (sym c.left_at.ensures) it.on_left) in
    let no : false ≡ true = c.in_err-right-in-Fork.ensures.found first it.right (true ∷ bits)
    (subst (λ n. LaidAt h (take first entries) forks k n it.right)
    (sym c.right_at.ensures) it.on_right) sides.on_right (sides.long true) (omega (arith, few, counts, left_spent)) in
    absurd cc

pub returns-in_ok-right-in-Fork-clause-digest : goal.returns-in_ok-right-in-Fork-clause-digest
returns-in_ok-right-in-Fork-clause-digest g t c =
    let entries = c.args.entries.now in
    let forks = c.args.forks.now in
    let k = c.in-Fork.place in
    let h = kept_hashes g.H.ArrayHash.leaf_hash g.H.ArrayHash.node_hash g.H.KeptHash.nothing_hash in
    let is : c.args.number ≡ 2 * k + 2 = sym c.in_ok-part_of.ensures.number ∙ ap part_number c.in-Fork.is in
    subst (IsDigestAt h entries forks c.args.number) (sym c.node.ensures)
    (fork-digest g.H.ArrayHash.leaf_hash g.H.ArrayHash.node_hash g.H.KeptHash.nothing_hash entries
    forks forks c.args.number k c.in_ok-left-in-Fork.left
    c.in_ok-right-in-Fork.right is
    (subst (λ n. IsDigestAt h entries forks n c.in_ok-left-in-Fork.left)
    c.left_at.ensures c.in_ok-left-in-Fork.ensures.digest)
    (rehashed-none h entries forks)
    (subst (λ n. IsDigestAt h entries forks n c.in_ok-right-in-Fork.right)
    c.right_at.ensures c.in_ok-right-in-Fork.ensures.digest))

pub returns-in_ok-right-in-Fork-clause-spent : goal.returns-in_ok-right-in-Fork-clause-spent
returns-in_ok-right-in-Fork-clause-spent g t c = λ first tree lies.
    let entries = c.args.entries.now in
    let forks = c.args.forks.now in
    let k = c.in-Fork.place in
    let h = kept_hashes g.H.ArrayHash.leaf_hash g.H.ArrayHash.node_hash g.H.KeptHash.nothing_hash in
    let is : c.args.number ≡ 2 * k + 2 = sym c.in_ok-part_of.ensures.number ∙ ap part_number c.in-Fork.is in
    let it = lies-fork h (take first entries) forks c.args.count c.args.number k tree
    is lies in
    let counts : fork_count tree ≡ 1 + (fork_count it.left + fork_count it.right) = ap fork_count it.is in
    let left_spent = c.in_ok-left-in-Fork.ensures.spent first it.left
    (subst (λ n. LaidAt h (take first entries) forks k n it.left)
    (sym c.left_at.ensures) it.on_left) in
    let right_spent = c.in_ok-right-in-Fork.ensures.spent first it.right
    (subst (λ n. LaidAt h (take first entries) forks k n it.right)
    (sym c.right_at.ensures) it.on_right) in
    omega (arith, counts, left_spent, right_spent)
