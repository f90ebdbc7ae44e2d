use Rattle.std.proofs.Common.{◌≡◌, ◌+◌, ◌*◌, ◌∷◌, ◌<◌, ◌≤◌, true, false, length, take, replicate, arith, refl, ap, sym, ◌∙◌, subst}
use Rattle.std.specs.Str.{bytes_eq}
use Rattle.kept_map.specs.Digests.{IsDigestAt, IsRehashed}
use Rattle.kept_map.specs.KeptMap.{LaidAt, kept_hashes}
use Rattle.kept_map.specs.Parts.{IsThere, part_number}
use Rattle.kept_map.proofs.Lies.{lies-fork, lies-part, sides-stand}
use Rattle.kept_map.proofs.Rehashing.{entry-digest, fork-digest, kept-digest, nothing-digest, rehashed-at, rehashed-more, still-lies, unhashed}
use Rattle.kept_map.proofs.root.+hash_at.Goals as goal

pub returns-in_err-part_of-clause-found : goal.returns-in_err-part_of-clause-found
returns-in_err-part_of-clause-found g t c = λ first tree bits lies stands long.
    let h = kept_hashes g.H.ArrayHash.leaf_hash g.H.ArrayHash.node_hash g.H.KeptHash.nothing_hash in
    let there = lies-part h c.args.entries.now c.args.forks.now first c.args.count c.args.number tree lies in
    absurd (c.in_err-part_of.ensures.none there.0 there.1 there.2)

pub returns-in-Nothing-clause-digest : goal.returns-in-Nothing-clause-digest
returns-in-Nothing-clause-digest g t c =
    let entries = c.args.entries.now in
    let forks = c.args.forks.now in
    let h = kept_hashes g.H.ArrayHash.leaf_hash g.H.ArrayHash.node_hash g.H.KeptHash.nothing_hash in
    let is : c.args.number ≡ 0 = sym c.in_ok-part_of.ensures.number ∙ ap part_number c.in-Nothing.is in
    subst (IsDigestAt h entries forks c.args.number) (sym c.nothing.ensures)
    (nothing-digest g.H.ArrayHash.leaf_hash g.H.ArrayHash.node_hash g.H.KeptHash.nothing_hash entries
    forks c.args.number is)

pub returns-in-Entry-clause-digest : goal.returns-in-Entry-clause-digest
returns-in-Entry-clause-digest g t c =
    let entries = c.args.entries.now in
    let forks = c.args.forks.now in
    let h = kept_hashes g.H.ArrayHash.leaf_hash g.H.ArrayHash.node_hash g.H.KeptHash.nothing_hash in
    let is : c.args.number ≡ 2 * c.in-Entry.place + 1 = sym c.in_ok-part_of.ensures.number ∙ ap part_number
    c.in-Entry.is in
    subst (IsDigestAt h entries forks c.args.number) (sym c.leaf.ensures)
    (entry-digest g.H.ArrayHash.leaf_hash g.H.ArrayHash.node_hash g.H.KeptHash.nothing_hash entries
    forks c.args.number c.in-Entry.place is)

pub returns-then-not-is_unhashed-clause-digest : goal.returns-then-not-is_unhashed-clause-digest
returns-then-not-is_unhashed-clause-digest g t c =
    let entries = c.args.entries.now in
    let forks = c.args.forks.now in
    let k = c.in-Fork.place in
    let h = kept_hashes g.H.ArrayHash.leaf_hash g.H.ArrayHash.node_hash g.H.KeptHash.nothing_hash in
    let is : c.args.number ≡ 2 * k + 2 = sym c.in_ok-part_of.ensures.number ∙ ap part_number c.in-Fork.is in
    subst (IsDigestAt h entries forks c.args.number) (sym c.kept_digest-kept.ensures)
    (kept-digest h entries forks c.args.number k is
    (ap (λ d. bytes_eq d (replicate 32 0)) (sym c.kept_digest-kept.ensures) ∙ sym c.is_unhashed.ensures
    ∙ c.if-not-is_unhashed.true))

pub returns-then-level-ge-LEVELS-clause-found : goal.returns-then-level-ge-LEVELS-clause-found
returns-then-level-ge-LEVELS-clause-found g t c = λ first tree bits lies stands long.
    let k = c.in-Fork.place in
    let h = kept_hashes g.H.ArrayHash.leaf_hash g.H.ArrayHash.node_hash g.H.KeptHash.nothing_hash in
    let is : c.args.number ≡ 2 * k + 2 = sym c.in_ok-part_of.ensures.number ∙ ap part_number c.in-Fork.is in
    let it = lies-fork h (take first c.args.entries.now) c.args.forks.now c.args.count c.args.number k tree
    is lies in
    let sides = sides-stand c.args.level bits tree it.left it.right long it.is stands in
    let deep = c.if-level-ge-LEVELS.true in
    let short = sides.within in
    absurd (omega (arith, deep, short))

pub returns-in_err-left-in-Fork-clause-found : goal.returns-in_err-left-in-Fork-clause-found
returns-in_err-left-in-Fork-clause-found g t c = λ first tree bits lies stands long.
    let entries = c.args.entries.now in
    let forks = c.args.forks.now in
    let k = c.in-Fork.place in
    let h = kept_hashes g.H.ArrayHash.leaf_hash g.H.ArrayHash.node_hash g.H.KeptHash.nothing_hash in
    let is : c.args.number ≡ 2 * k + 2 = sym c.in_ok-part_of.ensures.number ∙ ap part_number c.in-Fork.is in
    let it = lies-fork h (take first entries) forks c.args.count c.args.number k tree
    is lies in
    let sides = sides-stand c.args.level bits tree it.left it.right long it.is stands in
    let no : false ≡ true = c.in_err-left-in-Fork.ensures.found first it.left (false ∷ bits)
    (subst (λ n. LaidAt h (take first entries) forks k n it.left)
    (sym c.left_at-before.ensures) it.on_left) sides.on_left (sides.long false) in
    absurd cc

pub returns-in_err-right-in-Fork-clause-forks : goal.returns-in_err-right-in-Fork-clause-forks
returns-in_err-right-in-Fork-clause-forks g t c =
    let h = kept_hashes g.H.ArrayHash.leaf_hash g.H.ArrayHash.node_hash g.H.KeptHash.nothing_hash in
    rehashed-more h c.args.entries.now c.args.forks.now c.hash_at.new.forks c.hash_at-in-Fork.new.forks
    c.hash_at.ensures.forks c.hash_at-in-Fork.ensures.forks

pub returns-in_err-right-in-Fork-clause-found : goal.returns-in_err-right-in-Fork-clause-found
returns-in_err-right-in-Fork-clause-found g t c = λ first tree bits lies stands long.
    let entries = c.args.entries.now in
    let k = c.in-Fork.place in
    let h = kept_hashes g.H.ArrayHash.leaf_hash g.H.ArrayHash.node_hash g.H.KeptHash.nothing_hash in
    let is : c.args.number ≡ 2 * k + 2 = sym c.in_ok-part_of.ensures.number ∙ ap part_number c.in-Fork.is in
    let after = still-lies h entries c.args.forks.now c.hash_at.new.forks c.hash_at.ensures.forks first
    c.args.count c.args.number tree lies in
    let it = lies-fork h (take first entries) c.hash_at.new.forks c.args.count c.args.number k
    tree is after in
    let sides = sides-stand c.args.level bits tree it.left it.right long it.is stands in
    let no : false ≡ true = c.in_err-right-in-Fork.ensures.found first it.right (true ∷ bits)
    (subst (λ n. LaidAt h (take first entries) c.hash_at.new.forks k n it.right)
    (sym c.right_at-behind.ensures) it.on_right) sides.on_right (sides.long true) in
    absurd cc

pub returns-in_ok-right-in-Fork : goal.returns-in_ok-right-in-Fork
returns-in_ok-right-in-Fork g t c =
    let entries = c.args.entries.now in
    let k = c.in-Fork.place in
    let h = kept_hashes g.H.ArrayHash.leaf_hash g.H.ArrayHash.node_hash g.H.KeptHash.nothing_hash in
    let is : c.args.number ≡ 2 * k + 2 = sym c.in_ok-part_of.ensures.number ∙ ap part_number c.in-Fork.is in
    let digest : IsDigestAt h entries c.args.forks.now c.args.number c.node-digest.result =
    subst (IsDigestAt h entries c.args.forks.now c.args.number) (sym c.node-digest.ensures)
    (fork-digest g.H.ArrayHash.leaf_hash g.H.ArrayHash.node_hash g.H.KeptHash.nothing_hash entries
    c.args.forks.now c.hash_at.new.forks c.args.number k c.in_ok-left-in-Fork.left
    c.in_ok-right-in-Fork.right is
    (subst (λ n. IsDigestAt h entries c.args.forks.now n c.in_ok-left-in-Fork.left)
    c.left_at-before.ensures c.in_ok-left-in-Fork.ensures.digest)
    c.hash_at.ensures.forks
    (subst (λ n. IsDigestAt h entries c.hash_at.new.forks n c.in_ok-right-in-Fork.right)
    c.right_at-behind.ensures c.in_ok-right-in-Fork.ensures.digest)) in
    let both = rehashed-more h entries c.args.forks.now c.hash_at.new.forks c.hash_at-in-Fork.new.forks
    c.hash_at.ensures.forks c.hash_at-in-Fork.ensures.forks in
    let below : k < c.args.count = subst (IsThere (length entries) c.args.count) c.in-Fork.is
    c.in_ok-part_of.ensures.among in
    let size = both.size in
    let room : c.args.count ≤ length c.args.forks.now = c.requires in
    record {
      digest = digest;
      forks = subst (IsRehashed h entries c.args.forks.now) (sym c.put_digest.ensures.written)
          (rehashed-at c.hash_at-in-Fork.new.forks k c.node-digest.result (omega (arith, below, size, room))
          c.put_digest.ensures.size
          h entries c.args.forks.now both
          (sym c.kept_digest-kept.ensures ∙ unhashed c.kept_digest-kept.result (sym c.is_unhashed.ensures ∙
          c.if-not-is_unhashed.false))
          (subst (λ n. IsDigestAt h entries c.args.forks.now n c.node-digest.result) is digest));
      found = λ first tree bits lies stands long. refl;
      fault = tt;
    }
