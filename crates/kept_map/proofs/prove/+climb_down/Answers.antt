use Rattle.std.proofs.Common.{◌≡◌, ◌+◌, ◌*◌, ◌++◌, ◌∷◌, [], true, false, IfOk, length, take, arith, ap, sym, ◌∙◌, subst, length-append}
use Rattle.merkle_map.specs.KeyProof.{end_seen, seen_with}
use Rattle.merkle_map.specs.Map.{bit_of}
use Rattle.merkle_map.specs.Tree.{StandsAt, way}
use Rattle.merkle_map.proofs.Keys.{length-way}
use Rattle.kept_map.specs.Digests.{IsDigestAt, IsProofAt}
use Rattle.kept_map.specs.KeptMap.{LaidAt, fork_count, kept_hashes, left_at, right_at}
use Rattle.kept_map.specs.Parts.{part_number}
use Rattle.kept_map.proofs.Climbing.{proof-below, proof-entry, proof-nothing, proof-on, side-stands}
use Rattle.kept_map.proofs.Lies.{lies-fork, lies-part, sides-stand}
use Rattle.kept_map.proofs.prove.+climb_down.Goals as goal

pub returns-in_err-part_of-clause-found : goal.returns-in_err-part_of-clause-found
returns-in_err-part_of-clause-found g t c = λ first tree lies stands few.
    let h = kept_hashes g.H.ArrayHash.leaf_hash g.H.ArrayHash.node_hash g.H.KeptHash.nothing_hash in
    let there = lies-part h c.args.entries.now c.args.forks.now first c.args.count c.args.number tree lies in
    absurd (c.in_err-part_of.ensures.none there.0 there.1 there.2)

pub returns-then-level-ge-LEVELS-clause-found : goal.returns-then-level-ge-LEVELS-clause-found
returns-then-level-ge-LEVELS-clause-found g t c = λ first tree lies stands few.
    let k = c.in-Fork.place in
    let h = kept_hashes g.H.ArrayHash.leaf_hash g.H.ArrayHash.node_hash g.H.KeptHash.nothing_hash in
    let is : c.args.number ≡ 2 * k + 2 = sym c.in_ok-part_of.ensures.number ∙ ap part_number c.in-Fork.is in
    let it = lies-fork h (take first c.args.entries.now) c.args.forks.now c.args.count c.args.number k tree
    is lies in
    let level = length c.args.siblings.now.items in
    let sides = sides-stand level (way level c.args.key.now) tree it.left it.right (length-way level c.args.key.now)
    it.is stands in
    let deep = c.if-level-ge-LEVELS.true in
    let same : c.len-level.result ≡ level = c.len-level.ensures ∙ c.args.siblings.now.ok.0 in
    let short = sides.within in
    absurd (omega (arith, deep, same, short))

pub returns-in-Nothing-clause-proof : goal.returns-in-Nothing-clause-proof
returns-in-Nothing-clause-proof g t c =
    let h = kept_hashes g.H.ArrayHash.leaf_hash g.H.ArrayHash.node_hash g.H.KeptHash.nothing_hash in
    let is : c.args.number ≡ 0 = sym c.in_ok-part_of.ensures.number ∙ ap part_number c.in-Nothing.is in
    proof-nothing h c.args.entries.now c.args.forks.now c.args.number c.args.key.now c.args.siblings.now.items is

pub returns-in-Entry-clause-proof : goal.returns-in-Entry-clause-proof
returns-in-Entry-clause-proof g t c =
    let h = kept_hashes g.H.ArrayHash.leaf_hash g.H.ArrayHash.node_hash g.H.KeptHash.nothing_hash in
    let is : c.args.number ≡ 2 * c.in-Entry.place + 1 = sym c.in_ok-part_of.ensures.number ∙ ap part_number
    c.in-Entry.is in
    proof-entry h c.args.entries.now c.args.forks.now c.args.number c.args.key.now c.args.siblings.now.items
    c.in-Entry.place (end_seen c.end_of.result) is c.end_of.ensures

pub returns-in_err-digest-in-Fork-clause-found : goal.returns-in_err-digest-in-Fork-clause-found
returns-in_err-digest-in-Fork-clause-found g t c = λ first tree lies stands few.
    let entries = c.args.entries.now in
    let forks = c.args.forks.now in
    let k = c.in-Fork.place in
    let h = kept_hashes g.H.ArrayHash.leaf_hash g.H.ArrayHash.node_hash g.H.KeptHash.nothing_hash in
    let is : c.args.number ≡ 2 * k + 2 = sym c.in_ok-part_of.ensures.number ∙ ap part_number c.in-Fork.is in
    let it = lies-fork h (take first entries) forks c.args.count c.args.number k tree
    is lies in
    let level = length c.args.siblings.now.items in
    let sides = sides-stand level (way level c.args.key.now) tree it.left it.right (length-way level c.args.key.now)
    it.is stands in
    let counts : fork_count tree ≡ 1 + (fork_count it.left + fork_count it.right) = ap fork_count it.is in
    let deep : c.len-level.result ≡ level = c.len-level.ensures ∙ c.args.siblings.now.ok.0 in
    let no : false ≡ true = c.in_err-digest-in-Fork.ensures.found first it.left (false ∷ way level c.args.key.now)
    (subst (λ n. LaidAt h (take first entries) forks k n it.left)
    (sym c.left_at-left.ensures) it.on_left) sides.on_left (sides.long false ∙ ap (λ n. n + 1) (sym deep))
    (omega (arith, few, counts)) in
    absurd cc

pub returns-in_err-digest-in-Fork-2-clause-found : goal.returns-in_err-digest-in-Fork-2-clause-found
returns-in_err-digest-in-Fork-2-clause-found g t c = λ first tree lies stands few.
    let entries = c.args.entries.now in
    let forks = c.args.forks.now in
    let k = c.in-Fork.place in
    let h = kept_hashes g.H.ArrayHash.leaf_hash g.H.ArrayHash.node_hash g.H.KeptHash.nothing_hash in
    let is : c.args.number ≡ 2 * k + 2 = sym c.in_ok-part_of.ensures.number ∙ ap part_number c.in-Fork.is in
    let it = lies-fork h (take first entries) forks c.args.count c.args.number k tree
    is lies in
    let level = length c.args.siblings.now.items in
    let sides = sides-stand level (way level c.args.key.now) tree it.left it.right (length-way level c.args.key.now)
    it.is stands in
    let counts : fork_count tree ≡ 1 + (fork_count it.left + fork_count it.right) = ap fork_count it.is in
    let deep : c.len-level.result ≡ level = c.len-level.ensures ∙ c.args.siblings.now.ok.0 in
    let no : false ≡ true = c.in_err-digest-in-Fork-2.ensures.found first it.right (true ∷ way level c.args.key.now)
    (subst (λ n. LaidAt h (take first entries) forks k n it.right)
    (sym c.right_at-right.ensures) it.on_right) sides.on_right (sides.long true ∙ ap (λ n. n + 1) (sym deep))
    (omega (arith, few, counts)) in
    absurd cc

pub returns-in_ok-push-in-Fork-clause-proof : goal.returns-in_ok-push-in-Fork-clause-proof
returns-in_ok-push-in-Fork-clause-proof g t c =
    let entries = c.args.entries.now in
    let forks = c.args.forks.now in
    let k = c.in-Fork.place in
    let h = kept_hashes g.H.ArrayHash.leaf_hash g.H.ArrayHash.node_hash g.H.KeptHash.nothing_hash in
    let is : c.args.number ≡ 2 * k + 2 = sym c.in_ok-part_of.ensures.number ∙ ap part_number c.in-Fork.is in
    let above = c.args.siblings.now.items in
    let digest = c.in_ok-digest-in-Fork.digest in
    let bit : bit_of (length above) c.args.key.now ≡ true =
    ap (λ n. bit_of n c.args.key.now) (sym (c.len-level.ensures ∙ c.args.siblings.now.ok.0)) ∙ sym c.bit_of.ensures ∙
    c.if-bit_of.true in
    proof-on h entries forks c.args.key.now above c.climb_down.new.siblings.items c.args.number
    (right_at forks k) digest c.climb_down.result
    (λ proof. proof-below h entries forks c.args.number c.args.key.now above true k
    digest proof is bit
    (subst (λ n. IsDigestAt h entries forks n digest) c.left_at-left.ensures
    c.in_ok-digest-in-Fork.ensures.digest))
    (subst (λ n. IfOk c.climb_down.result (λ end. IsProofAt h entries forks n c.args.key.now
    (above ++ digest ∷ []) (seen_with c.climb_down.new.siblings.items end))) c.right_at-right.ensures
    (subst (λ l. IfOk c.climb_down.result (λ end. IsProofAt h entries forks c.right_at-right.result
    c.args.key.now l (seen_with c.climb_down.new.siblings.items end))) c.in_ok-push-in-Fork.ensures.items
    c.climb_down.ensures.proof))

pub returns-in_ok-push-in-Fork-clause-found : goal.returns-in_ok-push-in-Fork-clause-found
returns-in_ok-push-in-Fork-clause-found g t c = λ first tree lies stands few.
    let entries = c.args.entries.now in
    let forks = c.args.forks.now in
    let k = c.in-Fork.place in
    let h = kept_hashes g.H.ArrayHash.leaf_hash g.H.ArrayHash.node_hash g.H.KeptHash.nothing_hash in
    let is : c.args.number ≡ 2 * k + 2 = sym c.in_ok-part_of.ensures.number ∙ ap part_number c.in-Fork.is in
    let it = lies-fork h (take first entries) forks c.args.count c.args.number k tree
    is lies in
    let level = length c.args.siblings.now.items in
    let sides = sides-stand level (way level c.args.key.now) tree it.left it.right (length-way level c.args.key.now)
    it.is stands in
    let counts : fork_count tree ≡ 1 + (fork_count it.left + fork_count it.right) = ap fork_count it.is in
    let bit : bit_of level c.args.key.now ≡ true =
    ap (λ n. bit_of n c.args.key.now) (sym (c.len-level.ensures ∙ c.args.siblings.now.ok.0)) ∙ sym c.bit_of.ensures ∙
    c.if-bit_of.true in
    let spent = c.in_ok-digest-in-Fork.ensures.spent first it.left
    (subst (λ n. LaidAt h (take first entries) forks k n it.left)
    (sym c.left_at-left.ensures) it.on_left) in
    let long = ap length c.in_ok-push-in-Fork.ensures.items ∙ length-append c.args.siblings.now.items
    (c.in_ok-digest-in-Fork.digest ∷ []) in
    c.climb_down.ensures.found first it.right
    (subst (λ n. LaidAt h (take first entries) forks k n it.right)
    (sym c.right_at-right.ensures) it.on_right)
    (subst (λ n. StandsAt (way n c.args.key.now) it.right) (sym long)
    (side-stands level c.args.key.now true it.right bit sides.on_right))
    (omega (arith, few, counts, spent))

pub returns-in_ok-push-in-Fork-2-clause-proof : goal.returns-in_ok-push-in-Fork-2-clause-proof
returns-in_ok-push-in-Fork-2-clause-proof g t c =
    let entries = c.args.entries.now in
    let forks = c.args.forks.now in
    let k = c.in-Fork.place in
    let h = kept_hashes g.H.ArrayHash.leaf_hash g.H.ArrayHash.node_hash g.H.KeptHash.nothing_hash in
    let is : c.args.number ≡ 2 * k + 2 = sym c.in_ok-part_of.ensures.number ∙ ap part_number c.in-Fork.is in
    let above = c.args.siblings.now.items in
    let digest = c.in_ok-digest-in-Fork-2.digest in
    let bit : bit_of (length above) c.args.key.now ≡ false =
    ap (λ n. bit_of n c.args.key.now) (sym (c.len-level.ensures ∙ c.args.siblings.now.ok.0)) ∙ sym c.bit_of.ensures ∙
    c.if-bit_of.false in
    proof-on h entries forks c.args.key.now above c.climb_down-else-bit_of.new.siblings.items c.args.number
    (left_at forks k) digest c.climb_down-else-bit_of.result
    (λ proof. proof-below h entries forks c.args.number c.args.key.now above false k
    digest proof is bit
    (subst (λ n. IsDigestAt h entries forks n digest) c.right_at-right.ensures
    c.in_ok-digest-in-Fork-2.ensures.digest))
    (subst (λ n. IfOk c.climb_down-else-bit_of.result (λ end. IsProofAt h entries forks n c.args.key.now
    (above ++ digest ∷ []) (seen_with c.climb_down-else-bit_of.new.siblings.items end))) c.left_at-left.ensures
    (subst (λ l. IfOk c.climb_down-else-bit_of.result (λ end. IsProofAt h entries forks c.left_at-left.result
    c.args.key.now l (seen_with c.climb_down-else-bit_of.new.siblings.items end))) c.in_ok-push-in-Fork-2.ensures.items
    c.climb_down-else-bit_of.ensures.proof))

pub returns-in_ok-push-in-Fork-2-clause-found : goal.returns-in_ok-push-in-Fork-2-clause-found
returns-in_ok-push-in-Fork-2-clause-found g t c = λ first tree lies stands few.
    let entries = c.args.entries.now in
    let forks = c.args.forks.now in
    let k = c.in-Fork.place in
    let h = kept_hashes g.H.ArrayHash.leaf_hash g.H.ArrayHash.node_hash g.H.KeptHash.nothing_hash in
    let is : c.args.number ≡ 2 * k + 2 = sym c.in_ok-part_of.ensures.number ∙ ap part_number c.in-Fork.is in
    let it = lies-fork h (take first entries) forks c.args.count c.args.number k tree
    is lies in
    let level = length c.args.siblings.now.items in
    let sides = sides-stand level (way level c.args.key.now) tree it.left it.right (length-way level c.args.key.now)
    it.is stands in
    let counts : fork_count tree ≡ 1 + (fork_count it.left + fork_count it.right) = ap fork_count it.is in
    let bit : bit_of level c.args.key.now ≡ false =
    ap (λ n. bit_of n c.args.key.now) (sym (c.len-level.ensures ∙ c.args.siblings.now.ok.0)) ∙ sym c.bit_of.ensures ∙
    c.if-bit_of.false in
    let spent = c.in_ok-digest-in-Fork-2.ensures.spent first it.right
    (subst (λ n. LaidAt h (take first entries) forks k n it.right)
    (sym c.right_at-right.ensures) it.on_right) in
    let long = ap length c.in_ok-push-in-Fork-2.ensures.items ∙ length-append c.args.siblings.now.items
    (c.in_ok-digest-in-Fork-2.digest ∷ []) in
    c.climb_down-else-bit_of.ensures.found first it.left
    (subst (λ n. LaidAt h (take first entries) forks k n it.left)
    (sym c.left_at-left.ensures) it.on_left)
    (subst (λ n. StandsAt (way n c.args.key.now) it.left) (sym long)
    (side-stands level c.args.key.now false it.left bit sides.on_left))
    (omega (arith, few, counts, spent))
