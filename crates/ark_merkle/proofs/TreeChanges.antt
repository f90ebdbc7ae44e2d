-- What the calls that change a tree make of its fields.
use Rattle.std.proofs.Common.{◌≡◌, ℕ, ◌<◌, ◌-◌, ◌/◌, ◌^◌, suc, Bool, List, [], length, get_or, set, Ok, Err, refl, ap, sym, subst, ◌∙◌, arith}
use Rattle.std.proofs.lemmas.List.{length-map, map-set}
use Rattle.std.specs.declared.vec.Vec.{Vec}
use Rattle.std.specs.Vec.{with_item}
use Rattle.ark_base.specs.declared.error.Error.{Error}
use Rattle.ark_base.specs.Outcome.{Outcome}
use Rattle.ark_paths.specs.Pair.{Digest, HashPair, digest_eq}
use Rattle.ark_paths.specs.Root.{upper_levels}
use Rattle.ark_paths.specs.Rows.{IsTree, digests_of}
use Rattle.ark_paths.specs.Tree.{HashedTree, tree_with, with_hashes}
use Rattle.ark_paths.proofs.Readings.{digest_read}
use Rattle.ark_merkle.specs.Update.{changed_leaves, new_root, with_leaf, change_agrees, ChangesWay}
use Rattle.ark_merkle.proofs.Changes.{is_tree-changed}

-- the way of a tree, as contracts see it
pub way-seen : {A : Type 0} {own tree : HashedTree A} {index : ℕ} {digest : Digest} {way : List Digest} → own ≡ tree
    → ChangesWay own.hashes.pair own.leaves index digest way → ChangesWay tree.hashes.pair tree.leaves index digest way
way-seen {index = index} {digest = digest} {way = way} seen changes =
    subst (λ (t : HashedTree _). ChangesWay t.hashes.pair t.leaves index digest way) seen changes

-- a refused root is that of the changed leaves
changed_leaves-refused : (h : HashPair) (hashed : Outcome Digest) (index : ℕ) (leaves : List Digest) (e : Error)
    → new_root h hashed index leaves ≡ Err e → changed_leaves h hashed index leaves ≡ Err e
changed_leaves-refused h (Ok digest) index leaves e refused = rw refused refl
changed_leaves-refused h (Err first) index leaves e refused = let same : first ≡ e = cc in ap Err same

-- the tree with a leaf, from the root that its leaf digests then have
module _ {A : Type 0} {own tree : HashedTree A} (seen : own ≡ tree) (index : ℕ) (leaf : A) where
  abbrev root_then : Outcome Digest
  root_then = new_root own.hashes.pair (own.hashes.leaf leaf) index own.leaves

  pub with_leaf-refused : (e : Error) → root_then ≡ Err e → with_leaf tree index leaf ≡ Err e
  with_leaf-refused e refused =
      rw (← seen) (ap (with_hashes own.hashes)
      (changed_leaves-refused own.hashes.pair (own.hashes.leaf leaf) index own.leaves e refused))

  pub with_leaf-ok : (digest top : Digest) → own.hashes.leaf leaf ≡ Ok digest → root_then ≡ Ok top
      → with_leaf tree index leaf ≡ Ok (tree_with tree.hashes (set tree.leaves index digest))
  with_leaf-ok digest top hashed rooted = rw (← seen, hashed, rw hashed at rooted) refl

  pub agrees-refused : (asserted : Digest) (e : Error) → root_then ≡ Err e
      → change_agrees tree index leaf asserted ≡ Err e
  agrees-refused asserted e refused = rw (← seen, refused) refl

  -- whether the last digest on a way, as it is read, is the asserted root
  pub agrees-read : {B V : Type 0} (numbers : B → Digest) (way : Vec B V) (last : B) (asserted : Digest) (same : Bool)
      → length (digests_of numbers way) ≡ suc (upper_levels own.leaves) → last ≡ get_or way.items (way.len - 1) last
      → root_then ≡ Ok (get_or (digests_of numbers way) (upper_levels own.leaves) [])
      → same ≡ digest_eq (numbers last) asserted → change_agrees tree index leaf asserted ≡ Ok same
  agrees-read numbers way last asserted same whole read rooted is =
      let top : way.len - 1 ≡ upper_levels own.leaves = omega (arith, length-map way.items numbers, way.ok.0) in
      let seen_last = digest_read numbers way (way.len - 1) last (omega (arith, length-map way.items numbers, way.ok.0))
      read in
      rw (← seen, rooted, rw top at seen_last, is) refl

-- the fields with a leaf digest put in, and the digests of its way
pub is_tree-put : {A B Z V : Type 0} (leaf_numbers : A → Digest) (numbers : B → Digest) (h : HashPair)
    (leaves : Vec A Z) (rows : List (List Digest)) → IsTree h (digests_of leaf_numbers leaves) rows → (index : ℕ)
    (digest : A) (way : Vec B V) (put : List (List Digest)) → index < length (digests_of leaf_numbers leaves)
    → ChangesWay h (digests_of leaf_numbers leaves) index (leaf_numbers digest) (digests_of numbers way)
    → length put ≡ length rows → ((k : ℕ) → k < length rows → get_or put k []
    ≡ set (get_or rows k []) (index / 2 ^ suc k) (get_or (digests_of numbers way) k []))
    → IsTree h (digests_of leaf_numbers (with_item leaves index digest)) put
is_tree-put leaf_numbers numbers h leaves rows tree index digest way put inside changes count puts =
    rw (map-set leaf_numbers leaves.items index digest)
    (is_tree-changed h (digests_of leaf_numbers leaves) rows tree index inside (leaf_numbers digest)
    (digests_of numbers way) changes.on_way (changes.whole ∙ sym tree.count) put count puts)
