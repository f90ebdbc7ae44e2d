-- What the calls of a tree read from its rows.
use Rattle.std.proofs.Common.{◌≡◌, ℕ, ◌-◌, ◌<◌, ◌^◌, suc, List, [], length, map, get_or, Ok, Err, arith, refl, ap, sym, subst, ◌∙◌}
use Rattle.std.proofs.lemmas.List.{length-map}
use Rattle.ark_base.specs.declared.error.Error.{Error}
use Rattle.ark_base.specs.Outcome.{Outcome}
use Rattle.ark_paths.specs.Index.{IsTreeSize, log2, neighbour}
use Rattle.ark_paths.specs.Pair.{Digest, HashPair, Hashes}
use Rattle.ark_paths.specs.Root.{root, leaves_with_root, upper_levels}
use Rattle.ark_paths.specs.Rows.{IsTree, HoldsIndex, beside_in, rows_of}
use Rattle.ark_paths.specs.Tree.{HashedTree, tree_above, tree_with, with_hashes, own_path}
use Rattle.ark_paths.proofs.Logs.{log2-pow}
use Rattle.ark_paths.proofs.TreeLemmas.{is_tree, rooted-ok, rooted-refused}
use Rattle.ark_paths.proofs.OwnPaths.{root-top, top-row-some, own_path-rows}

-- what an equation has on its left
abbrev pub left_of : {A : Type 0} {a b : A} → a ≡ b → A
left_of {a = a} e = a

-- the rows of a tree, as contracts see it
pub is_tree-seen : {A : Type 0} {hashes : Hashes A} {leaves : List Digest} {tree : HashedTree A}
    {rows : List (List Digest)} → tree_with hashes leaves ≡ tree → IsTree hashes.pair leaves rows
    → IsTree tree.hashes.pair tree.leaves rows
is_tree-seen {rows = rows} seen is = subst (λ (t : HashedTree _). IsTree t.hashes.pair t.leaves rows) seen is

-- equal hashes of leaves and of pairs
pub same_hashes : {A : Type 0} {l m : A → Outcome Digest} {p q : HashPair} → l ≡ m → p ≡ q
    → ◌≡◌ {A = Hashes A} (record { leaf = l; pair = p }) (record { leaf = m; pair = q })
same_hashes leaf pair = λ i. record { leaf = leaf i; pair = pair i }

-- the tree above leaf digests, or the refusal in its place, from the rows that are made of them
module _ {A L : Type 0} {own hashes : Hashes A} (same : own ≡ hashes) (numbers : L → Digest) (xs : List L)
    (size : IsTreeSize (length xs)) where
  abbrev leaves : List Digest
  leaves = map numbers xs

  seen_size : IsTreeSize (length leaves)
  seen_size = (size.0, length-map xs numbers ∙ size.1)

  pub made-refused : (e : Error) → rows_of own.pair (upper_levels leaves) leaves ≡ Err e
      → tree_above hashes leaves ≡ Err e
  made-refused e refused =
      rw (← same) (ap (with_hashes own) (rooted-refused own.pair leaves e seen_size refused))

  module _ (rows : List (List Digest)) (is : rows_of own.pair (upper_levels leaves) leaves ≡ Ok rows) where
    pub made-ok : tree_above hashes leaves ≡ Ok (tree_with hashes leaves)
    made-ok = rw (← same) (ap (with_hashes own) (rooted-ok own.pair leaves rows seen_size is))

    pub made-tree : IsTree hashes.pair leaves rows
    made-tree = rw (← same) (is_tree own.pair leaves rows seen_size is)

-- a tree has as many levels as its rows say
pub log2-leaves : (h : HashPair) (leaves : List Digest) (rows : List (List Digest)) → IsTree h leaves rows
    → log2 (length leaves) ≡ length rows
log2-leaves h leaves rows tree = ap log2 tree.size ∙ log2-pow (suc (upper_levels leaves)) ∙ sym tree.count

pub power-leaves : (h : HashPair) (leaves : List Digest) (rows : List (List Digest)) → IsTree h leaves rows
    → length leaves ≡ 2 ^ log2 (length leaves)
power-leaves h leaves rows tree = tree.size ∙ ap (λ (n : ℕ). 2 ^ n) (sym tree.count
    ∙ sym (log2-leaves h leaves rows tree))

module _ (h : HashPair) (leaves : List Digest) (rows : List (List Digest)) (tree : IsTree h leaves rows) where
  -- the digest of the last row is the root
  pub root-read : (n : ℕ) (digest : Digest) → n ≡ length rows → digest ≡ get_or (get_or rows (n - 1) []) 0 []
      → root h leaves ≡ Ok digest
  root-read n digest count first = let last : n - 1 ≡ upper_levels leaves =
      omega (arith, count, tree.count) in root-top h leaves rows tree ∙ ap Ok (sym (rw last at first))

  pub top-inside : (n : ℕ) → n ≡ length rows → 0 < length (get_or rows (n - 1) [])
  top-inside n count = let last : n - 1 ≡ upper_levels leaves =
      omega (arith, count, tree.count) in rw last (top-row-some h leaves rows tree)

  -- the rows hold each index of the tree
  pub holds-index : (index : ℕ) → length leaves < 2 ^ 64 → index < length leaves → HoldsIndex rows index
  holds-index index fits inside = record { size = length leaves; small = fits; inside = inside; levels = tree.levels }

  -- the path that is made of a sibling and of the digests beside the way is the tree's own
  pub own_path-read : (index n : ℕ) (sibling : Digest) (above : List Digest) → index < length leaves → get_or leaves
      (neighbour index) [] ≡ sibling → n ≡ length rows
      → above ≡ beside_in rows (n - 1) index → own_path h index leaves ≡ record {
        sibling = sibling;
        above = above;
        index = index;
      }
  own_path-read index n sibling above inside beside count is =
      let last : n - 1 ≡ upper_levels leaves = omega (arith, count, tree.count) in
      own_path-rows h leaves rows tree index inside above (rw last at is)
      ∙ ap (λ (d : Digest). record { sibling = d; above = above; index = index }) beside

  -- the leaf digests have a root
  pub rooted-leaves : leaves_with_root h leaves ≡ Ok leaves
  rooted-leaves = rw (root-top h leaves rows tree) refl
