-- Trees whose hashes refuse nothing.
use Rattle.std.proofs.Common.{◌<◌, arith, pow_pos, ◌≡◌, ◌⊎◌, ℕ, zero, suc, ◌^◌, List, length, take, drop, map, nat_lt, true, false, Result, Ok, Err, IfOk, Global, refl, sym, ap, subst, ◌∙◌, inl, inr}
use Rattle.std.proofs.Math.Nat.{pow-succ'}
use Rattle.std.proofs.lemmas.List.{length-map, map-id}
use Rattle.std.specs.declared.vec.Vec.{Vec}
use Rattle.ark_base.specs.Digits.{itself}
use Rattle.ark_paths.specs.Laws.ByNumbers.{multi_spelling-way}
use Rattle.ark_paths.specs.MultiPath.{MultiWay}
use Rattle.ark_paths.specs.Path.{Way}
use Rattle.ark_paths.specs.MultiPathBytes.{multi_path_spelling}
use Rattle.ark_merkle.specs.MultiProof.{multi_path_in, own_multi_path}
use Rattle.std.proofs.lemmas.Result.{err_from_is_err_and}
use Rattle.std.specs.Result.{IsErrAnd}
use Rattle.ark_base.specs.declared.error.Error.{Error}
use Rattle.ark_base.specs.declared.error.Error.TheVariants.{OutOfMemory}
use Rattle.ark_base.specs.Laws.Steps.{done_injective}
use Rattle.ark_base.specs.Outcome.{Outcome, ◌>>=◌}
use Rattle.ark_paths.proofs.Logs.{log2-pow}
use Rattle.ark_paths.specs.Index.{IsTreeSize, is_tree_size, log2}
use Rattle.ark_paths.specs.Pair.{Digest, HashPair, Hashes}
use Rattle.ark_paths.specs.Root.{Root, place, root, upper_levels}
use Rattle.ark_paths.specs.Tree.{HashedTree, own_path, path_in, root_in, tree_above, tree_with}
use Rattle.paxidore_calls.proofs.Parts.{leaves-fit}
use Rattle.paxidore_calls.specs.Answer.{CallGivesBy, are_indexes, leaves_in, multi_path_of_leaves, only_if, path_of_leaves, refused_of, results_of, tree_leaves_in}
use Rattle.paxidore_calls.specs.Cut.{parts_by}
use Rattle.ark_trees.proofs.TreeHashes.{root-entries}
use Rattle.ark_trees.specs.Rfc6962.{tree_hash_of_entries}
use Rattle.paxidore_calls.specs.Hashing.{Hashing, bytes_of_multi_path, bytes_of_path, hashes_by, node_pair, rfc6962_hashing, tree_over}
use Rattle.paxidore_calls.specs.declared.refused.Refused.{Refused}
use Rattle.paxidore_calls.specs.declared.refused.Refused.TheVariants.{Index}

-- two outcomes that are one
abbrev Outcomes : Outcome MultiWay → Outcome MultiWay → Type 0
Outcomes a b = a ≡ b

abbrev Ways : Outcome Way → Outcome Way → Type 0
Ways a b = a ≡ b

module _ (h : Hashing) where
  pub place-node : (m : ℕ) (digests : List Digest) → (d : Digest) × (place (node_pair h) m digests ≡ Root d)
  place-node zero digests = (_, refl)
  place-node (suc m) digests =
      let left = place-node m (take (2 ^ suc m) digests) in
      let right = place-node m (drop (2 ^ suc m) digests) in
      (h.node left.0 right.0, rw (left.1, right.1) refl)

  root-node : (digests : List Digest) → (d : Digest) × (root (node_pair h) digests ≡ Ok d)
  root-node digests = let top = place-node (upper_levels digests) digests in (top.0, rw top.1 refl)

  -- leaf digests have a tree
  tree-node : {A : Type 0} (bytes : A → List ℕ) (digests : List Digest)
      → tree_above (hashes_by bytes h) digests ≡ Ok (tree_with (hashes_by bytes h) digests)
  tree-node bytes digests = rw (root-node digests).1 refl

  module _ {A : Type 0} (bytes : A → List ℕ) (hashes : Hashes A) (are : hashes ≡ hashes_by bytes h) where
    tree-known : (digests : List Digest) → tree_above hashes digests ≡ Ok (tree_with (hashes_by bytes h) digests)
    tree-known digests = ap (λ hs. tree_above hs digests) are ∙ tree-node bytes digests

    -- so that memory alone is refused
    pub tree-memory : {B C : Type 0} (digests : List Digest) (view : B → C) (outcome : Result C Refused)
        (result : Result B Refused) (e : Error) → IsErrAnd result (λ refused. refused ≡ refused_of e)
        → (e ≡ OutOfMemory) ⊎ (tree_above hashes digests ≡ Err e) → CallGivesBy view outcome result
    tree-memory digests view outcome result e is (inl memory) = let p =
        err_from_is_err_and result is in rw (p.1, p.2, memory) (inl refl)
    tree-memory digests view outcome result e is (inr refused) = let never =
        sym (tree-known digests) ∙ refused in absurd cc

    -- and the tree above what is made of leaves holds their digests
    pub tree-made : (leaves lengths : List ℕ) → is_tree_size (length lengths) ≡ true → (items : List Digest)
        → results_of h.leaf_hash (leaves_in (parts_by leaves lengths)) ≡ Ok items
        → (tree : HashedTree A) → tree_above hashes (map (λ (digest : Digest). digest) items) ≡ Ok tree
        → results_of h.leaf_hash (tree_leaves_in leaves lengths) ≡ Ok tree.leaves
    tree-made leaves lengths sized items cut tree above =
        let digests : List Digest = map (λ (digest : Digest). digest) items in
        let kept : digests ≡ tree.leaves =
        ap (λ (t : HashedTree A). t.leaves) (done_injective _ _ (sym (tree-known digests) ∙ above)) in
        let ok : List Digest → Result (List Digest) Refused = λ ds. Ok ds in
        rw sized (cut ∙ ap ok (sym (map-id items) ∙ kept))

-- what holds of the digests of a tree holds of those of its leaves
pub over-leaves : (made : List ℕ → Digest) (leaves : Result (List (List ℕ)) Refused) (digests : List Digest)
    → results_of made leaves ≡ Ok digests → (P : List Digest → Type 0) → P digests → IfOk leaves (λ xs. P (map made xs))
over-leaves made (Ok xs) digests is P holds = let same : digests ≡ map made xs = cc in subst P same holds
over-leaves made (Err refused) digests is P holds = tt

-- the root over entries is their Merkle tree hash
pub log-root : (leaves lengths : List ℕ) (r : Digest) → IfOk (tree_leaves_in leaves lengths) (λ xs. root_in
    (tree_over rfc6962_hashing xs) ≡ Ok r) → IfOk (tree_leaves_in leaves lengths) (λ xs. r ≡ tree_hash_of_entries
    (log2 (length xs)) xs)
log-root leaves lengths r = by_leaves (tree_leaves_in leaves lengths) (leaves-fit leaves lengths)
  where
    by_leaves : (leaves : Result (List (List ℕ)) Refused)
        → IfOk leaves (λ xs. (length xs ≡ length lengths) × IsTreeSize (length xs))
        → IfOk leaves (λ xs. root_in (tree_over rfc6962_hashing xs) ≡ Ok r)
        → IfOk leaves (λ xs. r ≡ tree_hash_of_entries (log2 (length xs)) xs)
    by_leaves (Ok xs) (count, (k, power)) rooted =
        let some : 1 < length xs = omega (arith, power, pow_pos k, pow-succ' 2 k) in
        let log : length xs ≡ 2 ^ log2 (length xs) =
        power ∙ ap (λ (n : ℕ). 2 ^ n) (sym (log2-pow (suc k)) ∙ ap log2 (sym power)) in
        done_injective r _ (sym rooted ∙ root-entries xs some log)
    by_leaves (Err refused) fit rooted = tt

-- ---- the bytes of a path

-- in a tree that holds these digests
path-known : (h : Hashing) (leaves lengths : List ℕ) (index : ℕ) (digests : List Digest) → results_of h.leaf_hash
    (tree_leaves_in leaves lengths) ≡ Ok digests → path_of_leaves h leaves lengths index
    ≡ only_if (nat_lt index (length digests)) Index (Ok (bytes_of_path (own_path (node_pair h) index digests)))
path-known h leaves lengths index digests made = by_leaves (tree_leaves_in leaves lengths) made
  where
    by_leaves : (xs : Result (List (List ℕ)) Refused) → results_of h.leaf_hash xs ≡ Ok digests
        → (xs >>= λ xs. only_if (nat_lt index (length xs)) Index (Ok (bytes_of_path (path_in (tree_over h xs) index))))
        ≡ only_if (nat_lt index (length digests)) Index (Ok (bytes_of_path (own_path (node_pair h) index digests)))
    by_leaves (Err refused) is = absurd cc
    by_leaves (Ok xs) is =
        let are : map h.leaf_hash xs ≡ digests = cc in
        let long : length xs ≡ length digests = sym (length-map xs h.leaf_hash) ∙ ap length are in
        let ok : List Digest → Result (List ℕ) Refused = λ ds. Ok (bytes_of_path (own_path (node_pair h) index ds)) in
        rw long (ap (only_if (nat_lt index (length digests)) Index) (ap ok are))

module _ (h : Hashing) (leaves lengths : List ℕ) (index : ℕ) (digests : List Digest) (made : results_of h.leaf_hash
    (tree_leaves_in leaves lengths) ≡ Ok digests) where
  pub path-made : nat_lt index (length digests) ≡ true → (pair : HashPair) → pair ≡ node_pair h → (way : Way)
      → Ways (Ok (own_path pair index digests)) (Ok way) → (bytes : List ℕ) → bytes ≡ bytes_of_path way
      → path_of_leaves h leaves lengths index ≡ Ok bytes
  path-made below pair are way own bytes written =
      let same : own_path (node_pair h) index digests ≡ way =
      ap (λ p. own_path p index digests) (sym are) ∙ done_injective _ _ own in
      let ok : List ℕ → Result (List ℕ) Refused = λ b. Ok b in
      path-known h leaves lengths index digests made
      ∙ rw below (ap ok (ap bytes_of_path same ∙ sym written))

  pub path-refused : nat_lt index (length digests) ≡ false → path_of_leaves h leaves lengths index ≡ Err Index
  path-refused past = path-known h leaves lengths index digests made ∙ rw past refl

-- ---- the bytes of a multi-proof

-- what is written of a multi-proof, and the bytes of its numbers
pub written-multi : (siblings : List Digest) (prefixes : List ℕ) (suffixes : List (Vec Digest Global))
    (indexes : List ℕ)
    → multi_path_spelling itself itself (
      map itself siblings,
      (
        map (λ n. n) prefixes,
        (map (λ suffix. map itself suffix.items) suffixes, map (λ n. n) indexes),
      ),
    )
    ≡ bytes_of_multi_path (record {
      siblings = map itself siblings;
      prefixes = prefixes;
      suffixes = map
          (λ suffix. map itself suffix.items) suffixes;
      indexes = indexes;
    })
written-multi siblings prefixes suffixes indexes = multi_spelling-way itself itself itself itself siblings prefixes
    suffixes indexes itself itself itself itself (λ d. refl) (λ d. refl)

pub multi-made : (h : Hashing) (pair : HashPair) → pair ≡ node_pair h → (leaves lengths indexes : List ℕ)
    (digests : List Digest) → results_of h.leaf_hash (tree_leaves_in leaves lengths) ≡ Ok digests
    → are_indexes (length digests) indexes ≡ true → (way : MultiWay)
    → Outcomes (Ok (own_multi_path pair indexes digests)) (Ok way) → (bytes : List ℕ)
    → bytes ≡ bytes_of_multi_path way → multi_path_of_leaves h leaves lengths indexes ≡ Ok bytes
multi-made h pair are leaves lengths indexes digests made inside way own bytes written =
    by_leaves (tree_leaves_in leaves lengths) made
  where
    same : own_multi_path (node_pair h) indexes digests ≡ way
    same = ap (λ p. own_multi_path p indexes digests) (sym are) ∙ done_injective _ _ own

    by_leaves : (xs : Result (List (List ℕ)) Refused) → results_of h.leaf_hash xs ≡ Ok digests
        → (xs >>= λ xs. only_if (are_indexes (length xs) indexes) Index
        (Ok (bytes_of_multi_path (multi_path_in (tree_over h xs) indexes)))) ≡ Ok bytes
    by_leaves (Err refused) is = absurd cc
    by_leaves (Ok xs) is =
        let are : map h.leaf_hash xs ≡ digests = cc in
        let long : length xs ≡ length digests = sym (length-map xs h.leaf_hash) ∙ ap length are in
        let ok : List ℕ → Result (List ℕ) Refused = λ b. Ok b in
        rw (long, inside) (ap ok (ap (λ (ds : List Digest). bytes_of_multi_path (own_multi_path (node_pair h) indexes
        ds)) are ∙ ap bytes_of_multi_path same ∙ sym written))
