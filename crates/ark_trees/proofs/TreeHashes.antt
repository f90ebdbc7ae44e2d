-- The root of a log is its tree hash.
use Rattle.std.proofs.Common.{zero, suc, ◌≡◌, ℕ, ◌-◌, ◌*◌, ◌<◌, ◌^◌, List, [], ◌∷◌, map, length, take, drop, Ok, arith, refl, ap, sym, subst, ◌∙◌}
use Rattle.std.proofs.Math.Nat.{pow-succ'}
use Rattle.std.proofs.lemmas.List.{take-map, drop-map, length-take, length-drop, length-map}
use Rattle.ark_base.specs.Outcome.{◌>>=◌}
use Rattle.ark_base.specs.Laws.Steps.{bind_ok, done_injective}
use Rattle.ark_paths.specs.Index.{log2}
use Rattle.ark_paths.specs.Pair.{Digest, HashPair}
use Rattle.ark_paths.specs.Root.{Root, place, root, all_hashes, leaves_with_root}
use Rattle.ark_paths.specs.Tree.{HashedTree, root_in, tree_of, with_hashes}
use Rattle.ark_trees.specs.Rfc6962.{entry_hash, log_hashes, node_hash, tree_hash_of_entries}

-- the hashes of a log
abbrev pub log_pair : HashPair
log_pair = record { bottom = λ a b. Ok (node_hash a b); upper = λ a b. Ok (node_hash a b) }

place-log : (m : ℕ) (entries : List (List ℕ)) → length entries ≡ 2 ^ suc m → place log_pair m (map entry_hash entries)
    ≡ Root (tree_hash_of_entries (suc m) entries)
place-log zero [] long = absurd (omega (arith, long))
place-log zero (a ∷ []) long = absurd (omega (arith, long))
place-log zero (a ∷ b ∷ entries) long = refl
place-log (suc m) entries long =
    let half : 2 ^ suc (suc m) ≡ 2 * 2 ^ suc m = pow-succ' 2 (suc m) in
    let left = place-log m (take (2 ^ suc m) entries) (length-take (2 ^ suc m) entries ∙ omega (arith, long, half)) in
    let right = place-log m (drop (2 ^ suc m) entries) (length-drop (2 ^ suc m) entries ∙ omega (arith, long, half)) in
    rw (take-map entry_hash (2 ^ suc m) entries, drop-map entry_hash (2 ^ suc m) entries, left, right) refl

all_hashes-made : {A : Type 0} (bytes : A → List ℕ) (leaves : List A) → all_hashes (log_hashes bytes).leaf leaves
    ≡ Ok (map entry_hash (map bytes leaves))
all_hashes-made bytes [] = refl
all_hashes-made bytes (leaf ∷ leaves) = rw (all_hashes-made bytes leaves) refl

above_zero : (n k : ℕ) → 1 < n → n ≡ 2 ^ k → k ≡ suc (k - 1)
above_zero n zero some is = absurd (omega (arith, some, is))
above_zero n (suc k) some is = omega arith

-- the root above the hashes of entries
pub root-entries : (entries : List (List ℕ)) → 1 < length entries → length entries ≡ 2 ^ log2 (length entries)
    → root log_pair (map entry_hash entries) ≡ Ok (tree_hash_of_entries (log2 (length entries)) entries)
root-entries entries some power =
    let level = above_zero (length entries) (log2 (length entries)) some power in
    let top = place-log (log2 (length entries) - 1) entries (power ∙ ap (λ (k : ℕ). 2 ^ k) level) in
    rw (length-map entries entry_hash, top) (ap (λ (k : ℕ). Ok (tree_hash_of_entries k entries)) (sym level))

-- the root of the tree above leaves that are entries
pub root-log : {A : Type 0} (bytes : A → List ℕ) (leaves : List A) (tree : HashedTree A) → tree_of (log_hashes bytes)
    leaves ≡ Ok tree → 1 < length leaves → length tree.leaves ≡ 2 ^ log2 (length tree.leaves) → root_in tree
    ≡ Ok (tree_hash_of_entries (log2 (length (map bytes leaves))) (map bytes leaves))
root-log {A} bytes leaves tree made some power =
    let hashes = log_hashes bytes in
    let entries = map bytes leaves in
    let digests = map entry_hash entries in
    let tree_above : List Digest → HashedTree A = λ l. record { hashes = hashes; leaves = l } in
    let hashed = ap (λ o. with_hashes hashes (o >>= leaves_with_root log_pair)) (all_hashes-made bytes leaves) in
    let rooted = bind_ok (leaves_with_root log_pair digests) (λ l. Ok (tree_above l)) tree (sym hashed ∙ made) in
    let found = bind_ok (root log_pair digests) (λ _. Ok digests) rooted.0 rooted.1 in
    let is : tree_above digests ≡ tree = ap tree_above (done_injective digests rooted.0 found.2) ∙ done_injective
    (tree_above rooted.0) tree rooted.2 in
    let count : length digests ≡ length entries = length-map entries entry_hash in
    let of_digests : length digests ≡ 2 ^ log2 (length digests) =
    subst (λ (t : HashedTree A). length t.leaves ≡ 2 ^ log2 (length t.leaves)) (sym is) power in
    let of_entries : length entries ≡ 2 ^ log2 (length entries) = subst (λ (n : ℕ). n ≡ 2 ^ log2 n) count of_digests in
    subst (λ (t : HashedTree A). root_in t ≡ Ok (tree_hash_of_entries (log2 (length entries)) entries)) is
    (root-entries entries (omega (arith, some, length-map leaves bytes)) of_entries)
