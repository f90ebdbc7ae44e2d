-- Several changed leaves at once. A change is an index, and the leaf that is to stand there.
use Rattle.std.specs.Prelude.{◌≡◌, ℕ, ◌==◌, ◌<◌, nat_lt, List, [], ◌∷◌, get_or, length, set, if◌then◌else◌, Option, None, Some, Ok}
use Rattle.std.specs.Option.{option_or}
use Rattle.ark_base.specs.Outcome.{Outcome, ◌>>=◌}
use Rattle.ark_paths.specs.Pair.{Digest}
use Rattle.ark_paths.specs.Root.{leaves_with_root}
use Rattle.ark_paths.specs.Tree.{HashedTree, HoldsLeaf, with_hashes}
use Rattle.ark_merkle.specs.Update.{with_leaf}

-- a change at its place among those by rising index, unless there is one of its index
abbrev pub with_change : {A : Type 0} → ℕ × A → List (ℕ × A) → List (ℕ × A)
with_change change [] = change ∷ []
with_change change (first ∷ others) =
    if nat_lt change.0 first.0 then change ∷ first ∷ others
    else (if change.0 == first.0 then first ∷ others else (first ∷ with_change change others))

-- the last change of each index, by rising index
abbrev pub last_changes : {A : Type 0} → List (ℕ × A) → List (ℕ × A)
last_changes [] = []
last_changes (change ∷ later) = with_change change (last_changes later)

-- what a hash makes of the changes, from the left, or the first refusal
abbrev pub hashed_changes : {A : Type 0} → (A → Outcome Digest) → List (ℕ × A) → Outcome (List (ℕ × Digest))
hashed_changes hash [] = Ok []
hashed_changes hash (change ∷ others) = do
  digest ← hash change.1
  digests ← hashed_changes hash others
  Ok ((change.0, digest) ∷ digests)

-- digests, with those of the changes put in their places
abbrev pub puts : List Digest → List (ℕ × Digest) → List Digest
puts digests [] = digests
puts digests (change ∷ others) = puts (set digests change.0 change.1) others

-- the leaf digests with that of each index's last change, or the first refusal by rising index
abbrev pub new_digests : {A : Type 0} → (A → Outcome Digest) → List (ℕ × A) → List Digest → Outcome (List Digest)
new_digests hash changes digests = do
  hashed ← hashed_changes hash (last_changes changes)
  Ok (puts digests hashed)

-- the tree with each index's last change, where its new leaf digests have a root
abbrev pub with_leaves : {A : Type 0} → HashedTree A → List (ℕ × A) → Outcome (HashedTree A)
with_leaves tree changes = with_hashes tree.hashes (do
  digests ← new_digests tree.hashes.leaf changes tree.leaves
  leaves_with_root tree.hashes.pair digests)

-- the tree with one change after the other, each of which leaves a tree
abbrev pub with_each_leaf : {A : Type 0} → HashedTree A → List (ℕ × A) → Outcome (HashedTree A)
with_each_leaf tree [] = Ok tree
with_each_leaf tree (change ∷ later) = do
  changed ← with_leaf tree change.0 change.1
  with_each_leaf changed later

-- the leaf of the last change of an index, if a change is of it
abbrev pub last_leaf : {A : Type 0} → ℕ → List (ℕ × A) → Option A
last_leaf index [] = None
last_leaf index (change ∷ later) =
    option_or (last_leaf index later) (if change.0 == index then Some change.1 else None)

-- The last leaf of each changed index stands there, and each other index has the digest that it had.
pub record HasLastLeaves {A : Type 0} (old : HashedTree A) (changes : List (ℕ × A)) (new : HashedTree A) : Type 0 where
  pub changed : (index : ℕ) (leaf : A) → index < length old.leaves → last_leaf index changes ≡ Some leaf
      → HoldsLeaf new index leaf
  pub others : (index : ℕ) → index < length old.leaves → last_leaf index changes ≡ None
      → get_or new.leaves index [] ≡ get_or old.leaves index []
