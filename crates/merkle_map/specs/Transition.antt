-- Changes of a map, and what a checked transition says.
use Rattle.std.specs.Prelude.{◌≡◌, ◌⊎◌, ℕ, List, [], ◌∷◌, Bool, true, false, if◌then◌else◌, Option, Some, None, Ok}
use Rattle.ark_base.specs.Outcome.{Outcome, ◌>>=◌}
use Rattle.merkle_map.specs.Map.{Key, Digest, Entry, MapHashes, root_of_map, IsMap, put, without}
use Rattle.merkle_map.specs.Tree.{Shape, CollidesBelow, shape_digest}
use Rattle.merkle_map.specs.Changes.{tree_with_value, tree_without}
use Rattle.merkle_map.specs.Rows.{rows_of}
use Rattle.merkle_map.specs.Shown.{has_digest}
use Rattle.merkle_map.specs.declared.transition.Change.{Change}
use Rattle.merkle_map.specs.declared.transition.Change.TheVariants.{Put, Remove}

-- a change: a value is put at a key, or a key is removed
pub data ChangeSeen : Type 0 where
  Puts : (key : Key) (value : Digest) → ChangeSeen
  Removes : (key : Key) → ChangeSeen

-- what a change is
abbrev pub change_seen : Change → ChangeSeen
change_seen (Put key value) = Puts key value
change_seen (Remove key) = Removes key

-- a map after a change
abbrev pub changed_by : ChangeSeen → List Entry → List Entry
changed_by (Puts key value) entries = put key value entries
changed_by (Removes key) entries = without key entries

-- a map after changes, the first one first
abbrev pub changed_by_all : List ChangeSeen → List Entry → List Entry
changed_by_all [] entries = entries
changed_by_all (change ∷ changes) entries = changed_by_all changes (changed_by change entries)

-- a tree after a change, by the digest of nothing
abbrev pub tree_after : Digest → ChangeSeen → Shape → Outcome Shape
tree_after nothing (Puts key value) tree = tree_with_value key value tree
tree_after nothing (Removes key) tree = tree_without nothing key tree

-- a tree after changes, the first one first
abbrev pub tree_after_all : Digest → List ChangeSeen → Shape → Outcome Shape
tree_after_all nothing [] tree = Ok tree
tree_after_all nothing (change ∷ changes) tree = tree_after nothing change tree >>= tree_after_all nothing changes

-- whether a tree has the old root and, after the changes, the new one
abbrev pub transition_verdict : MapHashes → Digest → Digest → List ChangeSeen → Shape → Outcome Bool
transition_verdict h old new changes tree = has_digest h old tree >>= λ is_old.
    if is_old then (tree_after_all h.nothing changes tree >>= has_digest h new) else Ok false

-- Each map with the old root has the new one after the changes, or collides with the tree below bits that are named.
abbrev pub LeadsTo : MapHashes → Digest → Digest → Shape → List ChangeSeen → Type 0
LeadsTo h old new tree changes = (entries : List Entry) → IsMap entries → root_of_map h entries ≡ Ok old
    → (root_of_map h (changed_by_all changes entries) ≡ Ok new)
    ⊎ ((bits : List Bool) × CollidesBelow h 0 bits tree entries)

-- a tree after changes, if it has this root
abbrev pub changed_tree : MapHashes → Digest → List ChangeSeen → Shape → Outcome (Option Shape)
changed_tree h root changes tree = has_digest h root tree >>= λ is_it.
    if is_it then (tree_after_all h.nothing changes tree >>= λ new. Ok (Some new)) else Ok None

-- whether a tree has this root, and the tree after changes where it has
abbrev pub changed_from : MapHashes → Digest → List ChangeSeen → Shape → Outcome (Bool × Shape)
changed_from h root changes tree = has_digest h root tree >>= λ is_it.
    if is_it then (tree_after_all h.nothing changes tree >>= λ new. Ok (true, new)) else Ok (false, tree)

-- the digest and the rows of a tree, if there is one
abbrev pub rows_if : MapHashes → Option Shape → Outcome (Option (Digest × List ℕ))
rows_if h None = Ok None
rows_if h (Some tree) = rows_of h tree >>= λ made. Ok (Some made)

-- the new root and the rows of a tree after changes, if it has this root
abbrev pub changed_rows : MapHashes → Digest → List ChangeSeen → Shape → Outcome (Option (Digest × List ℕ))
changed_rows h root changes tree = changed_tree h root changes tree >>= rows_if h

-- what a call found, its rows by their bytes
abbrev pub rows_found : {A : Type 0} → (A → List ℕ) → Option (Digest × A) → Option (Digest × List ℕ)
rows_found items None = None
rows_found items (Some made) = Some (made.0, items made.1)

-- Each map with the old root has the new tree's after the changes, or collides with the tree below bits that are named.
abbrev pub LeadsOn : MapHashes → Digest → Shape → List ChangeSeen → Shape → Type 0
LeadsOn h old tree changes new = (root : Digest) → shape_digest h new ≡ Ok root → LeadsTo h old root tree changes
