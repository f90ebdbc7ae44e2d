-- Maps that are kept in memory: entries of 64 bytes, and forks of 48, each behind those that stand below it.
use Rattle.std.specs.Prelude.{◌≡◌, ◌⊎◌, ◌<◌, ◌≤◌, ◌+◌, ◌*◌, ℕ, List, length, get_or, take, drop, replicate, [], ◌++◌, Ok}
use Rattle.ark_base.specs.Digits.{number_of_bytes}
use Rattle.ark_base.specs.Outcome.{Outcome}
use Rattle.merkle_map.specs.Changes.{entry_of}
use Rattle.merkle_map.specs.Kept.{IsTreeOf}
use Rattle.merkle_map.specs.Map.{Digest, Entry, MapHashes}
use Rattle.merkle_map.specs.Tree.{Shape, Empty, One, Fork, Hidden, shape_digest}
use Rattle.kept_map.specs.declared.head.Head.{Head}

-- the hashes of a map by that of an entry's 64 bytes and that of two digests, which refuse nothing
abbrev pub kept_hashes : (List ℕ → List ℕ) → (List ℕ → List ℕ → List ℕ) → Digest → MapHashes
kept_hashes leaf node nothing = record {
  nothing = nothing;
  leaf = λ key value. Ok (leaf (key ++ value));
  pair = λ left right. Ok (node left right);
}

-- the entry at a place: 32 bytes of its key, 32 of its value
abbrev pub entry_in : List (List ℕ) → ℕ → Entry
entry_in entries k = entry_of (take 32 (get_or entries k [])) (drop 32 (get_or entries k []))

-- the digest of the fork at a place, or 32 zeros where it is not hashed yet
abbrev pub kept_digest : List (List ℕ) → ℕ → Digest
kept_digest forks k = take 32 (get_or forks k [])

-- The number of what stands on the left below a fork, in 8 bytes, the least first: 0 is nothing, 2 k + 1 the entry at
-- k, 2 k + 2 the fork at k.
abbrev pub left_at : List (List ℕ) → ℕ → ℕ
left_at forks k = number_of_bytes (take 8 (drop 32 (get_or forks k [])))

-- the number of what stands on the right
abbrev pub right_at : List (List ℕ) → ℕ → ℕ
right_at forks k = number_of_bytes (drop 40 (get_or forks k []))

-- A digest is that of the tree, or says that the tree is not hashed yet.
abbrev pub IsKeptFor : Outcome Digest → Digest → Type 0
IsKeptFor outcome digest = (digest ≡ replicate 32 0) ⊎ (outcome ≡ Ok digest)

-- The tree lies at the part of a number; each fork stands before the one above it.
abbrev pub LaidAt : MapHashes → List (List ℕ) → List (List ℕ) → ℕ → ℕ → Shape → Type 0
LaidAt h entries forks count number Empty = number ≡ 0
LaidAt h entries forks count number (One entry) =
    (k : ℕ) × (number ≡ 2 * k + 1) × (k < length entries) × (entry_in entries k ≡ entry)
LaidAt h entries forks count number (Fork left right) =
    (k : ℕ) × (number ≡ 2 * k + 2) × (k < count)
    × IsKeptFor (shape_digest h (Fork left right)) (kept_digest forks k)
    × LaidAt h entries forks k (left_at forks k) left × LaidAt h entries forks k (right_at forks k) right
LaidAt h entries forks count number (Hidden digest) = ⊥

-- how many forks a tree has
abbrev pub fork_count : Shape → ℕ
fork_count (Fork left right) = 1 + (fork_count left + fork_count right)
fork_count tree = 0

-- Memory keeps the map of these entries under a head: the head says how many entries and forks are there, and the tree
-- of the map lies at the top that it names.
pub record KeepsMap (h : MapHashes) (entries forks : List (List ℕ)) (head : Head) (xs : List Entry) : Type 0 where
  pub entries_room : head.entries ≤ length entries
  pub forks_room : head.forks ≤ length forks
  pub tree : Shape
  pub lies : LaidAt h (take head.entries entries) (take head.forks forks) head.forks head.top tree
  pub count : fork_count tree ≤ head.forks
  pub is : IsTreeOf xs tree
