-- Trees that hide what some keys do not need.
use Rattle.std.specs.Prelude.{◌≡◌, ◌⊎◌, ◌<◌, ℕ, suc, Bool, true, false, if◌then◌else◌, List, [], ◌∷◌, IsOk, Ok}
use Rattle.std.specs.List.{filter, list_any}
use Rattle.std.specs.Str.{bytes_eq}
use Rattle.ark_base.specs.Outcome.{Outcome, ◌>>=◌}
use Rattle.merkle_map.specs.Map.{Key, Digest, Entry, MapHashes, has_bit, key_bits}
use Rattle.merkle_map.specs.Tree.{Shape, Empty, One, Fork, Hidden, shape_digest, Shows}
use Rattle.merkle_map.specs.Changes.{known_at, tree_without}
use Rattle.merkle_map.specs.Kept.{changed_key}
use Rattle.merkle_map.specs.Transition.{ChangeSeen, tree_after_all}

-- a fork, hidden unless its digest is that of nothing; another tree as it is
abbrev pub covered : MapHashes → Shape → Outcome Shape
covered h Empty = Ok Empty
covered h (One entry) = Ok (One entry)
covered h (Fork left right) = shape_digest h (Fork left right) >>= λ digest. if bytes_eq digest h.nothing
    then (covered h left >>= λ l. covered h right >>= λ r. Ok (Fork l r))
    else Ok (Hidden digest)
covered h (Hidden digest) = Ok (Hidden digest)

-- what stands beside the ways of all keys: hidden, or with its top shown
abbrev pub aside : MapHashes → Bool → Shape → Outcome Shape
aside h false shape = covered h shape
aside h true Empty = Ok Empty
aside h true (One entry) = Ok (One entry)
aside h true (Fork left right) = covered h left >>= λ l. covered h right >>= λ r. Ok (Fork l r)
aside h true (Hidden digest) = Ok (Hidden digest)

-- the keys that have this bit
abbrev pub keys_with : Bool → ℕ → List Key → List Key
keys_with bit level keys = filter (λ key. has_bit bit level key) keys

-- whether a list has a key
abbrev pub has_key : Key → List Key → Bool
has_key key keys = list_any (λ own. bytes_eq own key) keys

-- whether the keys are those of all entries of a tree some levels below the root, which hides nothing
abbrev pub clears : ℕ → List Key → Shape → Bool
clears level keys Empty = true
clears level keys (One entry) = has_key entry.key keys
clears level [] (Fork left right) = false
clears level (key ∷ keys) (Fork left right) = if clears (suc level) (keys_with false level (key ∷ keys)) left
    then clears (suc level) (keys_with true level (key ∷ keys)) right else false
clears level keys (Hidden digest) = false

-- whether the top of a side is shown, for removals: it has no key, and the keys clear the other side
abbrev pub is_needed : Bool → List Key → ℕ → List Key → Shape → Bool
is_needed tops [] level keys other = if tops then clears level keys other else false
is_needed tops (key ∷ own) level keys other = false

-- A tree some levels below the root, without what no key's way meets. The top of what has no key is shown as stated;
-- `tops` shows those below that removals need.
abbrev pub pruned : MapHashes → Bool → Bool → ℕ → List Key → Shape → Outcome Shape
pruned h tops is_shown level [] shape = aside h is_shown shape
pruned h tops is_shown level (key ∷ keys) Empty = Ok Empty
pruned h tops is_shown level (key ∷ keys) (One entry) = Ok (One entry)
pruned h tops is_shown level (key ∷ keys) (Hidden digest) = Ok (Hidden digest)
pruned h tops is_shown level (key ∷ keys) (Fork left right) =
    let on_left = keys_with false level (key ∷ keys) in
    let on_right = keys_with true level (key ∷ keys) in
    pruned h tops (is_needed tops on_left (suc level) on_right right) (suc level) on_left left >>= λ l.
    pruned h tops (is_needed tops on_right (suc level) on_left left) (suc level) on_right right >>= λ r. Ok (Fork l r)

-- Forks stand above the last bit of a key.
abbrev pub FitsKeys : ℕ → Shape → Type 0
FitsKeys level Empty = Unit {0}
FitsKeys level (One entry) = Unit {0}
FitsKeys level (Fork left right) = (level < key_bits) × FitsKeys (suc level) left × FitsKeys (suc level) right
FitsKeys level (Hidden digest) = Unit {0}

-- The list has the key.
abbrev pub IsAmong : Key → List Key → Type 0
IsAmong key [] = ⊥
IsAmong key (first ∷ keys) = (first ≡ key) ⊎ IsAmong key keys

-- The new tree has the same at each of the keys.
abbrev pub KnowsSame : List Key → Shape → Shape → Type 0
KnowsSame keys old new = (key : Key) → IsAmong key keys → known_at 0 key new ≡ known_at 0 key old

-- The new tree shows each map that the old one shows.
abbrev pub ShowsSame : MapHashes → Shape → Shape → Type 0
ShowsSame h old new = (entries : List Entry) → Shows h 0 old entries → Shows h 0 new entries

-- Each of the keys can be removed from the tree.
abbrev pub CanLose : Digest → List Key → Shape → Type 0
CanLose nothing keys shape = (key : Key) → IsAmong key keys → IsOk (tree_without nothing key shape)

-- Each change is of one of the keys.
abbrev pub AreAmong : List Key → List ChangeSeen → Type 0
AreAmong keys [] = Unit {0}
AreAmong keys (change ∷ changes) = IsAmong (changed_key change) keys × AreAmong keys changes

-- The tree shows what changes of the keys need, however many, in any order.
abbrev pub CanChange : Digest → List Key → Shape → Type 0
CanChange nothing keys shape = (changes : List ChangeSeen) → AreAmong keys changes
    → IsOk (tree_after_all nothing changes shape)
