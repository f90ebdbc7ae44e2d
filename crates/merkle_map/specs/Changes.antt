-- What a tree has at a key, and what becomes of it with a value put or a key removed.
use Rattle.std.specs.Prelude.{◌≡◌, ◌-◌, ℕ, zero, suc, Bool, true, false, if◌then◌else◌, Option, Some, None, Ok, Err}
use Rattle.std.specs.Str.{bytes_eq}
use Rattle.ark_base.specs.Outcome.{Outcome, ◌>>=◌}
use Rattle.ark_base.specs.declared.error.Error.{Error}
use Rattle.ark_base.specs.declared.error.Error.TheVariants.{GenericError}
use Rattle.ark_base.specs.declared.error.Refusal.TheVariants.{HiddenTree}
use Rattle.merkle_map.specs.Map.{Key, Digest, Entry, bit_of, key_bits}
use Rattle.merkle_map.specs.Tree.{Shape, Empty, One, Fork, Hidden}

-- the error of a call that needs what a tree hides
abbrev pub hides : Error
hides = GenericError HiddenTree

-- a key with its value
abbrev pub entry_of : Key → Digest → Entry
entry_of key value = record { key = key; value = value }

-- the value of the only entry, if its key is this one
abbrev pub own_value : Key → Entry → Option Digest
own_value key entry = if bytes_eq entry.key key then Some entry.value else None

-- What a tree some levels below the root has at a key: the key's bits lead to an entry or to none.
abbrev pub known_at : ℕ → Key → Shape → Outcome (Option Digest)
known_at level key Empty = Ok None
known_at level key (One entry) = Ok (own_value key entry)
known_at level key (Fork left right) =
    if bit_of level key then known_at (suc level) key right else known_at (suc level) key left
known_at level key (Hidden digest) = Err hides

-- ---- a value is put

-- the tree of two entries with different keys, some levels below the root; so many bits are left
abbrev pub two_of : ℕ → ℕ → Entry → Entry → Shape
two_of zero level x y = Fork (One x) (One y)
two_of (suc bits) level x y = if bit_of level x.key
    then (if bit_of level y.key then Fork Empty (two_of bits (suc level) x y) else Fork (One y) (One x))
    else (if bit_of level y.key then Fork (One x) (One y) else Fork (two_of bits (suc level) x y) Empty)

-- the tree with a value at a key
abbrev pub with_value : ℕ → Entry → Shape → Outcome Shape
with_value level new Empty = Ok (One new)
with_value level new (One entry) =
    Ok (if bytes_eq entry.key new.key then One new else two_of (key_bits - level) level new entry)
with_value level new (Fork left right) = if bit_of level new.key
    then (with_value (suc level) new right >>= λ r. Ok (Fork left r))
    else (with_value (suc level) new left >>= λ l. Ok (Fork l right))
with_value level new (Hidden digest) = Err hides

-- ---- a key is removed

-- The tree of two sides, one of which may have lost an entry: an only entry stands alone. What is hidden beside it is
-- something where its digest is not that of nothing. Beside no entry, what is hidden would have to be known.
abbrev pub rejoined : Digest → Shape → Shape → Outcome Shape
rejoined nothing Empty Empty = Ok Empty
rejoined nothing Empty (One entry) = Ok (One entry)
rejoined nothing Empty (Hidden digest) = Err hides
rejoined nothing (One entry) Empty = Ok (One entry)
rejoined nothing (One entry) (Hidden digest) =
    if bytes_eq digest nothing then Err hides else Ok (Fork (One entry) (Hidden digest))
rejoined nothing (Hidden digest) Empty = Err hides
rejoined nothing (Hidden digest) (One entry) =
    if bytes_eq digest nothing then Err hides else Ok (Fork (Hidden digest) (One entry))
rejoined nothing (Hidden digest) (Hidden other) = Err hides
rejoined nothing left right = Ok (Fork left right)

-- The tree is that of both sides, beside another that is empty.
abbrev pub is_alone : Shape → Shape → Bool
is_alone Empty Empty = true
is_alone (One entry) Empty = true
is_alone tree beside = false

-- a tree after its two sides were joined
abbrev pub collapsed : Digest → Shape → Outcome Shape
collapsed nothing Empty = Ok Empty
collapsed nothing (One entry) = Ok (One entry)
collapsed nothing (Fork left right) = rejoined nothing left right
collapsed nothing (Hidden digest) = Ok (Hidden digest)

-- the tree that has lost the entry of a key
abbrev pub losing : Digest → ℕ → Key → Shape → Outcome Shape
losing nothing level key Empty = Ok Empty
losing nothing level key (One entry) = Ok (if bytes_eq entry.key key then Empty else One entry)
losing nothing level key (Fork left right) = if bit_of level key
    then (losing nothing (suc level) key right >>= λ r. rejoined nothing left r)
    else (losing nothing (suc level) key left >>= λ l. rejoined nothing l right)
losing nothing level key (Hidden digest) = Err hides

-- the tree that has lost the entry of a key, if it has one
abbrev pub losing_known : Digest → Key → Shape → Option Digest → Outcome Shape
losing_known nothing key shape None = Ok shape
losing_known nothing key shape (Some value) = losing nothing 0 key shape

-- ---- whole trees

-- the tree with a value at a key
abbrev pub tree_with_value : Key → Digest → Shape → Outcome Shape
tree_with_value key value shape = with_value 0 (entry_of key value) shape

-- the tree without a key; one that has nothing at the key stays as it is
abbrev pub tree_without : Digest → Key → Shape → Outcome Shape
tree_without nothing key shape = known_at 0 key shape >>= losing_known nothing key shape

-- The outcome is this tree, unless it is an error.
abbrev pub Becomes : Outcome Shape → Shape → Type 0
Becomes (Ok tree) new = tree ≡ new
Becomes (Err error) new = Unit {0}

-- the result of a call that leaves this tree
abbrev pub outcome_with : {A : Type 0} → Shape → Outcome A → Outcome Shape
outcome_with new (Ok value) = Ok new
outcome_with new (Err error) = Err error

-- something is there
abbrev pub is_there : Option Digest → Bool
is_there None = false
is_there (Some value) = true

-- whether a tree has an entry at a key
abbrev pub has_entry : Key → Shape → Outcome Bool
has_entry key shape = known_at 0 key shape >>= λ value. Ok (is_there value)
