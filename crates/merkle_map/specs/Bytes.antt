-- The bytes of a tree whose digests have 32 bytes.
use Rattle.std.specs.Prelude.{◌≡◌, ℕ, zero, suc, ◌+◌, ◌==◌, nat_lt, List, [], ◌∷◌, ◌++◌, length, take, drop, if◌then◌else◌, Bool, true, false, not, ◌&&◌, Ok, Err}
pub use Rattle.ark_base.specs.Digits.{itself}
use Rattle.ark_base.specs.Outcome.{Outcome, ◌>>=◌}
use Rattle.ark_base.specs.declared.error.Error.{Error}
use Rattle.ark_base.specs.declared.error.Error.TheVariants.{SerializationError}
use Rattle.ark_base.specs.declared.error.SerializationError.TheVariants.{Truncated, InvalidData}
use Rattle.merkle_map.specs.Map.{has_bit}
use Rattle.merkle_map.specs.Tree.{Shape, Empty, One, Fork, Hidden, weight, IsKey, StandsAt}

-- A byte for what comes, then that: 0 a key and its value and 1 the left side and the right one, as they are hashed; 2
-- nothing; 3 a digest.
abbrev pub spelled : Shape → List ℕ
spelled Empty = 2 ∷ []
spelled (One entry) = 0 ∷ (entry.key ++ entry.value)
spelled (Fork left right) = 1 ∷ (spelled left ++ spelled right)
spelled (Hidden digest) = 3 ∷ digest

-- ---- reading

-- the error of bytes that end too early
abbrev pub truncated : Error
truncated = SerializationError Truncated

-- the error of bytes that no tree has
abbrev pub invalid : Error
invalid = SerializationError InvalidData

-- 32 bytes and those behind them
abbrev pub string_read : List ℕ → Outcome (List ℕ × List ℕ)
string_read bytes = if nat_lt (length bytes) 32 then Err truncated else Ok (take 32 bytes, drop 32 bytes)

-- the outcome of a call that reads so
abbrev pub string_outcome : List ℕ → Outcome (List ℕ) → Outcome (List ℕ × List ℕ)
string_outcome bytes (Ok value) = Ok (value, drop 32 bytes)
string_outcome bytes (Err error) = Err error

-- an entry and the bytes behind it
abbrev pub entry_read : List ℕ → Outcome (Shape × List ℕ)
entry_read bytes = string_read bytes >>= λ key. string_read key.1 >>= λ value.
    Ok (One (record { key = key.0; value = value.0 }), value.1)

-- hidden entries and the bytes behind them
abbrev pub digest_read : List ℕ → Outcome (Shape × List ℕ)
digest_read bytes = string_read bytes >>= λ digest. Ok (Hidden digest.0, digest.1)

-- what comes by its byte, where the sides of a fork are read so
abbrev pub tagged : ℕ → List ℕ → Outcome (Shape × List ℕ) → Outcome (Shape × List ℕ)
tagged tag rest sides = if tag == 0 then entry_read rest else if tag == 1 then sides else
    if tag == 2 then Ok (Empty, rest) else if tag == 3 then digest_read rest else Err invalid

-- A tree and the bytes behind it, or the first fault from the left; forks may stand one below the other so often.
abbrev pub tree_read : ℕ → List ℕ → Outcome (Shape × List ℕ)
tree_read depth [] = Err truncated
tree_read zero (tag ∷ rest) = tagged tag rest (Err invalid)
tree_read (suc depth) (tag ∷ rest) =
    tagged tag rest (tree_read depth rest >>= λ left. tree_read depth left.1 >>= λ right.
    Ok (Fork left.0 right.0, right.1))

-- ---- trees that are spelled

-- all entries have this bit
abbrev pub all_have : Bool → ℕ → Shape → Bool
all_have bit level Empty = true
all_have bit level (One entry) = has_bit bit level entry.key
all_have bit level (Fork left right) = all_have bit level left && all_have bit level right
all_have bit level (Hidden digest) = true

-- each entry is on its key's way, and a fork is above two entries or more, or may be
abbrev pub is_placed : ℕ → Shape → Bool
is_placed level Empty = true
is_placed level (One entry) = true
is_placed level (Fork left right) = not (nat_lt (weight left + weight right) 2)
    && ((all_have false level left && all_have true level right)
    && (is_placed (suc level) left && is_placed (suc level) right))
is_placed level (Hidden digest) = true

-- the tree that all the bytes spell, or the first fault: bytes that end too early or have no meaning; else an entry or
-- a fork out of place; else bytes that are left
abbrev pub tree_of_bytes : List ℕ → Outcome Shape
tree_of_bytes bytes = tree_read 256 bytes >>= λ found. if is_placed 0 found.0 then
    (if nat_lt 0 (length found.1) then Err invalid else Ok found.0) else Err invalid

-- The tree's keys, values and digests have 32 bytes.
abbrev pub IsOf32 : Shape → Type 0
IsOf32 Empty = Unit {0}
IsOf32 (One entry) = IsKey entry.key × (length entry.value ≡ 32)
IsOf32 (Fork left right) = IsOf32 left × IsOf32 right
IsOf32 (Hidden digest) = length digest ≡ 32

-- The bytes of each tree that stands at the root are read as that tree.
abbrev pub ReadsBack : List ℕ → Type 0
ReadsBack bytes = (tree : Shape) → StandsAt [] tree → IsOf32 tree → bytes ≡ spelled tree → tree_of_bytes bytes ≡ Ok tree
