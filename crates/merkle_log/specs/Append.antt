-- A digest is appended to a log.
use Rattle.std.specs.Prelude.{◌≡◌, ◌<◌, ◌+◌, min, count_ones, ◌≤◌, ◌-◌, ◌%◌, nat_lt, ◌++◌, ℕ, suc, if◌then◌else◌, List, [], ◌∷◌, length, take, get_or, Ok, Err}
use Rattle.ark_base.specs.declared.error.Error.{Error}
use Rattle.ark_paths.specs.Pair.{Digest, Hashes}
use Rattle.ark_paths.specs.Root.{all_hashes}
use Rattle.merkle_log.specs.Log.{NodeHash, LogValue, inclusion_path, consistency_path, root_at, with_more}
use Rattle.merkle_log.specs.Stored.{StoredValue, stored_count, row_at, row_pairs, IsStored}

-- The digests that an appended one makes: itself, and as long as the row has an odd number, the hash of the row's last
-- digest and the one made there, for the row above.
pub record IsCarried (hash : NodeHash) (rows : ℕ → List Digest) (digest : Digest) (made : List Digest) : Type 0 where
  pub some : 0 < length made
  pub first : get_or made 0 [] ≡ digest
  pub odd : (level : ℕ) → suc level < length made → length (rows level) % 2 ≡ 1
  pub hashed : (level : ℕ) → suc level < length made
      → hash (get_or (rows level) (length (rows level) - 1) []) (get_or made level []) ≡ Ok (get_or made (suc level) [])
  pub even : length (rows (length made - 1)) % 2 ≡ 0

-- a row with its digest among those
abbrev pub pushed_row : (ℕ → List Digest) → List Digest → ℕ → List Digest
pushed_row rows made level =
    if nat_lt level (length made) then (rows level ++ (get_or made level [] ∷ [])) else (rows level)

-- A log's list of this size is followed by the digests that an appended one makes.
pub record Completes (hash : NodeHash) (size : ℕ) (before : List Digest) (digest : Digest) (after : List Digest) :
    Type 0 where
  pub made : List Digest
  pub carried : IsCarried hash (row_at (record { size = size; digests = before })) digest made
  pub is : after ≡ before ++ made

-- The list has as many digests as its size asks for.
abbrev pub IsWholeList : StoredValue → Type 0
IsWholeList stored = length stored.digests ≡ stored_count stored.size

-- A list is followed by more leaves.
pub record GrowsTo (old new : StoredValue) : Type 0 where
  pub size : old.size ≤ new.size
  pub front : take (stored_count old.size) new.digests ≡ old.digests

-- A list is followed by one more leaf's digest and those that it makes.
pub record Appends (hash : NodeHash) (old : StoredValue) (digest : Digest) (new : StoredValue) : Type 0 where
  pub made : List Digest
  pub carried : IsCarried hash (row_at old) digest made
  pub rows : (level : ℕ) → row_at new level ≡ pushed_row (row_at old) made level
  pub whole : IsWholeList new
  pub extends : GrowsTo old new

-- Up to a level a list's rows have the hashes of the pairs of the row below. The pairs of that level's row have this
-- error: that of the first pair that the hash refuses.
pub record RefusesRow (hash : NodeHash) (digests : List Digest) (error : Error) : Type 0 where
  pub rows : ℕ → List Digest
  pub level : ℕ
  pub lowest : rows 0 ≡ digests
  pub hashed : (k : ℕ) → k < level → row_pairs hash (rows k) ≡ Ok (rows (suc k))
  pub refused : row_pairs hash (rows level) ≡ Err error

-- The first of more leaves have hashes, and the hash refuses a pair of the list with these behind.
pub record RefusesLeaves {A : Type 0} (hashes : Hashes A) (digests : List Digest) (leaves : List A) (error : Error) :
    Type 0 where
  pub count : ℕ
  pub more : List Digest
  pub hashed : all_hashes hashes.leaf (take count leaves) ≡ Ok more
  pub refused : RefusesRow hashes.pair.upper (digests ++ more) error

-- An appended digest makes others up to a level, and there the hash refuses the pair of the row's last digest and the
-- one that was made.
pub record RefusesCarry (hash : NodeHash) (rows : ℕ → List Digest) (digest : Digest) (error : Error) : Type 0 where
  pub level : ℕ
  pub made : List Digest
  pub first : get_or made 0 [] ≡ digest
  pub odd : (k : ℕ) → k ≤ level → length (rows k) % 2 ≡ 1
  pub hashed : (k : ℕ) → k < level → hash (get_or (rows k) (length (rows k) - 1) []) (get_or made k [])
      ≡ Ok (get_or made (suc k) [])
  pub refused : hash (get_or (rows level) (length (rows level) - 1) []) (get_or made level []) ≡ Err error

-- how many pairs a log of so many leaves has hashed: each complete place above the leaves once
abbrev pub pair_count : ℕ → ℕ
pair_count size = size - count_ones size

-- a count of calls after more of them: past the largest `usize` it stays there
abbrev pub counted_after : ℕ → ℕ → ℕ
counted_after before more = min (before + more) 18446744073709551615

-- The roots and proofs of all sizes that a log had are as they were.
pub record KeepsSizes {T : Type 0} (hash : NodeHash) (old new : LogValue T) : Type 0 where
  pub roots : (size : ℕ) → size ≤ length old.digests → root_at hash new size ≡ root_at hash old size
  pub paths : (size index : ℕ) → size ≤ length old.digests → inclusion_path hash new.empty index (take size
      new.digests) ≡ inclusion_path hash old.empty index (take size old.digests)
  pub proofs : (first size : ℕ) → size ≤ length old.digests → consistency_path hash new.empty first (take size
      new.digests) ≡ consistency_path hash old.empty first (take size old.digests)

-- A log has one more leaf, which has a hash.
pub record HasLeaf {T A : Type 0} (hashes : Hashes A) (old : LogValue T) (leaf : A) (new : LogValue T) : Type 0 where
  pub digest : Digest
  pub hashed : hashes.leaf leaf ≡ Ok digest
  pub is : new ≡ with_more old (digest ∷ [])

-- A log has more leaves, which all have hashes.
pub record HasLeaves {T A : Type 0} (hashes : Hashes A) (old : LogValue T) (leaves : List A) (new : LogValue T) :
    Type 0 where
  pub digests : List Digest
  pub hashed : all_hashes hashes.leaf leaves ≡ Ok digests
  pub is : new ≡ with_more old digests

-- A log's list is followed by the digests of more leaves and those that they make.
pub record AppendsLeaves {A : Type 0} (hashes : Hashes A) (old : StoredValue) (leaves : List A) (new : StoredValue) :
    Type 0 where
  pub digests : List Digest
  pub hashed : all_hashes hashes.leaf leaves ≡ Ok digests
  pub first_row : row_at new 0 ≡ row_at old 0 ++ digests
  pub whole : IsWholeList new
  pub stored : IsStored hashes.pair.upper (row_at new)
