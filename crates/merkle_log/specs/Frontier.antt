-- The roots of the complete trees of a list, which are all that its root and its growth need.
use Rattle.std.specs.Prelude.{count_ones, ◌≡◌, ◌<◌, ◌≤◌, ◌^◌, ◌+◌, ◌/◌, ◌%◌, ℕ, zero, suc, ◌-◌, ◌==◌, if◌then◌else◌, List, [], ◌∷◌, ◌++◌, length, map, get_or, Ok, Err}
use Rattle.ark_base.specs.declared.error.Error.{Error}
use Rattle.ark_base.specs.Outcome.{Outcome, ◌>>=◌}
use Rattle.ark_base.specs.Reading.{Reading, reading_outcome}
use Rattle.ark_base.specs.Spelling.{word_at}
use Rattle.merkle_log.specs.Received.{digests_in}
use Rattle.merkle_log.specs.Walk.{index_up, joined}
use Rattle.ark_paths.specs.Pair.{Digest}
use Rattle.merkle_log.specs.Log.{NodeHash}

-- the joined pairs of a row, where the last of an odd number has none
abbrev pub complete_pairs : {A : Type 0} → (A → A → A) → List A → List A
complete_pairs join [] = []
complete_pairs join (a ∷ []) = []
complete_pairs join (a ∷ b ∷ rest) = join a b ∷ complete_pairs join rest

-- The hashes of the complete trees into which fewer than 2 ^ k values fall, the largest first: those of the joined
-- pairs, and behind them the last of an odd number of values.
abbrev pub frontier : {A : Type 0} → (A → A → A) → A → ℕ → List A → List A
frontier join none zero xs = []
frontier join none (suc k) xs =
    frontier join none k (complete_pairs join xs) ++ (if length xs % 2 == 1 then (get_or xs (length xs - 1) none
    ∷ []) else [])

-- a frontier: its hasher, the root of no digests, how many digests there are, and its roots
pub record FrontierValue (T : Type 0) : Type 0 where
  pub hasher : T
  pub empty : Digest
  pub size : ℕ
  pub peaks : List Digest

-- These are the roots of the complete trees of the digests.
pub record IsFrontier (hash : NodeHash) (digests : List Digest) (size : ℕ) (peaks : List Digest) : Type 0 where
  pub size_is : length digests ≡ size
  pub peaks_are : (empty : Digest) → frontier (joined hash) (Ok empty) (length digests) (map Ok digests) ≡ map Ok peaks

-- A row of a tree has these roots of complete trees, however many levels are looked at.
pub record HasPeaks (hash : NodeHash) (row : List (Outcome Digest)) (peaks : List Digest) : Type 0 where
  pub at : (empty : Digest) (levels : ℕ) → length row < 2 ^ levels
      → frontier (joined hash) (Ok empty) levels row ≡ map Ok peaks

-- the last root but some
abbrev pub peak_back : List Digest → ℕ → Digest
peak_back peaks k = get_or peaks (length peaks - 1 - k) []

-- A digest behind so many others makes more with the last roots, one behind the other, as long as the number of trees
-- of that height is odd. There the hash refuses a pair with this error.
pub record RefusesPeak (hash : NodeHash) (size : ℕ) (peaks : List Digest) (digest : Digest) (error : Error) :
    Type 0 where
  pub level : ℕ
  pub made : List Digest
  pub first : get_or made 0 [] ≡ digest
  pub odd : (k : ℕ) → k ≤ level → index_up k size % 2 ≡ 1
  pub hashed : (k : ℕ) → k < level → hash (peak_back peaks k) (get_or made k []) ≡ Ok (get_or made (suc k) [])
  pub refused : hash (peak_back peaks level) (get_or made level []) ≡ Err error

-- A list of so many more digests can stand behind one of this size: the size is a multiple of each of its trees' sizes,
-- so that no tree of the first list is joined with a part of one of the second.
pub record CanJoin (size more : ℕ) : Type 0 where
  pub fits : size + more < 2 ^ 64
  pub aligned : (level : ℕ) → 2 ^ level ≤ more → size % 2 ^ level ≡ 0

-- Of a list that comes behind another, the first trees stand in the frontier, and the others wait.
pub record IsJoinedUpTo (hash : NodeHash) (digests more : List Digest) (at waits : ℕ × List Digest) : Type 0 where
  pub first : List Digest
  pub last : List Digest
  pub is : more ≡ first ++ last
  pub done : IsFrontier hash (digests ++ first) at.0 at.1
  pub left : IsFrontier hash last waits.0 waits.1

-- A list's first trees are put behind another list by their roots. Of what the next one's root makes with the last
-- roots the hash refuses a pair with this error.
pub record RefusesTree (hash : NodeHash) (own other : ℕ × List Digest) (error : Error) : Type 0 where
  pub at : ℕ × List Digest
  pub waits : ℕ × List Digest
  pub level : ℕ
  pub joined : (digests more : List Digest) → IsFrontier hash digests own.0 own.1
      → IsFrontier hash more other.0 other.1 → IsJoinedUpTo hash digests more at waits
  pub refused : RefusesPeak hash (at.0 / 2 ^ level) at.1 (get_or waits.1 0 []) error

-- ---- bytes

-- the frontier with this hasher and root of no digests that has a count and roots
abbrev pub frontier_of : {T : Type 0} → T → Digest → ℕ × List Digest → FrontierValue T
frontier_of hasher empty read = record { hasher = hasher; empty = empty; size = read.0; peaks = read.1 }

-- the count and the roots that bytes spell: the count as a word, as many digests as it has ones, and nothing else
abbrev pub peaks_in : {V : Type 0} → (List ℕ → Reading V) → (V → Digest) → List ℕ → Outcome (ℕ × List Digest)
peaks_in reads digest bytes = do
  size ← reading_outcome (word_at bytes)
  peaks ← digests_in reads digest (count_ones size.0) size.1
  Ok (size.0, peaks)

-- the frontier that bytes spell
abbrev pub frontier_in : {T V : Type 0} → (List ℕ → Reading V) → (V → Digest) → T → Digest → List ℕ
    → Outcome (FrontierValue T)
frontier_in reads digest hasher empty bytes = peaks_in reads digest bytes >>= λ read. Ok (frontier_of hasher empty read)
