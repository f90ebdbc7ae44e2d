-- Multi-proofs: one proof that several leaves stand in a log (over the trees of RFC 9162, section 2.1).
--
-- The place `place` of a level holds the 2 ^ level leaves from place * 2 ^ level on, or as many as there are. The two
-- places below it are place + place and place + place + 1, of which the second may have no leaf.
use Rattle.std.specs.Prelude.{ℕ, zero, suc, ◌+◌, ◌-◌, ◌*◌, ◌^◌, ◌≤◌, ◌==◌, ◌&&◌, not, nat_lt, Bool, true, false, if◌then◌else◌, List, [], ◌∷◌, ◌++◌, length, map, take, drop, get_or, Option, Some, None, Ok, Err}
use Rattle.ark_base.specs.Outcome.{Outcome, ◌>>=◌}
use Rattle.ark_base.specs.declared.error.Error.TheVariants.{SerializationError}
use Rattle.ark_base.specs.declared.error.SerializationError.TheVariants.{InvalidData}
use Rattle.ark_paths.specs.Pair.{Digest, Hashes, digest_eq}
use Rattle.ark_paths.specs.Root.{all_hashes}
use Rattle.merkle_log.specs.Trees.{node}
use Rattle.merkle_log.specs.Walk.{joined}
use Rattle.merkle_log.specs.Log.{NodeHash}
use Rattle.merkle_log.specs.Edge.{all_of, path_behind}

-- the first leaf of the second place below a place, one level above these two
abbrev pub middle : ℕ → ℕ → ℕ
middle level place = (place + place + 1) * 2 ^ level

-- whether there is no index
abbrev pub is_none : List ℕ → Bool
is_none [] = true
is_none (index ∷ rest) = false

-- how many of the first indexes are below a number: of rising ones, how many there are
abbrev pub count_below : ℕ → List ℕ → ℕ
count_below bound [] = 0
count_below bound (index ∷ rest) = if nat_lt index bound then suc (count_below bound rest) else 0

-- whether indexes rise, from one number on and below another
abbrev pub rise_below : ℕ → ℕ → List ℕ → Bool
rise_below from end [] = true
rise_below from end (index ∷ rest) = not (nat_lt index from) && nat_lt index end && rise_below (suc index) end rest

-- whether these are the indexes of a multi-proof: one at least, rising, each below the size
abbrev pub are_multi_indexes : ℕ → List ℕ → Bool
are_multi_indexes size indexes = not (is_none indexes) && rise_below 0 size indexes

-- the leaves' digests at indexes
abbrev pub digests_at : List Digest → List ℕ → List Digest
digests_at digests indexes = map (λ index. get_or digests index []) indexes

-- ---- the proof

-- A multi-proof: the hashes of the largest subtrees below a place that hold none of the indexes, from left to right.
abbrev pub hashes_around : {A : Type 0} → (A → A → A) → A → ℕ → ℕ → List ℕ → List A → List A
hashes_around join none zero place indexes xs =
    if is_none indexes then (node join none zero place xs ∷ []) else []
hashes_around join none (suc level) place indexes xs =
    let count = count_below (middle level place) indexes in
    let left = hashes_around join none level (place + place) (take count indexes) xs in
    let right = hashes_around join none level (place + place + 1) (drop count indexes) xs in
    if is_none indexes then (node join none (suc level) place xs ∷ [])
    else (if nat_lt (middle level place) (length xs) then (left ++ right)
    else (hashes_around join none level (place + place) indexes xs))

-- how many these are, of so many leaves
abbrev pub count_around : ℕ → ℕ → ℕ → List ℕ → ℕ
count_around size zero place indexes = if is_none indexes then 1 else 0
count_around size (suc level) place indexes =
    let count = count_below (middle level place) indexes in
    let left = count_around size level (place + place) (take count indexes) in
    let right = count_around size level (place + place + 1) (drop count indexes) in
    if is_none indexes then 1
    else (if nat_lt (middle level place) size then (left + right)
    else (count_around size level (place + place) indexes))

-- how many pairs are hashed to check it
abbrev pub pairs_around : ℕ → ℕ → ℕ → List ℕ → ℕ
pairs_around size zero place indexes = 0
pairs_around size (suc level) place indexes =
    let count = count_below (middle level place) indexes in
    let left = pairs_around size level (place + place) (take count indexes) in
    let right = pairs_around size level (place + place + 1) (drop count indexes) in
    if is_none indexes then 0
    else (if nat_lt (middle level place) size then (left + right + 1)
    else (pairs_around size level (place + place) indexes))

-- the hash of a place of a list's tree
abbrev pub place_hash : NodeHash → Digest → ℕ → ℕ → List Digest → Outcome Digest
place_hash hash empty level place digests = node (joined hash) (Ok empty) level place (map Ok digests)

-- the hashes around indexes below a place of a list's tree
abbrev pub place_hashes : NodeHash → Digest → ℕ → ℕ → List ℕ → List Digest → List (Outcome Digest)
place_hashes hash empty level place indexes digests =
    hashes_around (joined hash) (Ok empty) level place indexes (map Ok digests)

-- hashes behind digests, or the first error
abbrev pub put_behind : List Digest → List (Outcome Digest) → Outcome (List Digest)
put_behind digests hashes = all_of hashes >>= path_behind digests

-- All complete places of so many leaves are held.
abbrev pub HoldsAll : (ℕ → ℕ → Type 0) → ℕ → Type 0
HoldsAll holds size = (level place : ℕ) → (place + 1) * 2 ^ level ≤ size → holds level place

-- the multi-proof of indexes of a list
abbrev pub multi_proof : NodeHash → Digest → List ℕ → List Digest → List (Outcome Digest)
multi_proof hash empty indexes digests = place_hashes hash empty (length digests) 0 indexes digests

-- how many digests it has: a function of the size and the indexes alone
abbrev pub multi_length : ℕ → List ℕ → ℕ
multi_length size indexes = count_around size size 0 indexes

-- ---- its check

-- what is known below a place: some leaves' indexes and their digests, and a proof's digests from there on
pub record Known : Type 0 where
  pub indexes : List ℕ
  pub leaves : List Digest
  pub proof : List Digest

-- what some indexes, digests of leaves and digests of a proof tell, as contracts see digests
abbrev pub known_of : {A : Type 0} → (A → Digest) → List ℕ → List A → List A → Known
known_of numbers indexes leaves proof =
    record { indexes = indexes; leaves = map numbers leaves; proof = map numbers proof }

-- the digest of a place: one that was hashed, or else the one that is known for it
abbrev pub digest_known : {A : Type 0} → (A → Digest) → Known → Option A → Digest
digest_known numbers known None = if is_none known.indexes then (get_or known.proof 0 []) else (get_or known.leaves 0
    [])
digest_known numbers known (Some hashed) = numbers hashed

-- the part of it for the first of the two places below
abbrev pub known_left : ℕ → ℕ → Known → Known
known_left level place known =
    let count = count_below (middle level place) known.indexes in
    record { indexes = take count known.indexes; leaves = take count known.leaves; proof = known.proof }

-- the part for the second one, behind the digests that the first one uses
abbrev pub known_right : ℕ → ℕ → ℕ → Known → Known
known_right size level place known =
    let count = count_below (middle level place) known.indexes in
    let used = count_around size level (place + place) (take count known.indexes) in
    record { indexes = drop count known.indexes; leaves = drop count known.leaves; proof = drop used known.proof }

-- The hash of a place: the proof's next digest where no index is below it, a leaf's digest where it is that leaf, and
-- else the hash of the two places below.
abbrev pub known_hash : NodeHash → ℕ → ℕ → ℕ → Known → Outcome Digest
known_hash hash size zero place known =
    if is_none known.indexes then (Ok (get_or known.proof 0 [])) else (Ok (get_or known.leaves 0 []))
known_hash hash size (suc level) place known =
    let left = known_hash hash size level (place + place) (known_left level place known) in
    let right = known_hash hash size level (place + place + 1) (known_right size level place known) in
    if is_none known.indexes then (Ok (get_or known.proof 0 []))
    else (if nat_lt (middle level place) size then (joined hash left right)
    else (known_hash hash size level (place + place) known))

-- whether these can be the indexes of a multi-proof, with so many leaves, one for each, and so many digests as it has
abbrev pub have_counts : ℕ → List ℕ → ℕ → ℕ → Bool
have_counts size indexes leaves proof =
    are_multi_indexes size indexes && (leaves == length indexes) && (proof == multi_length size indexes)

-- the same of what is known below the root
abbrev pub has_form : ℕ → Known → Bool
has_form size known = have_counts size known.indexes (length known.leaves) (length known.proof)

-- how many pairs the check hashes: one fewer than the leaves and the proof have digests
abbrev pub multi_pairs : ℕ → Known → ℕ
multi_pairs size known = if has_form size known then (length known.leaves + length known.proof - 1) else 0

-- whether a multi-proof leads from leaves' digests at indexes to the root of a size
abbrev pub known_verdict : NodeHash → Digest → ℕ → Known → Outcome Bool
known_verdict hash root size known =
    if has_form size known then (known_hash hash size size 0 known >>= λ top. Ok (digest_eq top root))
    else (Ok false)

-- the same from leaves, which are hashed only where the counts fit
abbrev pub leaves_verdict : {A : Type 0} → Hashes A → Digest → ℕ → List ℕ → List A → List Digest → Outcome Bool
leaves_verdict hashes root size indexes leaves proof =
    if have_counts size indexes (length leaves) (length proof)
    then (all_hashes hashes.leaf leaves >>= λ digests.
    known_verdict hashes.pair.upper root size (record { indexes = indexes; leaves = digests; proof = proof }))
    else (Ok false)

-- the verdict on a proof that was read, where these are indexes of one and each has a leaf
abbrev pub received_leaves : {A : Type 0} → Hashes A → Digest → ℕ → List ℕ → List A → Outcome (List Digest)
    → Outcome Bool
received_leaves hashes root size indexes leaves proof =
    if are_multi_indexes size indexes && (length leaves == length indexes)
    then (proof >>= leaves_verdict hashes root size indexes leaves)
    else (Err (SerializationError InvalidData))
