-- What is read of a log's file: its head, and digests at positions.
use Rattle.std.proofs.Common.{zero, suc, ◌≡◌, ◌==◌, true, false, map, ℕ, ◌+◌, ◌*◌, ◌/◌, ◌<◌, ◌≤◌, ◌^◌, Bool, List, [], ◌∷◌, length, take, drop, get_or, Option, Some, None, Ok, Err, refl, ap, sym, ◌∙◌, subst, inl, inr, arith}
use Rattle.std.specs.Option.{is_some, option_map}
use Rattle.std.specs.Simd.{first_chunks}
use Rattle.std.proofs.lemmas.Bool.{cases_lt, le-ltb, lt-ltb}
use Rattle.std.proofs.lemmas.Bool.Decides.{nat_tests}
use Rattle.std.proofs.lemmas.List.{append-nil, drop-drop, get_or-take, length-map, length-take-le, take-take, take_all}
use Rattle.std.proofs.Math.Nat.{mul-le-mul_right}
use Rattle.ark_paths.specs.Pair.{Digest}
use Rattle.ark_trees.specs.Rfc6962.{node_of}
use Rattle.ark_base.specs.Outcome.{Outcome}
use Rattle.merkle_log.specs.Asked.{IsPeak}
use Rattle.merkle_log.specs.Log.{consistency_path, NodeHash}
use Rattle.merkle_log.specs.Kept.{front, has_front, stored_front, Keeps}
use Rattle.merkle_log.specs.Stored.{position, stored_count, row_at, IsStored}
use Rattle.merkle_log.specs.Walk.{index_up}
use Rattle.merkle_log.proofs.KeptPlaces.{above-up}
use Rattle.merkle_log.proofs.KeptRows.{fewer-first, fewer-hashed, rows-agree, stored-same}
use Rattle.merkle_log.proofs.Positions.{count-rises, level-fits, place-within, position-within, row_of-at, up-times}
use Rattle.merkle_log.proofs.Tests.{power-rises}
use Rattle.log_file.specs.Faults.{log_size, no_head, only_if}
use Rattle.log_file.specs.LogFile.{digest_count, file_head, slot_to_take, slots_head, stored_in}
use Rattle.log_file.specs.declared.fault.Fault.TheVariants.{NoLog, Short}
use Rattle.log_file.proofs.Pieces.{piece-cut}
use Rattle.log_store.specs.Overlay.{overlay}
use Rattle.log_store.specs.Spots.{spotted, AreSpotsOf}
use Rattle.log_store.specs.declared.spots.Spot.{Spot}
use Rattle.log_store.proofs.Overlaid.{overlay-long, overlay-own}
use Rattle.log_store.proofs.Spotted.{spotted-own}

-- ---- the head

-- The first 96 bytes say it.
pub head-read : (file bytes : List ℕ) → bytes ≡ take 96 (drop 0 file) → 96 ≤ length file
    → file_head bytes ≡ file_head file
head-read file bytes read long =
    let nil : bytes ≡ take 96 file = read in
    let all : length bytes ≡ 96 = ap length nil ∙ length-take-le 96 file long in
    let cut : (at : ℕ) → at + 32 ≤ 96 → take 32 (drop at bytes) ≡ take 32 (drop at file) = λ at le.
    ap (λ l. take 32 (drop at l)) (nil ∙ sym (append-nil (take 96 file))) ∙ piece-cut file [] at 32 96 le long in
    rw (
      le-ltb (length bytes) 96 (omega (arith, all)),
      le-ltb (length file) 96 long,
      cut 0 (omega arith),
      cut 32 (omega arith),
      cut 64 (omega arith),
    ) refl

-- and why there is none
pub none-read : (file bytes : List ℕ) → bytes ≡ take 96 (drop 0 file) → 96 ≤ length file
    → no_head bytes ≡ no_head file
none-read file bytes read long =
    let all : length bytes ≡ 96 = ap length read ∙ length-take-le 96 file long in
    let title : take 32 bytes ≡ take 32 file = ap (take 32) read ∙ take-take 32 96 file (omega arith) in
    rw (le-ltb (length bytes) 96 (omega (arith, all)), le-ltb (length file) 96 long, title) refl

-- and which slot may take the next size
pub slots-read : (file bytes : List ℕ) (size : ℕ) (root : Digest) → bytes ≡ take 96 (drop 0 file) → 96 ≤ length file
    → slot_to_take bytes size root ≡ slot_to_take file size root
slots-read file bytes size root read long =
    let cut : (at : ℕ) → at + 32 ≤ 96 → take 32 (drop at bytes) ≡ take 32 (drop at file) = λ at le.
    ap (λ l. take 32 (drop at l)) (read ∙ sym (append-nil (take 96 file))) ∙ piece-cut file [] at 32 96 le long in
    rw (cut 32 (omega arith), cut 64 (omega arith)) refl

-- and what its slots say, whatever the title
pub stated-read : (file bytes : List ℕ) → bytes ≡ take 96 (drop 0 file) → 96 ≤ length file
    → slots_head bytes ≡ slots_head file
stated-read file bytes read long =
    let cut : (at : ℕ) → at + 32 ≤ 96 → take 32 (drop at bytes) ≡ take 32 (drop at file) = λ at le.
    ap (λ l. take 32 (drop at l)) (read ∙ sym (append-nil (take 96 file))) ∙ piece-cut file [] at 32 96 le long in
    rw (cut 32 (omega arith), cut 64 (omega arith)) refl

-- and their title
pub title-read : (file bytes : List ℕ) → bytes ≡ take 96 (drop 0 file) → take 32 bytes ≡ take 32 file
title-read file bytes read = ap (take 32) read ∙ take-take 32 96 file (omega arith)

-- no slot is whole where none states a size
pub no-slot : (slots : Option (ℕ × Bool)) → is_some (option_map (λ head. head.0) slots) ≡ false → slots ≡ None
no-slot None none = refl
no-slot (Some head) none = absurd cc

pub size-none : (file : List ℕ) → file_head file ≡ None → log_size file ≡ Err (no_head file)
size-none file none = rw (none) refl

pub size-short : (file : List ℕ) → length file < 96 → log_size file ≡ Err NoLog
size-short file short = rw (lt-ltb (length file) 96 short) refl

pub size-of : (file : List ℕ) (size : ℕ) (second front : Bool) → file_head file ≡ Some (size, second)
    → has_front size (digest_count file) ≡ front → log_size file ≡ only_if front Short (Ok size)
size-of file size second front head is = rw (head, is) refl

-- ---- digests

pub length-chunks : (k : ℕ) (xs : List ℕ) → length (first_chunks 32 k xs) ≡ k
length-chunks zero xs = refl
length-chunks (suc k) xs = ap (λ n. suc n) (length-chunks k (drop 32 xs))

chunks-front : (k n : ℕ) (xs : List ℕ) → k ≤ n → take k (first_chunks 32 n xs) ≡ first_chunks 32 k xs
chunks-front zero n xs le = refl
chunks-front (suc k) zero xs le = absurd (omega arith)
chunks-front (suc k) (suc n) xs le = ap (λ l. take 32 xs ∷ l) (chunks-front k n (drop 32 xs) (omega arith))

chunk-at : (p n : ℕ) (xs : List ℕ) → p < n → get_or (first_chunks 32 n xs) p [] ≡ take 32 (drop (32 * p) xs)
chunk-at p zero xs below = absurd (omega arith)
chunk-at zero (suc n) xs below = refl
chunk-at (suc p) (suc n) xs below =
    let more : 32 + 32 * p ≡ 32 * suc p = omega arith in
    chunk-at p n (drop 32 xs) (omega arith) ∙ ap (take 32) (drop-drop (32 * p) 32 xs)
    ∙ ap (λ k. take 32 (drop k xs)) more

-- the digest at a position
pub stored-at : (size at : ℕ) (file : List ℕ) → at < stored_count size
    → take 32 (drop (96 + 32 * at) file) ≡ get_or (stored_in size file) at []
stored-at size at file below =
    sym (chunk-at at (stored_count size) (drop 96 file) below ∙ ap (take 32) (drop-drop (32 * at) 96 file))

-- ---- levels

pub level-low : (level size : ℕ) → size < 2 ^ 63 → 0 < index_up level size → level < 63
level-low level size fits some = elim (cases_lt level 63) [
  | inl low ↦ low
  | inr high ↦
      let top = power-rises 63 level high in
      let one = mul-le-mul_right (2 ^ level) (one_is some) in
      absurd (omega (arith, up-times level size))
]
  where
    one_is : 0 < index_up level size → 1 ≤ index_up level size
    one_is some = omega arith

pub peak-low : (level place size : ℕ) → size < 2 ^ 63 → IsPeak size level place → level < 64
peak-low level place size fits peak =
    let low = level-low level size fits (omega (arith, peak.1)) in omega arith

pub up-less : (level n : ℕ) → index_up level n ≤ n
up-less zero n = omega arith
up-less (suc level) n = omega (arith, up-less level (n / 2))

-- where the digest of a complete place stands
pub record Stands (size level place : ℕ) : Type 0 where
  pub low : level < 64
  pub below : (place + 1) * 2 ^ level < 2 ^ 64
  pub within : position level place < stored_count size

pub stands : (size level place : ℕ) → size < 2 ^ 63 → (place + 1) * 2 ^ level ≤ size → Stands size level place
stands size level place fits le =
    let below : (place + 1) * 2 ^ level < 2 ^ 64 = omega (arith, fits, le) in
    record { low = level-fits level place below; below = below; within = position-within level place size le }

pub place-stands : (size level place : ℕ) → size < 2 ^ 63 → place < index_up level size → Stands size level place
place-stands size level place fits below = stands size level place fits (place-within level place size below)

-- A level with a place stands below one that has none.
pub level-below : (level last size : ℕ) → 0 < index_up level size → index_up last size ≡ 0 → level < last
level-below level last size some none = elim (cases_lt level last) [
  | inl below ↦ below
  | inr ge ↦
      let top = power-rises last level ge in
      let one = mul-le-mul_right (2 ^ level) (one_is some) in
      let above = above-up last size in
      let same : (index_up last size + 1) * 2 ^ last ≡ 2 ^ last = ap (λ n. (n + 1) * 2 ^ last) none ∙ times_one (2 ^
      last) in
      absurd (omega (arith, up-times level size))
]
  where
    one_is : 0 < index_up level size → 1 ≤ index_up level size
    one_is some = omega arith

    times_one : (n : ℕ) → (0 + 1) * n ≡ n
    times_one n = omega arith

-- ---- the list of a log's file

module _ {leaves : List Digest} (file : List ℕ) (size : ℕ) (digests : List Digest) (keeps : Keeps leaves
    (stored_in (length leaves) file)) (le : size ≤ length leaves) (are : digests ≡ stored_in size file) where
  fewer : take (stored_count size) (stored_in (length leaves) file) ≡ stored_in size file
  fewer = chunks-front (stored_count size) (stored_count (length leaves)) (drop 96 file)
      (count-rises size (length leaves) le)

  all-of : take (stored_count size) (stored_in size file) ≡ stored_in size file
  all-of = take_all (stored_count size) (stored_in size file) (omega (
    arith,
    length-chunks (stored_count size)
        (drop 96 file),
  ))

  rows : (level : ℕ) → row_at (front size (stored_in (length leaves) file)) level ≡ row_at (front size digests) level
  rows level = rows-agree size (stored_in (length leaves) file) (stored_in size file) (fewer ∙ sym all-of) level
      ∙ ap (λ digests. row_at (front size digests) level) (sym are)

  pub list-stored : IsStored node_of (row_at (front size digests))
  list-stored = stored-same node_of _ _ rows (fewer-hashed keeps size le)

  pub list-first : take size (row_at (front size digests) 0) ≡ take size leaves
  list-first = ap (take size) (sym (rows 0)) ∙ fewer-first keeps size le

-- ---- the list with what was read of it

module _ {leaves : List Digest} (file : List ℕ) (size : ℕ) (peaks : List Digest) (keeps : Keeps leaves
    (stored_in (length leaves) file)) (le : size ≤ length leaves) (own : (level place : ℕ) → IsPeak size level place
    → get_or peaks level [] ≡ get_or (stored_in size file) (position level place) []) where
  digests-are : (overlay size peaks (stored_in size file)).digests ≡ stored_in size file
  digests-are = overlay-own size peaks (stored_in size file) (length-chunks (stored_count size) (drop 96 file)) own

  pub whole-stored : IsStored node_of (row_at (overlay size peaks (stored_in size file)))
  whole-stored = list-stored {leaves = leaves} file size (overlay size peaks (stored_in size file)).digests keeps le
      digests-are

  pub whole-first : take size (row_at (overlay size peaks (stored_in size file)) 0) ≡ take size leaves
  whole-first = list-first {leaves = leaves} file size (overlay size peaks (stored_in size file)).digests keeps le
      digests-are

  pub whole-keeps : size ≡ length leaves → Keeps leaves (overlay size peaks (stored_in size file)).digests
  whole-keeps is = subst (Keeps leaves) (ap (λ n. stored_in n file) (sym is) ∙ sym digests-are) keeps

  pub whole-front : stored_front (overlay size peaks (stored_in size file)) ≡ stored_in size file
  whole-front = take_all (stored_count size) (overlay size peaks (stored_in size file)).digests
      (omega (arith, overlay-long size peaks (stored_in size file))) ∙ digests-are

module _ {leaves : List Digest} (file : List ℕ) (size : ℕ) (spots : List Spot) (keeps : Keeps leaves
    (stored_in (length leaves) file)) (le : size ≤ length leaves) (own : AreSpotsOf spots (stored_in size file)) where
  spots-are : (spotted size spots (stored_in size file)).digests ≡ stored_in size file
  spots-are = spotted-own size spots (stored_in size file) (length-chunks (stored_count size) (drop 96 file)) own

  pub spotted-stored : IsStored node_of (row_at (spotted size spots (stored_in size file)))
  spotted-stored = list-stored {leaves = leaves} file size (spotted size spots (stored_in size file)).digests keeps le
      spots-are

  pub spotted-first : take size (row_at (spotted size spots (stored_in size file)) 0) ≡ take size leaves
  spotted-first = list-first {leaves = leaves} file size (spotted size spots (stored_in size file)).digests keeps le
      spots-are

-- ---- a log that continues all of its entries

pub path-whole : (hash : NodeHash) (empty : Digest) (digests : List Digest) (size : ℕ) → size ≡ length digests
    → consistency_path hash empty size digests ≡ []
path-whole hash empty [] size is = refl
path-whole hash empty (d ∷ ds) size is =
    rw (is-same size (length (map done (d ∷ ds))) (is ∙ sym (length-map (d ∷ ds) done))) refl
  where
    done : Digest → Outcome Digest
    done digest = Ok digest

    is-same : (a b : ℕ) → a ≡ b → (a == b) ≡ true
    is-same a b same = grind (arith, nat_tests)

-- ---- the root

-- the digest of an entry
pub entry-at : {leaves : List Digest} (file : List ℕ) (size index : ℕ) → Keeps leaves (stored_in (length leaves) file)
    → size ≤ length leaves → index < size
    → take 32 (drop (96 + 32 * position 0 index) file) ≡ get_or (take size leaves) index []
entry-at {leaves} file size index keeps le below =
    let all = length leaves in
    let inside : index < length leaves = omega (arith, le, below) in
    let stored = front all (stored_in all file) in
    let within = position-within 0 index all (place-within 0 index all inside) in
    stored-at all (position 0 index) file within ∙ sym (row_of-at stored 0 index inside)
    ∙ ap (λ l. get_or l index []) keeps.lowest ∙ sym (get_or-take size leaves index [] below)
