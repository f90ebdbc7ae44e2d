-- The file of a log, and what an append makes of it.
use Rattle.std.proofs.Common.{◌≡◌, ◌⊎◌, inl, inr, ℕ, ◌+◌, ◌-◌, ◌*◌, ◌/◌, ◌<◌, ◌≤◌, ◌^◌, nat_lt, Bool, true, false, List, [], ◌++◌, length, take, drop, Option, Some, None, Ok, refl, ap, sym, ◌∙◌, subst, arith}
use Rattle.std.specs.Prelude.{◌&&◌, not}
use Rattle.std.specs.Simd.{first_chunks}
use Rattle.std.proofs.lemmas.Bool.{le-ltb, lt-ltb, ltb-true, ltb-false}
use Rattle.std.proofs.lemmas.List.{length-append, length-drop, length-take-le, take-take, take-append-le, take_all, drop-drop}
use Rattle.ark_paths.specs.Pair.{Digest}
use Rattle.ark_trees.specs.Rfc6962.{node_of}
use Rattle.merkle_log.specs.Kept.{has_front, Keeps}
use Rattle.merkle_log.specs.Stored.{stored_count}
use Rattle.sha2.specs.Sha256.{sha256}
use Rattle.merkle_log.specs.Log.{merkle_tree_hash}
use Rattle.log_file.specs.Append.{HasBehind}
use Rattle.log_file.specs.LogFile.{digest_count, file_end, file_head, next_slot, slot_fits, slot_size, stored_in, used_slot, written, IsLogFile}
use Rattle.log_file.proofs.Chunks.{chunks-append, chunks-flat, chunks-take, length-flat}
use Rattle.log_file.proofs.Heads.{fits-taken, head-parts, head-same, is_headed, slot-part, taken-fits, uses-kept, HasHead, Uses}
use Rattle.log_file.proofs.Pieces.{behind-cut, behind-written, length-written, piece-cut}

-- ---- as many digests as a size asks for

pub record HasFront (size count : ℕ) : Type 0 where
  pub fits : size < 2 ^ 63
  pub enough : stored_count size ≤ count

pub front-parts : (size count : ℕ) → has_front size count ≡ true → HasFront size count
front-parts size count is = go (nat_lt size (2 ^ 63)) refl (nat_lt count (stored_count size)) refl is
  where
    go : (small : Bool) → nat_lt size (2 ^ 63) ≡ small → (short : Bool) → nat_lt count (stored_count size) ≡ short
        → (small && not short) ≡ true → HasFront size count
    go true small false long told =
        record { fits = ltb-true size (2 ^ 63) small; enough = ltb-false count (stored_count size) long }
    go true small true long told = absurd (cc)
    go false small short long told = absurd (cc)

pub front-whole : (size count : ℕ) → size < 2 ^ 63 → stored_count size ≤ count → has_front size count ≡ true
front-whole size count fits enough =
    rw (lt-ltb size (2 ^ 63) fits, le-ltb count (stored_count size) enough) refl

-- a quotient by 32 of what stands behind the head
pub enough-bytes : (c len : ℕ) → 96 ≤ len → c ≤ (len - 96) / 32 → 96 + 32 * c ≤ len
enough-bytes c len long le = omega arith

pub enough-digests : (c len : ℕ) → 96 + 32 * c ≤ len → c ≤ (len - 96) / 32
enough-digests c len le = omega arith

-- ---- files with the same stored digests

-- what a file has whose digests are those of a log with these leaves and this root
pub record Holds (leaves : List Digest) (root : Digest) (file : List ℕ) : Type 0 where
  pub fits : length leaves < 2 ^ 63
  pub inside : file_end (length leaves) ≤ length file
  pub keeps : Keeps leaves (stored_in (length leaves) file)
  pub root_is : merkle_tree_hash node_of (sha256 []) leaves ≡ Ok root

-- what is known of the file of a log
pub record Known (leaves : List Digest) (file : List ℕ) : Type 0 where
  pub next : Bool
  pub head : HasHead file (length leaves) next
  pub root : Digest
  pub holds : Holds leaves root file
  pub free : Bool
  pub uses : Uses file (length leaves) root free

pub known : (leaves : List Digest) (file : List ℕ) → IsLogFile leaves file → Known leaves file
known leaves file log =
    let head = head-parts file (length leaves) log.second_is_next log.head in
    let front = front-parts (length leaves) (digest_count file) log.whole in
    record {
      next = log.second_is_next;
      head = head;
      root = log.root;
      holds = record {
        fits = front.fits;
        inside = enough-bytes (stored_count (length leaves)) (length file) head.long front.enough;
        keeps = log.keeps;
        root_is = log.root_is;
      };
      free = log.second_is_free;
      uses = record {
        long = head.long;
        begins = head.begins;
        small = omega (arith, front.fits);
        fits = taken-fits file (length leaves) log.root log.second_is_free log.states;
      };
    }

pub known-free : (leaves : List Digest) (file : List ℕ) (log : IsLogFile leaves file)
    → (known leaves file log).free ≡ log.second_is_free
unfolding known
known-free leaves file log = refl

pub log-holds : (leaves : List Digest) (root : Digest) (file : List ℕ) (next free : Bool)
    → HasHead file (length leaves) next → Uses file (length leaves) root free → Holds leaves root file
    → IsLogFile leaves file
log-holds leaves root file next free head uses has =
    let taken = fits-taken file (length leaves) root free uses.fits in
    record {
      second_is_next = next;
      head = is_headed file (length leaves) next head;
      whole = front-whole (length leaves) (digest_count file) has.fits
          (enough-digests (stored_count (length leaves)) (length file) has.inside);
      keeps = has.keeps;
      root = root;
      root_is = has.root_is;
      second_is_free = taken.0;
      states = taken.1;
    }

-- Where the bytes behind the head begin alike, the stored digests are the same.
pub stored-same : (size : ℕ) (file other : List ℕ) → take (32 * stored_count size) (drop 96 other)
    ≡ take (32 * stored_count size) (drop 96 file) → stored_in size other ≡ stored_in size file
stored-same size file other is = sym (chunks-take (stored_count size) (drop 96 other))
    ∙ ap (first_chunks 32 (stored_count size)) is ∙ chunks-take (stored_count size) (drop 96 file)

-- ---- a file that was cut behind its stored digests, and what stands there then

module _ (leaves : List Digest) (root : Digest) (file rest : List ℕ) (long : 96 ≤ length file)
    (has : Holds leaves root file) where
  length-cut : length (take (file_end (length leaves)) file ++ rest) ≡ file_end (length leaves) + length rest
  length-cut = length-append (take (file_end (length leaves)) file) rest
      ∙ ap (λ n. n + length rest) (length-take-le (file_end (length leaves)) file has.inside)

  pub cut-head : (next : Bool) → HasHead file (length leaves) next
      → HasHead (take (file_end (length leaves)) file ++ rest) (length leaves) next
  cut-head next head = head-same file (take (file_end (length leaves)) file ++ rest) (length leaves) next head
      (omega (arith, length-cut))
      (piece-cut file rest 0 32 (file_end (length leaves)) (omega arith) has.inside)
      (ap slot_size (piece-cut file rest 32 32 (file_end (length leaves)) (omega arith) has.inside))
      (ap slot_size (piece-cut file rest 64 32 (file_end (length leaves)) (omega arith) has.inside))

  slot-cut : (free : Bool) → take 32 (drop (used_slot free) (take (file_end (length leaves)) file ++ rest))
      ≡ take 32 (drop (used_slot free) file)
  slot-cut true = piece-cut file rest 32 32 (file_end (length leaves)) (omega arith) has.inside
  slot-cut false = piece-cut file rest 64 32 (file_end (length leaves)) (omega arith) has.inside

  pub cut-uses : (size : ℕ) (top : Digest) (free : Bool) → Uses file size top free
      → Uses (take (file_end (length leaves)) file ++ rest) size top free
  cut-uses size top free uses = record {
    long = omega (arith, length-cut);
    begins = rw (piece-cut file rest 0 32 (file_end (length leaves)) (omega arith) has.inside) uses.begins;
    small = uses.small;
    fits = ap (λ l. slot_fits l size top) (slot-cut free) ∙ uses.fits;
  }

  -- the bytes behind the head
  pub cut-behind : drop 96 (take (file_end (length leaves)) file ++ rest)
      ≡ take (32 * stored_count (length leaves)) (drop 96 file) ++ rest
  cut-behind = behind-cut file rest 96 (32 * stored_count (length leaves)) (file_end (length leaves)) refl has.inside

  stored-length : length (take (32 * stored_count (length leaves)) (drop 96 file)) ≡ 32 * stored_count (length leaves)
  stored-length = length-take-le (32 * stored_count (length leaves)) (drop 96 file)
      (omega (arith, has.inside, length-drop 96 file))

  -- a file with these bytes behind its head has the stored digests
  stored-kept : (other : List ℕ) → drop 96 other ≡ take (32 * stored_count (length leaves)) (drop 96 file) ++ rest
      → stored_in (length leaves) other ≡ stored_in (length leaves) file
  stored-kept other is = stored-same (length leaves) file other
      (rw (
        is,
        take-append-le (32 * stored_count (length leaves)) (take (32 * stored_count (length leaves))
            (drop 96 file)) rest (omega (arith, stored-length)),
        take-take (32 * stored_count (length leaves))
            (32 * stored_count (length leaves)) (drop 96 file) (omega arith),
      ) refl)

  -- whatever stands behind the cut, the digests are the same
  pub cut-holds : Holds leaves root (take (file_end (length leaves)) file ++ rest)
  cut-holds = record {
    fits = has.fits;
    inside = omega (arith, length-cut);
    keeps = subst (Keeps leaves) (sym (stored-kept (take (file_end (length leaves)) file ++ rest) cut-behind))
        has.keeps;
    root_is = has.root_is;
  }

-- and so is the log
pub stays : (leaves : List Digest) (file rest : List ℕ) → Known leaves file
    → IsLogFile leaves (take (file_end (length leaves)) file ++ rest)
stays leaves file rest log = log-holds leaves log.root (take (file_end (length leaves)) file ++ rest) log.next log.free
    (cut-head leaves log.root file rest log.head.long log.holds log.next log.head)
    (cut-uses leaves log.root file rest log.head.long log.holds (length leaves) log.root log.free log.uses)
    (cut-holds leaves log.root file rest log.head.long log.holds)

-- ---- a slot that is written

slot-behind : (file part : List ℕ) (second : Bool) → 96 ≤ length file → length part ≡ 32 → drop 96
    (written file (next_slot second) part) ≡ drop 96 file
slot-behind file part true long is = behind-written file part 64 96 (omega (arith, is)) (omega (arith, long))
slot-behind file part false long is =
    let behind = behind-written file part 32 64 (omega (arith, is)) (omega (arith, long)) in
    sym (drop-drop 32 64 (written file 32 part)) ∙ ap (drop 32) behind ∙ drop-drop 32 64 file

slot-length : (file part : List ℕ) (second : Bool) → 96 ≤ length file → length part ≡ 32
    → length (written file (next_slot second) part) ≡ length file
slot-length file part true long is = length-written file part 64 (omega (arith, is, long))
slot-length file part false long is = length-written file part 32 (omega (arith, is, long))

-- ---- any bytes in the place of a slot

-- A slot changes no digest.
pub holds-slot : (leaves : List Digest) (root : Digest) (file part : List ℕ) (second : Bool) → 96 ≤ length file
    → length part ≡ 32 → Holds leaves root file → Holds leaves root (written file (next_slot second) part)
holds-slot leaves root file part second long is has = record {
  fits = has.fits;
  inside = omega (arith, slot-length file part second long is, has.inside);
  keeps = subst (Keeps leaves) (ap (first_chunks 32 (stored_count (length leaves))) (sym (slot-behind file part second
      long is))) has.keeps;
  root_is = has.root_is;
}

-- Whatever stands in the place of a slot, the log is the same, or that slot says a larger size.
pub slot-torn : (leaves : List Digest) (root : Digest) (file part : List ℕ) (second : Bool)
    → Uses file (length leaves) root second → length part ≡ 32 → Holds leaves root file
    → IsLogFile leaves (written file (next_slot second) part)
    ⊎ ((other : ℕ) × (slot_size part ≡ Some other) × (length leaves < other)
    × ((next : Bool) × HasHead (written file (next_slot second) part) other next))
slot-torn leaves root file part second uses long has =
    elim (slot-part file part (length leaves) root second uses long) [
      | inl same ↦ inl (log-holds leaves root (written file (next_slot second) part) same.0 second same.1
          (uses-kept file part (length leaves) root second uses long)
          (holds-slot leaves root file part second uses.long long has))
      | inr larger ↦ inr larger
    ]

-- ---- digests behind the stored ones

-- where the digests end, and what stands there then
pub keeps-more : (leaves more : List Digest) (root : Digest) (file bytes rest : List ℕ) (long : 96 ≤ length file)
    (has : Holds leaves root file) (behind : HasBehind leaves (stored_in (length leaves) file) more bytes)
    → Keeps (leaves ++ more)
    (stored_in (length (leaves ++ more)) (take (file_end (length leaves)) file ++ (bytes ++ rest)))
    × (file_end (length (leaves ++ more)) ≤ length (take (file_end (length leaves)) file ++ (bytes ++ rest)))
keeps-more leaves more root file bytes rest long has behind =
    let size = length (leaves ++ more) in
    let count : stored_count (length leaves) + length behind.new ≡ stored_count size =
    behind.count ∙ ap stored_count (sym (length-append leaves more)) in
    let after = take (file_end (length leaves)) file ++ (bytes ++ rest) in
    let flat : length bytes ≡ 32 * length behind.new = ap length behind.is ∙ length-flat behind.new behind.are_bytes in
    let stored : stored_in size after ≡ stored_in (length leaves) file ++ behind.new =
    ap (λ n. first_chunks 32 n (drop 96 after)) (sym count)
    ∙ ap (first_chunks 32 (stored_count (length leaves) + length behind.new)) (cut-behind leaves root file
    (bytes ++ rest) long has)
    ∙ chunks-append (stored_count (length leaves)) (length behind.new)
    (take (32 * stored_count (length leaves)) (drop 96 file)) (bytes ++ rest)
    (stored-length leaves root file (bytes ++ rest) long has)
    ∙ ap (λ xs. xs ++ first_chunks 32 (length behind.new) (bytes ++ rest)) (chunks-take (stored_count (length leaves))
    (drop 96 file))
    ∙ ap (λ xs. stored_in (length leaves) file ++ xs) (sym (chunks-take (length behind.new) (bytes ++ rest))
    ∙ ap (first_chunks 32 (length behind.new)) (take-append-le (32 * length behind.new) bytes rest (omega (arith, flat))
    ∙ take_all (32 * length behind.new) bytes (omega (arith, flat)) ∙ behind.is)
    ∙ chunks-flat behind.new behind.are_bytes) in (
      subst (Keeps (leaves ++ more)) (sym stored) behind.keeps,
      omega (arith, length-cut leaves root file (bytes ++ rest) long has, length-append bytes rest, flat, count),
    )

-- ---- one head

pub sizes-same : (file : List ℕ) (a b : ℕ) (first second : Bool) → file_head file ≡ Some (a, first)
    → file_head file ≡ Some (b, second) → a ≡ b
sizes-same file a b first second one two = ap (λ o. size_in o) (sym one ∙ two)
  where
    size_in : Option (ℕ × Bool) → ℕ
    size_in None = a
    size_in (Some head) = head.0
