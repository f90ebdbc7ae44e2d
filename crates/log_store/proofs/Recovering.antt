-- The file that is made of what is sound of another.
use Rattle.std.proofs.Common.{◌≡◌, ℕ, ◌+◌, ◌*◌, ◌<◌, ◌≤◌, ◌^◌, Bool, true, false, List, [], ◌++◌, length, take, drop, get_or, replicate, Some, Ok, refl, ap, sym, ◌∙◌, subst, append_assoc, ⊎_elim, inl, inr, arith}
use Rattle.std.proofs.lemmas.Bool.{le-ltb}
use Rattle.std.proofs.lemmas.List.{append-nil, drop-append-le, drop-drop, drop_all, drop_at, get_or-replicate, get_or-take, length-append, length-drop, length-replicate, length-take-le, take-take, take_all, take_at}
use Rattle.std.proofs.Math.Seq.{take-add}
use Rattle.std.specs.Str.{bytes_eq}
use Rattle.sha2.specs.Sha256.{sha256}
use Rattle.ark_paths.specs.Pair.{Digest}
use Rattle.ark_trees.specs.Rfc6962.{node_of}
use Rattle.merkle_log.specs.Kept.{Keeps}
use Rattle.merkle_log.specs.Log.{merkle_tree_hash}
use Rattle.merkle_log.specs.Stored.{stored_count}
use Rattle.merkle_log.proofs.Positions.{no-count}
use Rattle.log_file.specs.LogFile.{larger, slot, slot_fits, slot_size, title, written, IsLogFile}
use Rattle.log_file.proofs.Files.{known, log-holds, slot-torn, stored-same, Holds}
use Rattle.log_file.proofs.Heads.{eq_bytes, fits-size, is_headed, length-slot, same_bytes, slot-fits, HasHead, Uses}
use Rattle.log_store.specs.Disk.{AreApart, Cut, LeavesMore, Leaves, Torn}
use Rattle.log_store.specs.Sound.{HasStored}
use Rattle.log_store.specs.Store.{IsAllFresh, IsHeadless, IsNewFile, IsSettled, LeavesJust}
use Rattle.log_store.proofs.Sounding.{front-of, none-hashed}
use Rattle.log_store.proofs.Writes.{cut-whole, piece-of}

-- ---- a copy

-- bytes that are written where a file ends
pub put-behind : (file bytes : List ℕ) (at : ℕ) → length file ≡ at → written file at bytes ≡ file ++ bytes
put-behind file bytes at long =
    rw (take_all at file (omega (arith, long)), drop_all (at + length bytes) file (omega (arith, long)))
    (append-nil (file ++ bytes))

-- So much of a file was copied behind some head.
pub record IsCopied (file new : List ℕ) (done : ℕ) : Type 0 where
  pub long : length new ≡ 96 + done
  pub same : drop 96 new ≡ take done (drop 96 file)

pub copied-more : (file new bytes : List ℕ) (done more : ℕ) → IsCopied file new done
    → bytes ≡ take more (drop (96 + done) file) → 96 + (done + more) ≤ length file
    → IsCopied file (written new (96 + done) bytes) (done + more)
copied-more file new bytes done more so is inside =
    let all : length bytes ≡ more =
    ap length is ∙ length-take-le more (drop (96 + done) file) (omega (arith, inside, length-drop (96 + done) file)) in
    rw (put-behind new bytes (96 + done) so.long) (record {
      long = omega (arith, length-append new bytes, so.long, all);
      same = drop-append-le 96 new bytes (omega (arith, so.long)) ∙ ap (λ l. l ++ bytes) so.same
          ∙ ap (λ l. take done (drop 96 file) ++ l) (is ∙ ap (take more) (sym (drop-drop done 96 file)))
          ∙ sym (take-add done more (drop 96 file));
    })

-- Nothing was copied behind zeros in the place of a head.
pub copied-none : (file new : List ℕ) → new ≡ replicate 96 0 → IsCopied file new 0
copied-none file new is = record {
  long = ap length is ∙ zeros-long;
  same = drop_all 96 new (omega (arith, ap length is, zeros-long));
}
  where
    zeros-long : length (replicate {A = ℕ} 96 0) ≡ 96
    zeros-long = length-replicate {A = ℕ} 96 0

-- Zeros were put to a file without a byte.
pub zeros-put : (old new : List ℕ) → old ≡ [] → new ≡ written old 0 (replicate 96 0) → new ≡ replicate 96 0
zeros-put old new none is = is ∙ put-behind old (replicate 96 0) 0 (ap length none)
    ∙ ap (λ l. l ++ replicate 96 0) none

-- how long a file at least is once something was written
pub length-grown : (file bytes : List ℕ) (at : ℕ) → at ≤ length file → at + length bytes ≤ length
    (written file at bytes)
length-grown file bytes at inside = omega (
  arith,
  length-append (take at file ++ bytes) (drop (at + length bytes) file),
  length-append (take at file) bytes,
  length-take-le at file inside,
)

-- ---- what is fresh

-- a piece more
pub fresh-more : (old_fresh fresh : ℕ → List ℕ → Type 0) (old_may may_leave : List ℕ → Type 0) (file bytes : List ℕ)
    (done : ℕ) → length file ≡ done → IsAllFresh old_fresh old_may file
    → LeavesMore (Torn done bytes) old_may may_leave → fresh done bytes
    → ((place : ℕ) (earlier : List ℕ) → AreApart place (length earlier) done (length bytes) → old_fresh place earlier
    → fresh place earlier) → IsAllFresh fresh may_leave (written file done bytes)
fresh-more old_fresh fresh old_may may_leave file bytes done long so follows new apart = λ left now has.
    let from = follows left now in
    let grown = length-grown file bytes done (omega (arith, long)) in
    let same : from.0 ≡ file = so from.0 from.1 (λ at piece le old.
    sym (piece-of done at (length piece) left from.0 (omega (arith, le, long)) from.2.cut.before)
    ∙ has at piece (omega (arith, le, long, grown)) (apart at piece (inl (omega (arith, le, long))) old)) in
    cut-whole done bytes from.0 left from.2.cut (has done bytes (omega (arith, grown)) new)
    ∙ ap (λ f. written f done bytes) same

-- Once it was synced a crash leaves what is read.
pub fresh-synced : (fresh : ℕ → List ℕ → Type 0) (old_may may_leave : List ℕ → Type 0) (file : List ℕ)
    → IsAllFresh fresh old_may file → ((left : List ℕ) → may_leave left → old_may left)
    → ((at : ℕ) (bytes : List ℕ) → fresh at bytes → Leaves at bytes may_leave) → LeavesJust file may_leave
fresh-synced fresh old_may may_leave file so less durable = λ left now.
    so left (less left now) (λ at bytes le is. durable at bytes is left now)

-- ---- no head

-- zeros that are written to a file that has no byte, and what stands behind a head
pub blank-begun : (before left : List ℕ) → before ≡ [] → Torn 0 (replicate 96 0) before left → IsHeadless left
blank-begun before left none torn = λ i less. ⊎_elim (λ old. old ∙ ap (λ l. get_or l i 0) none)
    (λ new. new ∙ get_or-replicate 96 i 0 0 less)
    (torn.mixed i (omega (arith, less, length-replicate {A = ℕ} 96 0)))

pub blank-behind : (at n : ℕ) (before left : List ℕ) → 96 ≤ at → IsHeadless before → Cut at n before left → IsHeadless
    left
blank-behind at n before left ge blank cut = λ i less. let low : i < at = omega (arith, ge, less) in
    sym (get_or-take at left i 0 low) ∙ ap (λ l. get_or l i 0) cut.before ∙ get_or-take at before i 0 low ∙ blank i less

pub new-none : (file : List ℕ) → IsNewFile file → length file ≡ 0 → file ≡ []
new-none file (inl none) short = none
new-none file (inr zeros) short = absurd (omega (arith, short, ap length zeros, length-replicate {A = ℕ} 96 0))

pub new-zeros : (file : List ℕ) → IsNewFile file → (length file ≡ 0 → ⊥) → file ≡ replicate 96 0
new-zeros file (inl none) some = absurd (some (ap length none))
new-zeros file (inr zeros) some = zeros

pub blank-new : (file left : List ℕ) → IsNewFile file → left ≡ file → IsHeadless left
blank-new file left (inl none) is = λ i less. ap (λ l. get_or l i 0) (is ∙ none)
blank-new file left (inr zeros) is = λ i less. ap (λ l. get_or l i 0) (is ∙ zeros) ∙ get_or-replicate 96 i 0 0 less

-- A head that is cut short leaves what stands behind it.
pub head-behind : (head before left : List ℕ) (size : ℕ) (root : Digest)
    → head ≡ title ++ (slot size root ++ slot size root) → Torn 0 head before left → drop 96 left ≡ drop 96 before
head-behind head before left size root is torn =
    let long : length head ≡ 96 = ap length is ∙ omega (
      arith,
      length-append title (slot size root ++ slot size root),
      length-append (slot size root) (slot size root),
      length-slot size root,
      title_long,
    ) in
    let zero_on : 0 + length head ≡ 96 = omega (arith, long) in
    sym (ap (λ n. drop n left) zero_on) ∙ torn.cut.after ∙ ap (λ n. drop n before) zero_on
  where
    title_long : length title ≡ 32
    title_long = refl

-- A file with no head is that of no log.
pub blank-none : (file : List ℕ) → IsHeadless file → (leaves : List Digest) → IsLogFile leaves file → ⊥
blank-none file blank leaves log =
    let begins = eq_bytes (take 32 file) title (known leaves file log).head.begins in
    let first : 112 ≡ 0 = sym (ap (λ l. get_or l 0 0) begins) ∙ get_or-take 32 file 0 0 (omega arith)
    ∙ blank 0 (omega arith) in
    absurd (omega (arith, first))

-- A log whose file has digests of another one behind its head.
pub log-copied : (leaves : List Digest) (left file : List ℕ) (count : ℕ) → IsLogFile leaves left
    → drop 96 left ≡ take count (drop 96 file) → 96 + count ≤ length file → HasStored leaves file
log-copied leaves left file count log is inside =
    let has = (known leaves left log).holds in
    let n = 32 * stored_count (length leaves) in
    let long : length (drop 96 left) ≡ count =
    ap length is ∙ length-take-le count (drop 96 file) (omega (arith, inside, length-drop 96 file)) in
    let le : n ≤ count = omega (arith, long, has.inside, length-drop 96 left) in
    record {
      inside = omega (arith, le, inside);
      keeps = subst (Keeps leaves) (stored-same (length leaves) file left
          (ap (take n) is ∙ take-take n count (drop 96 file) le)) has.keeps;
    }

-- ---- a head before other bytes

module _ (size : ℕ) (root : Digest) (rest : List ℕ) (small : size < 2 ^ 64) where
  abbrev pub headed : List ℕ
  headed = title ++ (slot size root ++ slot size root) ++ rest

  parts : headed ≡ title ++ (slot size root ++ (slot size root ++ rest))
  parts = append_assoc title (slot size root ++ slot size root) rest
      ∙ ap (λ l. title ++ l) (append_assoc (slot size root) (slot size root) rest)

  begins : take 32 headed ≡ title
  begins = ap (take 32) parts ∙ take_at title (slot size root ++ (slot size root ++ rest)) 32 refl

  behind-title : drop 32 headed ≡ slot size root ++ (slot size root ++ rest)
  behind-title = ap (drop 32) parts ∙ drop_at title (slot size root ++ (slot size root ++ rest)) 32 refl

  behind-first : drop 64 headed ≡ slot size root ++ rest
  behind-first = sym (drop-drop 32 32 headed) ∙ ap (drop 32) behind-title
      ∙ drop_at (slot size root) (slot size root ++ rest) 32 (length-slot size root)

  first : take 32 (drop 32 headed) ≡ slot size root
  first = ap (take 32) behind-title ∙ take_at (slot size root) (slot size root ++ rest) 32 (length-slot size root)

  second : take 32 (drop 64 headed) ≡ slot size root
  second = ap (take 32) behind-first ∙ take_at (slot size root) rest 32 (length-slot size root)

  title-long : length title ≡ 32
  title-long = refl

  pub long : length headed ≡ 96 + length rest
  long = omega (
    arith,
    length-append (title ++ (slot size root ++ slot size root)) rest,
    length-append title (slot size root ++ slot size root),
    length-append (slot size root) (slot size root),
    length-slot size root,
    title-long,
  )

  pub behind : drop 96 headed ≡ rest
  behind = sym (drop-drop 32 64 headed) ∙ ap (drop 32) behind-first
      ∙ drop_at (slot size root) rest 32 (length-slot size root)

  own-size : slot_size (slot size root) ≡ Some size
  own-size = fits-size (slot size root) size root small (slot-fits size root)

  equal : larger (Some size) (Some size) ≡ Some (size, true)
  equal = rw (le-ltb size size (omega arith)) refl

  pub has-head : HasHead headed size true
  has-head = record {
    long = omega (arith, long);
    begins = subst (λ l. bytes_eq l title ≡ true) (sym begins) (same_bytes title);
    slots = ap (λ l. larger (slot_size l) (slot_size (take 32 (drop 64 headed)))) first
        ∙ ap (λ l. larger (slot_size (slot size root)) (slot_size l)) second ∙ ap (λ o. larger o o) own-size ∙ equal;
  }

  pub both : (free : Bool) → Uses headed size root free
  both true = record {
    long = omega (arith, long);
    begins = subst (λ l. bytes_eq l title ≡ true) (sym begins) (same_bytes title);
    small = small;
    fits = ap (λ l. slot_fits l size root) first ∙ slot-fits size root;
  }
  both false = record {
    long = omega (arith, long);
    begins = subst (λ l. bytes_eq l title ≡ true) (sym begins) (same_bytes title);
    small = small;
    fits = ap (λ l. slot_fits l size root) second ∙ slot-fits size root;
  }

-- ---- the new file

module _ (leaves : List Digest) (root : Digest) (file : List ℕ) (has : HasStored leaves file)
    (fits : length leaves < 2 ^ 63) (root_is : merkle_tree_hash node_of (sha256 []) leaves ≡ Ok root) where
  abbrev pub digests : List ℕ
  digests = take (32 * stored_count (length leaves)) (drop 96 file)

  abbrev pub made : List ℕ
  made = headed (length leaves) root digests (omega (arith, fits))

  digests-long : length digests ≡ 32 * stored_count (length leaves)
  digests-long = length-take-le (32 * stored_count (length leaves)) (drop 96 file)
      (omega (arith, has.inside, length-drop 96 file))

  made-holds : Holds leaves root made
  made-holds =
      let small : length leaves < 2 ^ 64 = omega (arith, fits) in
      let n = 32 * stored_count (length leaves) in
      record {
        fits = fits;
        inside = omega (arith, long (length leaves) root digests small, digests-long);
        keeps = subst (Keeps leaves) (sym (stored-same (length leaves) file made
            (ap (take n) (behind (length leaves) root digests small) ∙ take-take n n (drop 96 file) (omega arith))))
            has.keeps;
        root_is = root_is;
      }

  pub made-settled : IsSettled leaves made
  made-settled =
      let small : length leaves < 2 ^ 64 = omega (arith, fits) in
      record {
        log = log-holds leaves root made true true (has-head (length leaves) root digests small)
            (both (length leaves) root digests small true) made-holds;
        lost = λ other part all. elim (slot-torn leaves root made part other
            (both (length leaves) root digests small other) all made-holds) [
              | inl same ↦ inl same
              | inr larger ↦ inr (
                larger.0,
                larger.3.0,
                is_headed _ larger.0 larger.3.0 larger.3.1,
                larger.2,
                λ same. omega (arith, larger.2, same),
              )
            ];
      }

  -- The head was written to a copy of the digests.
  pub recovered : (copy head : List ℕ)
      → head ≡ title ++ (slot (length leaves) root ++ slot (length leaves) root) → drop 96 copy ≡ digests
      → IsSettled leaves (written copy 0 head)
  recovered copy head is same =
      let some : length head ≡ 96 = ap length is ∙ omega (
        arith,
        length-append title (slot (length leaves) root ++ slot (length leaves) root),
        length-append (slot (length leaves) root) (slot (length leaves) root),
        length-slot (length leaves) root,
        title_long,
      ) in
      let zero_on : 0 + length head ≡ 96 = omega (arith, some) in
      subst (IsSettled leaves) (sym (ap (λ n. head ++ drop n copy) zero_on ∙ ap (λ l. head ++ l) same
      ∙ ap (λ l. l ++ digests) is)) made-settled
    where
      title_long : length title ≡ 32
      title_long = refl

-- of a size that the leaves have
pub settled-by : (leaves : List Digest) (root : Digest) (file copy head : List ℕ) (size count : ℕ)
    → HasStored leaves file → length leaves ≡ size → size < 2 ^ 63
    → merkle_tree_hash node_of (sha256 []) leaves ≡ Ok root → head ≡ title ++ (slot size root ++ slot size root)
    → count ≡ stored_count size → drop 96 copy ≡ take (32 * count) (drop 96 file)
    → IsSettled leaves (written copy 0 head)
settled-by leaves root file copy head size count has long fits top is count_is same =
    recovered leaves root file has (omega (arith, long, fits)) top copy head
    (is ∙ ap (λ n. title ++ (slot n root ++ slot n root)) (sym long))
    (same ∙ ap (λ n. take (32 * n) (drop 96 file)) (count_is ∙ ap stored_count (sym long)))

-- ---- a new log

-- a head before nothing
pub new-settled : (head file : List ℕ) → head ≡ title ++ (slot 0 (sha256 []) ++ slot 0 (sha256 [])) → file ≡ []
    → IsSettled [] (written file 0 head)
new-settled head file is none =
    let long : length head ≡ 96 = ap length is ∙ omega (
      arith,
      length-append title (slot 0 (sha256 []) ++ slot 0 (sha256 [])),
      length-append (slot 0 (sha256 [])) (slot 0 (sha256 [])),
      length-slot 0 (sha256 []),
      title_long,
    ) in
    let has : HasStored [] head = front-of head 0 (none-hashed head) (omega (arith, long, no-count)) in
    settled-by [] (sha256 []) head file head 0 0 has refl (omega arith) refl is no-count
    (ap (drop 96) none)
  where
    title_long : length title ≡ 32
    title_long = refl
