-- The head of a log's file, and what a slot that is written makes of it.
use Rattle.std.proofs.Common.{◌≡◌, ◌⊎◌, ℕ, ◌+◌, ◌<◌, ◌≤◌, ◌^◌, ◌++◌, nat_lt, Bool, true, false, if◌then◌else◌, List, length, take, drop, Option, Some, None, refl, ap, sym, ◌∙◌, inl, inr, arith}
use Rattle.std.specs.Prelude.{not, ◌&&◌, ◌||◌}
use Rattle.std.specs.Int.{w64, from_le_bytes, to_le_bytes}
use Rattle.std.specs.Str.{bytes_eq}
use Rattle.std.proofs.lemmas.Bool.{cases_lt, le-ltb, ltb-false, ltb-true}
use Rattle.std.proofs.lemmas.List.{length-append, length-take-le, take-take, take_at, drop_at}
use Rattle.std.proofs.lemmas.Nat.{from_le_bytes-to_le_bytes_8}
use Rattle.std.proofs.lemmas.Slice.Eq.{bytes_eq-Decides}
use Rattle.sha2.specs.Sha256.{sha256}
use Rattle.sha2.proofs.Facts256.{length-sha256}
use Rattle.ark_paths.specs.Pair.{Digest}
use Rattle.log_file.specs.LogFile.{file_head, first_word, larger, next_slot, no_statement, slot, slot_fits, slot_front, slot_size, slot_to_take, statement, title, used_slot, written}
use Rattle.log_file.proofs.Pieces.{piece-before, piece-written, behind-written, length-written, written-begin, written-end}

pub head-of : (file : List ℕ) → 96 ≤ length file → bytes_eq (take 32 file) title ≡ true → file_head file
    ≡ larger (slot_size (take 32 (drop 32 file))) (slot_size (take 32 (drop 64 file)))
head-of file long begins = rw (le-ltb (length file) 96 long, begins) refl

-- the parts of a file that has a head
pub record HasHead (file : List ℕ) (size : ℕ) (second : Bool) : Type 0 where
  pub long : 96 ≤ length file
  pub begins : bytes_eq (take 32 file) title ≡ true
  pub slots : larger (slot_size (take 32 (drop 32 file))) (slot_size (take 32 (drop 64 file))) ≡ Some (size, second)

pub head-parts : (file : List ℕ) (size : ℕ) (second : Bool) → file_head file ≡ Some (size, second)
    → HasHead file size second
head-parts file size second is = go (nat_lt (length file) 96) refl (bytes_eq (take 32 file) title) refl is
  where
    slots : Option (ℕ × Bool)
    slots = larger (slot_size (take 32 (drop 32 file))) (slot_size (take 32 (drop 64 file)))

    go : (short : Bool) → nat_lt (length file) 96 ≡ short → (begins : Bool) → bytes_eq (take 32 file) title ≡ begins
        → (if short then None else if begins then larger (slot_size (take 32 (drop 32 file)))
        (slot_size (take 32 (drop 64 file))) else None) ≡ Some (size, second) → HasHead file size second
    go true short begins same told = absurd (cc)
    go false long false same told = absurd (cc)
    go false long true same told =
        record { long = ltb-false (length file) 96 long; begins = same; slots = told }

pub is_headed : (file : List ℕ) (size : ℕ) (second : Bool) → HasHead file size second → file_head file
    ≡ Some (size, second)
is_headed file size second head = head-of file head.long head.begins ∙ head.slots

-- The title and the slots' sizes decide.
pub head-same : (file other : List ℕ) (size : ℕ) (second : Bool) → HasHead file size second → 96 ≤ length other
    → take 32 other ≡ take 32 file
    → slot_size (take 32 (drop 32 other)) ≡ slot_size (take 32 (drop 32 file))
    → slot_size (take 32 (drop 64 other)) ≡ slot_size (take 32 (drop 64 file)) → HasHead other size second
head-same file other size second head long zero one two = record {
  long = long;
  begins = rw zero head.begins;
  slots = rw (one, two) head.slots;
}

-- a head
abbrev some_head : ℕ → Bool → Option (ℕ × Bool)
some_head size second = Some (size, second)

-- ---- a slot

length-word : (n : ℕ) → length (to_le_bytes w64 n) ≡ 8
length-word n = refl

pub length-front : (size : ℕ) → length (slot_front size) ≡ 20
length-front size = omega (
  arith,
  length-append (to_le_bytes w64 size) (take 12 (sha256 (to_le_bytes w64 size))),
  length-word size,
  length-take-le 12 (sha256 (to_le_bytes w64 size)) (omega (arith, length-sha256 (to_le_bytes w64 size))),
)

pub length-statement : (size : ℕ) (root : Digest) → length (statement size root) ≡ 12
length-statement size root = length-take-le 12 (sha256 (to_le_bytes w64 size ++ root))
    (omega (arith, length-sha256 (to_le_bytes w64 size ++ root)))

pub length-slot : (size : ℕ) (root : Digest) → length (slot size root) ≡ 32
length-slot size root = omega (
  arith,
  length-append (slot_front size) (statement size root),
  length-front size,
  length-statement size root,
)

first_word-front : (size : ℕ) → size < 2 ^ 64 → first_word (slot_front size) ≡ size
first_word-front size fits = from_le_bytes-to_le_bytes_8 size fits

pub same_bytes : (bytes : List ℕ) → bytes_eq bytes bytes ≡ true
same_bytes bytes = (bytes_eq-Decides bytes bytes).1 refl

pub eq_bytes : (a b : List ℕ) → bytes_eq a b ≡ true → a ≡ b
eq_bytes a b is = (bytes_eq-Decides a b).0 is

-- the first 20 bytes decide the size
pub size-front : (a b : List ℕ) → take 20 a ≡ take 20 b → slot_size a ≡ slot_size b
size-front a b is =
    let word : take 8 a ≡ take 8 b =
    sym (take-take 8 20 a (omega arith)) ∙ ap (take 8) is ∙ take-take 8 20 b (omega arith) in
    rw (is, word) refl

-- A slot that begins so has the size.
pub front-size : (bytes : List ℕ) (size : ℕ) → size < 2 ^ 64 → take 20 bytes ≡ slot_front size
    → slot_size bytes ≡ Some size
front-size bytes size fits is =
    let word : first_word bytes ≡ size =
    ap (λ l. from_le_bytes w64 l) (sym (take-take 8 20 bytes (omega arith)) ∙ ap (take 8) is)
    ∙ first_word-front size fits in
    rw (word, is, same_bytes (slot_front size)) refl

-- A slot that has a size begins so.
pub size-begins : (bytes : List ℕ) (size : ℕ) → slot_size bytes ≡ Some size
    → bytes_eq (take 20 bytes) (slot_front size) ≡ true
size-begins bytes size is = go (bytes_eq (take 20 bytes) (slot_front (first_word bytes))) refl is
  where
    number_in : Option ℕ → ℕ
    number_in None = size
    number_in (Some n) = n

    go : (whole : Bool) → bytes_eq (take 20 bytes) (slot_front (first_word bytes)) ≡ whole
        → (if whole then Some (first_word bytes) else None) ≡ Some size
        → bytes_eq (take 20 bytes) (slot_front size) ≡ true
    go true test told = ap (λ n. bytes_eq (take 20 bytes) (slot_front n)) (sym (ap number_in told)) ∙ test
    go false test told = absurd (cc)

-- a slot that fits has the size
pub fits-size : (bytes : List ℕ) (size : ℕ) (root : Digest) → size < 2 ^ 64 → slot_fits bytes size root ≡ true
    → slot_size bytes ≡ Some size
fits-size bytes size root small is = go (bytes_eq (take 20 bytes) (slot_front size)) refl is
  where
    go : (begins : Bool) → bytes_eq (take 20 bytes) (slot_front size) ≡ begins
        → (begins && (bytes_eq (drop 20 bytes) (statement size root)
        || bytes_eq (drop 20 bytes) (no_statement size))) ≡ true
        → slot_size bytes ≡ Some size
    go true begins told = front-size bytes size small (eq_bytes (take 20 bytes) (slot_front size) begins)
    go false begins told = absurd (cc)

-- a slot that begins with a size and ends with the statement of its root
pub fits-stated : (bytes : List ℕ) (size : ℕ) (root : Digest) → bytes_eq (take 20 bytes) (slot_front size) ≡ true
    → drop 20 bytes ≡ statement size root → slot_fits bytes size root ≡ true
fits-stated bytes size root begins ends = rw (begins, ends, same_bytes (statement size root)) refl

pub slot-fits : (size : ℕ) (root : Digest) → slot_fits (slot size root) size root ≡ true
slot-fits size root = fits-stated (slot size root) size root
    (ap (λ l. bytes_eq l (slot_front size)) (take_at (slot_front size) (statement size root) 20 (length-front size))
    ∙ same_bytes (slot_front size))
    (drop_at (slot_front size) (statement size root) 20 (length-front size))

-- ---- a slot that fits, and any bytes in the place of the other one

-- The slot that is not the next one has a size, and fits a root.
pub record Uses (file : List ℕ) (size : ℕ) (root : Digest) (second : Bool) : Type 0 where
  pub long : 96 ≤ length file
  pub begins : bytes_eq (take 32 file) title ≡ true
  pub small : size < 2 ^ 64
  pub fits : slot_fits (take 32 (drop (used_slot second) file)) size root ≡ true

pub uses-size : (file : List ℕ) (size : ℕ) (root : Digest) (second : Bool) → Uses file size root second
    → slot_size (take 32 (drop (used_slot second) file)) ≡ Some size
uses-size file size root second uses =
    fits-size (take 32 (drop (used_slot second) file)) size root uses.small uses.fits

-- the slot to take is the other one
pub taken-fits : (file : List ℕ) (size : ℕ) (root : Digest) (second : Bool) → slot_to_take file size root ≡ Some second
    → slot_fits (take 32 (drop (used_slot second) file)) size root ≡ true
taken-fits file size root second is =
    go (slot_fits (take 32 (drop 32 file)) size root) refl (slot_fits (take 32 (drop 64 file)) size root) refl second is
  where
    bool_in : Option Bool → Bool
    bool_in None = true
    bool_in (Some b) = b

    other_in : Option Bool → Bool
    other_in None = false
    other_in (Some b) = b

    go : (one : Bool) → slot_fits (take 32 (drop 32 file)) size root ≡ one → (two : Bool)
        → slot_fits (take 32 (drop 64 file)) size root ≡ two → (second : Bool)
        → (if one then Some true else if two then Some false else None) ≡ Some second
        → slot_fits (take 32 (drop (used_slot second) file)) size root ≡ true
    go true one two other true told = one
    go true one two other false told = let no = ap bool_in told in absurd (cc)
    go false one true other false told = other
    go false one true other true told = let no = ap bool_in told in absurd (cc)
    go false one false other second told = absurd (cc)

pub fits-taken : (file : List ℕ) (size : ℕ) (root : Digest) (second : Bool)
    → slot_fits (take 32 (drop (used_slot second) file)) size root ≡ true
    → (free : Bool) × (slot_to_take file size root ≡ Some free)
fits-taken file size root true is = (true, rw (is) refl)
fits-taken file size root false is = go (slot_fits (take 32 (drop 32 file)) size root)
  where
    go : (one : Bool) → (free : Bool) × ((if one then Some true
        else if slot_fits (take 32 (drop 64 file)) size root then Some false else None) ≡ Some free)
    go true = (true, refl)
    go false = (false, rw (is) refl)

-- The file has this size, or a larger one that stands in the other slot.
abbrev pub ReadsOr : List ℕ → ℕ → Option ℕ → Type 0
ReadsOr file size seen = ((next : Bool) × HasHead file size next)
    ⊎ ((other : ℕ) × (seen ≡ Some other) × (size < other) × ((next : Bool) × HasHead file other next))

-- what the larger of two slots' sizes is
abbrev LargerOr : ℕ → Option ℕ → Option (ℕ × Bool) → Type 0
LargerOr size seen found = ((next : Bool) × (found ≡ some_head size next))
    ⊎ ((other : ℕ) × (seen ≡ Some other) × (size < other) × ((next : Bool) × (found ≡ some_head other next)))

larger-left : (size : ℕ) (seen : Option ℕ) → LargerOr size seen (larger (Some size) seen)
larger-left size None = inl (true, refl)
larger-left size (Some other) = go (nat_lt size other) refl
  where
    go : (below : Bool) → nat_lt size other ≡ below
        → LargerOr size (Some other) (if below then some_head other false else some_head size true)
    go true told = inr (other, refl, ltb-true size other told, (false, refl))
    go false told = inl (true, refl)

larger-right : (size : ℕ) (seen : Option ℕ) → LargerOr size seen (larger seen (Some size))
larger-right size None = inl (false, refl)
larger-right size (Some other) = go (nat_lt other size) refl
  where
    go : (below : Bool) → nat_lt other size ≡ below
        → LargerOr size (Some other) (if below then some_head size false else some_head other true)
    go true told = inl (false, refl)
    go false told = elim (cases_lt size other) [
      | inl less ↦ inr (other, refl, less, (true, refl))
      | inr ge ↦
          let same : other ≡ size = omega (arith, ltb-false other size told) in
          inl (true, ap (λ n. some_head n true) same)
    ]

reads-of : (file : List ℕ) (size : ℕ) (seen : Option ℕ) → 96 ≤ length file → bytes_eq (take 32 file) title ≡ true
    → LargerOr size seen (larger (slot_size (take 32 (drop 32 file))) (slot_size (take 32 (drop 64 file))))
    → ReadsOr file size seen
reads-of file size seen long begins (inl (next, found)) =
    inl (next, record { long = long; begins = begins; slots = found })
reads-of file size seen long begins (inr (other, is, less, (next, found))) =
    inr (other, is, less, (next, record { long = long; begins = begins; slots = found }))

-- The next slot stands behind the title, and ends with the head.
slot-place : (second : Bool) → (32 ≤ next_slot second) × (next_slot second ≤ 64)
slot-place true = (omega arith, omega arith)
slot-place false = (omega arith, omega arith)

-- Where it is written, the file keeps its title, and is no shorter.
module _ (file part : List ℕ) (size : ℕ) (root : Digest) (second : Bool) (head : Uses file size root second)
    (long : length part ≡ 32) where
  slot-long : 96 ≤ length (written file (next_slot second) part)
  slot-long =
      let place = slot-place second in
      let inside : next_slot second + length part ≤ length file = omega (arith, head.long, long, place.1) in
      omega (arith, head.long, length-written file part (next_slot second) inside)

  slot-begins : bytes_eq (take 32 (written file (next_slot second) part)) title ≡ true
  slot-begins =
      let place = slot-place second in
      let begins : take 32 (written file (next_slot second) part) ≡ take 32 file =
      piece-before file part (next_slot second) 0 32 (omega (arith, place.0)) (omega (arith, head.long, place.1)) in
      rw begins head.begins

-- Whatever stands in the place of the next slot.
pub slot-part : (file part : List ℕ) (size : ℕ) (root : Digest) (second : Bool) → Uses file size root second
    → length part ≡ 32 → ReadsOr (written file (next_slot second) part) size (slot_size part)
slot-part file part size root true head long =
    let first : take 32 (drop 32 (written file 64 part)) ≡ take 32 (drop 32 file) =
    piece-before file part 64 32 32 (omega arith) (omega (arith, head.long)) in
    let other : take 32 (drop 64 (written file 64 part)) ≡ part =
    piece-written file part 64 32 long (omega (arith, head.long)) in
    reads-of (written file 64 part) size (slot_size part) (slot-long file part size root true head long)
    (slot-begins file part size root true head long)
    (rw (first, other, uses-size file size root true head) (larger-left size (slot_size part)))
slot-part file part size root false head long =
    let first : take 32 (drop 32 (written file 32 part)) ≡ part =
    piece-written file part 32 32 long (omega (arith, head.long)) in
    let behind : drop 64 (written file 32 part) ≡ drop 64 file =
    behind-written file part 32 64 (omega (arith, long)) (omega (arith, head.long)) in
    reads-of (written file 32 part) size (slot_size part) (slot-long file part size root false head long)
    (slot-begins file part size root false head long)
    (rw (first, behind, uses-size file size root false head) (larger-right size (slot_size part)))

-- The next slot was written, so that it fits: now the other one is the next.
pub uses-turned : (file part : List ℕ) (size new : ℕ) (root top : Digest) (second : Bool)
    → Uses file size root second → length part ≡ 32 → new < 2 ^ 64 → slot_fits part new top ≡ true
    → Uses (written file (next_slot second) part) new top (not second)
uses-turned file part size new root top second head long small fits =
    let place = slot-place second in
    let stands = piece-written file part (next_slot second) 32 long (omega (arith, head.long, place.1)) in
    record {
      long = slot-long file part size root second head long;
      begins = slot-begins file part size root second head long;
      small = small;
      fits = ap (λ n. slot_fits (take 32 (drop n (written file (next_slot second) part))) new top) (turned second)
          ∙ ap (λ l. slot_fits l new top) stands ∙ fits;
    }
  where
    turned : (second : Bool) → used_slot (not second) ≡ next_slot second
    turned true = refl
    turned false = refl

-- The slot in use stays while the other one is written.
pub uses-kept : (file part : List ℕ) (size : ℕ) (root : Digest) (second : Bool) → Uses file size root second
    → length part ≡ 32 → Uses (written file (next_slot second) part) size root second
uses-kept file part size root second head long = record {
  long = slot-long file part size root second head long;
  begins = slot-begins file part size root second head long;
  small = head.small;
  fits = ap (λ l. slot_fits l size root) (same second head) ∙ head.fits;
}
  where
    same : (second : Bool) → Uses file size root second
        → take 32 (drop (used_slot second) (written file (next_slot second) part))
        ≡ take 32 (drop (used_slot second) file)
    same true head = piece-before file part 64 32 32 (omega arith) (omega (arith, head.long))
    same false head = ap (take 32) (behind-written file part 32 64 (omega (arith, long)) (omega (arith, head.long)))

-- ---- a slot of which a part is written

-- the end of a slot was written
pub slot-end : (file part : List ℕ) (place : ℕ) → place + 32 ≤ length file → length part ≡ 12
    → written file (place + 20) part ≡ written file place (take 20 (drop place file) ++ part)
slot-end file part place inside long =
    written-end file part place 20 (omega (arith, inside, long))

-- the front of a slot was written
pub slot-begin : (file part : List ℕ) (place : ℕ) → place + 32 ≤ length file → length part ≡ 20
    → written file place part ≡ written file place (part ++ take 12 (drop (place + 20) file))
slot-begin file part place inside long =
    written-begin file part place 12 (omega (arith, inside, long))
    ∙ ap (λ n. written file place (part ++ take 12 (drop (place + n) file))) long

-- ---- the same head

-- A slot's end was written: the sizes are the same.
pub head-kept : (file part : List ℕ) (size : ℕ) (second next : Bool) → HasHead file size next → length part ≡ 32
    → take 20 part ≡ take 20 (drop (next_slot second) file)
    → HasHead (written file (next_slot second) part) size next
head-kept file part size true next head long is =
    let inside : 64 + length part ≤ length file = omega (arith, head.long, long) in
    head-same file (written file 64 part) size next head
    (omega (arith, head.long, length-written file part 64 inside))
    (piece-before file part 64 0 32 (omega arith) (omega (arith, head.long)))
    (ap slot_size (piece-before file part 64 32 32 (omega arith) (omega (arith, head.long))))
    (ap slot_size (piece-written file part 64 32 long (omega (arith, head.long)))
    ∙ size-front part (take 32 (drop 64 file)) (is ∙ sym (take-take 20 32 (drop 64 file) (omega arith))))
head-kept file part size false next head long is =
    let inside : 32 + length part ≤ length file = omega (arith, head.long, long) in
    head-same file (written file 32 part) size next head
    (omega (arith, head.long, length-written file part 32 inside))
    (piece-before file part 32 0 32 (omega arith) (omega (arith, head.long)))
    (ap slot_size (piece-written file part 32 32 long (omega (arith, head.long)))
    ∙ size-front part (take 32 (drop 32 file)) (is ∙ sym (take-take 20 32 (drop 32 file) (omega arith))))
    (ap (λ l. slot_size (take 32 l)) (behind-written file part 32 64 (omega (arith, long)) (omega (arith, head.long))))
