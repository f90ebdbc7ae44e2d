-- The writes of a sector that was lost.
use Rattle.std.proofs.Common.{◌≡◌, ⊎_elim, ℕ, ◌+◌, ◌*◌, ◌<◌, ◌≤◌, Bool, true, false, List, [], ◌++◌, length, take, drop, get_or, Ok, Some, refl, ap, sym, ◌∙◌, subst, arith}
use Rattle.std.specs.Prelude.{not, ◌&&◌}
use Rattle.std.specs.Simd.{first_chunks}
use Rattle.std.specs.Str.{bytes_eq}
use Rattle.std.proofs.lemmas.List.{drop-drop, drop-take, drop_at, get_or-take, get_or_append_left, length-append, length-drop, length-take-le, take-take, take_at}
use Rattle.sha2.specs.Sha256.{sha256}
use Rattle.ark_paths.specs.Pair.{Digest}
use Rattle.ark_trees.specs.Rfc6962.{node_of}
use Rattle.merkle_log.specs.Kept.{Keeps}
use Rattle.merkle_log.specs.Log.{merkle_tree_hash}
use Rattle.merkle_log.specs.Stored.{stored_count}
use Rattle.log_file.specs.LogFile.{next_slot, slot_fits, slot_to_take, title, used_slot, written, IsLogFile}
use Rattle.log_file.proofs.Chunks.{chunks-take}
use Rattle.log_file.proofs.Files.{known}
use Rattle.log_file.proofs.Heads.{eq_bytes, taken-fits, Uses}
use Rattle.log_file.proofs.Pieces.{behind-written, piece-before, piece-written}
use Rattle.log_store.specs.Disk.{Torn}
use Rattle.log_store.specs.Healing.{sectors_end, AreAlike, IsNotOlder, IsReadIn, KeepsIn, StandsIn}
use Rattle.log_store.specs.Sectors.{laid, part_at, sector_of, sector_rest, sector_title, title_in, IsSpread}
use Rattle.log_store.specs.Store.{IsSettled}
use Rattle.log_store.specs.declared.sectors.Layout.{Layout}
use Rattle.log_store.specs.declared.sectors.Layout.TheVariants.{Apart, Dense, FirstAlone, SecondAlone}
use Rattle.log_store.proofs.Surviving.{begins-is, first-alone-is, first-alone-title, first-is, kept-holds, kept-long, long-laid, second-alone-is, second-is, settled-of, uses-of}
use Rattle.log_store.proofs.Laid.{laid-behind, laid-long}
use Rattle.log_store.proofs.Laying.{part-whole, title-cases}
use Rattle.log_store.proofs.Losing.{begin, untitled}
use Rattle.log_store.proofs.Sectoring.{rest-long}
use Rattle.log_store.proofs.Writes.{long-as, piece-of}

-- ---- another file with the same slot and the same digests

same-keeps : {slot : List ℕ} {first : Bool} {leaves : List Digest} {file : List ℕ} → KeepsIn slot first leaves file
    → (own : Bool) (left : List ℕ) → StandsIn slot own left → sectors_end (length leaves) ≤ length left
    → take (32 * stored_count (length leaves)) (drop 8192 left)
    ≡ take (32 * stored_count (length leaves)) (drop 8192 file) → KeepsIn slot own leaves left
same-keeps {slot} {first} {leaves} {file} kept own left stands inside same =
    let c = stored_count (length leaves) in
    record {
      stands = stands;
      root = kept.root;
      root_is = kept.root_is;
      fits = kept.fits;
      small = kept.small;
      inside = inside;
      keeps = subst (Keeps leaves) (sym (sym (chunks-take c (drop 8192 left)) ∙ ap (first_chunks 32 c) same
          ∙ chunks-take c (drop 8192 file))) kept.keeps;
    }

-- a byte of the front
front-byte : (a b : List ℕ) (i : ℕ) → i < 32 → take 32 a ≡ take 32 b → get_or a i 0 ≡ get_or b i 0
front-byte a b i low is = sym (get_or-take 32 a i 0 low) ∙ ap (λ l. get_or l i 0) is ∙ get_or-take 32 b i 0 low

-- one that is the same up to where the digests end
pub kept-alike : (slot : List ℕ) (first : Bool) (leaves : List Digest) (file left : List ℕ)
    → KeepsIn slot first leaves file
    → take (sectors_end (length leaves)) left ≡ take (sectors_end (length leaves)) file
    → KeepsIn slot first leaves left
kept-alike slot first leaves file left kept is =
    let end = sectors_end (length leaves) in
    same-keeps kept first left (stands first kept.stands) (long-as end file left kept.inside is)
    (piece-of end 8192 (32 * stored_count (length leaves)) left file (omega arith) is)
  where
    stands : (own : Bool) → StandsIn slot own file → StandsIn slot own left
    stands true there = (
      piece-of (sectors_end (length leaves)) 0 32 left file (omega arith) is ∙ there.0,
      piece-of (sectors_end (length leaves)) 32 32 left file (omega arith) is ∙ there.1,
    )
    stands false (there, (i, low, titles, other)) = (
      piece-of (sectors_end (length leaves)) 4128 32 left file (omega arith) is ∙ there,
      (
        i,
        low,
        titles,
        λ same. other (same ∙ front-byte left file i low
            (piece-of (sectors_end (length leaves)) 0 32 left file (omega arith) is)),
      ),
    )

-- ---- a sector

module _ (slot : List ℕ) (count : length slot ≡ 32) where
  pub sector-long : length (sector_of slot) ≡ 4096
  sector-long = omega (
    arith,
    length-append sector_title (slot ++ sector_rest),
    length-append slot sector_rest,
    count,
    rest-long,
    title-long,
  )
    where
      title-long : length sector_title ≡ 32
      title-long = refl

  -- where it stands
  sector-title : (file : List ℕ) → take 4096 file ≡ sector_of slot → take 32 file ≡ sector_title
  sector-title file is = sym (take-take 32 4096 file (omega arith)) ∙ ap (take 32) is
      ∙ take_at sector_title (slot ++ sector_rest) 32 refl

  sector-slot : (file : List ℕ) → take 4096 file ≡ sector_of slot → take 32 (drop 32 file) ≡ slot
  sector-slot file is = sym (take-take 32 4064 (drop 32 file) (omega arith))
      ∙ ap (take 32) (sym (drop-take 32 4064 file) ∙ ap (drop 32) is
      ∙ drop_at sector_title (slot ++ sector_rest) 32 refl)
      ∙ take_at slot sector_rest 32 count

slot-count : {slot : List ℕ} {first : Bool} {leaves : List Digest} {file : List ℕ} → KeepsIn slot first leaves file
    → length slot ≡ 32
slot-count {slot} {first} {leaves} {file} kept = go first kept.stands
  where
    go : (own : Bool) → StandsIn slot own file → length slot ≡ 32
    go true there = ap length (sym there.1)
        ∙ length-take-le 32 (drop 32 file) (omega (arith, kept-long kept, length-drop 32 file))
    go false there = ap length (sym there.0)
        ∙ length-take-le 32 (drop 4128 file) (omega (arith, kept-long kept, length-drop 4128 file))

-- ---- the first sector is written, while the second one has the slot

module _ (slot : List ℕ) (leaves : List Digest) (before left : List ℕ) (kept : KeepsIn slot false leaves before) where
  long-sector : length (sector_of slot) ≡ 4096
  long-sector = sector-long slot (slot-count kept)

  pub first-torn : Torn 0 (sector_of slot) before left → KeepsIn slot false leaves left
  first-torn torn =
      let behind : drop 4096 left ≡ drop 4096 before =
      ap (λ n. drop (0 + n) left) (sym long-sector) ∙ torn.cut.after ∙ ap (λ n. drop (0 + n) before) long-sector in
      same-keeps kept false left (stands behind kept.stands)
      (omega (arith, kept.inside, torn.cut.no_shorter))
      (ap (take (32 * stored_count (length leaves))) (sym (drop-drop 4096 4096 left)
      ∙ ap (drop 4096) behind ∙ drop-drop 4096 4096 before))
    where
      stands : drop 4096 left ≡ drop 4096 before → StandsIn slot false before → StandsIn slot false left
      stands behind (there, (i, low, titles, other)) = (
        ap (take 32) (sym (drop-drop 32 4096 left) ∙ ap (drop 32) behind ∙ drop-drop 32 4096 before) ∙ there,
        (
          i,
          low,
          titles,
          λ same. ⊎_elim (λ old. other (same ∙ old))
              (λ new. titles (same ∙ new ∙ get_or_append_left sector_title (slot ++ sector_rest) 0 i low))
              (torn.mixed i (omega (arith, low, long-sector))),
        ),
      )

  pub first-whole : left ≡ written before 0 (sector_of slot) → KeepsIn slot true leaves left
  first-whole is =
      let there : take 4096 left ≡ sector_of slot =
      ap (take 4096) is ∙ piece-written before (sector_of slot) 0 4096 long-sector (omega arith) in
      let behind : drop 4096 left ≡ drop 4096 before =
      ap (drop 4096) is ∙ behind-written before (sector_of slot) 0 4096 (omega (arith, long-sector)) (omega arith) in
      let rest : drop 8192 left ≡ drop 8192 before =
      sym (drop-drop 4096 4096 left) ∙ ap (drop 4096) behind ∙ drop-drop 4096 4096 before in
      same-keeps kept true left
      (sector-title slot (slot-count kept) left there, sector-slot slot (slot-count kept) left there)
      (omega (
        arith,
        kept.inside,
        ap length behind,
        length-drop 4096 left,
        length-drop 4096 before,
        ap length there,
        ap length is,
        length-append (sector_of slot) (drop (0 + length (sector_of slot)) before),
        long-sector,
        length-drop (0 + length (sector_of slot)) before,
      ))
      (ap (take (32 * stored_count (length leaves))) rest)

-- ---- the second sector is written, while the first one has the slot

module _ (slot : List ℕ) (leaves : List Digest) (before left : List ℕ) (kept : KeepsIn slot true leaves before) where
  abbrev sector : List ℕ
  sector = sector_of slot

  sector-is : length (sector_of slot) ≡ 4096
  sector-is = sector-long slot (slot-count kept)

  pub second-torn : Torn 4096 (sector_of slot) before left → KeepsIn slot true leaves left
  second-torn torn =
      let behind : drop 8192 left ≡ drop 8192 before =
      ap (λ n. drop n left) (sym (ap (λ n. 4096 + n) sector-is)) ∙ torn.cut.after
      ∙ ap (λ n. drop (4096 + n) before) sector-is in
      same-keeps kept true left (
        piece-of 4096 0 32 left before (omega arith) torn.cut.before ∙ kept.stands.0,
        piece-of 4096 32 32 left before (omega arith) torn.cut.before ∙ kept.stands.1,
      )
      (omega (arith, kept.inside, torn.cut.no_shorter)) (ap (take (32 * stored_count (length leaves))) behind)

  module _ (is : left ≡ written before 4096 (sector_of slot)) where
    inside : 4096 ≤ length before
    inside = omega (arith, kept-long kept)

    there : take 4096 (drop 4096 left) ≡ sector_of slot
    there = ap (λ l. take 4096 (drop 4096 l)) is ∙ piece-written before sector 4096 4096 sector-is inside

    pub second-title : take 32 (drop 4096 left) ≡ sector_title
    second-title = sector-title slot (slot-count kept) (drop 4096 left) there

    pub second-whole : IsSettled leaves (laid Apart left)
    second-whole =
        let n = length leaves in
        let slot-one : take 32 (drop 32 left) ≡ slot =
        ap (λ l. take 32 (drop 32 l)) is ∙ piece-before before sector 4096 32 32 (omega arith) inside
        ∙ kept.stands.1 in
        let title-one : take 32 left ≡ sector_title =
        ap (take 32) is ∙ piece-before before sector 4096 0 32 (omega arith) inside ∙ kept.stands.0 in
        let slot-two : take 32 (drop 4128 left) ≡ slot =
        ap (take 32) (sym (drop-drop 32 4096 left)) ∙ sector-slot slot (slot-count kept) (drop 4096 left) there in
        let end : drop 8192 left ≡ drop 8192 before = ap (drop 8192) is
        ∙ behind-written before sector 4096 8192 (omega (arith, sector-is)) inside in
        let own : KeepsIn slot true leaves left = same-keeps kept true left (title-one, slot-one)
        (elim-long end) (ap (take (32 * stored_count (length leaves))) end) in
        let long = kept-long own in
        let title-is = begin left ∙ begins-is left long title-one in
        let full = long-laid left long Apart tt in
        settled-of leaves own.root (laid Apart left)
        (uses-of (laid Apart left) slot n own.root true full title-is own.small (first-is left long ∙ slot-one)
        own.fits)
        (uses-of (laid Apart left) slot n own.root false full title-is own.small (second-is left long ∙ slot-two)
        own.fits)
        (kept-holds own Apart tt)
      where
        elim-long : drop 8192 left ≡ drop 8192 before → sectors_end (length leaves) ≤ length left
        elim-long end = omega (
          arith,
          kept.inside,
          ap length is,
          length-append (take 4096 before ++ sector) (drop (4096 + length sector) before),
          length-append (take 4096 before) sector,
          length-take-le 4096 before inside,
          length-drop (4096 + length sector) before,
          sector-is,
        )

-- ---- a file with a log, of which a sector may be lost

-- The sector that has it.
pub kept-of : (layout : Layout) (file : List ℕ) (leaves : List Digest) (size : ℕ) (root : Digest) (first : Bool)
    (slot : List ℕ) → IsSpread layout → IsReadIn layout first → 8192 ≤ length file → IsNotOlder file
    → IsLogFile leaves (laid layout file) → length leaves ≡ size
    → merkle_tree_hash node_of (sha256 []) leaves ≡ Ok root → slot_to_take (laid layout file) size root ≡ Some first
    → slot ≡ take 32 (drop (used_slot first) (laid layout file)) → KeepsIn slot first leaves file
kept-of layout file leaves size root first slot spread read long other log size_is root_is states is =
    let own = known leaves (laid layout file) log in
    record {
      stands = stands layout first spread read
          (eq_bytes (take 32 (laid layout file)) title own.head.begins) is;
      root = root;
      root_is = root_is;
      fits = ap (λ l. slot_fits l (length leaves) root) is
          ∙ taken-fits (laid layout file) (length leaves) root first (rw (size_is) states);
      small = own.holds.fits;
      inside = omega (arith, own.holds.inside, laid-long layout file spread, long);
      keeps = subst (λ l. Keeps leaves (first_chunks 32 (stored_count (length leaves)) l))
          (laid-behind layout file 0 spread) own.holds.keeps;
    }
  where
    begins-of : title_in file ≡ title → take 32 file ≡ sector_title
    begins-of is = ⊎_elim (λ there. sym (part-whole 0 32 file (omega (arith, long))) ∙ there.begins)
        (λ none. absurd (untitled (sym none.0 ∙ is))) (title-cases file)

    stands : (layout : Layout) (first : Bool) → IsSpread layout → IsReadIn layout first
        → take 32 (laid layout file) ≡ title → slot ≡ take 32 (drop (used_slot first) (laid layout file))
        → StandsIn slot first file
    stands Dense first spread read begins is = absurd spread
    stands Apart true spread read begins is =
        (begins-of (sym (begin file) ∙ begins), sym (is ∙ first-is file long))
    stands Apart false spread read begins is = (sym (is ∙ second-is file long), other)
    stands FirstAlone true spread read begins is =
        (begins-of (sym (first-alone-title file long) ∙ begins), sym (is ∙ first-alone-is file long))
    stands FirstAlone false spread read begins is = absurd read
    stands SecondAlone true spread read begins is = absurd read
    stands SecondAlone false spread read begins is = (sym (is ∙ second-alone-is file long), other)

-- Nothing is lost.
pub alike-settled : (file : List ℕ) (leaves : List Digest) → 8192 ≤ length file → AreAlike file
    → IsLogFile leaves (laid Apart file) → IsSettled leaves (laid Apart file)
alike-settled file leaves long alike log =
    let own = known leaves (laid Apart file) log in
    let n = length leaves in
    let two : take 32 (drop 64 (laid Apart file)) ≡ take 32 (drop 32 (laid Apart file)) =
    second-is file long ∙ same ∙ sym (first-is file long) in
    settled-of leaves own.root (laid Apart file) (uses true own.free two own.uses) (uses false own.free two own.uses)
    own.holds
  where
    same : take 32 (drop 4128 file) ≡ take 32 (drop 32 file)
    same = ap (take 32) (sym (drop-drop 32 4096 file)) ∙ sym (drop-take 32 32 (drop 4096 file))
        ∙ ap (drop 32) alike.same ∙ drop-take 32 32 file

    uses : {size : ℕ} {root : Digest} (which free : Bool)
        → take 32 (drop 64 (laid Apart file)) ≡ take 32 (drop 32 (laid Apart file))
        → Uses (laid Apart file) size root free → Uses (laid Apart file) size root which
    uses true true two own = own
    uses false false two own = own
    uses {size} {root} true false two own = record {
      long = own.long;
      begins = own.begins;
      small = own.small;
      fits = ap (λ l. slot_fits l size root) (sym two) ∙ own.fits;
    }
    uses {size} {root} false true two own = record {
      long = own.long;
      begins = own.begins;
      small = own.small;
      fits = ap (λ l. slot_fits l size root) two ∙ own.fits;
    }

pub alike-title : (file : List ℕ) → AreAlike file → take 32 (drop 4096 file) ≡ sector_title
alike-title file alike = sym (take-take 32 64 (drop 4096 file) (omega arith)) ∙ ap (take 32) alike.same
    ∙ take-take 32 64 file (omega arith) ∙ alike.begins

both-true : (a b : Bool) → (a && b) ≡ true → (a ≡ true) × (b ≡ true)
both-true true b is = (refl, is)
both-true false b is = absurd (cc)

-- what is read of them
pub alike-of : (file first second : List ℕ) → 8192 ≤ length file → first ≡ part_at 0 64 file
    → second ≡ part_at 4096 64 file → (bytes_eq (take 32 first) sector_title && bytes_eq first second) ≡ true
    → AreAlike file
alike-of file first second long one two is =
    let both = both-true (bytes_eq (take 32 first) sector_title) (bytes_eq first second) is in
    let front : first ≡ take 64 file = one ∙ part-whole 0 64 file (omega (arith, long)) in
    record {
      begins = sym (ap (take 32) front ∙ take-take 32 64 file (omega arith))
          ∙ eq_bytes (take 32 first) sector_title both.0;
      same = sym (two ∙ part-whole 4096 64 file (omega (arith, long))) ∙ sym (eq_bytes first second both.1) ∙ front;
    }

-- A sector that is written has its title.
pub title-written : (slot before left : List ℕ) → 4096 ≤ length before → left ≡ written before 4096 (sector_of slot)
    → take 32 (drop 4096 left) ≡ sector_title
title-written slot before left inside is =
    let part = sector_of slot in
    let title-long : length sector_title ≡ 32 = refl in
    let long : 32 ≤ length part = omega (arith, length-append sector_title (slot ++ sector_rest), title-long) in
    sym (take-take 32 (length part) (drop 4096 left) long)
    ∙ ap (λ l. take 32 (take (length part) (drop 4096 l))) is
    ∙ ap (take 32) (piece-written before part 4096 (length part) refl inside)
    ∙ take_at sector_title (slot ++ sector_rest) 32 refl

-- where the slot that is used stands
pub used-next : (second : Bool) → next_slot (not second) ≡ used_slot second
used-next true = refl
used-next false = refl
