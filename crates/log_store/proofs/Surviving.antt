-- A log's file whose slots lie in different sectors, of which one is lost and is written again.
use Rattle.std.proofs.Common.{◌≡◌, ◌⊎◌, ⊎_elim, inl, inr, ℕ, ◌+◌, ◌<◌, ◌≤◌, Bool, true, false, List, ◌++◌, length, take, drop, get_or, replicate, Option, Some, None, refl, ap, sym, ◌∙◌, subst, append_assoc, arith}
use Rattle.std.specs.Prelude.{◌||◌, ◌^◌}
use Rattle.std.specs.Simd.{first_chunks}
use Rattle.std.specs.Str.{bytes_eq}
use Rattle.std.proofs.lemmas.Bool.{le-ltb}
use Rattle.std.proofs.lemmas.List.{drop-take, drop_at, get_or-take, length-drop, length-take-le, take_at}
use Rattle.ark_paths.specs.Pair.{Digest}
use Rattle.merkle_log.specs.Kept.{Keeps}
use Rattle.merkle_log.specs.Stored.{stored_count}
use Rattle.log_file.specs.LogFile.{first_word, next_slot, slot_fits, slot_front, slot_size, title, used_slot, written, IsLogFile}
use Rattle.log_file.proofs.Files.{slot-torn, Holds}
use Rattle.log_file.proofs.Heads.{eq_bytes, fits-size, same_bytes, uses-size, Uses}
use Rattle.log_store.specs.Healing.{IsNotOlder, IsReadAs, KeepsIn}
use Rattle.log_store.specs.Sectors.{is_sector, is_whole, laid, layout_in, part_at, sector_title, title_in, IsSpread}
use Rattle.log_store.specs.Store.{IsSettled, IsWithout, SaysLarger}
use Rattle.log_store.specs.declared.sectors.Layout.{Layout}
use Rattle.log_store.specs.declared.sectors.Layout.TheVariants.{Apart, FirstAlone, SecondAlone}
use Rattle.log_store.proofs.Laid.{laid-behind, laid-long}
use Rattle.log_store.proofs.Laying.{length-part, length-title_in, part-whole, titled}
use Rattle.log_store.proofs.Losing.{behind, begin, front, second-slot}
use Rattle.log_store.proofs.Lying.{lies-apart, start-title}
use Rattle.log_store.proofs.Mixing.{slot-within}
use Rattle.log_store.proofs.Spares.{without-used}
use Rattle.log_store.proofs.Writes.{same-written}

-- ---- what is read of a file of which one slot has the log

pub reads-without : (leaves : List Digest) (second : Bool) (file : List ℕ) → 96 ≤ length file
    → IsWithout leaves second file → IsLogFile leaves file ⊎ SaysLarger (length leaves) (length leaves) file
reads-without leaves second file long without =
    let at = next_slot second in
    let n = length leaves in
    let part = take 32 (drop at file) in
    let inside : at + 32 ≤ length file = omega (arith, slot-within second, long) in
    subst (λ f. IsLogFile leaves f ⊎ SaysLarger n n f) (same-written at 32 file part inside refl)
    (without part (length-take-le 32 (drop at file) (omega (arith, inside, length-drop at file))))

pub reads-used : (leaves : List Digest) (root : Digest) (file : List ℕ) (second : Bool)
    → Uses file (length leaves) root second → Holds leaves root file
    → IsLogFile leaves file ⊎ SaysLarger (length leaves) (length leaves) file
reads-used leaves root file second uses has =
    reads-without leaves second file uses.long (without-used leaves root file second uses has)

abbrev some_of : Option ℕ → ℕ
some_of None = 0
some_of (Some n) = n

-- Where both have it, the log is settled.
pub settled-of : (leaves : List Digest) (root : Digest) (file : List ℕ) → Uses file (length leaves) root true
    → Uses file (length leaves) root false → Holds leaves root file → IsSettled leaves file
settled-of leaves root file first second has = record {
  log = elim (slot-torn leaves root file part true first (length-take-le 32 (drop 64 file)
      (omega (arith, first.long, length-drop 64 file))) has) [
        | inl same ↦ subst (IsLogFile leaves) itself same
        | inr larger ↦ absurd (none larger.0 larger.1 larger.2)
      ];
  lost = λ which. lost which;
}
  where
    part : List ℕ
    part = take 32 (drop 64 file)

    itself : written file 64 part ≡ file
    itself = same-written 64 32 file part (omega (arith, first.long)) refl

    none : (other : ℕ) → slot_size part ≡ Some other → length leaves < other → ⊥
    none other says less =
        let same : length leaves ≡ other =
        ap some_of (sym (uses-size file (length leaves) root false second) ∙ says) in
        omega (arith, same, less)

    lost : (which : Bool) → IsWithout leaves which file
    lost true = without-used leaves root file true first has
    lost false = without-used leaves root file false second has

-- ---- the parts of the log's file

module _ (file : List ℕ) (long : 8192 ≤ length file) where
  pub begins-is : take 32 file ≡ sector_title → title_in file ≡ title
  begins-is is = titled file (part-whole 0 32 file (omega (arith, long)) ∙ is)

  pub first-is : take 32 (drop 32 (laid Apart file)) ≡ take 32 (drop 32 file)
  first-is = sym (drop-take 32 32 (laid Apart file)) ∙ ap (drop 32) (front file)
      ∙ drop_at (title_in file) (part_at 32 32 file) 32 (length-title_in file)
      ∙ part-whole 32 32 file (omega (arith, long))

  pub second-is : take 32 (drop 64 (laid Apart file)) ≡ take 32 (drop 4128 file)
  second-is = ap (take 32) (behind file) ∙ take_at (part_at 4128 32 file) (drop 8192 file) 32 (length-part 4128 32 file)
      ∙ part-whole 4128 32 file (omega (arith, long))

  pub long-laid : (layout : Layout) → IsSpread layout → 96 ≤ length (laid layout file)
  long-laid layout spread = omega (arith, laid-long layout file spread)

  -- the first slot where it is read alone
  pub first-alone-is : take 32 (drop 32 (laid FirstAlone file)) ≡ take 32 (drop 32 file)
  first-alone-is =
      let zeros = replicate 32 0 in
      ap (λ l. take 32 (drop 32 l)) (append_assoc (title_in file) (part_at 32 32 file ++ zeros) (drop 8192 file))
      ∙ ap (take 32) (drop_at (title_in file) ((part_at 32 32 file ++ zeros) ++ drop 8192 file) 32
      (length-title_in file))
      ∙ ap (take 32) (append_assoc (part_at 32 32 file) zeros (drop 8192 file))
      ∙ take_at (part_at 32 32 file) (zeros ++ drop 8192 file) 32 (length-part 32 32 file)
      ∙ part-whole 32 32 file (omega (arith, long))

  pub first-alone-title : take 32 (laid FirstAlone file) ≡ title_in file
  first-alone-title =
      let rest = part_at 32 32 file ++ replicate 32 0 in
      ap (take 32) (append_assoc (title_in file) rest (drop 8192 file))
      ∙ take_at (title_in file) (rest ++ drop 8192 file) 32 (length-title_in file)

  -- the second one where it is
  pub second-alone-title : take 32 (laid SecondAlone file) ≡ title
  second-alone-title =
      let rest = replicate 32 0 ++ part_at 4128 32 file in
      ap (take 32) (append_assoc title rest (drop 8192 file)) ∙ take_at title (rest ++ drop 8192 file) 32 refl

  pub second-alone-is : take 32 (drop 64 (laid SecondAlone file)) ≡ take 32 (drop 4128 file)
  second-alone-is =
      let head = title ++ replicate 32 0 in
      ap (λ l. take 32 (drop 64 (l ++ drop 8192 file)))
      (sym (append_assoc title (replicate 32 0) (part_at 4128 32 file)))
      ∙ ap (λ l. take 32 (drop 64 l)) (append_assoc head (part_at 4128 32 file) (drop 8192 file))
      ∙ ap (take 32) (drop_at head (part_at 4128 32 file ++ drop 8192 file) 64 refl)
      ∙ take_at (part_at 4128 32 file) (drop 8192 file) 32 (length-part 4128 32 file)
      ∙ part-whole 4128 32 file (omega (arith, long))

pub uses-of : (file slot : List ℕ) (size : ℕ) (root : Digest) (second : Bool) → 96 ≤ length file → take 32 file ≡ title
    → size < 2 ^ 63 → take 32 (drop (used_slot second) file) ≡ slot → slot_fits slot size root ≡ true
    → Uses file size root second
uses-of file slot size root second long begins small is fits = record {
  long = long;
  begins = ap (λ l. bytes_eq l title) begins ∙ same_bytes title;
  small = omega (arith, small);
  fits = ap (λ l. slot_fits l size root) is ∙ fits;
}

-- ---- a file that keeps a log in one slot

module _ {slot : List ℕ} {first : Bool} {leaves : List Digest} {file : List ℕ} (kept : KeepsIn slot first leaves file)
  where
    pub kept-long : 8192 ≤ length file
    kept-long = omega (arith, kept.inside)

    pub kept-holds : (layout : Layout) → IsSpread layout → Holds leaves kept.root (laid layout file)
    kept-holds layout spread = record {
      fits = kept.small;
      inside = omega (arith, kept.inside, laid-long layout file spread);
      keeps = subst (λ l. Keeps leaves (first_chunks 32 (stored_count (length leaves)) l))
          (sym (laid-behind layout file 0 spread)) kept.keeps;
      root_is = kept.root_is;
    }

-- in the first one
kept-first : (slot : List ℕ) (leaves : List Digest) (file : List ℕ) (kept : KeepsIn slot true leaves file)
    → Uses (laid Apart file) (length leaves) kept.root true
kept-first slot leaves file kept =
    let long = kept-long kept in
    uses-of (laid Apart file) slot (length leaves) kept.root true (long-laid file long Apart tt)
    (begin file ∙ begins-is file long kept.stands.0) kept.small (first-is file long ∙ kept.stands.1) kept.fits

-- whether a slot that fits is whole
fits-whole : (slot : List ℕ) (size : ℕ) (root : Digest) → size < 2 ^ 63 → slot_fits slot size root ≡ true
    → is_whole slot ≡ true
fits-whole slot size root small fits =
    go (bytes_eq (take 20 slot) (slot_front (first_word slot))) refl
    (fits-size slot size root (omega (arith, small)) fits)
  where
    go : (b : Bool) → is_whole slot ≡ b → slot_size slot ≡ Some size → b ≡ true
    go true is says = refl
    go false is says = none (rw is at says)
      where
        none : None ≡ Some size → false ≡ true
        none clash = absurd (cc)

or-true : (b : Bool) → (b || true) ≡ true
or-true true = refl
or-true false = refl

-- How a file lies whose second sector has a slot that is whole.
second-lies : (file : List ℕ) → 8192 ≤ length file → is_whole (take 32 (drop 4128 file)) ≡ true → IsNotOlder file
    → ((layout_in file ≡ Apart) × (take 32 file ≡ sector_title)) ⊎ (layout_in file ≡ SecondAlone)
second-lies file long whole other = go (bytes_eq (take 32 (part_at 0 64 file)) sector_title) refl
  where
    start : take 32 (part_at 0 64 file) ≡ take 32 file
    start = start-title file long

    sector : is_sector (part_at 4096 64 file) ≡ true
    sector = ap (λ b. bytes_eq (take 32 (part_at 4096 64 file)) sector_title || b)
        (ap is_whole (second-slot (part_at 4096 64 file) file (part-whole 4096 64 file (omega (arith, long)))) ∙ whole)
        ∙ or-true (bytes_eq (take 32 (part_at 4096 64 file)) sector_title)

    no-older : (b : Bool) → bytes_eq (take 32 (part_at 0 64 file)) title ≡ b → b ≡ false
    no-older false is = refl
    no-older true is = absurd (other.3 (sym (ap (λ l. get_or l other.0 0)
        (sym start ∙ eq_bytes (take 32 (part_at 0 64 file)) title is))
        ∙ get_or-take 32 file other.0 0 other.1))

    go : (b : Bool) → bytes_eq (take 32 (part_at 0 64 file)) sector_title ≡ b
        → ((layout_in file ≡ Apart) × (take 32 file ≡ sector_title)) ⊎ (layout_in file ≡ SecondAlone)
    go true is = inl (
      rw (le-ltb (length file) 8192 long, is) refl,
      sym start ∙ eq_bytes (take 32 (part_at 0 64 file)) sector_title is,
    )
    go false is = inr (rw (
      le-ltb (length file) 8192 long,
      is,
      no-older (bytes_eq (take 32 (part_at 0 64 file)) title) refl,
      sector,
    ) refl)

-- in the second one, whether the first one has its title or is not read
kept-second : (slot : List ℕ) (leaves : List Digest) (file : List ℕ) (kept : KeepsIn slot false leaves file)
    → take 32 file ≡ sector_title → Uses (laid Apart file) (length leaves) kept.root false
kept-second slot leaves file kept is =
    let long = kept-long kept in
    uses-of (laid Apart file) slot (length leaves) kept.root false (long-laid file long Apart tt)
    (begin file ∙ begins-is file long is) kept.small (second-is file long ∙ kept.stands.0) kept.fits

kept-alone : (slot : List ℕ) (leaves : List Digest) (file : List ℕ) (kept : KeepsIn slot false leaves file)
    → Uses (laid SecondAlone file) (length leaves) kept.root false
kept-alone slot leaves file kept =
    let long = kept-long kept in
    uses-of (laid SecondAlone file) slot (length leaves) kept.root false (long-laid file long SecondAlone tt)
    (second-alone-title file long) kept.small (second-alone-is file long ∙ kept.stands.0) kept.fits

-- However it lies then, it is read as the log.
reads-as : (leaves : List Digest) (layout : Layout) (file own : List ℕ) → layout_in file ≡ layout
    → own ≡ laid layout file → IsLogFile leaves own ⊎ SaysLarger (length leaves) (length leaves) own
    → IsReadAs leaves file
reads-as leaves layout file own lies is reads =
    let n = length leaves in
    subst (λ f. IsLogFile leaves f ⊎ SaysLarger n n f) (is ∙ ap (λ l. laid l file) (sym lies)) reads

pub reads-kept : (slot : List ℕ) (first : Bool) (leaves : List Digest) (file : List ℕ) → KeepsIn slot first leaves file
    → IsReadAs leaves file
reads-kept slot true leaves file kept =
    reads-as leaves Apart file (laid Apart file) (lies-apart file (kept-long kept) kept.stands.0) refl
    (reads-used leaves kept.root (laid Apart file) true (kept-first slot leaves file kept) (kept-holds kept Apart tt))
reads-kept slot false leaves file kept =
    let whole : is_whole (take 32 (drop 4128 file)) ≡ true =
    ap is_whole kept.stands.0 ∙ fits-whole slot (length leaves) kept.root kept.small kept.fits in
    ⊎_elim (λ apart. reads-as leaves Apart file (laid Apart file) apart.0 refl
    (reads-used leaves kept.root (laid Apart file) false (kept-second slot leaves file kept apart.1)
    (kept-holds kept Apart tt)))
    (λ alone. reads-as leaves SecondAlone file (laid SecondAlone file) alone refl
    (reads-used leaves kept.root (laid SecondAlone file) false (kept-alone slot leaves file kept)
    (kept-holds kept SecondAlone tt)))
    (second-lies file (kept-long kept) whole kept.stands.1)
