-- How a log's file lies, also while it is written.
use Rattle.std.proofs.Common.{◌≡◌, ◌⊎◌, ⊎_elim, inl, inr, ℕ, ◌+◌, ◌≤◌, Bool, true, false, if◌then◌else◌, List, [], ◌∷◌, ◌++◌, length, take, drop, get_or, refl, ap, sym, ◌∙◌, subst, append_assoc, arith}
use Rattle.std.specs.Prelude.{nat_lt, replicate}
use Rattle.std.specs.Str.{bytes_eq}
use Rattle.std.proofs.lemmas.Bool.{cases_lt, ltb-false}
use Rattle.std.proofs.lemmas.List.{length-append, length-drop, length-take-le, take_all, take_at}
use Rattle.ark_paths.specs.Pair.{Digest}
use Rattle.log_file.specs.LogFile.{file_end, title, written, IsLogFile}
use Rattle.log_file.proofs.Files.{known}
use Rattle.log_file.proofs.Heads.{eq_bytes, head-parts}
use Rattle.log_store.specs.Sectors.{is_sector, laid, layout_in, part_at, sector_title, title_in, Through}
use Rattle.log_store.specs.Store.{BeginsAs, IsBeforeOrAfter, IsMidAppend, IsSettled, SaysLarger}
use Rattle.log_store.specs.declared.sectors.Layout.{Layout}
use Rattle.log_store.specs.declared.sectors.Layout.TheVariants.{Apart, Dense, FirstAlone, SecondAlone}
use Rattle.log_store.proofs.Laying.{length-title_in, part-whole, title-cases, titled}
use Rattle.log_store.proofs.Lying.{lies-apart, lies-dense, lies-short, start-title}
use Rattle.paxidore_calls.proofs.Plans.{from-start, left_from, none-left, stopped-all}
use Rattle.paxidore_calls.specs.Layouts.{log_in, IsSameLog}
use Rattle.paxidore_calls.specs.Plan.{IsStopped, carried}
use Rattle.paxidore_calls.specs.declared.file_calls.replay.Step.{Step}

-- ---- what is read

pub log-of : (layout : Layout) (file : List ℕ) → layout ≡ layout_in file → laid layout file ≡ log_in file
unfolding log_in
log-of layout file is = ap (λ l. laid l file) is

-- to which nothing is to be written yet
pub read-of : (layout : Layout) (steps : List Step) (file : List ℕ) → layout ≡ layout_in file → steps ≡ []
    → laid layout (carried steps file) ≡ log_in file
read-of layout steps file is none = ap (λ s. laid layout (carried s file)) none ∙ log-of layout file is

-- ---- which layout

-- the layout of a file by four tests
abbrev by_tests : Bool → Bool → Bool → Bool → Layout
by_tests short begins older second =
    if short then Dense else if begins then Apart else if older then Dense else if second then SecondAlone else Dense

-- No file says that its second sector is lost.
pub never-first : (file : List ℕ) → layout_in file ≡ FirstAlone → ⊥
never-first file is = go (nat_lt (length file) 8192) (bytes_eq (take 32 (part_at 0 64 file)) sector_title)
    (bytes_eq (take 32 (part_at 0 64 file)) title) (is_sector (part_at 4096 64 file)) is
  where
    go : (short begins older second : Bool) → by_tests short begins older second ≡ FirstAlone → ⊥
    go true begins older second is = cc
    go false true older second is = cc
    go false false true second is = cc
    go false false false true is = cc
    go false false false false is = cc

-- A file with sectors has both, and the first one begins with its title.
pub record Sectored (file : List ℕ) : Type 0 where
  pub long : 8192 ≤ length file
  pub begins : take 32 file ≡ sector_title

pub sectored : (file : List ℕ) → layout_in file ≡ Apart → Sectored file
sectored file is = go (nat_lt (length file) 8192) refl (bytes_eq (take 32 (part_at 0 64 file)) sector_title) refl
    (bytes_eq (take 32 (part_at 0 64 file)) title) (is_sector (part_at 4096 64 file)) is
  where
    go : (short : Bool) → nat_lt (length file) 8192 ≡ short → (begins : Bool)
        → bytes_eq (take 32 (part_at 0 64 file)) sector_title ≡ begins → (older second : Bool)
        → by_tests short begins older second ≡ Apart → Sectored file
    go true long begins same older second is = absurd (cc)
    go false long true same older second is =
        let inside : 8192 ≤ length file = ltb-false (length file) 8192 long in
        record {
          long = inside;
          begins = sym (start-title file inside) ∙ eq_bytes (take 32 (part_at 0 64 file)) sector_title same;
        }
    go false long false same true second is = absurd (cc)
    go false long false same false true is = absurd (cc)
    go false long false same false false is = absurd (cc)

-- The log's file of one with sectors begins with its title, where they have theirs.
title-on : (file : List ℕ) → take 32 (laid Apart file) ≡ title_in file
title-on file =
    let slots = part_at 32 32 file ++ part_at 4128 32 file in
    ap (take 32) (append_assoc (title_in file) slots (drop 8192 file))
    ∙ take_at (title_in file) (slots ++ drop 8192 file) 32 (length-title_in file)

no-title : replicate 32 0 ≡ title → ⊥
no-title is = absurd (omega (arith, ap (λ l. get_or l 0 0) is))

title-behind : (file : List ℕ) → title_in file ≡ title → part_at 0 32 file ≡ sector_title
title-behind file is = ⊎_elim (λ there. there.begins) (λ none. absurd (no-title (sym none.0 ∙ is))) (title-cases file)

-- A file lies as it did, where the log's file begins with its title and no byte was cut off.
pub lies-still : (layout : Layout) (file left : List ℕ) → layout ≡ layout_in file → (layout ≡ SecondAlone → ⊥)
    → length file ≤ length left → take 32 (laid layout left) ≡ title → layout_in left ≡ layout_in file
lies-still Dense file left is there longer begins = elim (cases_lt (length left) 8192) [
  | inl short ↦ lies-short left short ∙ is
  | inr long ↦ lies-dense left long begins ∙ is
]
lies-still Apart file left is there longer begins =
    let own = sectored file (sym is) in
    let long : 8192 ≤ length left = omega (arith, own.long, longer) in
    lies-apart left long (sym (part-whole 0 32 left (omega (arith, long)))
    ∙ title-behind left (sym (title-on left) ∙ begins)) ∙ is
lies-still FirstAlone file left is there longer begins = absurd (never-first file (sym is))
lies-still SecondAlone file left is there longer begins = absurd (there refl)

-- ---- a log's file begins with its title

pub log-begins : (leaves : List Digest) (file : List ℕ) → IsLogFile leaves file → take 32 file ≡ title
log-begins leaves file log = eq_bytes (take 32 file) title (known leaves file log).head.begins

says-begins : (size new : ℕ) (file : List ℕ) → SaysLarger size new file → take 32 file ≡ title
says-begins size new file says = eq_bytes (take 32 file) title (head-parts file says.0 says.1 says.2).begins

mid-begins : (leaves more : List Digest) (file left : List ℕ) → IsBeforeOrAfter leaves more file left
    → take 32 left ≡ title
mid-begins leaves more file left mid = ⊎_elim (log-begins leaves left)
    (⊎_elim (log-begins (leaves ++ more) left)
    (λ forged. says-begins (length leaves) (length (leaves ++ more)) left forged.says)) mid

-- ---- no step makes a file shorter

written-longer : (file : List ℕ) (at : ℕ) (bytes : List ℕ) → length file ≤ length (written file at bytes)
written-longer file at bytes = elim (cases_lt (length file) at) [
  | inl past ↦ omega (
    arith,
    length-append (take at file ++ bytes) (drop (at + length bytes) file),
    length-append (take at file) bytes,
    ap length (take_all at file (omega (arith, past))),
  )
  | inr inside ↦ omega (
    arith,
    length-append (take at file ++ bytes) (drop (at + length bytes) file),
    length-append (take at file) bytes,
    length-take-le at file inside,
    length-drop (at + length bytes) file,
  )
]

pub stopped-longer : (xs : List Step) (file left : List ℕ) → IsStopped xs file left → length file ≤ length left
stopped-longer [] file left stopped = omega (arith, ap length stopped)
stopped-longer (x ∷ xs) file left (inl torn) = torn.cut.no_shorter
stopped-longer (x ∷ xs) file left (inr behind) =
    let more = written-longer file x.at x.bytes.items in
    let rest = stopped-longer xs (written file x.at x.bytes.items) left behind in
    omega (arith, more, rest)

-- ---- a file that is written

module _ (layout : Layout) (file : List ℕ) (is : layout ≡ layout_in file) (there : layout ≡ SecondAlone → ⊥) where
  -- of an append that stopped
  pub append-lies : (leaves more : List Digest) (left : List ℕ) → length file ≤ length left
      → IsBeforeOrAfter leaves more (laid layout file) (laid layout left) → layout_in left ≡ layout_in file
  append-lies leaves more left longer mid = lies-still layout file left is there longer
      (mid-begins leaves more (laid layout file) (laid layout left) mid)

  pub append-stopped : (leaves more : List Digest) (left : List ℕ) → length file ≤ length left
      → IsBeforeOrAfter leaves more (laid layout file) (laid layout left)
      → IsBeforeOrAfter leaves more (log_in file) (log_in left)
  append-stopped leaves more left longer mid =
      subst (λ f. IsBeforeOrAfter leaves more f (log_in left)) (log-of layout file is)
      (subst (IsBeforeOrAfter leaves more (laid layout file))
      (log-of layout left (is ∙ sym (append-lies leaves more left longer mid))) mid)

  -- of the file of a log
  pub log-lies : (leaves : List Digest) (left : List ℕ) → length file ≤ length left
      → IsLogFile leaves (laid layout left) → laid layout left ≡ log_in left
  log-lies leaves left longer log = log-of layout left
      (is ∙ sym (lies-still layout file left is there longer (log-begins leaves (laid layout left) log)))

-- all steps of an append are carried out
pub grown-settled : (all : List Digest) (layout new : Layout) (after steps : List Step) (file : List ℕ)
    → layout ≡ layout_in file → (layout ≡ SecondAlone → ⊥) → new ≡ layout → steps ≡ after
    → IsSettled all (laid new (carried after file)) → IsSettled all (log_in (carried steps file))
grown-settled all layout new after steps file is there same told settled =
    let own : IsSettled all (laid layout (carried steps file)) =
    subst (λ l. IsSettled all (laid l (carried steps file))) same
    (subst (λ s. IsSettled all (laid new (carried s file))) (sym told) settled) in
    let longer = stopped-longer steps file (carried steps file) (stopped-all steps file) in
    subst (IsSettled all) (log-lies layout file is there all (carried steps file) longer own.log) own

-- the steps of an append stop somewhere
pub moment-stopped : (leaves more : List Digest) (layout new : Layout) (before after steps : List Step) (n : ℕ)
    (file left : List ℕ) → new ≡ layout → before ≡ [] → n ≡ 0 → steps ≡ after
    → ((left : List ℕ) → Through new (left_from n after file) left
    → IsMidAppend leaves more (laid layout (carried before file)) left)
    → IsStopped steps file left → IsBeforeOrAfter leaves more (laid layout file) (laid layout left)
moment-stopped leaves more layout new before after steps n file left same none start told each stopped =
    let there = (each (laid new left)
    (left, from-start n start after file left (subst (λ s. IsStopped s file left) told stopped), refl)).log in
    subst (λ l. IsBeforeOrAfter leaves more (laid layout file) (laid l left)) same
    (subst (λ s. IsBeforeOrAfter leaves more (laid layout (carried s file)) (laid new left)) none there)

-- before the first step the log is durable
pub durable-start : (layout : Layout) (before : List Step) (n : ℕ) (file : List ℕ) (size : ℕ) → before ≡ []
    → (left : List ℕ) → Through layout (left_from n before file) left
    → BeginsAs size (laid layout (carried before file)) left
durable-start layout before n file size none left now =
    ap (take (file_end size)) (now.2 ∙ ap (laid layout) (none-left n before none file now.0 now.1))

-- Where the log's file is the same, so is how the file lies.
pub same-lies : (layout : Layout) (file left : List ℕ) → layout ≡ layout_in file → (layout ≡ SecondAlone → ⊥)
    → length file ≤ length left → laid layout left ≡ laid layout file → IsSameLog file left
same-lies layout file left is there longer same =
    let lies = still layout is there same in
    record { layout = lies; log = sym (log-of layout left (is ∙ sym lies)) ∙ same ∙ log-of layout file is }
  where
    still : (layout : Layout) → layout ≡ layout_in file → (layout ≡ SecondAlone → ⊥)
        → laid layout left ≡ laid layout file → layout_in left ≡ layout_in file
    still Dense is there same = ap layout_in same
    still Apart is there same =
        let own = sectored file (sym is) in
        let first : part_at 0 32 file ≡ sector_title =
        part-whole 0 32 file (omega (arith, own.long)) ∙ own.begins in
        lies-still Apart file left is there longer
        (ap (take 32) same ∙ title-on file ∙ titled file first)
    still FirstAlone is there same = absurd (never-first file (sym is))
    still SecondAlone is there same = absurd (there refl)

-- The steps of a call that leaves the log's file.
pub steps-same : (layout new : Layout) (before after steps : List Step) (file : List ℕ) → layout ≡ layout_in file
    → (layout ≡ SecondAlone → ⊥) → new ≡ layout → before ≡ [] → steps ≡ after
    → laid new (carried after file) ≡ laid layout (carried before file) → IsSameLog file (carried steps file)
steps-same layout new before after steps file is there same none told kept =
    same-lies layout file (carried steps file) is there
    (stopped-longer steps file (carried steps file) (stopped-all steps file))
    (ap (λ l. laid l (carried steps file)) (sym same) ∙ ap (λ s. laid new (carried s file)) told ∙ kept
    ∙ ap (λ s. laid layout (carried s file)) none)
