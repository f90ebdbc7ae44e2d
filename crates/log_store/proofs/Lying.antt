-- How a file lies, as its first two sectors say.
use Rattle.std.proofs.Common.{◌≡◌, ◌<◌, ◌≤◌, inl, inr, ℕ, Bool, true, false, List, length, take, drop, refl, ap, sym, ◌∙◌, arith}
use Rattle.std.specs.Prelude.{◌||◌}
use Rattle.std.specs.Str.{bytes_eq}
use Rattle.std.proofs.lemmas.Bool.{le-ltb, lt-ltb}
use Rattle.ark_paths.specs.Pair.{Digest}
use Rattle.log_file.specs.LogFile.{first_word, slot_front, title, IsLogFile}
use Rattle.log_file.proofs.Heads.{eq_bytes, same_bytes}
use Rattle.log_store.specs.Sectors.{is_sector, is_whole, laid, layout_in, part_at, sector_title, HasSecond}
use Rattle.log_store.specs.declared.sectors.Layout.TheVariants.{Apart, Dense}
use Rattle.log_store.proofs.Laying.{part-whole}
use Rattle.log_store.proofs.Losing.{first-title, log-titled, other-title, second-slot, second-title}

-- how the first sector begins
pub start-title : (file : List ℕ) → 8192 ≤ length file → take 32 (part_at 0 64 file) ≡ take 32 file
start-title file long = first-title (part_at 0 64 file) file (part-whole 0 64 file (omega (arith, long)))

-- So begins the first sector of a log.
pub settled-title : (file : List ℕ) (leaves : List Digest) → 8192 ≤ length file → IsLogFile leaves (laid Apart file)
    → take 32 file ≡ sector_title
settled-title file leaves long log =
    sym (part-whole 0 32 file (omega (arith, long))) ∙ log-titled file leaves log

-- of a file whose first sector has its title
pub lies-apart : (file : List ℕ) → 8192 ≤ length file → take 32 file ≡ sector_title → layout_in file ≡ Apart
lies-apart file long is =
    let begins : bytes_eq (take 32 (part_at 0 64 file)) sector_title ≡ true =
    ap (λ l. bytes_eq l sector_title) (start-title file long ∙ is) ∙ same_bytes sector_title in
    rw (le-ltb (length file) 8192 long, begins) refl

-- of an older file
pub lies-dense : (file : List ℕ) → 8192 ≤ length file → take 32 file ≡ title → layout_in file ≡ Dense
lies-dense file long is = go (bytes_eq (take 32 (part_at 0 64 file)) sector_title) refl
  where
    older : bytes_eq (take 32 (part_at 0 64 file)) title ≡ true
    older = ap (λ l. bytes_eq l title) (start-title file long ∙ is) ∙ same_bytes title

    go : (begins : Bool) → bytes_eq (take 32 (part_at 0 64 file)) sector_title ≡ begins → layout_in file ≡ Dense
    go true begins = absurd (other-title (sym (eq_bytes (take 32 (part_at 0 64 file)) sector_title begins)
        ∙ start-title file long ∙ is))
    go false begins = rw (le-ltb (length file) 8192 long, begins, older) refl

-- of a short one
pub lies-short : (file : List ℕ) → length file < 8192 → layout_in file ≡ Dense
lies-short file short = rw (lt-ltb (length file) 8192 short) refl

-- a second sector that is one
pub second-there : (start file : List ℕ) → start ≡ part_at 4096 64 file → 8192 ≤ length file → is_sector start ≡ true
    → HasSecond file
second-there start file is long there = go (bytes_eq (take 32 start) sector_title) refl there
  where
    whole : start ≡ take 64 (drop 4096 file)
    whole = is ∙ part-whole 4096 64 file (omega (arith, long))

    go : (begins : Bool) → bytes_eq (take 32 start) sector_title ≡ begins
        → (begins || is_whole (drop 32 start)) ≡ true → HasSecond file
    go true begins told = inl (sym (second-title start file whole) ∙ eq_bytes (take 32 start) sector_title begins)
    go false begins told = inr (
      first_word (drop 32 start),
      ap (take 20) (sym (second-slot start file whole))
          ∙ eq_bytes (take 20 (drop 32 start)) (slot_front (first_word (drop 32 start))) told,
    )
