-- The two sectors of a new log, and a file that has no more than a part of them.
use Rattle.std.proofs.Common.{◌≡◌, ◌⊎◌, ⊎_elim, inl, inr, ℕ, ◌+◌, ◌<◌, ◌≤◌, List, [], ◌++◌, length, take, drop, get_or, replicate, refl, ap, sym, ◌∙◌, subst, append_assoc, arith}
use Rattle.std.proofs.lemmas.Bool.{cases_lt}
use Rattle.std.proofs.lemmas.List.{append-nil, drop-drop, drop-replicate, drop_all, drop_at, ext_get_or, get_or-replicate, get_or-take, get_or_append_left, get_or_past, length-append, length-replicate, take-replicate, take_at}
use Rattle.std.proofs.Math.Nat.{max-eq_right}
use Rattle.sha2.specs.Sha256.{sha256}
use Rattle.ark_paths.specs.Pair.{Digest}
use Rattle.log_file.specs.LogFile.{slot, title, written, IsLogFile}
use Rattle.log_file.proofs.Files.{known}
use Rattle.log_file.proofs.Heads.{eq_bytes, length-slot}
use Rattle.log_store.specs.Disk.{Torn}
use Rattle.log_store.specs.Sectors.{blank_sector, blank_sectors, laid, layout_in, part_at, sector_of, sector_rest, sector_title, sectors_head, title_in}
use Rattle.log_store.specs.Store.{new_head, IsNewFile, IsPartOf, IsSettled}
use Rattle.log_store.specs.declared.sectors.Layout.TheVariants.{Apart}
use Rattle.log_store.proofs.Laying.{length-part, part-byte, part-whole, title-cases, titled}
use Rattle.log_store.proofs.Lying.{lies-apart}
use Rattle.log_store.proofs.Recovering.{new-settled}

-- ---- a part of a head

-- The head is written over it, and is cut short.
pub part-torn : (head before left : List ℕ) → IsPartOf head before → Torn 0 head before left → IsPartOf head left
part-torn head before left part torn = record {
  short = long;
  bytes = λ n less. ⊎_elim (old n) (λ new. inl new) (torn.mixed n (omega (arith, less, long)));
}
  where
    long : length left ≤ length head
    long = omega (
      arith,
      torn.cut.no_longer,
      max-eq_right {n = length before} {m = 0 + length head} (omega (arith, part.short)),
    )

    old : (n : ℕ) → get_or left n 0 ≡ get_or before n 0
        → (get_or left n 0 ≡ get_or head n 0) ⊎ (get_or left n 0 ≡ 0)
    old n same = elim (cases_lt n (length before)) [
      | inl within ↦ ⊎_elim (λ is. inl (same ∙ is)) (λ zero. inr (same ∙ zero)) (part.bytes n within)
      | inr past ↦ inr (same ∙ get_or_past before n 0 past)
    ]

-- It is written over it whole.
pub part-over : (head before : List ℕ) → IsPartOf head before → written before 0 head ≡ head
part-over head before part =
    ap (λ l. head ++ l) (drop_all (0 + length head) before (omega (arith, part.short))) ∙ append-nil head

-- Nothing is a part of each.
pub part-none : (head file : List ℕ) → file ≡ [] → IsPartOf head file
part-none head file none = rw (none) (record { short = omega arith; bytes = λ n less. absurd (omega arith) })

-- ---- two sectors

pub rest-long : length sector_rest ≡ 4032
unfolding sector_rest
rest-long = length-replicate {A = ℕ} 4032 0

title-long : length sector_title ≡ 32
title-long = refl

-- A title and a slot are put to the front of zeros.
pub sector-put : (top own zeros : List ℕ) → zeros ≡ replicate 4096 0
    → (top ++ own) ++ drop 64 zeros ≡ top ++ (own ++ sector_rest)
unfolding sector_rest
sector-put top own zeros is = ap (λ l. (top ++ own) ++ l) (ap (drop 64) is ∙ drop-replicate 64 4096 0)
    ∙ append_assoc top own (replicate 4032 0)

-- two sectors of a title, a slot and what stands behind it
module _ (top own rest : List ℕ) (top-long : length top ≡ 32) (own-long : length own ≡ 32)
    (all : length rest ≡ 4032) where
  abbrev sector : List ℕ
  sector = top ++ (own ++ rest)

  abbrev both : List ℕ
  both = (top ++ (own ++ rest)) ++ (top ++ (own ++ rest))

  sector-long : length (top ++ (own ++ rest)) ≡ 4096
  sector-long = omega (arith, length-append top (own ++ rest), length-append own rest, top-long, own-long, all)

  pub both-long : length both ≡ 8192
  both-long = omega (arith, length-append sector sector, sector-long)

  pub both-title : take 32 both ≡ top
  both-title = ap (take 32) (append_assoc top (own ++ rest) sector)
      ∙ take_at top ((own ++ rest) ++ sector) 32 top-long

  both-behind : drop 32 both ≡ own ++ (rest ++ sector)
  both-behind = ap (drop 32) (append_assoc top (own ++ rest) sector)
      ∙ drop_at top ((own ++ rest) ++ sector) 32 top-long ∙ append_assoc own rest sector

  both-first : take 32 (drop 32 both) ≡ own
  both-first = ap (take 32) both-behind ∙ take_at own (rest ++ sector) 32 own-long

  both-half : drop 4096 both ≡ sector
  both-half = drop_at sector sector 4096 sector-long

  both-second : take 32 (drop 4128 both) ≡ own
  both-second = ap (take 32) (sym (drop-drop 32 4096 both) ∙ ap (drop 32) both-half
      ∙ drop_at top (own ++ rest) 32 top-long) ∙ take_at own rest 32 own-long

  both-end : drop 8192 both ≡ []
  both-end = drop_all 8192 both (omega (arith, both-long))

  -- the log's file that they are
  pub both-laid : top ≡ sector_title → laid Apart both ≡ title ++ (own ++ own)
  both-laid is =
      let inside : 8192 ≤ length both = omega (arith, both-long) in
      let begins : title_in both ≡ title =
      titled both (part-whole 0 32 both (omega (arith, inside)) ∙ both-title ∙ is) in
      let first : part_at 32 32 both ≡ own = part-whole 32 32 both (omega (arith, inside)) ∙ both-first in
      let second : part_at 4128 32 both ≡ own = part-whole 4128 32 both (omega (arith, inside)) ∙ both-second in
      ap (λ l. (l ++ (part_at 32 32 both ++ part_at 4128 32 both)) ++ drop 8192 both) begins
      ∙ ap (λ l. (title ++ (l ++ part_at 4128 32 both)) ++ drop 8192 both) first
      ∙ ap (λ l. (title ++ (own ++ l)) ++ drop 8192 both) second
      ∙ ap (λ l. (title ++ (own ++ own)) ++ l) both-end ∙ append-nil (title ++ (own ++ own))

-- ---- those of a log of no entries

abbrev first_slot : List ℕ
first_slot = slot 0 (sha256 [])

slot-long : length (slot 0 (sha256 [])) ≡ 32
slot-long = length-slot 0 (sha256 [])

pub sectors-long : length sectors_head ≡ 8192
sectors-long = both-long sector_title first_slot sector_rest title-long slot-long rest-long

pub sectors-lie : layout_in sectors_head ≡ Apart
sectors-lie = lies-apart sectors_head (omega (arith, sectors-long))
    (both-title sector_title first_slot sector_rest title-long slot-long rest-long)

pub sectors-settled : IsSettled [] (laid Apart sectors_head)
sectors-settled = subst (IsSettled [])
    (part-over new_head [] (part-none new_head [] refl)
    ∙ sym (both-laid sector_title first_slot sector_rest title-long slot-long rest-long refl))
    (new-settled new_head [] refl refl)

-- An older log's file is no part of them.
pub older-other : (leaves : List Digest) (file : List ℕ) → IsLogFile leaves file → IsPartOf sectors_head file → ⊥
older-other leaves file log part =
    let head = (known leaves file log).head in
    let begins : take 32 file ≡ title = eq_bytes (take 32 file) title head.begins in
    let own : get_or file 12 0 ≡ 44 =
    sym (get_or-take 32 file 12 0 (omega arith)) ∙ ap (λ l. get_or l 12 0) begins in
    let other : get_or sectors_head 12 0 ≡ 32 =
    sym (get_or-take 32 sectors_head 12 0 (omega arith)) ∙ ap (λ l. get_or l 12 0)
    (both-title sector_title first_slot sector_rest title-long slot-long rest-long) in
    ⊎_elim (λ same. absurd (omega (arith, own, other, same))) (λ zero. absurd (omega (arith, own, zero)))
    (part.bytes 12 (omega (arith, head.long)))

-- ---- two sectors without a slot

abbrev no_slot : List ℕ
no_slot = replicate 32 0

blank-long : length blank_sector ≡ 4096
unfolding blank_sector
blank-long = length-replicate {A = ℕ} 4096 0

no-slot-long : length (replicate {A = ℕ} 32 0) ≡ 32
no-slot-long = length-replicate {A = ℕ} 32 0

second-long : length (sector_of (replicate 32 0)) ≡ 4096
second-long = omega (
  arith,
  length-append sector_title (no_slot ++ sector_rest),
  length-append no_slot sector_rest,
  title-long,
  no-slot-long,
  rest-long,
)

pub blanks-long : length blank_sectors ≡ 8192
blanks-long = omega (arith, length-append blank_sector (sector_of no_slot), blank-long, second-long)

-- how they are written
pub blanks-written : (zeros : List ℕ) → zeros ≡ replicate 8192 0
    → take 4096 zeros ++ (sector_of (replicate 32 0) ++ drop 4096 (drop 4096 zeros)) ≡ blank_sectors
unfolding blank_sector
blanks-written zeros is = ap (λ l. take 4096 l ++ (sector_of no_slot ++ drop 4096 (drop 4096 l))) is
    ∙ ap (λ l. l ++ (sector_of no_slot ++ drop 4096 (drop 4096 (replicate 8192 0))))
    (take-replicate 4096 8192 0 (omega arith))
    ∙ ap (λ l. replicate 4096 0 ++ (sector_of no_slot ++ l))
    (drop-drop 4096 4096 (replicate 8192 0) ∙ drop-replicate 8192 8192 0)
    ∙ ap (λ l. replicate 4096 0 ++ l) (append-nil (sector_of no_slot))

blank-byte : (i : ℕ) → i < 4096 → get_or blank_sectors i 0 ≡ 0
unfolding blank_sector
blank-byte i low = get_or_append_left (replicate 4096 0) (sector_of no_slot) 0 i
    (omega (arith, low, length-replicate {A = ℕ} 4096 0)) ∙ get_or-replicate 4096 i 0 0 low

-- zeros where each byte is one
zeros-part : (at : ℕ) → at + 32 ≤ 4096 → part_at at 32 blank_sectors ≡ replicate 32 0
zeros-part at inside = ext_get_or 0 (part_at at 32 blank_sectors) no_slot
    (length-part at 32 blank_sectors ∙ sym no-slot-long)
    (λ i less. let low : i < 32 = omega (arith, less, length-part at 32 blank_sectors) in
    part-byte at 32 blank_sectors i low ∙ blank-byte (at + i) (omega (arith, low, inside))
    ∙ sym (get_or-replicate 32 i 0 0 low))

-- They have no head.
pub blanks-new : IsNewFile (laid Apart blank_sectors)
blanks-new =
    let begins : title_in blank_sectors ≡ replicate 32 0 =
    ⊎_elim (λ there. absurd (omega (arith, ap (λ l. get_or l 0 0) (sym (zeros-part 0 (omega arith)) ∙ there.begins))))
    (λ none. none.0) (title-cases blank_sectors) in
    let second : part_at 4128 32 blank_sectors ≡ replicate 32 0 =
    part-whole 4128 32 blank_sectors (omega (arith, blanks-long))
    ∙ ap (take 32) (sym (drop-drop 32 4096 blank_sectors)
    ∙ ap (drop 32) (drop_at blank_sector (sector_of no_slot) 4096 blank-long)
    ∙ drop_at sector_title (no_slot ++ sector_rest) 32 title-long) ∙ take_at no_slot sector_rest 32 no-slot-long in
    inr (ap (λ l. (l ++ (part_at 32 32 blank_sectors ++ part_at 4128 32 blank_sectors)) ++ drop 8192 blank_sectors)
    begins
    ∙ ap (λ l. (no_slot ++ (l ++ part_at 4128 32 blank_sectors)) ++ drop 8192 blank_sectors)
    (zeros-part 32 (omega arith))
    ∙ ap (λ l. (no_slot ++ (no_slot ++ l)) ++ drop 8192 blank_sectors) second
    ∙ ap (λ l. (no_slot ++ (no_slot ++ no_slot)) ++ l) (drop_all 8192 blank_sectors (omega (arith, blanks-long))))
