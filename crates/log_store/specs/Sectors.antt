-- A log's file whose two slots lie in different sectors, 4,096 bytes apart.
use Rattle.std.specs.Prelude.{◌≡◌, ◌⊎◌, ℕ, ◌+◌, ◌≤◌, ◌++◌, ◌||◌, nat_lt, Bool, List, [], length, take, drop, if◌then◌else◌, codes, replicate}
use Rattle.std.specs.Str.{bytes_eq}
use Rattle.sha2.specs.Sha256.{sha256}
use Rattle.log_file.specs.LogFile.{first_word, slot, slot_front, title}
use Rattle.log_store.specs.declared.sectors.Layout.{Layout}
use Rattle.log_store.specs.declared.sectors.Own.{Own}
use Rattle.log_store.specs.declared.sectors.Own.TheVariants.{At, Nowhere, Start}
use Rattle.log_store.specs.declared.sectors.Layout.TheVariants.{Apart, Dense, FirstAlone, SecondAlone}

-- how such a file begins, and the sector of its second slot
abbrev pub sector_title : List ℕ
sector_title = codes "paxidore log of SHA-256, sectors"

-- the bytes of a file from a place on, so many; zeros stand for those behind its end
abbrev pub part_at : ℕ → ℕ → List ℕ → List ℕ
part_at at n file = take n (drop at file ++ replicate n 0)

-- the title of the log's file: zeros where the file does not begin as one with sectors
abbrev pub title_in : List ℕ → List ℕ
title_in file = if bytes_eq (part_at 0 32 file) sector_title then title else replicate 32 0

-- the head of the log's file, of a file with sectors; a slot whose sector is not read is of zeros
abbrev pub laid_head : Layout → List ℕ → List ℕ
laid_head Dense file = take 96 file
laid_head Apart file = title_in file ++ (part_at 32 32 file ++ part_at 4128 32 file)
laid_head FirstAlone file = title_in file ++ (part_at 32 32 file ++ replicate 32 0)
laid_head SecondAlone file = title ++ (replicate 32 0 ++ part_at 4128 32 file)

-- the log's file that a file is: the digests stand from byte 8192 on
abbrev pub laid : Layout → List ℕ → List ℕ
laid Dense file = file
laid Apart file = laid_head Apart file ++ drop 8192 file
laid FirstAlone file = laid_head FirstAlone file ++ drop 8192 file
laid SecondAlone file = laid_head SecondAlone file ++ drop 8192 file

-- where a byte of the log's file stands
abbrev pub place_of : ℕ → ℕ
place_of at = if nat_lt at 64 then at else if nat_lt at 96 then at + 4064 else at + 8096

-- So many bytes from a place on stand side by side: they are of the title and the first slot, of the second slot, or
-- digests.
abbrev pub IsOnePart : ℕ → ℕ → Type 0
IsOnePart at n = (at + n ≤ 64) ⊎ ((64 ≤ at) × (at + n ≤ 96)) ⊎ (96 ≤ at)

-- Bytes of the log's file from a place on are these of the file: the same ones behind the title, and with the title the
-- one of a file with sectors.
pub record LiesApart (at : ℕ) (bytes : List ℕ) (place : ℕ) (own : List ℕ) : Type 0 where
  pub place_is : place ≡ place_of at
  pub one : IsOnePart at (length bytes)
  pub own_is : ((32 ≤ at) × (own ≡ bytes))
      ⊎ ((at ≡ 0) × (length bytes ≡ 64) × (take 32 bytes ≡ title) × (own ≡ sector_title ++ drop 32 bytes))

-- So they are, of a file of a layout.
abbrev pub LiesAt : Layout → ℕ → List ℕ → ℕ → List ℕ → Type 0
LiesAt Dense at bytes place own = (place ≡ at) × (own ≡ bytes)
LiesAt Apart at bytes place own = LiesApart at bytes place own
LiesAt FirstAlone at bytes place own = ⊥
LiesAt SecondAlone at bytes place own = ⊥

-- The slots lie in different sectors.
abbrev pub IsSpread : Layout → Type 0
IsSpread Dense = ⊥
IsSpread Apart = Unit {0}
IsSpread FirstAlone = Unit {0}
IsSpread SecondAlone = Unit {0}

-- A file whose slots lie apart has both sectors.
abbrev pub HasSectors : Layout → List ℕ → Type 0
HasSectors Dense file = Unit {0}
HasSectors Apart file = 8192 ≤ length file
HasSectors FirstAlone file = Unit {0}
HasSectors SecondAlone file = Unit {0}

-- The bytes that lie for these ones of the log's file were written since the last refused sync.
abbrev pub IsFresh : Layout → (ℕ → List ℕ → Type 0) → ℕ → List ℕ → Type 0
IsFresh layout fresh at bytes = (place : ℕ) × (own : List ℕ) × LiesAt layout at bytes place own × fresh place own

-- A log's file is one of these files, as the layout says.
abbrev pub Through : Layout → (List ℕ → Type 0) → List ℕ → Type 0
Through layout Some_file left = (file : List ℕ) × Some_file file × (left ≡ laid layout file)

-- Where the same bytes are written from a place on, this is so of the place.
abbrev pub IfPlace : Own → (ℕ → Type 0) → Type 0
IfPlace (At place) P = P place
IfPlace (Start own) P = Unit {0}
IfPlace Nowhere P = Unit {0}

-- Where others are written at the start, this is so of them.
abbrev pub IfStart : Own → (List ℕ → Type 0) → Type 0
IfStart (At place) P = Unit {0}
IfStart (Start own) P = P own
IfStart Nowhere P = Unit {0}

-- A slot is whole: it begins as one of a size.
abbrev pub IsWholeSlot : List ℕ → Type 0
IsWholeSlot slot = (size : ℕ) × (take 20 slot ≡ slot_front size)

-- In the place of a second slot's sector stands its title, or a slot behind it that is whole.
abbrev pub HasSecond : List ℕ → Type 0
HasSecond file = (take 32 (drop 4096 file) ≡ sector_title) ⊎ IsWholeSlot (take 32 (drop 4128 file))

-- whether a slot is whole: its first 20 bytes are the front of the size that its first eight say
abbrev pub is_whole : List ℕ → Bool
is_whole slot = bytes_eq (take 20 slot) (slot_front (first_word slot))

-- whether a sector that begins so is that of a slot: it has its title, or a slot behind it that is whole
abbrev pub is_sector : List ℕ → Bool
is_sector start = bytes_eq (take 32 start) sector_title || is_whole (drop 32 start)

-- how a file lies whose first two sectors begin with these 64 bytes each
abbrev pub layout_by : List ℕ → List ℕ → Layout
layout_by first second =
    if bytes_eq (take 32 first) sector_title then Apart
    else if bytes_eq (take 32 first) title then Dense
    else if is_sector second then SecondAlone
    else Dense

-- how a file lies, as its bytes say
abbrev pub layout_in : List ℕ → Layout
layout_in file =
    if nat_lt (length file) 8192 then Dense else layout_by (part_at 0 64 file) (part_at 4096 64 file)

-- the zeros behind a slot, up to the end of its sector
unfoldable pub sector_rest : List ℕ
sector_rest = replicate 4032 0

-- a sector with a slot: its title, the slot, and zeros
abbrev pub sector_of : List ℕ → List ℕ
sector_of slot = sector_title ++ (slot ++ sector_rest)

-- the two sectors of a log of no entries
abbrev pub sectors_head : List ℕ
sectors_head = sector_of (slot 0 (sha256 [])) ++ sector_of (slot 0 (sha256 []))

-- a sector of zeros
unfoldable pub blank_sector : List ℕ
blank_sector = replicate 4096 0

-- the two sectors of a file before it has a slot: the second one has its title
abbrev pub blank_sectors : List ℕ
blank_sectors = blank_sector ++ sector_of (replicate 32 0)
