-- The bytes of a log's file whose slots lie apart, and what a write to it is.
use Rattle.std.proofs.Common.{◌≡◌, ◌⊎◌, inl, inr, ⊎_elim, ℕ, ◌+◌, ◌-◌, ◌<◌, ◌≤◌, Bool, true, false, if◌then◌else◌, List, ◌++◌, length, take, drop, get_or, replicate, refl, ap, sym, ◌∙◌, arith}
use Rattle.std.specs.Str.{bytes_eq}
use Rattle.std.proofs.lemmas.Bool.{cases_lt, le-ltb, lt-ltb}
use Rattle.std.proofs.lemmas.List.{drop-drop, drop-take, ext_get_or, get_or-append_right, get_or-drop, get_or-replicate, get_or-take, get_or_append_left, get_or_past, length-append, length-drop, length-replicate, length-take-le, take-take, take-append-le}
use Rattle.std.proofs.lemmas.Slice.Eq.{bytes_eq-Decides}
use Rattle.log_file.specs.LogFile.{title}
use Rattle.log_store.specs.Sectors.{laid, laid_head, part_at, place_of, sector_title, title_in, IsOnePart}
use Rattle.log_store.specs.declared.sectors.Layout.TheVariants.{Apart}
use Rattle.log_store.proofs.Points.{byte}

-- ---- parts of a file

pub length-part : (at n : ℕ) (file : List ℕ) → length (part_at at n file) ≡ n
length-part at n file = length-take-le n (drop at file ++ replicate n 0)
    (omega (arith, length-append (drop at file) (replicate n 0), length-replicate {A = ℕ} n 0))

pub part-byte : (at n : ℕ) (file : List ℕ) (i : ℕ) → i < n → get_or (part_at at n file) i 0 ≡ get_or file (at + i) 0
part-byte at n file i low = get_or-take n (drop at file ++ replicate n 0) i 0 low
    ∙ elim (cases_lt i (length (drop at file))) [
      | inl less ↦ get_or_append_left (drop at file) (replicate n 0) 0 i (omega arith) ∙ get_or-drop at file i 0
      | inr ge ↦ get_or-append_right (drop at file) (replicate n 0) (length (drop at file)) i 0 refl (omega arith)
          ∙ get_or-replicate n (i - length (drop at file)) 0 0 (omega (arith, low))
          ∙ sym (get_or_past file (at + i) 0 (omega (arith, length-drop at file)))
    ]

-- Parts of which each byte is the same.
pub part-points : (at n : ℕ) (a b : List ℕ) → ((i : ℕ) → at ≤ i → i < at + n → get_or a i 0 ≡ get_or b i 0)
    → part_at at n a ≡ part_at at n b
part-points at n a b same = ext_get_or 0 (part_at at n a) (part_at at n b)
    (length-part at n a ∙ sym (length-part at n b))
    (λ i less. let low : i < n = omega (arith, length-part at n a) in
    part-byte at n a i low ∙ same (at + i) (omega arith) (omega (arith, low)) ∙ sym (part-byte at n b i low))

-- a part that the file has whole
pub part-whole : (at n : ℕ) (file : List ℕ) → at + n ≤ length file → part_at at n file ≡ take n (drop at file)
part-whole at n file inside = take-append-le n (drop at file) (replicate n 0) (omega (arith, length-drop at file))

-- ---- the title

pub length-title_in : (file : List ℕ) → length (title_in file) ≡ 32
length-title_in file = go (bytes_eq (part_at 0 32 file) sector_title)
  where
    go : (b : Bool) → length (if b then title else replicate 32 0) ≡ 32
    go true = refl
    go false = refl

-- The title is there, or zeros are.
pub record Titled (file : List ℕ) : Type 0 where
  pub begins : part_at 0 32 file ≡ sector_title
  pub is : title_in file ≡ title

pub titled : (file : List ℕ) → part_at 0 32 file ≡ sector_title → title_in file ≡ title
titled file begins = rw ((bytes_eq-Decides (part_at 0 32 file) sector_title).1 begins) refl

pub title-cases : (file : List ℕ) → Titled file ⊎ ((title_in file ≡ replicate 32 0) ×
    (part_at 0 32 file ≡ sector_title → ⊥))
title-cases file = go (bytes_eq (part_at 0 32 file) sector_title) refl
  where
    go : (b : Bool) → bytes_eq (part_at 0 32 file) sector_title ≡ b
        → Titled file ⊎ ((title_in file ≡ replicate 32 0) × (part_at 0 32 file ≡ sector_title → ⊥))
    go true is = inl (record {
      begins = (bytes_eq-Decides (part_at 0 32 file) sector_title).0 is;
      is = rw (is) refl;
    })
    go false is = inr (
      rw (is) refl,
      λ begins.
          let clash = sym is ∙ (bytes_eq-Decides (part_at 0 32 file) sector_title).1 begins in cc,
    )

pub title-same : (a b : List ℕ) → part_at 0 32 a ≡ part_at 0 32 b → title_in a ≡ title_in b
title-same a b same = ap (λ part. if bytes_eq part sector_title then title else replicate 32 0) same

-- ---- places

pub low-place : (i : ℕ) → i < 64 → place_of i ≡ i
low-place i low = rw (lt-ltb i 64 low) refl

mid-place : (i : ℕ) → 64 ≤ i → i < 96 → place_of i ≡ i + 4064
mid-place i ge low = rw (le-ltb i 64 ge, lt-ltb i 96 low) refl

pub high-place : (i : ℕ) → 96 ≤ i → place_of i ≡ i + 8096
high-place i ge = rw (le-ltb i 64 (omega (arith, ge)), le-ltb i 96 ge) refl

-- the three parts of a file
pub place-cases : (i : ℕ) → ((i < 64) × (place_of i ≡ i)) ⊎ ((64 ≤ i) × (i < 96) × (place_of i ≡ i + 4064))
    ⊎ ((96 ≤ i) × (place_of i ≡ i + 8096))
place-cases i = elim (cases_lt i 64) [
  | inl low ↦ inl (omega arith, low-place i (omega arith))
  | inr ge ↦ elim (cases_lt i 96) [
    | inl low ↦ inr (inl (omega arith, omega arith, mid-place i (omega arith) (omega arith)))
    | inr high ↦ inr (inr (omega arith, high-place i (omega arith)))
  ]
]

-- Places are in their order, and no nearer to one another.
pub place-far : (i k : ℕ) → place_of i + k ≤ place_of (i + k)
place-far i k = ⊎_elim
    (λ low. ⊎_elim (λ to. omega (arith, low.1, to.1))
    (⊎_elim (λ to. omega (arith, low.1, to.2)) (λ to. omega (arith, low.1, to.1))) (place-cases (i + k)))
    (⊎_elim
    (λ mid. ⊎_elim (λ to. absurd (omega (arith, mid.0, to.0)))
    (⊎_elim (λ to. omega (arith, mid.2, to.2)) (λ to. omega (arith, mid.2, to.1))) (place-cases (i + k)))
    (λ high. ⊎_elim (λ to. absurd (omega (arith, high.0, to.0)))
    (⊎_elim (λ to. absurd (omega (arith, high.0, to.1))) (λ to. omega (arith, high.1, to.1))) (place-cases (i + k))))
    (place-cases i)

-- Bytes of one part stand side by side.
pub place-one : (at n i : ℕ) → IsOnePart at n → i < n → place_of (at + i) ≡ place_of at + i
place-one at n i (inl low) less =
    low-place (at + i) (omega (arith, low, less)) ∙ ap (λ p. p + i) (sym (low-place at (omega (arith, low, less))))
place-one at n i (inr (inl mid)) less =
    mid-place (at + i) (omega (arith, mid.0)) (omega (arith, mid.1, less))
    ∙ omega (arith, mid-place at mid.0 (omega (arith, mid.1, less)))
place-one at n i (inr (inr high)) less =
    high-place (at + i) (omega (arith, high)) ∙ omega (arith, high-place at high)

-- ---- the log's file

pub length-head : (file : List ℕ) → length (laid_head Apart file) ≡ 96
length-head file = omega (
  arith,
  length-append (title_in file) (part_at 32 32 file ++ part_at 4128 32 file),
  length-append (part_at 32 32 file) (part_at 4128 32 file),
  length-title_in file,
  length-part 32 32 file,
  length-part 4128 32 file,
)

pub length-laid : (file : List ℕ) → length (laid Apart file) ≡ 96 + (length file - 8192)
length-laid file = omega (
  arith,
  length-append (laid_head Apart file) (drop 8192 file),
  length-head file,
  length-drop 8192 file,
)

pub title-byte : (file : List ℕ) (i : ℕ) → i < 32 → get_or (laid Apart file) i 0 ≡ get_or (title_in file) i 0
title-byte file i low =
    get_or_append_left (laid_head Apart file) (drop 8192 file) 0 i (omega (arith, low, length-head file))
    ∙ get_or_append_left (title_in file) (part_at 32 32 file ++ part_at 4128 32 file) 0 i
    (omega (arith, low, length-title_in file))

pub laid-byte : (file : List ℕ) (i : ℕ) → 32 ≤ i → get_or (laid Apart file) i 0 ≡ get_or file (place_of i) 0
laid-byte file i ge = ⊎_elim
    (λ low. get_or_append_left (laid_head Apart file) (drop 8192 file) 0 i (omega (arith, low.0, length-head file))
    ∙ get_or-append_right (title_in file) (part_at 32 32 file ++ part_at 4128 32 file) 32 i 0 (length-title_in file) ge
    ∙ get_or_append_left (part_at 32 32 file) (part_at 4128 32 file) 0 (i - 32)
    (omega (arith, ge, low.0, length-part 32 32 file))
    ∙ part-byte 32 32 file (i - 32) (omega (arith, ge, low.0)) ∙ byte file (omega (arith, ge, low.1)))
    (⊎_elim
    (λ mid. get_or_append_left (laid_head Apart file) (drop 8192 file) 0 i (omega (arith, mid.1, length-head file))
    ∙ get_or-append_right (title_in file) (part_at 32 32 file ++ part_at 4128 32 file) 32 i 0 (length-title_in file) ge
    ∙ get_or-append_right (part_at 32 32 file) (part_at 4128 32 file) 32 (i - 32) 0 (length-part 32 32 file)
    (omega (arith, mid.0))
    ∙ part-byte 4128 32 file (i - 32 - 32) (omega (arith, mid.0, mid.1)) ∙ byte file (omega (arith, mid.0, mid.2)))
    (λ high. get_or-append_right (laid_head Apart file) (drop 8192 file) 96 i 0 (length-head file) high.0
    ∙ get_or-drop 8192 file (i - 96) 0 ∙ byte file (omega (arith, high.0, high.1))))
    (place-cases i)

-- what a read of the first sector gives
pub read-first : (bytes file : List ℕ) → 64 ≤ length file → bytes ≡ take 64 (drop 0 file)
    → (if bytes_eq (take 32 bytes) sector_title then title else replicate 32 0) ++ drop 32 bytes
    ≡ title_in file ++ part_at 32 32 file
read-first bytes file inside is =
    let front : take 32 bytes ≡ part_at 0 32 file =
    ap (take 32) is ∙ take-take 32 64 (drop 0 file) (omega arith) ∙ sym
    (part-whole 0 32 file (omega (arith, inside))) in
    let behind : drop 32 bytes ≡ part_at 32 32 file =
    ap (drop 32) is ∙ drop-take 32 32 (drop 0 file) ∙ ap (take 32) (drop-drop 32 0 file)
    ∙ sym (part-whole 32 32 file (omega (arith, inside))) in
    ap (λ part. (if bytes_eq part sector_title then title else replicate 32 0) ++ drop 32 bytes) front
    ∙ ap (λ l. title_in file ++ l) behind
