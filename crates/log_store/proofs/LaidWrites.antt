-- What a write to a file with sectors is to the log's file.
use Rattle.std.proofs.Common.{◌≡◌, ◌⊎◌, inl, inr, ⊎_elim, ℕ, ◌+◌, ◌-◌, ◌<◌, ◌≤◌, List, ◌++◌, length, take, drop, get_or, refl, ap, sym, ◌∙◌, subst, arith}
use Rattle.std.proofs.lemmas.Bool.{cases_lt}
use Rattle.std.proofs.lemmas.List.{ext_get_or, get_or-append_right, get_or-drop, get_or-take, get_or_append_left, length-append, length-drop, length-take-le, take_all}
use Rattle.log_file.specs.LogFile.{title, written}
use Rattle.log_file.proofs.Pieces.{piece-written}
use Rattle.log_store.specs.Disk.{AreApart, Torn}
use Rattle.log_store.specs.Sectors.{laid, part_at, place_of, sector_title, title_in, IsOnePart, LiesApart}
use Rattle.log_store.specs.declared.sectors.Layout.TheVariants.{Apart}
use Rattle.log_store.proofs.Laying.{high-place, laid-byte, length-laid, length-part, low-place, part-byte, part-points, place-cases, place-far, place-one, title-byte, title-cases, title-same, titled}
use Rattle.log_store.proofs.Points.{byte, cut-behind, cut-before, cut-long, cut-short, torn-mixed, torn-points}
use Rattle.log_store.proofs.Writes.{cut-whole}

-- ---- places

place-no-less : (i : ℕ) → i ≤ place_of i
place-no-less i = ⊎_elim (λ low. omega (arith, low.1))
    (⊎_elim (λ mid. omega (arith, mid.2)) (λ high. omega (arith, high.1))) (place-cases i)

place-over : (at n i : ℕ) → at + n ≤ i → place_of at + n ≤ place_of i
place-over at n i le =
    let two : at + (i - at) ≡ i = omega (arith, le) in
    omega (arith, le, place-far at (i - at), ap place_of two)

place-under : (i at : ℕ) → i < at → place_of i < place_of at
place-under i at less = omega (arith, place-over i 1 at (omega (arith, less)))

-- how far a part lies from the digests
place-early : (at n : ℕ) → IsOnePart at n → ((96 ≤ at) × (place_of at ≡ at + 8096)) ⊎
    ((at ≤ 96) × (place_of at + n ≤ 8192))
place-early at n one = ⊎_elim
    (λ low. inr (
      omega (arith, low.0),
      ⊎_elim (λ first. omega (arith, low.1, first))
          (⊎_elim (λ mid. absurd (omega (arith, low.0, mid.0))) (λ high. absurd (omega (arith, low.0, high)))) one,
    ))
    (⊎_elim
    (λ mid. inr (
      omega (arith, mid.1),
      ⊎_elim (λ first. omega (arith, mid.0, mid.2, first))
          (⊎_elim (λ two. omega (arith, mid.2, two.1)) (λ high. absurd (omega (arith, mid.1, high)))) one,
    ))
    (λ high. inl high))
    (place-cases at)

-- ---- behind the title

module _ (at : ℕ) (bytes old new : List ℕ) (behind : 32 ≤ at) (one : IsOnePart at (length bytes))
    (torn : Torn (place_of at) bytes old new) where
  title-kept : title_in new ≡ title_in old
  title-kept = title-same new old (part-points 0 32 new old (λ i ge less.
      cut-before torn.cut i (omega (arith, less, behind, place-no-less at))))

  byte-before : (i : ℕ) → i < at → get_or (laid Apart new) i 0 ≡ get_or (laid Apart old) i 0
  byte-before i less = elim (cases_lt i 32) [
    | inl low ↦ title-byte new i (omega arith) ∙ ap (λ l. get_or l i 0) title-kept ∙ sym
        (title-byte old i (omega arith))
    | inr ge ↦ laid-byte new i (omega arith) ∙ cut-before torn.cut (place_of i) (place-under i at less)
        ∙ sym (laid-byte old i (omega arith))
  ]

  byte-behind : (i : ℕ) → at + length bytes ≤ i → get_or (laid Apart new) i 0 ≡ get_or (laid Apart old) i 0
  byte-behind i ge = laid-byte new i (omega (arith, behind, ge))
      ∙ cut-behind torn.cut (place_of i) (place-over at (length bytes) i ge)
      ∙ sym (laid-byte old i (omega (arith, behind, ge)))

  byte-there : (file : List ℕ) (i : ℕ) → i < length bytes
      → get_or (laid Apart file) (at + i) 0 ≡ get_or file (place_of at + i) 0
  byte-there file i less = laid-byte file (at + i) (omega (arith, behind))
      ∙ byte file (place-one at (length bytes) i one less)

  pub torn-behind : Torn at bytes (laid Apart old) (laid Apart new)
  torn-behind = torn-points at bytes (laid Apart old) (laid Apart new) byte-before byte-behind
      (λ i less. ⊎_elim (λ is. inl (byte-there new i less ∙ is ∙ sym (byte-there old i less)))
      (λ is. inr (byte-there new i less ∙ is)) (torn-mixed torn i less))
      (omega (arith, length-laid old, length-laid new, torn.cut.no_shorter))
      (⊎_elim (λ is. inl (omega (arith, is, length-laid old, length-laid new)))
      (λ le. ⊎_elim (λ far. inr (omega (arith, le, far.0, far.1, length-laid new)))
      (λ near. inl (omega (arith, le, near.1, torn.cut.no_shorter, length-laid old, length-laid new)))
      (place-early at (length bytes) one)) (cut-long torn.cut))
      (⊎_elim (λ is. inl (omega (arith, is, length-laid old, length-laid new)))
      (λ le. ⊎_elim (λ far. inr (omega (arith, le, far.0, far.1, length-laid old)))
      (λ near. inr (omega (arith, near.0, length-laid old)))
      (place-early at (length bytes) one)) (cut-short torn.cut))

-- a piece that is whole is as long as it says
piece-inside : (n at : ℕ) (file bytes : List ℕ) → length bytes ≡ n → take n (drop at file) ≡ bytes
    → (n ≡ 0) ⊎ (at + n ≤ length file)
piece-inside n at file bytes count is = elim (cases_lt (length (drop at file)) n) [
  | inl short ↦ absurd (omega (
    arith,
    count,
    ap length (sym (take_all n (drop at file) (omega arith)) ∙ is),
  ))
  | inr ge ↦ elim (cases_lt 0 n) [
    | inl some ↦ inr (omega (arith, length-drop at file))
    | inr none ↦ inl (omega arith)
  ]
]

pub there-behind : (at : ℕ) (bytes file : List ℕ) → 32 ≤ at → IsOnePart at (length bytes)
    → take (length bytes) (drop (place_of at) file) ≡ bytes → take (length bytes) (drop at (laid Apart file)) ≡ bytes
there-behind at bytes file behind one is =
    let n = length bytes in
    let long : n ≤ length (drop at (laid Apart file)) =
    ⊎_elim (λ none. omega (arith, none))
    (λ inside. ⊎_elim (λ far. omega (arith, inside, far.1, length-laid file, length-drop at (laid Apart file)))
    (λ near. ⊎_elim (λ low. omega (arith, low, length-laid file, length-drop at (laid Apart file)))
    (⊎_elim (λ mid. omega (arith, mid.1, length-laid file, length-drop at (laid Apart file)))
    (λ high. omega (arith, near.0, high, near.1, high-place at high))) one)
    (place-early at n one))
    (piece-inside n (place_of at) file bytes refl is) in
    ext_get_or 0 (take n (drop at (laid Apart file))) bytes (length-take-le n (drop at (laid Apart file)) long)
    (λ i less.
    let low : i < n = omega (arith, length-take-le n (drop at (laid Apart file)) long) in
    get_or-take n (drop at (laid Apart file)) i 0 low ∙ get_or-drop at (laid Apart file) i 0
    ∙ laid-byte file (at + i) (omega (arith, behind)) ∙ byte file (place-one at n i one low)
    ∙ sym (get_or-drop (place_of at) file i 0) ∙ sym (get_or-take n (drop (place_of at) file) i 0 low)
    ∙ ap (λ l. get_or l i 0) is)

-- ---- with the title

module _ (bytes : List ℕ) (count : length bytes ≡ 64) (begins : take 32 bytes ≡ title) where
  abbrev headed : List ℕ
  headed = sector_title ++ drop 32 bytes

  length-own : length (sector_title ++ drop 32 bytes) ≡ 64
  length-own = omega (arith, length-append sector_title (drop 32 bytes), length-drop 32 bytes, count)

  own-title : (i : ℕ) → i < 32 → get_or headed i 0 ≡ get_or sector_title i 0
  own-title i low = get_or_append_left sector_title (drop 32 bytes) 0 i low

  own-slot : (i : ℕ) → 32 ≤ i → get_or headed i 0 ≡ get_or bytes i 0
  own-slot i ge = get_or-append_right sector_title (drop 32 bytes) 32 i 0 refl ge ∙ get_or-drop 32 bytes (i - 32) 0
      ∙ byte bytes (omega (arith, ge))

  bytes-title : (i : ℕ) → i < 32 → get_or title i 0 ≡ get_or bytes i 0
  bytes-title i low = ap (λ l. get_or l i 0) (sym begins) ∙ get_or-take 32 bytes i 0 low

  -- A file begins so.
  begun : (file : List ℕ) → ((i : ℕ) → i < 32 → get_or file i 0 ≡ get_or sector_title i 0)
      → part_at 0 32 file ≡ sector_title
  begun file same = ext_get_or 0 (part_at 0 32 file) sector_title (length-part 0 32 file) (λ i less.
      let low : i < 32 = omega (arith, length-part 0 32 file) in
      part-byte 0 32 file i low ∙ byte file (omega arith) ∙ same i low)

  module _ (old new : List ℕ) (torn : Torn 0 (sector_title ++ drop 32 bytes) old new) where
    -- A title that was there stays.
    still : part_at 0 32 old ≡ sector_title → part_at 0 32 new ≡ sector_title
    still there = begun new (λ i low. byte new (omega arith)
        ∙ ⊎_elim (λ is. is ∙ sym (part-byte 0 32 old i low) ∙ ap (λ l. get_or l i 0) there)
        (λ is. is ∙ own-title i low) (torn-mixed torn i (omega (arith, low, length-own))))

    title-mixed : (i : ℕ) → i < 32 → (get_or (laid Apart new) i 0 ≡ get_or (laid Apart old) i 0)
        ⊎ (get_or (laid Apart new) i 0 ≡ get_or bytes i 0)
    title-mixed i low = ⊎_elim
        (λ there. inr (title-byte new i low ∙ ap (λ l. get_or l i 0) there.is ∙ bytes-title i low))
        (λ none. ⊎_elim (λ there. absurd (none.1 (still there.begins)))
        (λ none_old. inl (title-byte new i low ∙ ap (λ l. get_or l i 0) (none.0 ∙ sym none_old.0)
        ∙ sym (title-byte old i low))) (title-cases old))
        (title-cases new)

    slot-byte : (file : List ℕ) (i : ℕ) → 32 ≤ i → i < 64 → get_or (laid Apart file) i 0 ≡ get_or file (0 + i) 0
    slot-byte file i ge low = laid-byte file i ge ∙ byte file (low-place i low ∙ omega arith)

    pub torn-title : Torn 0 bytes (laid Apart old) (laid Apart new)
    torn-title = torn-points 0 bytes (laid Apart old) (laid Apart new) (λ i less. absurd (omega arith))
        (λ i ge. laid-byte new i (omega (arith, ge, count))
        ∙ cut-behind torn.cut (place_of i) (omega (arith, ge, count, length-own, place-no-less i))
        ∙ sym (laid-byte old i (omega (arith, ge, count))))
        (λ i less. elim (cases_lt i 32) [
          | inl low ↦ ⊎_elim (λ is. inl (byte (laid Apart new) (omega arith) ∙ is
              ∙ byte (laid Apart old) (omega arith))) (λ is. inr (byte (laid Apart new) (omega arith) ∙ is))
              (title-mixed i (omega arith))
          | inr ge ↦
              let low : i < 64 = omega (arith, less, count) in
              let ge' : 32 ≤ i = omega arith in
              ⊎_elim (λ is. inl (byte (laid Apart new) (omega arith) ∙ slot-byte new i ge' low ∙ is
              ∙ sym (slot-byte old i ge' low) ∙ byte (laid Apart old) (omega arith)))
              (λ is. inr (byte (laid Apart new) (omega arith) ∙ slot-byte new i ge' low ∙ is ∙ own-slot i ge'))
              (torn-mixed torn i (omega (arith, low, length-own)))
        ])
        (omega (arith, length-laid old, length-laid new, torn.cut.no_shorter))
        (⊎_elim (λ is. inl (omega (arith, is, length-laid old, length-laid new)))
        (λ le. inl (omega (arith, le, length-own, torn.cut.no_shorter, length-laid old, length-laid new)))
        (cut-long torn.cut))
        (inr (omega arith))

  pub there-title : (file : List ℕ) → take (length (sector_title ++ drop 32 bytes)) (drop 0 file)
      ≡ sector_title ++ drop 32 bytes → take (length bytes) (drop 0 (laid Apart file)) ≡ bytes
  there-title file is =
      let n = length bytes in
      let all : length (sector_title ++ drop 32 bytes) ≡ n = omega (arith, length-own, count) in
      let long : n ≤ length (drop 0 (laid Apart file)) =
      omega (arith, count, length-laid file, length-drop 0 (laid Apart file)) in
      let there : (i : ℕ) → i < 64 → get_or file i 0 ≡ get_or headed i 0 = λ i low.
      byte file (omega arith) ∙ sym (get_or-drop 0 file i 0)
      ∙ sym (get_or-take (length (sector_title ++ drop 32 bytes)) (drop 0 file) i 0 (omega (arith, low, length-own)))
      ∙ ap (λ l. get_or l i 0) is
      in
      ext_get_or 0 (take n (drop 0 (laid Apart file))) bytes (length-take-le n (drop 0 (laid Apart file)) long)
      (λ i less.
      let low : i < 64 = omega (arith, count, length-take-le n (drop 0 (laid Apart file)) long) in
      get_or-take n (drop 0 (laid Apart file)) i 0 (omega (arith, low, count)) ∙ get_or-drop 0 (laid Apart file) i 0
      ∙ byte (laid Apart file) (omega arith)
      ∙ elim (cases_lt i 32) [
        | inl in_title ↦ title-byte file i (omega arith)
            ∙ ap (λ l. get_or l i 0) (titled file (begun file
            (λ k in_t. there k (omega (arith, in_t)) ∙ own-title k in_t)))
            ∙ bytes-title i (omega arith)
        | inr ge ↦ laid-byte file i (omega arith) ∙ byte file (low-place i low) ∙ there i low ∙ own-slot i (omega arith)
      ])

-- ---- either way

pub torn-laid : (at : ℕ) (bytes : List ℕ) (place : ℕ) (own old new : List ℕ) → LiesApart at bytes place own
    → Torn place own old new → Torn at bytes (laid Apart old) (laid Apart new)
torn-laid at bytes place own old new lies torn = ⊎_elim
    (λ plain. torn-behind at bytes old new plain.0 lies.one
    (subst (λ p. Torn p bytes old new) lies.place_is (subst (λ l. Torn place l old new) plain.1 torn)))
    (λ first.
    let start : place ≡ 0 = lies.place_is ∙ ap place_of first.0 in
    subst (λ a. Torn a bytes (laid Apart old) (laid Apart new)) (sym first.0)
    (torn-title bytes first.1 first.2 old new
    (subst (λ p. Torn p (sector_title ++ drop 32 bytes) old new) start
    (subst (λ l. Torn place l old new) first.3 torn))))
    lies.own_is

pub there-laid : (at : ℕ) (bytes : List ℕ) (place : ℕ) (own file : List ℕ) → LiesApart at bytes place own
    → take (length own) (drop place file) ≡ own → take (length bytes) (drop at (laid Apart file)) ≡ bytes
there-laid at bytes place own file lies is = ⊎_elim
    (λ plain. there-behind at bytes file plain.0 lies.one
    (subst (λ p. take (length bytes) (drop p file) ≡ bytes) lies.place_is
    (subst (λ l. take (length l) (drop place file) ≡ l) plain.1 is)))
    (λ first.
    let start : place ≡ 0 = lies.place_is ∙ ap place_of first.0 in
    subst (λ a. take (length bytes) (drop a (laid Apart file)) ≡ bytes) (sym first.0)
    (there-title bytes first.1 first.2 file
    (subst (λ p. take (length (sector_title ++ drop 32 bytes)) (drop p file) ≡ sector_title ++ drop 32 bytes) start
    (subst (λ l. take (length l) (drop place file) ≡ l) first.3 is))))
    lies.own_is

pub own-long : (at : ℕ) (bytes : List ℕ) (place : ℕ) (own : List ℕ) → LiesApart at bytes place own
    → length own ≡ length bytes
own-long at bytes place own lies = ⊎_elim (λ plain. ap length plain.1)
    (λ first. ap length first.3 ∙ length-own bytes first.1 first.2 ∙ sym first.1) lies.own_is

-- What was written is written.
pub written-laid : (at : ℕ) (bytes : List ℕ) (place : ℕ) (own old new : List ℕ) → LiesApart at bytes place own
    → place ≤ length old → Torn place own old new → new ≡ written old place own
    → laid Apart new ≡ written (laid Apart old) at bytes
written-laid at bytes place own old new lies inside torn is =
    cut-whole at bytes (laid Apart old) (laid Apart new) (torn-laid at bytes place own old new lies torn).cut
    (there-laid at bytes place own new lies
    (ap (λ f. take (length own) (drop place f)) is ∙ piece-written old own place (length own) refl inside))

-- What lies apart is written apart.
pub apart-laid : (at : ℕ) (bytes : List ℕ) (place : ℕ) (own : List ℕ) (to : ℕ) (more : List ℕ) (spot : ℕ)
    (its : List ℕ) → LiesApart at bytes place own → LiesApart to more spot its
    → AreApart at (length bytes) to (length more) → AreApart place (length own) spot (length its)
apart-laid at bytes place own to more spot its lies lies_more apart = ⊎_elim
    (λ le. inl (omega (
      arith,
      place-over at (length bytes) to le,
      lies.place_is,
      lies_more.place_is,
      own-long at bytes place own lies,
    )))
    (λ ge. inr (omega (
      arith,
      place-over to (length more) at ge,
      lies.place_is,
      lies_more.place_is,
      own-long to more spot its lies_more,
    )))
    apart
