-- The digests of the places that leaves complete, in their order.
use Rattle.std.proofs.Common.{zero, suc, ◌≡◌, ℕ, ◌+◌, ◌-◌, ◌*◌, ◌/◌, ◌%◌, ◌<◌, ◌≤◌, ◌^◌, List, [], length, get_or, ap, sym, subst, ◌∙◌, inl, inr, arith}
use Rattle.std.specs.Prelude.{All}
use Rattle.std.proofs.Math.Nat.{le_of_mul-le-mul_right}
use Rattle.std.proofs.lemmas.Bool.{cases_lt}
use Rattle.std.proofs.lemmas.List.{ext_get_or, get_or-append_right, get_or_append_left, length-append}
use Rattle.std.proofs.lemmas.List.Elements.{All-append, All-from_get_or, All-nil}
use Rattle.std.proofs.lemmas.List.FromFn.{get_or-map-range_with_len, length-map-range_with_len}
use Rattle.std.proofs.lemmas.Nat.{pow_pos}
use Rattle.ark_paths.specs.Pair.{Digest}
use Rattle.merkle_log.specs.Kept.{front}
use Rattle.merkle_log.specs.Stored.{position, row_at, stored_count}
use Rattle.merkle_log.specs.Walk.{index_up}
use Rattle.merkle_log.proofs.KeptPlaces.{inside-up}
use Rattle.merkle_log.proofs.Positions.{below-up, count-half, count-rises, length-row_of, level-fits, no-count, place-within, position-next, row_of-at, some-below}
use Rattle.log_tiles.specs.Tiled.{completed_with, stored_of}
use Rattle.log_tiles.proofs.Rows.{up-div}

-- ---- the places that a leaf completes

-- Some levels up the last place ends with the leaf.
pub ends-with : (level leaf : ℕ) → stored_count leaf + level < stored_count (leaf + 1)
    → (index_up level leaf + 1) * 2 ^ level ≡ leaf + 1
ends-with zero leaf below = omega arith
ends-with (suc level) leaf below = elim (cases_lt (leaf % 2) 1) [
  | inl even ↦
      let half : (leaf + 1) / 2 ≡ leaf / 2 = omega arith in
      absurd (omega (arith, count-half leaf, count-half (leaf + 1), ap stored_count half))
  | inr odd ↦
      let half : (leaf + 1) / 2 ≡ leaf / 2 + 1 = omega arith in
      let own = ends-with level (leaf / 2) (omega (
        arith,
        count-half leaf,
        count-half (leaf + 1),
        ap stored_count half,
      )) in
      omega (arith, own, below-up level (index_up level (leaf / 2)))
]

pub completes-inside : (size leaf level : ℕ) → leaf < size → stored_count leaf + level < stored_count (leaf + 1)
    → index_up level leaf < index_up level size
completes-inside size leaf level inside below =
    inside-up level (index_up level leaf) size (omega (arith, ends-with level leaf below))

pub completes-low : (size leaf level : ℕ) → size < 2 ^ 57 → leaf < size
    → stored_count leaf + level < stored_count (leaf + 1) → level < 64
completes-low size leaf level fits inside below =
    level-fits level (index_up level leaf) (omega (arith, ends-with level leaf below))

same-place : (level a b : ℕ) → (a + 1) * 2 ^ level ≡ (b + 1) * 2 ^ level → a ≡ b
same-place level a b same =
    let up = no-more a b (omega (arith, same)) in
    let down = no-more b a (omega (arith, same)) in
    omega (arith, up, down)
  where
    no-more : (a b : ℕ) → (a + 1) * 2 ^ level ≤ (b + 1) * 2 ^ level → a + 1 ≤ b + 1
    no-more a b less = le_of_mul-le-mul_right {m = a + 1} {n = b + 1} {k = 2 ^ level} less (pow_pos level)

-- ---- the list

module _ (rows : ℕ → List Digest) where
  length-completed : (leaf : ℕ) → length (completed_with rows leaf) ≡ stored_count (leaf + 1) - stored_count leaf
  length-completed leaf = length-map-range_with_len (λ level. get_or (rows level) (index_up level leaf) []) 0
      (stored_count (leaf + 1) - stored_count leaf)

  pub length-stored : (size : ℕ) → length (stored_of rows size) ≡ stored_count size
  length-stored zero = no-count
  length-stored (suc leaf) =
      let next : suc leaf ≡ leaf + 1 = omega arith in
      omega (
        arith,
        length-append (stored_of rows leaf) (completed_with rows leaf),
        length-stored leaf,
        length-completed leaf,
        count-rises leaf (leaf + 1) (omega arith),
        ap stored_count next,
      )

  completed-at : (leaf level : ℕ) → stored_count leaf + level < stored_count (leaf + 1)
      → get_or (completed_with rows leaf) level [] ≡ get_or (rows level) (index_up level leaf) []
  completed-at leaf level below = get_or-map-range_with_len (λ level. get_or (rows level) (index_up level leaf) []) 0
      (stored_count (leaf + 1) - stored_count leaf) level level [] (omega arith) (omega arith)

  pub stored-at : (size leaf level : ℕ) → leaf < size → stored_count leaf + level < stored_count (leaf + 1)
      → get_or (stored_of rows size) (stored_count leaf + level) [] ≡ get_or (rows level) (index_up level leaf) []
  stored-at zero leaf level inside below = absurd (omega arith)
  stored-at (suc last) leaf level inside below = elim (cases_lt leaf last) [
    | inl before ↦
        get_or_append_left (stored_of rows last) (completed_with rows last) [] (stored_count leaf + level) (omega (
          arith,
          length-stored last,
          count-rises (leaf + 1) last (omega arith),
        ))
        ∙ stored-at last leaf level before below
    | inr here ↦
        let e : last ≡ leaf = omega arith in
        let past : stored_count leaf + level - stored_count leaf ≡ level = omega arith in
        rw (e) (get_or-append_right (stored_of rows leaf) (completed_with rows leaf) (stored_count leaf)
        (stored_count leaf + level) [] (length-stored leaf) (omega arith)
        ∙ ap (λ n. get_or (completed_with rows leaf) n []) past ∙ completed-at leaf level below)
  ]

  -- the digest of a complete place stands at its position
  pub stored-place : (size level place : ℕ) → place < index_up level size
      → get_or (stored_of rows size) (position level place) [] ≡ get_or (rows level) place []
  stored-place size level place below =
      let leaf = (place + 1) * 2 ^ level - 1 in
      let some = some-below level place in
      let next : leaf + 1 ≡ (place + 1) * 2 ^ level = omega (arith, some) in
      let fits : stored_count leaf + level < stored_count (leaf + 1) = rw (next) (position-next level place) in
      let own : index_up level leaf ≡ place = same-place level (index_up level leaf) place
      (ends-with level leaf fits ∙ next) in
      stored-at size leaf level (omega (arith, some, place-within level place size below)) fits
      ∙ ap (λ i. get_or (rows level) i []) own

  -- What holds of the digests of all complete places holds of the list.
  pub stored-all : (P : Digest → Type 0) (all : ℕ)
      → ((level place : ℕ) → place < index_up level all → P (get_or (rows level) place []))
      → (size : ℕ) → size ≤ all → All P (stored_of rows size)
  stored-all P all each zero le = All-nil P
  stored-all P all each (suc leaf) le =
      All-append P (stored_of rows leaf) (completed_with rows leaf) (stored-all P all each leaf (omega arith))
      (All-from_get_or P (completed_with rows leaf) [] (λ level below.
      let under : stored_count leaf + level < stored_count (leaf + 1) = omega (arith, length-completed leaf) in
      subst P (sym (completed-at leaf level under))
      (each level (index_up level leaf) (completes-inside all leaf level (omega arith) under))))

-- Rows that have the digests of others at all complete places are those of the list.
pub rows-of : (rows others : ℕ → List Digest) (size : ℕ)
    → ((level place : ℕ) → place < index_up level size → get_or (rows level) place [] ≡ get_or (others level) place [])
    → ((level : ℕ) → length (others level) ≡ index_up level size)
    → (level : ℕ) → row_at (front size (stored_of rows size)) level ≡ others level
rows-of rows others size same long level =
    let stored = front size (stored_of rows size) in
    ext_get_or [] (row_at stored level) (others level) (length-row_of stored level ∙ sym (long level)) (λ place below.
    let inside : place < index_up level size = omega (arith, length-row_of stored level) in
    row_of-at stored level place inside ∙ stored-place rows size level place inside ∙ same level place inside)

-- ---- from a position to a place

module _ (size position leaf level place : ℕ) (inside : leaf < size) (from : stored_count leaf ≤ position)
    (below : position < stored_count (leaf + 1)) (level_is : level ≡ position - stored_count leaf)
    (place_is : place ≡ leaf / 2 ^ level) where
  here : stored_count leaf + level ≡ position
  here = omega (arith, level_is, from)

  under : stored_count leaf + level < stored_count (leaf + 1)
  under = omega (arith, here, below)

  up : index_up level leaf ≡ place
  up = up-div level leaf ∙ sym place_is

  pub level-low : size < 2 ^ 57 → level < 64
  level-low fits = completes-low size leaf level fits inside under

  pub place-inside : place < index_up level size
  place-inside = subst (λ n. n < index_up level size) up (completes-inside size leaf level inside under)

  pub place-at : (rows : ℕ → List Digest) (digest : Digest) → digest ≡ get_or (rows level) place []
      → digest ≡ get_or (stored_of rows size) position []
  place-at rows digest is = is ∙ ap (λ n. get_or (rows level) n []) (sym up)
      ∙ sym (stored-at rows size leaf level inside under) ∙ ap (λ n. get_or (stored_of rows size) n []) here
