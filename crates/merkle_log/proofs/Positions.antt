-- Where the digests of complete places stand in a log's list.
use Rattle.std.proofs.Common.{zero, suc, ◌≡◌, ℕ, ◌+◌, ◌-◌, ◌*◌, ◌/◌, ◌%◌, ◌<◌, ◌≤◌, ◌^◌, List, [], ◌∷◌, ◌++◌, length, map, get_or, arith, refl, ap, sym, ◌∙◌, inl, inr}
use Rattle.std.proofs.lemmas.Bool.{cases_lt, lt-ltb, le-ltb}
use Rattle.std.proofs.lemmas.List.{get_or_append_left, get_or-append_right}
use Rattle.std.proofs.lemmas.List.FromFn.{length-map-range_with_len, get_or-map-range_with_len, map-range_with_len_more}
use Rattle.std.proofs.lemmas.Nat.{ones_cat, ones_le_self}
use Rattle.std.proofs.Math.Nat.{mul-le-mul_right}
use Rattle.std.specs.Prelude.{count_ones}
use Rattle.std.specs.List.{range_with_len}
use Rattle.ark_paths.specs.Pair.{Digest}
use Rattle.merkle_log.specs.Walk.{index_up}
use Rattle.merkle_log.specs.Stored.{stored_count, position, StoredValue, row_at}
use Rattle.merkle_log.specs.Append.{pushed_row}
use Rattle.merkle_log.proofs.Tests.{twice, mul-twice, power-rises}
use Rattle.merkle_log.proofs.Verdicts.{pow_above}

-- the ones of half a number
pub half_ones : (n : ℕ) → count_ones n ≡ count_ones (n / 2) + n % 2
unfolding lib.Count.ones
half_ones n =
    let e : n ≡ n / 2 * 2 ^ 1 + n % 2 = omega arith in
    ap count_ones e ∙ ones_cat 1 (n / 2) (n % 2) (omega arith) ∙ ap (λ b. count_ones (n / 2) + b)
    (bit (n % 2) (omega arith))
  where
    bit : (b : ℕ) → b < 2 → count_ones b ≡ b
    bit zero low = refl
    bit (suc zero) low = refl
    bit (suc (suc b)) low = absurd (omega arith)

-- ---- how many places are complete

pub count-half : (n : ℕ) → stored_count n ≡ n + stored_count (n / 2)
count-half n = omega (arith, half_ones n, ones_le_self (n / 2))

count-rises_below : (k a b : ℕ) → b < 2 ^ k → a ≤ b → stored_count a ≤ stored_count b
count-rises_below zero a b low le = let e : a ≡ b = omega arith in rw (e) (omega arith)
count-rises_below (suc k) a b low le =
    let two = twice k in
    omega (arith, count-rises_below k (a / 2) (b / 2) (omega arith) (omega arith), count-half a, count-half b)

pub count-rises : (a b : ℕ) → a ≤ b → stored_count a ≤ stored_count b
count-rises a b le = count-rises_below b a b (pow_above b) le

-- the leaves below the places up to one
pub below-up : (level place : ℕ) → (place + 1) * 2 ^ suc level ≡ (place + 1) * 2 ^ level + (place + 1) * 2 ^ level
below-up level place = mul-twice level (place + 1)

pub some-below : (level place : ℕ) → 0 < (place + 1) * 2 ^ level
some-below zero place = omega arith
some-below (suc level) place = omega (arith, below-up level place, some-below level place)

-- a place stands before what later leaves complete
pub position-next : (level place : ℕ) → position level place < stored_count ((place + 1) * 2 ^ level)
position-next zero place =
    let e : (place + 1) * 2 ^ 0 ≡ place + 1 = omega arith in
    let f : place + 1 - 1 ≡ place = omega arith in
    rw (e, f) (omega (
      arith,
      count-half place,
      count-half (place + 1),
      count-rises (place / 2) ((place + 1) / 2) (omega arith),
    ))
position-next (suc level) place = rw (below-up level place) (by_half ((place + 1) * 2 ^ level) (some-below level place)
    (position-next level place))
  where
    by_half : (m : ℕ) → 0 < m → stored_count (m - 1) + level < stored_count m → stored_count (m + m - 1) + suc level
        < stored_count (m + m)
    by_half m some ih =
        let a : (m + m - 1) / 2 ≡ m - 1 = omega arith in
        let b : (m + m) / 2 ≡ m = omega arith in
        omega (arith, count-half (m + m - 1), count-half (m + m), ap stored_count a, ap stored_count b)

pub position-within : (level place size : ℕ) → (place + 1) * 2 ^ level ≤ size → position level place < stored_count size
position-within level place size le =
    omega (arith, position-next level place, count-rises ((place + 1) * 2 ^ level) size le)

-- A place that is not complete stands behind what is.
pub position-beyond : (level place size : ℕ) → size < (place + 1) * 2 ^ level → stored_count size
    ≤ position level place
position-beyond level place size beyond =
    omega (arith, count-rises size ((place + 1) * 2 ^ level - 1) (omega arith))

-- ---- how many places a level has

-- the leaves below the places of a level
pub up-times : (level n : ℕ) → index_up level n * 2 ^ level ≤ n
up-times zero n = omega arith
up-times (suc level) n = omega (arith, up-times level (n / 2), mul-twice level (index_up level (n / 2)))

pub place-within : (level place n : ℕ) → place < index_up level n → (place + 1) * 2 ^ level ≤ n
place-within level place n below = omega (arith, up-times level n, times (place + 1) (index_up level n) (omega arith))
  where
    times : (a b : ℕ) → a ≤ b → a * 2 ^ level ≤ b * 2 ^ level
    times a b le = mul-le-mul_right (2 ^ level) le

-- one leaf more, where some lowest levels have an odd number of places
half-odd : (n : ℕ) → n % 2 ≡ 1 → (n + 1) / 2 ≡ n / 2 + 1
half-odd n odd = omega arith

half-even : (n : ℕ) → n % 2 ≡ 0 → (n + 1) / 2 ≡ n / 2
half-even n even = omega arith

pub up-carry : (level n : ℕ) → ((l : ℕ) → l < level → index_up l n % 2 ≡ 1) → index_up level (n + 1)
    ≡ index_up level n + 1
up-carry zero n odd = refl
up-carry (suc level) n odd =
    ap (index_up level) (half-odd n (odd 0 (omega arith))) ∙ up-carry level (n / 2) (λ l below. odd (suc l)
    (omega arith))

pub up-times_all : (level n : ℕ) → ((l : ℕ) → l < level → index_up l n % 2 ≡ 1) → (index_up level n + 1) * 2
    ^ level ≡ n + 1
up-times_all zero n odd = omega arith
up-times_all (suc level) n odd = omega (
  arith,
  odd 0 (omega arith),
  up-times_all level (n / 2) (λ l below. odd (suc l) (omega arith)),
  below-up level (index_up level (n / 2)),
)

-- and above the lowest level that has an even number
pub up-same : (level last n : ℕ) → last < level → ((l : ℕ) → l < last → index_up l n % 2 ≡ 1) → index_up last n % 2 ≡ 0
    → index_up level (n + 1) ≡ index_up level n
up-same zero last n less odd even = absurd (omega arith)
up-same (suc level) zero n less odd even = ap (index_up level) (half-even n even)
up-same (suc level) (suc last) n less odd even =
    ap (index_up level) (half-odd n (odd 0 (omega arith))) ∙ up-same level last (n / 2) (omega arith) (λ l below. odd
    (suc l) (omega arith)) even

-- ---- rows

pub length-row_of : (stored : StoredValue) (level : ℕ) → length (row_at stored level) ≡ index_up level stored.size
length-row_of stored level = length-map-range_with_len (λ place. get_or stored.digests (position level place) []) 0
    (index_up level stored.size)

pub row_of-at : (stored : StoredValue) (level place : ℕ) → place < index_up level stored.size
    → get_or (row_at stored level) place [] ≡ get_or stored.digests (position level place) []
row_of-at stored level place below = get_or-map-range_with_len (λ place. get_or stored.digests (position level place)
    []) 0 (index_up level stored.size) place place [] below (omega arith)

-- the rows of a list that has more digests behind
same_places : (f g : ℕ → Digest) (a count : ℕ) → ((place : ℕ) → place < a + count → f place ≡ g place)
    → map f (range_with_len a count) ≡ map g (range_with_len a count)
same_places f g a zero same = refl
same_places f g a (suc count) same = heads (f a) (g a) _ _ (same a (omega arith)) (same_places f g (a + 1) count
    (λ place below. same place (omega arith)))
  where
    heads : (x y : Digest) (xs ys : List Digest) → x ≡ y → xs ≡ ys → x ∷ xs ≡ y ∷ ys
    heads x y xs ys p q = cc

-- A list with the digests that one leaf completes has each row with its digest among those.
pub rows-more : (stored : StoredValue) (made : List Digest) → length stored.digests ≡ stored_count stored.size
    → 0 < length made
    → ((l : ℕ) → suc l < length made → index_up l stored.size % 2 ≡ 1) → index_up (length made - 1) stored.size % 2 ≡ 0
    → (level : ℕ)
    → row_at (record { size = stored.size + 1; digests = stored.digests ++ made }) level
    ≡ pushed_row (row_at stored) made level
rows-more stored made count some odd even level = elim (cases_lt level (length made)) [
  | inl in_made ↦
      let below : (l : ℕ) → l < level → index_up l stored.size % 2 ≡ 1 = λ l less. odd l (omega arith) in
      let n = index_up level stored.size in
      let all = up-times_all level stored.size below in
      let last : (n + 1) * 2 ^ level - 1 ≡ stored.size = omega arith in
      let own = ap (λ p. get_or (stored.digests ++ made) p []) (ap (λ m. stored_count m + level) last
      ∙ ap (λ m. m + level) (sym count)) ∙ get_or-append_right stored.digests made (length stored.digests)
      (length stored.digests + level) [] refl (omega arith) ∙ ap (λ p. get_or made p []) (past
      (length stored.digests)) in
      rw (lt-ltb level (length made) in_made) (ap (λ c. map at_place (range_with_len 0 c))
      (up-carry level stored.size below) ∙ map-range_with_len_more at_place 0 n n (omega arith)
      ∙ both _ _ _ _ (same_places _ _ 0 n (λ place less. before place (omega arith))) own)
  | inr above ↦
      rw (le-ltb level (length made) above) (ap (λ c. map at_place (range_with_len 0 c))
      (up-same level (length made - 1) stored.size (omega arith) (λ l less. odd l (omega arith)) even)
      ∙ same_places _ _ 0 (index_up level stored.size) (λ place less. before place (omega arith)))
]
  where
    at_place : ℕ → Digest
    at_place place = get_or (stored.digests ++ made) (position level place) []

    both : (xs ys : List Digest) (x y : Digest) → xs ≡ ys → x ≡ y → xs ++ (x ∷ []) ≡ ys ++ (y ∷ [])
    both xs ys x y p q = rw (p, q) refl

    past : (n : ℕ) → n + level - n ≡ level
    past n = omega arith

    before : (place : ℕ) → place < index_up level stored.size → at_place place ≡ get_or stored.digests
        (position level place) []
    before place less = get_or_append_left stored.digests made [] (position level place)
        (omega (arith, position-within level place stored.size (place-within level place stored.size less)))

-- ---- while a leaf completes places

-- one level more
pub up-more : (level n : ℕ) → index_up (level + 1) n ≡ index_up level n / 2
up-more level n = let e : level + 1 ≡ suc level = omega arith in ap (λ l. index_up l n) e ∙ go level n
  where
    go : (level n : ℕ) → index_up (suc level) n ≡ index_up level n / 2
    go zero n = refl
    go (suc level) n = go level (n / 2)

-- the place left of the last one that was completed
pub record Neighbour (size level : ℕ) : Type 0 where
  pub level_fits : level < 64
  pub within : (index_up level size - 1 + 1) * 2 ^ level ≤ size

-- a level below which a place stands that the size has
level_low : (level n : ℕ) → 1 ≤ n → n * 2 ^ level < 2 ^ 64 → level < 64
level_low level n some fits = elim (cases_lt level 64) [
  | inl low ↦ low
  | inr high ↦ absurd (omega (arith, power-rises 64 level high, times))
]
  where
    times : 1 * 2 ^ level ≤ n * 2 ^ level
    times = mul-le-mul_right (2 ^ level) some

pub left_neighbour : (size level : ℕ) → size < 2 ^ 64 → ((l : ℕ) → l < level → index_up l size % 2 ≡ 1) → index_up level
    size % 2 ≡ 1 → Neighbour size level
left_neighbour size level fits odd own =
    let n = index_up level size in
    let one : n - 1 + 1 ≡ n = omega arith in
    record {
      level_fits = level_low level n (omega arith) (omega (arith, up-times level size));
      within = rw (one) (up-times level size);
    }

-- a level that has a place
pub level-fits : (level place : ℕ) → (place + 1) * 2 ^ level < 2 ^ 64 → level < 64
level-fits level place fits = level_low level (place + 1) (omega arith) fits

pub size-within : (size : ℕ) → size ≤ stored_count size
size-within size = omega (arith, ones_le_self size)

-- what one leaf completes
pub count-more : (last n : ℕ) → ((l : ℕ) → l < last → index_up l n % 2 ≡ 1) → index_up last n % 2 ≡ 0 → stored_count
    (n + 1) ≡ stored_count n + (last + 1)
count-more zero n odd even = omega (arith, count-half n, count-half (n + 1), ap stored_count (half-even n even))
count-more (suc last) n odd even = omega (
  arith,
  count-half n,
  count-half (n + 1),
  ap stored_count (half-odd n (odd 0 (omega arith))),
  count-more last (n / 2) (λ l below. odd (suc l) (omega arith)) even,
)

-- a place of a row
pub row-inside : (own seen : StoredValue) (level place : ℕ) → own ≡ seen → place < length (row_at seen level)
    → place < index_up level own.size
row-inside own seen level place is below = let e =
    ap (λ s. length (row_at s level)) is in omega (arith, length-row_of own level)

-- no leaves
pub no-rows : (level : ℕ) → row_at (record { size = 0; digests = [] }) level ≡ []
no-rows level = ap (λ n. map (λ place. get_or [] (position level place) []) (range_with_len 0 n)) (none level)
  where
    none : (level : ℕ) → index_up level 0 ≡ 0
    none zero = refl
    none (suc level) = none level

pub no-count : 0 ≡ stored_count 0
no-count = omega (arith, ones_le_self 0)
