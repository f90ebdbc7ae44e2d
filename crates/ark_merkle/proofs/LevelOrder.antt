-- Rows in level order.
use Rattle.std.proofs.Common.{zero, suc, ◌≡◌, ℕ, ◌+◌, ◌-◌, ◌<◌, ◌≤◌, ◌^◌, List, [], ◌++◌, length, map, take, drop, take-add, reverse, get_or, set, refl, ap, sym, ◌∙◌, arith, pow_pos, append_assoc, append-nil, inl, inr}
use Rattle.std.proofs.lemmas.Bool.{cases_lt}
use Rattle.std.proofs.lemmas.List.{length-map, length-append, length-reverse, reverse-append, reverse-reverse, take_at, drop-drop, with_items_is, map-set, map-append, drop-map, take-map, take_all, drop_at, take-append-le, drop-append-le, length-take-le, length-drop, get_or-take, get_or-drop, drop-set-lt, drop-set-add}
use Rattle.std.proofs.lemmas.Nat.{pow_below}
use Rattle.std.proofs.Math.Seq.{take-set-lt}
use Rattle.std.proofs.Math.Nat.{pow-le-pow_right}
use Rattle.ark_merkle.specs.LevelOrder.{rows_in_order, rows_in_turn, highest_row_first}
use Rattle.std.specs.declared.vec.Vec.{Vec}
use Rattle.std.specs.Vec.{with_item, with_items}
use Rattle.ark_paths.specs.Pair.{Digest}
use Rattle.ark_paths.specs.Rows.{digests_of}
use Rattle.ark_paths.proofs.Readings.{digest_read}
use Rattle.ark_merkle.proofs.ListParts.{part-set_past}

pub length-rows_in_order : (n : ℕ) (digests : List Digest) → length (rows_in_order n digests) ≡ n
length-rows_in_order zero digests = refl
length-rows_in_order (suc n) digests = ap suc (length-rows_in_order n digests)

-- the row of a level
row-at : (n row k : ℕ) (digests : List Digest) → row + suc k ≡ n → get_or (rows_in_order n digests) row []
    ≡ take (2 ^ k) (drop (2 ^ k - 1) digests)
row-at zero row k digests at = absurd (omega arith)
row-at (suc n) zero k digests at = let e : n ≡ k = omega arith in rw e refl
row-at (suc n) (suc row) k digests at = row-at n row k digests (omega arith)

-- the rows of n levels end before 2 ^ n - 1
pub level-inside : (n k : ℕ) → k < n → 2 ^ k + 2 ^ k ≤ 2 ^ n
level-inside n k below = omega (arith, pow-le-pow_right {n = 2} (omega arith) {i = suc k} {j = n} below)

module _ (n row : ℕ) (digests : List Digest) (long : length digests + 1 ≡ 2 ^ n) (below : row < n) where
  abbrev width : ℕ
  width = 2 ^ (n - 1 - row)

  row_is : get_or (rows_in_order n digests) row [] ≡ take width (drop (width - 1) digests)
  row_is = row-at n row (n - 1 - row) digests (omega arith)

  fits : width + width ≤ length digests + 1
  fits = rw long (level-inside n (n - 1 - row) (omega arith))

  pub length-row : length (get_or (rows_in_order n digests) row []) ≡ width
  length-row = rw row_is (length-take-le width (drop (width - 1) digests)
      (omega (arith, length-drop (width - 1) digests, fits, pow_pos (n - 1 - row))))

  pub position-inside : (place : ℕ) → place < width → width - 1 + place < length digests
  position-inside place inside = omega (arith, fits, pow_pos (n - 1 - row))

  pub digest-in_order : (place : ℕ) → place < width → get_or (get_or (rows_in_order n digests) row []) place []
      ≡ get_or digests (width - 1 + place) []
  digest-in_order place inside = rw row_is (get_or-take width (drop (width - 1) digests) place [] inside
      ∙ get_or-drop (width - 1) digests place [])

-- ---- a digest is written

-- what stands past n levels does not count
rows_in_order-past : (n i : ℕ) (digests : List Digest) (digest : Digest) → 2 ^ n - 1 ≤ i → rows_in_order n
    (set digests i digest) ≡ rows_in_order n digests
rows_in_order-past zero i digests digest past = refl
rows_in_order-past (suc n) i digests digest past =
    let own = part-set_past (2 ^ n) (2 ^ n - 1) i digests digest (omega (arith, pow_pos n)) in
    rw (own, rows_in_order-past n i digests digest (omega arith)) refl

rows_in_order-set : (n row k place : ℕ) (digests : List Digest) (digest : Digest) → row + suc k ≡ n → place < 2 ^ k
    → rows_in_order n (set digests (2 ^ k - 1 + place) digest)
    ≡ set (rows_in_order n digests) row (set (get_or (rows_in_order n digests) row []) place digest)
rows_in_order-set zero row k place digests digest at inside = absurd (omega arith)
rows_in_order-set (suc n) zero k place digests digest at inside =
    let e : n ≡ k = omega arith in
    let others = rows_in_order-past k (2 ^ k - 1 + place) digests digest (omega arith) in
    rw (e, drop-set-add, take-set-lt (2 ^ k) (drop (2 ^ k - 1) digests) place digest inside, others) refl
rows_in_order-set (suc n) (suc row) k place digests digest at inside =
    let room = level-inside n k (omega arith) in
    let own = drop-set-lt (2 ^ n - 1) digests (2 ^ k - 1 + place) digest (omega (arith, pow_pos k)) in
    rw (own, rows_in_order-set n row k place digests digest (omega arith) inside) refl

-- ---- as a list of digests is read and written

-- a list has at most 64 levels
pub count-fits : (count len : ℕ) → len + 1 ≡ 2 ^ count → len < 2 ^ 64 → count ≤ 64
count-fits count len long small = elim (cases_lt 64 count)
    [ inl more ↦ absurd (omega (arith, pow_below 64 count more)) | inr le ↦ le ]

-- what `position` requires
abbrev pub IsPosition : ℕ → ℕ → ℕ → Type 0
IsPosition n k p = record { count : n ≤ 64; row : k < n; place : p < 2 ^ (n - 1 - k) }

module _ {A Z : Type 0} (numbers : A → Digest) (digests : Vec A Z) (count : ℕ) (rows : List (List Digest))
    (seen : rows_in_order count (digests_of numbers digests) ≡ rows) (whole : length digests.items + 1
    ≡ 2 ^ count) where
  long_seen : length (digests_of numbers digests) + 1 ≡ 2 ^ count
  long_seen = omega (arith, length-map digests.items numbers, whole)

  pub length-seen : count ≡ length rows
  length-seen = sym (length-rows_in_order count (digests_of numbers digests)) ∙ ap length seen

  module _ (row : ℕ) (row_in : row < length rows) where
    pub row-below : row < count
    row-below = omega (arith, length-seen)

    -- a place of the row
    module _ (place : ℕ) (place_in : place < length (get_or rows row [])) where
      place-below : place < 2 ^ (count - 1 - row)
      place-below = rw (← seen, length-row count row (digests_of numbers digests) long_seen row-below) at place_in

      pub is_position : length digests.items < 2 ^ 64 → IsPosition count row place
      is_position small = record {
        count = count-fits count (length digests.items) whole small;
        row = row-below;
        place = place-below;
      }

      module _ (at : ℕ) (at_is : at ≡ 2 ^ (count - 1 - row) - 1 + place) where
        inside : at < length digests.items
        inside =
            let seen_inside = position-inside count row (digests_of numbers digests) long_seen row-below place
            place-below in
            omega (arith, length-map digests.items numbers)

        pub at-inside : at < digests.len
        at-inside = omega (arith, digests.ok.0, inside)

        pub at-read : (digest : A) → digest ≡ get_or digests.items at digest → numbers digest
            ≡ get_or (get_or rows row []) place []
        at-read digest is =
            let own = digest-in_order count row (digests_of numbers digests) long_seen row-below place place-below in
            rw (← seen, own, ← at_is) (sym (digest_read numbers digests at digest inside is))

        pub at-written : (digest : A) → rows_in_order count (digests_of numbers (with_item digests at digest))
            ≡ set rows row (set (get_or rows row []) place (numbers digest))
        at-written digest = rw (← seen, map-set numbers digests.items at digest, at_is) (rows_in_order-set count row
            (count - 1 - row) place (digests_of numbers digests) (numbers digest) (omega (arith, row-below))
            place-below)

    -- the whole row
    module _ (first : ℕ) (first_is : first ≡ 2 ^ (count - 1 - row) - 1 + 0) where
      some_first : first + 1 ≡ 2 ^ (count - 1 - row)
      some_first = omega (arith, pow_pos (count - 1 - row))

      pub row-ends : first + (first + 1) ≤ length digests.items
      row-ends =
          let end = position-inside count row (digests_of numbers digests) long_seen row-below first
          (omega (arith, some_first)) in
          omega (arith, some_first, length-map digests.items numbers)

      pub row-read : (given part : List A) → given ≡ digests.items → part ≡ take (first + 1) (drop first given)
          → map numbers part ≡ get_or rows row []
      row-read given part same is =
          let at : first ≡ 2 ^ (count - 1 - row) - 1 = omega arith in
          ap (map numbers) (is ∙ ap (λ (ds : List A). take (first + 1) (drop first ds)) same)
          ∙ sym (take-map numbers (first + 1) (drop first digests.items)) ∙ ap (take (first + 1))
          (sym (drop-map numbers first digests.items))
          ∙ rw (some_first, at, ← seen) (sym (row-at count row (count - 1 - row) (digests_of numbers digests)
          (omega (arith, row-below))))

-- ---- rows that stand in turn, put into level order

map-highest_row_first : {A : Type 0} (numbers : A → Digest) (n : ℕ) (digests : List A)
    → map numbers (highest_row_first n digests) ≡ highest_row_first n (map numbers digests)
map-highest_row_first numbers zero digests = refl
map-highest_row_first numbers (suc n) digests =
    map-append numbers (highest_row_first n (drop (2 ^ n) digests)) (take (2 ^ n) digests)
    ∙ rw (map-highest_row_first numbers n (drop (2 ^ n) digests), drop-map, take-map) refl

length-highest_row_first : {A : Type 0} (n : ℕ) (digests : List A) → length digests + 1 ≡ 2 ^ n
    → length (highest_row_first n digests) ≡ length digests
length-highest_row_first zero digests long = omega arith
length-highest_row_first (suc n) digests long =
    let rest = length-drop (2 ^ n) digests in
    let above = length-highest_row_first n (drop (2 ^ n) digests) (omega (arith, pow_pos n)) in
    let front = length-take-le (2 ^ n) digests (omega (arith, pow_pos n)) in
    omega (arith, length-append (highest_row_first n (drop (2 ^ n) digests)) (take (2 ^ n) digests))

rows_in_order-append : (n : ℕ) (digests more : List Digest) → 2 ^ n ≤ length digests + 1 → rows_in_order n
    (digests ++ more) ≡ rows_in_order n digests
rows_in_order-append zero digests more long = refl
rows_in_order-append (suc n) digests more long =
    let behind = drop-append-le (2 ^ n - 1) digests more (omega (arith, pow_pos n)) in
    let own = take-append-le (2 ^ n) (drop (2 ^ n - 1) digests) more
    (omega (arith, length-drop (2 ^ n - 1) digests, pow_pos n)) in
    rw (behind, own, rows_in_order-append n digests more (omega arith)) refl

rows-highest_row_first : (n : ℕ) (digests : List Digest) → length digests + 1 ≡ 2 ^ n → rows_in_order n
    (highest_row_first n digests) ≡ rows_in_turn n digests
rows-highest_row_first zero digests long = refl
rows-highest_row_first (suc n) digests long =
    let above = drop (2 ^ n) digests in
    let own = take (2 ^ n) digests in
    let rest : length above + 1 ≡ 2 ^ n = omega (arith, length-drop (2 ^ n) digests, pow_pos n) in
    let high = length-highest_row_first n above rest in
    rw (
      drop_at (highest_row_first n above) own (2 ^ n - 1) (omega arith),
      take_all (2 ^ n) own (omega (arith, length-take-le (2 ^ n) digests (omega arith))),
      rows_in_order-append n (highest_row_first n above) own (omega arith),
      rows-highest_row_first n above rest,
    ) refl

-- The highest rows are in level order, and the others stand in turn, all reversed.
abbrev pub IsTurned : {A : Type 0} → List A → ℕ → List A → Type 0
IsTurned digests level now =
    let below = length digests - (2 ^ level - 1) in
    now ≡ highest_row_first level (drop below digests) ++ reverse (take below digests)

pub turned-none : {A : Type 0} (digests : List A) → IsTurned digests 0 (reverse digests)
turned-none digests = let e : length digests - (2 ^ 0 - 1) ≡ length digests =
    omega arith in rw (e, take_all (length digests) digests (omega arith)) refl

pub turned-all : {A : Type 0} (digests now : List A) (count : ℕ) → length digests + 1 ≡ 2 ^ count → IsTurned digests
    count now → now ≡ highest_row_first count digests
turned-all digests now count long so =
    let e : length digests - (2 ^ count - 1) ≡ 0 = omega arith in
    so ∙ rw e (append-nil (highest_row_first count digests))

-- a part between two others is turned back
part-turned : {A : Type 0} (high own low now row : List A) (m w : ℕ) → length high ≡ m → length own ≡ w
    → now ≡ high ++ (reverse own ++ reverse low) → row ≡ reverse (take w (drop m now))
    → take m now ++ (row ++ drop w (drop m now)) ≡ (high ++ own) ++ reverse low
part-turned high own low now row m w tall wide is row_is =
    let back = reverse own in
    let size : length back ≡ w = length-reverse own ∙ wide in
    let behind = drop_at high (back ++ reverse low) m tall in
    rw (row_is, is, behind, take_at high (back ++ reverse low) m tall, take_at back (reverse low) w size)
    (rw (drop_at back (reverse low) w size, reverse-reverse own) (sym (append_assoc high own (reverse low))))

-- one row is turned back
pub turned-more : {A : Type 0} (digests now : List A) (level count : ℕ) → length digests + 1 ≡ 2 ^ count → level < count
    → IsTurned digests level now → (row : List A) → row ≡ reverse (take (2 ^ level) (drop (2 ^ level - 1) now))
    → IsTurned digests (level + 1) (take (2 ^ level - 1) now ++ (row ++ drop (2 ^ level) (drop (2 ^ level - 1) now)))
turned-more digests now level count long below so row is =
    let w = 2 ^ level in
    let room = level-inside count level below in
    let some = pow_pos level in
    let one : level + 1 ≡ suc level = omega arith in
    let next = length digests - (2 ^ suc level - 1) in
    let step : length digests - (w - 1) ≡ next + w = omega arith in
    let own = take w (drop next digests) in
    let high = drop (next + w) digests in
    let rest : length high + 1 ≡ w = omega (arith, length-drop (next + w) digests) in
    let tall = length-highest_row_first level high rest in
    let wide = length-take-le w (drop next digests) (omega (arith, length-drop next digests)) in
    let now_is : now ≡ highest_row_first level high ++ (reverse own ++ reverse (take next digests)) =
    rw (step, take-add next w digests, reverse-append (take next digests) own) at so in
    rw (one, drop-drop w next digests) (part-turned (highest_row_first level high) own (take next digests) now row
    (w - 1) w (omega arith) wide now_is is)

-- The rows of a list that is put into level order are those that stood in turn, and as many digests.
pub rows-put : {A Z : Type 0} (numbers : A → Digest) (count : ℕ) (digests : Vec A Z) (given made : List A) → given
    ≡ digests.items → made ≡ highest_row_first count given → length digests.items + 1 ≡ 2 ^ count
    → (rows_in_order count (digests_of numbers (with_items digests made)) ≡ rows_in_turn count
    (digests_of numbers digests))
    × (length (with_items digests made).items + 1 ≡ 2 ^ count)
rows-put numbers count digests given made same is long =
    let made_is : made ≡ highest_row_first count digests.items = is ∙ ap (highest_row_first count) same in
    let size = ap length made_is ∙ length-highest_row_first count digests.items long in
    let items = with_items_is digests made (size ∙ sym digests.ok.0) in
    let put = rows-highest_row_first count (map numbers digests.items)
    (omega (arith, length-map digests.items numbers)) in
    (rw (items, made_is, map-highest_row_first numbers count digests.items) put, rw items (omega arith))
