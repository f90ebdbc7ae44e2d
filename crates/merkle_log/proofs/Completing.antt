-- A log's list while a leaf completes places.
use Rattle.std.proofs.Common.{zero, suc, ◌≡◌, ℕ, ◌+◌, ◌-◌, ◌*◌, ◌/◌, ◌%◌, ◌<◌, ◌≤◌, ◌^◌, List, [], ◌∷◌, ◌++◌, length, map, take, get_or, Ok, Err, arith, refl, ap, sym, ◌∙◌, inl, inr}
use Rattle.std.proofs.lemmas.Bool.{cases_lt}
use Rattle.std.proofs.lemmas.List.{length-map, length-append, map-append, append_assoc, get_or_append_left, get_or-append_right, take-append-le, take_all}
use Rattle.ark_paths.specs.Pair.{Digest}
use Rattle.merkle_log.specs.Log.{NodeHash}
use Rattle.merkle_log.specs.Walk.{index_up}
use Rattle.merkle_log.specs.Stored.{stored_count, position, StoredValue, row_at}
use Rattle.std.proofs.lemmas.Nat.{ones_le_self}
use Rattle.ark_base.specs.declared.error.Error.{Error}
use Rattle.merkle_log.specs.Append.{Appends, Completes, RefusesCarry, pair_count, pushed_row}
use Rattle.merkle_log.proofs.Carried.{CarriesTo, carries-first, carries-more, carries-end}
use Rattle.merkle_log.proofs.Positions.{left_neighbour, length-row_of, row_of-at, position-within, up-more, count-more, rows-more}

-- a list of a size by its numbers
abbrev pub stored_as : {A : Type 0} → (A → Digest) → ℕ → List A → StoredValue
stored_as numbers size items = record { size = size; digests = map numbers items }

-- The list has the digests that a leaf made so far, up to a level that has `left` places below it.
pub record Completing {A : Type 0} (numbers : A → Digest) (hash : NodeHash) (size : ℕ) (before : List A)
    (digest : Digest) (items : List A) (level left : ℕ) : Type 0 where
  pub made : List A
  pub items_are : items ≡ before ++ made
  pub count : length made ≡ level + 1
  pub left_is : left ≡ index_up level size
  pub carried : CarriesTo hash (row_at (stored_as numbers size before)) digest level (map numbers made)

pub completing-first : {A : Type 0} (numbers : A → Digest) (hash : NodeHash) (size : ℕ) (before : List A) (digest : A)
    (items : List A) → items ≡ before ++ (digest ∷ []) → Completing numbers hash size before (numbers digest)
    items 0 size
completing-first numbers hash size before digest items is = record {
  made = digest ∷ [];
  items_are = is;
  count = refl;
  left_is = refl;
  carried = carries-first hash (row_at (stored_as numbers size before)) (numbers digest);
}

module _ {A : Type 0} {numbers : A → Digest} {hash : NodeHash} {size : ℕ} {before : List A} {digest : Digest}
    {items : List A} {level left : ℕ} (at : Completing numbers hash size before digest items level left) where
  abbrev rows : ℕ → List Digest
  rows = row_at (stored_as numbers size before)

  odd_below : (l : ℕ) → l < level → index_up l size % 2 ≡ 1
  odd_below l below = ap (λ n. n % 2) (sym (length-row_of (stored_as numbers size before) l)) ∙ at.carried.odd l below

  pub completing-long : length items ≡ length before + (level + 1)
  completing-long = ap length at.items_are ∙ length-append before at.made ∙ ap (λ n. length before + n) at.count

  pub completing-front : take (length before) items ≡ before
  completing-front = ap (take (length before)) at.items_are ∙ take-append-le (length before) before at.made
      (omega arith) ∙ take_all (length before) before (omega arith)

  pub completing-place : size < 2 ^ 64 → left % 2 ≡ 1 → (level < 64) × ((left - 1 + 1) * 2 ^ level ≤ size)
  completing-place fits odd =
      let place = left_neighbour size level fits (λ l below. odd_below l below)
      (ap (λ n. n % 2) (sym at.left_is) ∙ odd) in
      (place.level_fits, rw (at.left_is) place.within)

  pub completing-inside : size < 2 ^ 64 → left % 2 ≡ 1 → length before ≡ stored_count size → position level (left - 1)
      < length before
  completing-inside fits odd count =
      let place = completing-place fits odd in
      let within = position-within level (left - 1) size place.1 in
      omega arith

  -- the digest of the place on the left
  own_left : size < 2 ^ 64 → left % 2 ≡ 1 → length before ≡ stored_count size → get_or (map numbers items)
      (position level (left - 1)) [] ≡ get_or (rows level) (length (rows level) - 1) []
  own_left fits odd count =
      let inside = completing-inside fits odd count in
      let long : length (map numbers before) ≡ length before = length-map before numbers in
      let last : length (rows level) - 1 ≡ left - 1 =
      ap (λ n. n - 1) (length-row_of (stored_as numbers size before) level ∙ sym at.left_is) in
      let below : left - 1 < index_up level size = let e = at.left_is in omega arith in
      ap (λ l. get_or (map numbers l) (position level (left - 1)) []) at.items_are
      ∙ ap (λ l. get_or l (position level (left - 1)) []) (map-append numbers before at.made)
      ∙ get_or_append_left (map numbers before) (map numbers at.made) [] (position level (left - 1)) (omega arith)
      ∙ sym (row_of-at (stored_as numbers size before) level (left - 1) below)
      ∙ ap (λ n. get_or (rows level) n []) (sym last)

  -- the digest that was made last
  own_right : (last : ℕ) → last ≡ length items - 1 → get_or (map numbers items) last []
      ≡ get_or (map numbers at.made) level []
  own_right last is =
      let long = completing-long in
      let all : length (map numbers before) ≡ length before = length-map before numbers in
      let e : last - length before ≡ level = omega arith in
      ap (λ l. get_or (map numbers l) last []) at.items_are ∙ ap (λ l. get_or l last [])
      (map-append numbers before at.made)
      ∙ get_or-append_right (map numbers before) (map numbers at.made) (length before) last [] all (omega arith)
      ∙ ap (λ n. get_or (map numbers at.made) n []) e

  pub completing-next : size < 2 ^ 64 → left % 2 ≡ 1 → length before ≡ stored_count size → (last : ℕ) → last
      ≡ length items - 1 → (up : A) (new : List A) → new ≡ items ++ (up ∷ [])
      → hash (get_or (map numbers items) (position level (left - 1)) []) (get_or (map numbers items) last [])
      ≡ Ok (numbers up)
      → Completing numbers hash size before digest new (level + 1) (left / 2)
  completing-next fits odd count last is up new new_is hashed =
      let row_odd : length (rows level) % 2 ≡ 1 = ap (λ n. n % 2) (length-row_of (stored_as numbers size before) level
      ∙ sym at.left_is) ∙ odd in
      record {
        made = at.made ++ (up ∷ []);
        items_are = new_is ∙ ap (λ l. l ++ (up ∷ [])) at.items_are ∙ append_assoc before at.made (up ∷ []);
        count = length-append at.made (up ∷ []) ∙ ap (λ n. n + 1) at.count;
        left_is = ap (λ n. n / 2) at.left_is ∙ sym (up-more level size);
        carried = rw (map-append) (carries-more hash rows digest level (map numbers at.made) (numbers up) at.carried
            (length-map at.made numbers ∙ at.count) row_odd
            (ap (λ d. hash d (get_or (map numbers at.made) level [])) (sym (own_left fits odd count))
            ∙ ap (hash (get_or (map numbers items) (position level (left - 1)) [])) (sym (own_right last is))
            ∙ hashed));
      }

  -- The hash refuses the next pair.
  pub completing-refused : size < 2 ^ 64 → left % 2 ≡ 1 → length before ≡ stored_count size → (last : ℕ) → last
      ≡ length items - 1 → (error : Error)
      → hash (get_or (map numbers items) (position level (left - 1)) []) (get_or (map numbers items) last [])
      ≡ Err error
      → RefusesCarry hash rows digest error
  completing-refused fits odd count last is error refused =
      let row_odd : length (rows level) % 2 ≡ 1 = ap (λ n. n % 2) (length-row_of (stored_as numbers size before) level
      ∙ sym at.left_is) ∙ odd in
      record {
        level = level;
        made = map numbers at.made;
        first = at.carried.first;
        odd = λ k below. elim (cases_lt k level) [
          | inl less ↦ at.carried.odd k less
          | inr here ↦ let e : k ≡ level = omega arith in rw (e) row_odd
        ];
        hashed = at.carried.hashed;
        refused = ap (λ d. hash d (get_or (map numbers at.made) level [])) (sym (own_left fits odd count))
            ∙ ap (hash (get_or (map numbers items) (position level (left - 1)) [])) (sym (own_right last is))
            ∙ refused;
      }

  pub completing-end : left % 2 ≡ 0 → Completes hash size (map numbers before) digest (map numbers items)
  completing-end even =
      let row_even : length (rows level) % 2 ≡ 0 = ap (λ n. n % 2) (length-row_of (stored_as numbers size before) level
      ∙ sym at.left_is) ∙ even in
      record {
        made = map numbers at.made;
        carried = carries-end hash rows digest level (map numbers at.made) at.carried (length-map at.made numbers
            ∙ at.count) row_even;
        is = ap (map numbers) at.items_are ∙ map-append numbers before at.made;
      }

  -- the pairs that were hashed
  pub completing-pairs : left % 2 ≡ 0 → level ≡ pair_count (size + 1) - pair_count size
  completing-pairs even =
      let more = count-more level size (λ l below. odd_below l below) (ap (λ n. n % 2) (sym at.left_is) ∙ even) in
      omega (arith, ones_le_self size, ones_le_self (size + 1))

-- ---- the list with one leaf more

module _ {hash : NodeHash} {size : ℕ} {before after : List Digest} {digest : Digest} (done : Completes hash size before
    digest after) where
  odds : (l : ℕ) → suc l < length done.made → index_up l size % 2 ≡ 1
  odds l below = ap (λ n. n % 2) (sym (length-row_of (record { size = size; digests = before }) l))
      ∙ done.carried.odd l below

  evens : index_up (length done.made - 1) size % 2 ≡ 0
  evens = ap (λ n. n % 2) (sym (length-row_of (record { size = size; digests = before }) (length done.made - 1)))
      ∙ done.carried.even

  pub completes-count : length before ≡ stored_count size → length after ≡ stored_count (size + 1)
  completes-count count =
      let some = done.carried.some in
      let more = count-more (length done.made - 1) size (λ l below. odds l (omega arith)) evens in
      omega (arith, ap length done.is ∙ length-append before done.made)

  pub completes-rows : length before ≡ stored_count size → (level : ℕ)
      → row_at (record { size = size + 1; digests = after }) level
      ≡ pushed_row (row_at (record { size = size; digests = before })) done.made level
  completes-rows count level = ap (λ l. row_at (record { size = size + 1; digests = l }) level) done.is
      ∙ rows-more (record { size = size; digests = before }) done.made count done.carried.some odds evens level

  pub completes-appends : length before ≡ stored_count size → Appends hash (record { size = size; digests = before })
      digest (record { size = size + 1; digests = after })
  completes-appends count = record {
    made = done.made;
    carried = done.carried;
    rows = completes-rows count;
    whole = completes-count count;
    extends = record {
      size = omega arith;
      front = ap (λ l. take (stored_count size) l) done.is ∙ take-append-le (stored_count size) before done.made
          (omega arith) ∙ take_all (stored_count size) before (omega arith);
    };
  }

-- a digest that was read
pub digest-read : {A : Type 0} (numbers : A → Digest) (items : List A) (i : ℕ) (x : A) → i < length items → x
    ≡ get_or items i x → numbers x ≡ get_or (map numbers items) i []
digest-read numbers [] i x below is = absurd (omega arith)
digest-read numbers (m ∷ items) zero x below is = ap numbers is
digest-read numbers (m ∷ items) (suc i) x below is = digest-read numbers items i x (omega arith) is
