-- The digests that a leaf makes, while they are written to a buffer behind those that are kept.
use Rattle.std.proofs.Common.{zero, suc, ◌≡◌, ℕ, ◌+◌, ◌-◌, ◌*◌, ◌/◌, ◌%◌, ◌<◌, ◌≤◌, ◌^◌, List, [], ◌∷◌, ◌++◌, length, map, take, drop, get_or, Ok, Err, arith, refl, ap, sym, ◌∙◌, inl, inr}
use Rattle.std.proofs.lemmas.Bool.{cases_lt}
use Rattle.std.proofs.lemmas.List.{length-append, length-take-le, append_assoc, drop-drop, get_or_append_left, get_or-append_right, get_or_push, get_or-take}
use Rattle.ark_base.specs.Digits.{itself}
use Rattle.ark_paths.specs.Pair.{Digest}
use Rattle.ark_base.specs.declared.error.Error.{Error}
use Rattle.merkle_log.specs.Append.{Completes, RefusesCarry}
use Rattle.merkle_log.specs.Log.{NodeHash}
use Rattle.merkle_log.specs.Stored.{stored_count, position, row_at}
use Rattle.merkle_log.specs.Walk.{index_up}
use Rattle.merkle_log.proofs.Completing.{Completing, stored_as, completing-first, completing-place, completing-inside, completing-next, completing-refused, completing-end}
use Rattle.merkle_log.proofs.Positions.{count-half, count-more, count-rises, length-row_of}

pub map-itself : (digests : List Digest) → map itself digests ≡ digests
map-itself [] = refl
map-itself (digest ∷ digests) = ap (λ l. digest ∷ l) (map-itself digests)

-- ---- how many there will be

-- A leaf behind so many odd levels makes a digest on each of them and one above.
rises-more : (level n : ℕ) → ((l : ℕ) → l < level → index_up l n % 2 ≡ 1) → stored_count n + (level + 1)
    ≤ stored_count (n + 1)
rises-more zero n odd = let rises = count-rises (n / 2) ((n + 1) / 2) (omega arith) in
    omega (arith, count-half n, count-half (n + 1))
rises-more (suc level) n odd =
    let first = odd 0 (omega arith) in
    let e : (n + 1) / 2 ≡ n / 2 + 1 = omega arith in
    let ih = rises-more level (n / 2) (λ l below. odd (suc l) (omega arith)) in
    omega (arith, count-half n, count-half (n + 1), ap stored_count e)

pub room-first : (size : ℕ) → stored_count size + 1 ≤ stored_count (size + 1)
room-first size = let more = rises-more 0 size (λ l below. absurd (omega arith)) in omega arith

-- ---- what is read

-- some digests, and the first of a buffer behind them
abbrev pub items : List Digest → ℕ → List Digest → List Digest
items kept at more = kept ++ take at more

pub length-items : (kept more : List Digest) (at : ℕ) → at ≤ length more → length (items kept at more)
    ≡ length kept + at
length-items kept more at le = length-append kept (take at more) ∙ ap (λ n. length kept + n)
    (length-take-le at more le)

-- A place among them is read in the whole buffer.
pub read-items : (kept more : List Digest) (at place : ℕ) → place < length kept + at → get_or (kept ++ more) place []
    ≡ get_or (items kept at more) place []
read-items kept more at place below = elim (cases_lt place (length kept)) [
  | inl own ↦ get_or_append_left kept more [] place own ∙ sym (get_or_append_left kept (take at more) [] place own)
  | inr behind ↦
      get_or-append_right kept more (length kept) place [] refl behind
      ∙ sym (get_or-take at more (place - length kept) [] (omega arith))
      ∙ sym (get_or-append_right kept (take at more) (length kept) place [] refl behind)
]

-- ---- while they are made

-- `at` digests stand in the buffer, of which a leaf made those behind the first `made`, up to a level; `own` is the
-- last.
pub record Making (hash : NodeHash) (kept : List Digest) (size made : ℕ) (digest : Digest) (old more : List Digest)
    (at level left : ℕ) (own : Digest) : Type 0 where
  pub completing : Completing itself hash size (items kept made old) digest (items kept at more) level left
  pub count : at ≡ made + (level + 1)
  pub last : own ≡ get_or (items kept at more) (length (items kept at more) - 1) []
  pub behind : drop at more ≡ drop at old
  pub same : length more ≡ length old

items-more : (kept old more : List Digest) (at : ℕ) (digest : Digest) → take (at + 1) more ≡ take at old ++
    (digest ∷ [])
    → items kept (at + 1) more ≡ items kept at old ++ (digest ∷ [])
items-more kept old more at digest is = ap (λ l. kept ++ l) is ∙ sym (append_assoc kept (take at old) (digest ∷ []))

last-more : (front all : List Digest) (digest : Digest) → all ≡ front ++ (digest ∷ []) → digest
    ≡ get_or all (length all - 1) []
last-more front all digest is =
    let long = ap length is ∙ length-append front (digest ∷ []) in
    sym (ap (λ l. get_or l (length all - 1) []) is ∙ get_or_push front digest [] (length all - 1) (omega arith))

pub making-first : {hash : NodeHash} {kept old more : List Digest} {size made : ℕ} {digest : Digest}
    → take (made + 1) more ≡ take made old ++ (digest ∷ []) → drop (made + 1) more ≡ drop (made + 1) old
    → length more ≡ length old → Making hash kept size made digest old more (made + 1) 0 size digest
making-first {hash} {kept} {old} {more} {size} {made} {digest} is behind same =
    let all = items-more kept old more made digest is in
    record {
      completing = completing-first itself hash size (items kept made old) digest (items kept (made + 1) more) all;
      count = omega arith;
      last = last-more (items kept made old) (items kept (made + 1) more) digest all;
      behind = behind;
      same = same;
    }

module _ {hash : NodeHash} {kept old more : List Digest} {size made at level left : ℕ} {digest own : Digest}
    (making : Making hash kept size made digest old more at level left own)
    (whole : length kept + made ≡ stored_count size) (fits : size < 2 ^ 63)
    (room : stored_count (size + 1) ≤ length kept + length old) where
  below_odd : (l : ℕ) → l < level → index_up l size % 2 ≡ 1
  below_odd l less = ap (λ n. n % 2) (sym (length-row_of (stored_as itself size (items kept made old)) l))
      ∙ making.completing.carried.odd l less

  odds : left % 2 ≡ 1 → (l : ℕ) → l < level + 1 → index_up l size % 2 ≡ 1
  odds odd l below = elim (cases_lt l level) [
    | inl less ↦ below_odd l less
    | inr here ↦
        let e : l ≡ level = omega arith in
        ap (λ n. index_up n size % 2) e ∙ ap (λ n. n % 2) (sym making.completing.left_is) ∙ odd
  ]

  before : length (items kept made old) ≡ stored_count size
  before = let more = room-first size in length-items kept old made (omega arith) ∙ whole

  -- There is room for the next one.
  pub making-room : left % 2 ≡ 1 → at < length more
  making-room odd =
      let rises = rises-more (level + 1) size (odds odd) in
      omega (arith, making.count, making.same)

  pub making-place : left % 2 ≡ 1 → (level < 64) × ((left - 1 + 1) * 2 ^ level < 2 ^ 64)
      × (position level (left - 1) < length kept + made)
  making-place odd =
      let place = completing-place making.completing (omega arith) odd in
      let inside = completing-inside making.completing (omega arith) odd before in
      let within = place.1 in
      (place.0, omega arith, omega (arith, whole, before))

  -- the pair that is hashed next
  pair-read : left % 2 ≡ 1
      → hash (get_or (map itself (items kept at more)) (position level (left - 1)) [])
      (get_or (map itself (items kept at more)) (length (items kept at more) - 1) [])
      ≡ hash (get_or (kept ++ more) (position level (left - 1)) []) own
  pair-read odd =
      let inside = (making-place odd).2 in
      ap (λ l. hash (get_or l (position level (left - 1)) []) (get_or l (length (items kept at more) - 1) []))
      (map-itself (items kept at more))
      ∙ ap (λ d. hash d (get_or (items kept at more) (length (items kept at more) - 1) []))
      (sym (read-items kept more at (position level (left - 1)) (omega (arith, making.count))))
      ∙ ap (hash (get_or (kept ++ more) (position level (left - 1)) [])) (sym making.last)

  -- It is refused.
  pub making-refused : left % 2 ≡ 1 → (error : Error)
      → hash (get_or (kept ++ more) (position level (left - 1)) []) own ≡ Err error
      → RefusesCarry hash (row_at (record { size = size; digests = items kept made old })) digest error
  making-refused odd error refused = rw (map-itself (items kept made old)) at
      (completing-refused making.completing (omega arith) odd before (length (items kept at more) - 1) refl error
      (pair-read odd ∙ refused))

  pub making-next : left % 2 ≡ 1 → (up : Digest) (next : List Digest)
      → hash (get_or (kept ++ more) (position level (left - 1)) []) own ≡ Ok up
      → take (at + 1) next ≡ take at more ++ (up ∷ []) → drop (at + 1) next ≡ drop (at + 1) more → length next
      ≡ length more → Making hash kept size made digest old next (at + 1) (level + 1) (left / 2) up
  making-next odd up next hashed is behind same =
      let all = items-more kept more next at up is in
      record {
        completing = completing-next making.completing (omega arith) odd before (length
            (items kept at more) - 1) refl up
            (items kept (at + 1) next) all (pair-read odd ∙ hashed);
        count = omega (arith, making.count);
        last = last-more (items kept at more) (items kept (at + 1) next) up all;
        behind = behind ∙ sym (drop-drop 1 at more) ∙ ap (drop 1) making.behind ∙ drop-drop 1 at old;
        same = same ∙ making.same;
      }

  pub making-end : left % 2 ≡ 0 → Completes hash size (items kept made old) digest (items kept at more)
  making-end even = rw (map-itself (items kept made old), map-itself (items kept at more)) at
      (completing-end making.completing even)

  -- All are made.
  pub making-whole : left % 2 ≡ 0 → length kept + at ≡ stored_count (size + 1)
  making-whole even =
      let more = count-more level size (λ l below. below_odd l below) (ap (λ n. n % 2)
      (sym making.completing.left_is) ∙ even) in
      omega (arith, whole, making.count)
