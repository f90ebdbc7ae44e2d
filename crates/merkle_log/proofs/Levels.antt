-- A log's list that grows level by level.
use Rattle.std.proofs.Common.{zero, suc, ◌≡◌, ℕ, ◌+◌, ◌-◌, ◌*◌, ◌/◌, ◌<◌, ◌≤◌, ◌^◌, List, [], ◌++◌, length, take, get_or, Ok, arith, refl, ap, sym, ◌∙◌, inl, inr}
use Rattle.std.specs.Prelude.{set}
use Rattle.std.proofs.lemmas.Bool.{cases_lt}
use Rattle.std.proofs.lemmas.Grind.{get_or-set_at}
use Rattle.std.proofs.lemmas.List.{ext_get_or, get_or_append_left, get_or-append_right, get_or-set_other, length-append, length-take-le, take-append-le, take-take}
use Rattle.std.proofs.lemmas.Nat.{shr-shr, shr_le}
use Rattle.std.proofs.Math.Nat.{mul-le-mul_right}
use Rattle.ark_base.specs.declared.error.Error.{Error}
use Rattle.ark_base.specs.Laws.Steps.{done_injective}
use Rattle.ark_paths.specs.Pair.{Digest}
use Rattle.ark_trees.specs.Rfc6962.{node_hash, node_of}
use Rattle.merkle_log.specs.Asked.{Holding, IsPeak}
use Rattle.merkle_log.specs.Kept.{front, Keeps}
use Rattle.merkle_log.specs.Levels.{HasRoom, Lies, Raises, RisesTo, parent_in, place_in}
use Rattle.merkle_log.specs.Stored.{position, stored_count, StoredValue, row_at, row_pairs, IsStored}
use Rattle.merkle_log.specs.Walk.{index_up}
use Rattle.merkle_log.proofs.Asking.{peak-here-at}
use Rattle.merkle_log.proofs.Edges.{row_pair}
use Rattle.merkle_log.proofs.Hashed.{hashed-all}
use Rattle.merkle_log.proofs.KeptPlaces.{above-up}
use Rattle.merkle_log.proofs.KeptRows.{keeps-of, length-up, rows-agree, stored-same}
use Rattle.merkle_log.proofs.Positions.{count-rises, length-row_of, level-fits, position-beyond, position-next, position-within, row_of-at, some-below, up-more, up-times}
use Rattle.merkle_log.proofs.Tests.{mul-twice}

-- ---- places stand apart

-- what a later leaf completes
later : (l p k q : ℕ) → (p + 1) * 2 ^ l < (q + 1) * 2 ^ k → position l p < position k q
later l p k q less = omega (
  arith,
  position-next l p,
  count-rises ((p + 1) * 2 ^ l) ((q + 1) * 2 ^ k - 1) (omega arith),
)

apart : (l p k q : ℕ) → l < k → position l p ≡ position k q → ⊥
apart l p k q less same = elim (cases_lt ((p + 1) * 2 ^ l) ((q + 1) * 2 ^ k)) [
  | inl before ↦ omega (arith, later l p k q before)
  | inr ge ↦ elim (cases_lt ((q + 1) * 2 ^ k) ((p + 1) * 2 ^ l)) [
    | inl behind ↦ omega (arith, later k q l p behind)
    | inr le ↦
        let leaf : (p + 1) * 2 ^ l - 1 ≡ (q + 1) * 2 ^ k - 1 = omega arith in
        omega (arith, ap stored_count leaf)
  ]
]

next-place : (l p q : ℕ) → p < q → position l p < position l q
next-place l p q less =
    let two : p + 1 + 1 ≤ q + 1 = omega arith in
    let le : (p + 1 + 1) * 2 ^ l ≤ (q + 1) * 2 ^ l = mul-le-mul_right (2 ^ l) two in
    let more = times (p + 1) in
    later l p l q (omega (arith, some-below l 0))
  where
    times : (n : ℕ) → (n + 1) * 2 ^ l ≡ n * 2 ^ l + 1 * 2 ^ l
    times n = omega arith

-- ---- one digest is written

module _ (kept more : List Digest) (n at : ℕ) (digest : Digest) (long : length kept ≡ n) (from : n ≤ at) where
  written-own : at < n + length more → get_or (kept ++ set more (at - n) digest) at [] ≡ digest
  written-own inside = get_or-append_right kept (set more (at - n) digest) n at [] long from
      ∙ get_or-set_at more (at - n) (at - n) digest [] refl (omega arith)

  written-other : (j : ℕ) → (j ≡ at → ⊥) → get_or (kept ++ set more (at - n) digest) j [] ≡ get_or (kept ++ more) j []
  written-other j other = elim (cases_lt j n) [
    | inl own ↦
        get_or_append_left kept (set more (at - n) digest) [] j (omega arith)
        ∙ sym (get_or_append_left kept more [] j (omega arith))
    | inr behind ↦
        get_or-append_right kept (set more (at - n) digest) n j [] long behind
        ∙ get_or-set_other more (at - n) (j - n) digest [] (λ same. other (omega arith))
        ∙ sym (get_or-append_right kept more n j [] long behind)
  ]

-- ---- a level that is written

pub raises-first : (all : List Digest) (level first : ℕ) → Raises all all level first first
raises-first all level first = record {
  raised = λ place from to. absurd (omega arith);
  below = λ lower place le. refl;
}

-- the hash of two digests that stayed
parent-stays : {old new : List Digest} {level first end : ℕ} → Raises old new level first end → (lower place : ℕ)
    → lower ≤ level → parent_in new lower place ≡ parent_in old lower place
parent-stays {old} {new} at lower place le =
    ap (λ d. node_hash d (place_in new lower (2 * place + 1))) (at.below lower (2 * place) le)
    ∙ ap (node_hash (place_in old lower (2 * place))) (at.below lower (2 * place + 1) le)

-- A place's digest is made from what stands there while others are written.
pub raises-made : {old new : List Digest} {level first end : ℕ} → Raises old new level first end → (place : ℕ)
    {digest : Digest} → digest ≡ parent_in new level place → digest ≡ parent_in old level place
raises-made {level = level} at place is = is ∙ parent-stays at level place (omega arith)

pub raises-next : {old : List Digest} (kept more : List Digest) {level first place n next : ℕ} {digest : Digest}
    → Raises old (kept ++ more) level first place → length kept ≡ n → n ≤ position (level + 1) place
    → position (level + 1) place < n + length more → digest ≡ parent_in old level place → next ≡ place + 1
    → Raises old (kept ++ set more (position (level + 1) place - n) digest) level first next
raises-next {old} kept more {level} {first} {place} {n} {next} {digest} at long from inside made is =
    let here = position (level + 1) place in
    record {
      raised = λ p above below. elim (cases_lt p place) [
        | inl less ↦
            let before = next-place (level + 1) p place less in
            written-other kept more n here digest long from (position (level + 1) p) (λ same. omega arith)
            ∙ at.raised p above less
        | inr ge ↦
            let e : p ≡ place = omega arith in
            ap (λ q. get_or (kept ++ set more (here - n) digest) (position (level + 1) q) []) e
            ∙ written-own kept more n here digest long from inside ∙ made ∙ ap (parent_in old level) (sym e)
      ];
      below = λ lower p le. written-other kept more n here digest long from (position lower p)
          (apart lower p (level + 1) place (omega arith)) ∙ at.below lower p le;
    }

pub raises-end : {old new : List Digest} {level first place end : ℕ} → Raises old new level first place → end ≤ place
    → Raises old new level first end
raises-end at le = record {
  raised = λ p from to. at.raised p from (omega arith);
  below = at.below;
}

-- ---- the room for it

-- A place of a level or of one below it, and where its digest stands.
pub record Spot (size level place room : ℕ) : Type 0 where
  pub level_fits : level < 64
  pub below : (place + 1) * 2 ^ level < 2 ^ 64
  pub inside : position level place < stored_count size + room
  pub near : position level place < 2 ^ 64

module _ {stored : StoredValue} {holds : ℕ → ℕ → Type 0} {size level first end room : ℕ}
    (has : HasRoom stored holds size level first end room) where
  spot : (l p : ℕ) → (p + 1) * 2 ^ l ≤ end * 2 ^ (level + 1) → Spot size l p room
  spot l p le =
      let within = position-within l p (end * 2 ^ (level + 1)) le in
      let fits = has.fits in
      record {
        level_fits = level-fits l p (omega arith);
        below = omega arith;
        inside = omega (arith, has.inside);
        near = omega arith;
      }

  -- one of the two below a place
  pub child-spot : (place child : ℕ) → place < end → child ≤ 2 * place + 1 → Spot size level child room
  child-spot place child below le =
      let le : child + 1 ≤ 2 * end = omega arith in
      let more : (child + 1) * 2 ^ level ≤ 2 * end * 2 ^ level = mul-le-mul_right (2 ^ level) le in
      let two : end * 2 ^ (level + 1) ≡ end * 2 ^ level + end * 2 ^ level =
      let e : level + 1 ≡ suc level = omega arith in ap (λ k. end * 2 ^ k) e ∙ mul-twice level end in
      let sum : 2 * end * 2 ^ level ≡ end * 2 ^ level + end * 2 ^ level = omega arith in
      spot level child (omega arith)

  pub child-held : (place child : ℕ) → first ≤ place → 2 * place ≤ child → child < index_up level size
      → holds level child
  child-held place child from le below =
      let half = up-more level size in
      let lacks = has.lacks in
      peak-here-at holds size level child has.held (omega arith) (omega arith)

  pub place-spot : (place : ℕ) → place < end → Spot size (level + 1) place room
  place-spot place below =
      let le : place + 1 ≤ end = omega arith in
      spot (level + 1) place (mul-le-mul_right (2 ^ (level + 1)) le)

  pub place-beyond : (place : ℕ) → first ≤ place → stored_count size ≤ position (level + 1) place
  place-beyond place from =
      let over = above-up (level + 1) size in
      let lacks = has.lacks in
      let le : index_up (level + 1) size + 1 ≤ place + 1 = omega arith in
      let more : (index_up (level + 1) size + 1) * 2 ^ (level + 1) ≤ (place + 1) * 2 ^ (level + 1) =
      mul-le-mul_right (2 ^ (level + 1)) le in
      position-beyond (level + 1) place size (omega arith)

  pub room-later : (place : ℕ) → first ≤ place → HasRoom stored holds size level place end room
  room-later place from = record {
    size_is = has.size_is;
    whole = has.whole;
    held = has.held;
    lacks = let lacks = has.lacks in omega arith;
    fits = has.fits;
    end_fits = has.end_fits;
    size_fits = has.size_fits;
    inside = has.inside;
  }

-- ---- leaves

-- where one of so many leaves stands
pub leaf-spot : (size place count room : ℕ) → place < count
    → stored_count (size + count) ≤ stored_count size + room
    → (stored_count size ≤ position 0 (size + place)) × (position 0 (size + place) < stored_count size + room)
leaf-spot size place count room below whole =
    let within = position-within 0 (size + place) (size + count) (omega arith) in
    (position-beyond 0 (size + place) size (omega arith), omega arith)

pub lies-next : (kept more digests : List Digest) (size : ℕ) {n place : ℕ} {digest : Digest}
    → ((p : ℕ) → p < place → place_in (kept ++ more) 0 (size + p) ≡ get_or digests p [])
    → length kept ≡ n → n ≤ position 0 (size + place) → position 0 (size + place) < n + length more
    → digest ≡ get_or digests place []
    → (p : ℕ) → p < place + 1 → place_in (kept ++ set more (position 0 (size + place) - n) digest) 0 (size + p)
    ≡ get_or digests p []
lies-next kept more digests size {n} {place} {digest} so long from inside is = λ p below.
    let here = position 0 (size + place) in
    elim (cases_lt p place) [
      | inl less ↦
          let before = next-place 0 (size + p) (size + place) (omega arith) in
          written-other kept more n here digest long from (position 0 (size + p)) (λ same. omega arith)
          ∙ so p less
      | inr ge ↦
          let e : p ≡ place = omega arith in
          ap (λ q. get_or (kept ++ set more (here - n) digest) (position 0 (size + q)) []) e
          ∙ written-own kept more n here digest long from inside ∙ is ∙ ap (λ q. get_or digests q []) (sym e)
    ]

-- ---- level by level

-- Above a level the places that a list lacks are written up to another one.
pub record Risen (begun all : List Digest) (size total from level first end : ℕ) : Type 0 where
  pub first_is : first ≡ index_up level size
  pub end_is : end ≡ index_up level total
  pub end_low : end ≤ total
  pub leaves : (place : ℕ) → place_in all 0 place ≡ place_in begun 0 place
  pub raised : RisesTo begun size total from → RisesTo all size total level

pub up-is : (level n : ℕ) → index_up level n ≡ n / 2 ^ level
up-is zero n = omega arith
up-is (suc level) n =
    let e : 1 + level ≡ suc level = omega arith in
    up-is level (n / 2) ∙ shr-shr n 1 level ∙ ap (λ k. n / 2 ^ k) e

pub risen-first : (begun : List Digest) (size total from : ℕ)
    → Risen begun begun size total from from (size / 2 ^ from) (total / 2 ^ from)
risen-first begun size total from = record {
  first_is = sym (up-is from size);
  end_is = sym (up-is from total);
  end_low = shr_le total from;
  leaves = λ place. refl;
  raised = λ rises. rises;
}

-- Of no levels nothing is asked.
pub rises-none : (all : List Digest) (size total : ℕ) → RisesTo all size total 0
rises-none all size total = record { raised = λ l place below from to. absurd (omega arith) }

module _ {begun all : List Digest} {size total from level first end : ℕ}
    (at : Risen begun all size total from level first end) where
  -- There is room for the level above.
  pub risen-room : {stored : StoredValue} {holds : ℕ → ℕ → Type 0} {room : ℕ} → stored.size ≡ size
      → stored_count size ≤ length stored.digests → Holding holds 0 (IsPeak size) → size ≤ total → total < 2 ^ 63
      → stored_count total ≤ stored_count size + room → HasRoom stored holds size level (first / 2) (end / 2) room
  risen-room size_is whole held le fits room =
      let up : end / 2 ≡ index_up (level + 1) total = ap (λ n. n / 2) at.end_is ∙ sym (up-more level total) in
      let within : end / 2 * 2 ^ (level + 1) ≤ total = rw (up) (up-times (level + 1) total) in
      let rises = count-rises (end / 2 * 2 ^ (level + 1)) total within in
      record {
        size_is = size_is;
        whole = whole;
        held = held;
        lacks = omega (arith, at.first_is, up-more level size);
        fits = omega arith;
        end_fits = omega (arith, at.end_low);
        size_fits = omega arith;
        inside = omega arith;
      }

  -- The level has a number that fits.
  pub risen-fits : 0 < end → total < 2 ^ 63 → level < 64
  risen-fits some fits =
      let e : end - 1 + 1 ≡ index_up level total = omega (arith, at.end_is) in
      let le : (end - 1 + 1) * 2 ^ level ≤ total = rw (e) (up-times level total) in
      level-fits level (end - 1) (omega arith)

  -- Above the last level no place is lacking.
  pub risen-all : end ≤ first → RisesTo begun size total from → (top : ℕ) → RisesTo all size total top
  risen-all none rises top = record {
    raised = λ l place below low high. elim (cases_lt l level) [
      | inl less ↦ (at.raised rises).raised l place less low high
      | inr ge ↦
          let e : level + (l + 1 - level) ≡ l + 1 = omega arith in
          let no : index_up (l + 1) total ≤ index_up (l + 1) size = rw (e) at (none-above (l + 1 - level)) in
          absurd (omega arith)
    ];
  }
    where
      none-above : (d : ℕ) → index_up (level + d) total ≤ index_up (level + d) size
      none-above zero =
          let e : level + 0 ≡ level = omega arith in rw (e) (omega (arith, at.first_is, at.end_is))
      none-above (suc d) =
          let e : level + suc d ≡ level + d + 1 = omega arith in
          let ih = none-above d in
          rw (e) (omega (arith, up-more (level + d) total, up-more (level + d) size))

  pub risen-next : {new : List Digest} → Raises all new level (first / 2) (end / 2)
      → Risen begun new size total from (level + 1) (first / 2) (end / 2)
  risen-next {new} up = record {
    first_is = ap (λ n. n / 2) at.first_is ∙ sym (up-more level size);
    end_is = ap (λ n. n / 2) at.end_is ∙ sym (up-more level total);
    end_low = omega (arith, at.end_low);
    leaves = λ place. up.below 0 place (omega arith) ∙ at.leaves place;
    raised = λ rises. record {
      raised = λ l place below low high. elim (cases_lt l level) [
        | inl less ↦
            up.below (l + 1) place (omega arith) ∙ (at.raised rises).raised l place less low high
            ∙ sym (parent-stays up l place (omega arith))
        | inr ge ↦
            let e : l ≡ level = omega arith in
            rw (e) (here place (rw (e) at low) (rw (e) at high))
      ];
    };
  }
    where
      here : (place : ℕ) → index_up (level + 1) size ≤ place → place < index_up (level + 1) total
          → place_in new (level + 1) place ≡ parent_in new level place
      here place low high =
          up.raised place (omega (arith, at.first_is, up-more level size))
          (omega (arith, at.end_is, up-more level total))
          ∙ sym (parent-stays up level place (omega arith))

-- ---- what is kept

-- a place of the rows of stored digests
pub held-at : (all : List Digest) (size level place : ℕ) → place < index_up level size
    → get_or (row_at (front size all) level) place [] ≡ place_in all level place
held-at all size level place below = row_of-at (front size all) level place below

-- Of stored digests each has the hash of the two below it.
pub pair-held : (all : List Digest) (size : ℕ) → IsStored node_of (row_at (front size all)) → (level q : ℕ)
    → q < index_up (level + 1) size → parent_in all level q ≡ place_in all (level + 1) q
pair-held all size hashed level q below =
    let half = up-more level size in
    let rows = row_at (front size all) in
    let e : level + 1 ≡ suc level = omega arith in
    let pair = row_pair node_of (rows level) (rows (suc level)) (hashed.pairs level) q (2 * q) (2 * q + 1)
    (omega arith) refl (omega (arith, length-row_of (front size all) level)) in
    ap (λ d. node_hash d (place_in all level (2 * q + 1))) (sym (held-at all size level (2 * q) (omega arith)))
    ∙ ap (node_hash (get_or (rows level) (2 * q) [])) (sym (held-at all size level (2 * q + 1) (omega arith)))
    ∙ done_injective {E = Error} _ _ pair ∙ ap (λ k. get_or (rows k) q []) (sym e)
    ∙ held-at all size (level + 1) q below

module _ (leaves kept more digests : List Digest) (size total : ℕ) (count : length leaves ≡ size)
    (keeps : Keeps leaves kept) (sum : total ≡ size + length digests)
    (whole : stored_count total ≡ stored_count size + length more)
    (lies : Lies (take (stored_count size) kept ++ more) size digests)
    (rises : (level : ℕ) → RisesTo (take (stored_count size) kept ++ more) size total level) where
  abbrev all : List Digest
  all = take (stored_count size) kept ++ more

  long : length (take (stored_count size) kept) ≡ stored_count size
  long = length-take-le (stored_count size) kept (rw (count) at keeps.inside)

  -- those of the fewer leaves stayed
  stayed : take (stored_count size) all ≡ take (stored_count size) kept
  stayed = take-append-le (stored_count size) (take (stored_count size) kept) more (omega (arith, long))
      ∙ take-take (stored_count size) (stored_count size) kept (omega arith)

  own-rows : (level : ℕ) → row_at (front size kept) level ≡ row_at (front size all) level
  own-rows level = rows-agree size kept all (sym stayed) level

  own-lowest : row_at (front size all) 0 ≡ leaves
  own-lowest = sym (own-rows 0) ∙ (rw (count) at keeps.lowest)

  own-hashed : IsStored node_of (row_at (front size all))
  own-hashed = stored-same node_of _ _ own-rows (rw (count) at keeps.hashed)

  lowest-at : (i : ℕ) → i < total → get_or (row_at (front total all) 0) i [] ≡ get_or (leaves ++ digests) i []
  lowest-at i below = elim (cases_lt i size) [
    | inl own ↦
        held-at all total 0 i below ∙ sym (held-at all size 0 i own) ∙ ap (λ l. get_or l i []) own-lowest
        ∙ sym (get_or_append_left leaves digests [] i (omega (arith, count)))
    | inr new ↦
        let e : size + (i - size) ≡ i = omega arith in
        held-at all total 0 i below ∙ ap (place_in all 0) (sym e) ∙ lies (i - size) (omega (arith, sum))
        ∙ sym (get_or-append_right leaves digests size i [] count new)
  ]

  hashed-at : (level q : ℕ) → q < index_up (level + 1) total → parent_in all level q ≡ place_in all (level + 1) q
  hashed-at level q below = elim (cases_lt q (index_up (level + 1) size)) [
    | inl own ↦ pair-held all size own-hashed level q own
    | inr new ↦ sym ((rises (level + 1)).raised level q (omega arith) new below)
  ]

  all-hashed : (level : ℕ) → row_pairs node_of (row_at (front total all) level)
      ≡ Ok (row_at (front total all) (level + 1))
  all-hashed level =
      let rows = row_at (front total all) in
      let half = up-more level total in
      hashed-all node_of (rows level) (rows (level + 1)) (length-up (front total all) level) (λ q below.
      let inside : q < index_up (level + 1) total = omega (arith, length-row_of (front total all) (level + 1)) in
      ap Ok (ap (λ d. node_hash d (get_or (rows level) (2 * q + 1) [])) (held-at all total level (2 * q) (omega arith))
      ∙ ap (node_hash (place_in all level (2 * q))) (held-at all total level (2 * q + 1) (omega arith))
      ∙ hashed-at level q inside ∙ sym (held-at all total (level + 1) q inside)))

  pub risen-keeps : Keeps (leaves ++ digests) all
  risen-keeps =
      let many = length-append leaves digests in
      keeps-of total (leaves ++ digests) all (omega (arith, sum, count))
      (omega (arith, length-append (take (stored_count size) kept) more, long, whole))
      (ext_get_or [] (row_at (front total all) 0) (leaves ++ digests)
      (omega (arith, length-row_of (front total all) 0, sum, count))
      (λ i below. lowest-at i (omega (arith, length-row_of (front total all) 0))))
      (record {
        pairs = λ level.
            let e : level + 1 ≡ suc level = omega arith in
            all-hashed level ∙ ap (λ k. Ok (row_at (front total all) k)) e;
      })
