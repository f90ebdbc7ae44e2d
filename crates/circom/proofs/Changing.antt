-- The digests over the leaf of an index that becomes another one, and the memory to which they are put.
use Rattle.std.proofs.Common.{zero, suc, ◌≡◌, inl, inr, ℕ, ◌+◌, ◌-◌, ◌*◌, ◌/◌, ◌%◌, ◌<◌, ◌≤◌, ◌^◌, List, [], length, get_or, Bool, true, Ok, Err, arith, refl, ap, subst, sym, ◌∙◌}
use Rattle.std.specs.Prelude.{set}
use Rattle.std.proofs.lemmas.Bool.{cases_lt}
use Rattle.std.proofs.lemmas.Grind.{get_or-set_at}
use Rattle.std.proofs.lemmas.List.{ext_get_or, get_or-set_other, length-set}
use Rattle.std.proofs.Math.Nat.{mul-le-mul_right}
use Rattle.ark_base.specs.declared.error.Error.{Error}
use Rattle.ark_base.specs.Laws.Steps.{done_injective}
use Rattle.ark_paths.specs.Pair.{Digest}
use Rattle.merkle_log.specs.Kept.{KeepsBy, front}
use Rattle.merkle_log.specs.Log.{NodeHash}
use Rattle.merkle_log.specs.Stored.{IsStored, position, row_at, row_pairs, stored_count}
use Rattle.merkle_log.specs.Walk.{index_up}
use Rattle.merkle_log.proofs.Edges.{row_pair}
use Rattle.merkle_log.proofs.Hashed.{hashed-all}
use Rattle.merkle_log.proofs.KeptRows.{fewer-hashed-by, kept-by, length-up}
use Rattle.merkle_log.proofs.Positions.{count-rises, length-row_of, level-fits, place-within, position-next, position-within, row_of-at, some-below, up-more}
use Rattle.merkle_log.proofs.Tests.{even_test, odd_test}
use Rattle.circom.specs.Changed.{Climbs, HasOverLeaf, IsOverLeaf, PutsOver, RefusesClimb, hashed_over}
use Rattle.circom.proofs.Closed.{IsClosed}

-- ---- positions stand apart

later : (l p k q : ℕ) → (p + 1) * 2 ^ l < (q + 1) * 2 ^ k → position l p < position k q
later l p k q less = omega (
  arith,
  position-next l p,
  count-rises ((p + 1) * 2 ^ l) ((q + 1) * 2 ^ k - 1) (omega arith),
)

levels-apart : (l p k q : ℕ) → l < k → position l p ≡ position k q → ⊥
levels-apart l p k q less same = elim (cases_lt ((p + 1) * 2 ^ l) ((q + 1) * 2 ^ k)) [
  | inl before ↦ omega (arith, later l p k q before)
  | inr ge ↦ elim (cases_lt ((q + 1) * 2 ^ k) ((p + 1) * 2 ^ l)) [
    | inl behind ↦ omega (arith, later k q l p behind)
    | inr le ↦
        let leaf : (p + 1) * 2 ^ l - 1 ≡ (q + 1) * 2 ^ k - 1 = omega arith in
        omega (arith, ap stored_count leaf)
  ]
]

places-rise : (l p q : ℕ) → p < q → position l p < position l q
places-rise l p q less =
    let two : p + 1 + 1 ≤ q + 1 = omega arith in
    let le : (p + 1 + 1) * 2 ^ l ≤ (q + 1) * 2 ^ l = mul-le-mul_right (2 ^ l) two in
    let more = times (p + 1) in
    later l p l q (omega (arith, some-below l 0))
  where
    times : (n : ℕ) → (n + 1) * 2 ^ l ≡ n * 2 ^ l + 1 * 2 ^ l
    times n = omega arith

same-place : (l p q : ℕ) → position l p ≡ position l q → p ≡ q
same-place l p q same = elim (cases_lt p q) [
  | inl less ↦ absurd (omega (arith, places-rise l p q less))
  | inr ge ↦ elim (cases_lt q p) [
    | inl more ↦ absurd (omega (arith, places-rise l q p more))
    | inr le ↦ omega arith
  ]
]

-- Another place of a level is not that of a subtree over the leaf.
other-apart : (size index level place : ℕ) → (place ≡ index_up level index → ⊥)
    → IsOverLeaf size index (position level place) → ⊥
other-apart size index level place other (l, has, is) = elim (cases_lt l level) [
  | inl less ↦ levels-apart l (index_up l index) level place less (sym is)
  | inr ge ↦ elim (cases_lt level l) [
    | inl more ↦ levels-apart level place l (index_up l index) more is
    | inr le ↦
        let e : l ≡ level = omega arith in
        other (same-place level place (index_up level index) (subst (λ k. position level place ≡ position k
        (index_up k index)) e is))
  ]
]

-- ---- subtrees over a leaf

-- Below one there is another.
has-below : (size index level d : ℕ) → HasOverLeaf size index (level + d) → HasOverLeaf size index level
has-below size index level zero has = let e : level + 0 ≡ level = omega arith in rw (e) at has
has-below size index level (suc d) has =
    let e : level + suc d ≡ level + d + 1 = omega arith in
    let up : HasOverLeaf size index (level + d + 1) = rw (e) at has in
    has-below size index level d (omega (arith, up-more (level + d) index, up-more (level + d) size))

-- where the digest of a complete place stands
pub record Seat (level place count : ℕ) : Type 0 where
  pub level_fits : level < 64
  pub below : (place + 1) * 2 ^ level < 2 ^ 64
  pub near : position level place < 2 ^ 64
  pub inside : position level place < count

pub seat : (size level place count : ℕ) → size < 2 ^ 63 → stored_count size ≤ count → place < index_up level size
    → Seat level place count
seat size level place count fits whole below =
    let within = place-within level place size below in
    let stands = position-within level place size within in
    record {
      level_fits = level-fits level place (omega arith);
      below = omega arith;
      near = omega arith;
      inside = omega arith;
    }

-- There is a level above that of a pair.
pub level-above : (size level place count : ℕ) → size < 2 ^ 63 → count ≡ index_up level size → place / 2 < count / 2
    → level + 1 < 64
level-above size level place count fits is paired =
    let below : place / 2 < index_up (level + 1) size = omega (arith, up-more level size) in
    let within = place-within (level + 1) (place / 2) size below in
    level-fits (level + 1) (place / 2) (omega arith)

-- ---- the digests are made

module _ {hash : NodeHash} {rows : ℕ → List Digest} {index : ℕ} {own : Digest} where
  pub climbs-next : {over : List Digest} {level place : ℕ} {digest : Digest} → Climbs hash rows index own over level
      → place ≡ index_up level index → level + 1 < length over
      → hashed_over hash (rows level) place (get_or over level []) ≡ Ok digest
      → Climbs hash rows index own (set over (level + 1) digest) (level + 1)
  climbs-next {over} {level} {place} {digest} at here room is = record {
    first = get_or-set_other over (level + 1) 0 digest [] (λ same. omega arith) ∙ at.first;
    hashed = λ k below. elim (cases_lt k level) [
      | inl less ↦
          ap (hashed_over hash (rows k) (index_up k index)) (get_or-set_other over (level + 1) k digest []
          (λ same. omega arith)) ∙ at.hashed k less
          ∙ ap Ok (sym (get_or-set_other over (level + 1) (suc k) digest [] (λ same. omega arith)))
      | inr ge ↦
          let e : level ≡ k = omega arith in
          subst (λ n. hashed_over hash (rows n) (index_up n index) (get_or (set over (level + 1) digest) n [])
          ≡ Ok (get_or (set over (level + 1) digest) (suc n) [])) e
          (ap (hashed_over hash (rows level) (index_up level index)) (get_or-set_other over (level + 1) level digest []
          (λ same. omega arith)) ∙ ap (λ p. hashed_over hash (rows level) p (get_or over level [])) (sym here) ∙ is
          ∙ ap Ok (sym (get_or-set_at over (level + 1) (suc level) digest [] (omega arith) room)))
    ];
  }

  pub climb-refused : {over : List Digest} {level place count : ℕ} (size : ℕ) (error : Error)
      → Climbs hash rows index own over level → place ≡ index_up level index → count ≡ index_up level size
      → place / 2 < count / 2 → hashed_over hash (rows level) place (get_or over level []) ≡ Err error
      → RefusesClimb hash rows size index own
  climb-refused {over} {level} {place} {count} size error at here count_is paired refused =
      let e : level + 1 ≡ suc level = omega arith in
      let has : HasOverLeaf size index (level + 1) = omega (arith, up-more level index, up-more level size) in
      record {
        level = level;
        over = over;
        climbs = at;
        has = subst (HasOverLeaf size index) e has;
        error = error;
        refused = ap (λ p. hashed_over hash (rows level) p (get_or over level [])) (sym here) ∙ refused;
      }

  -- all of them, where there is no larger subtree
  pub climbs-all : {over : List Digest} {level : ℕ} (size : ℕ) → Climbs hash rows index own over level
      → (HasOverLeaf size index (level + 1) → ⊥) → (l : ℕ) → HasOverLeaf size index l
      → Climbs hash rows index own over l
  climbs-all {over} {level} size at ends l has = elim (cases_lt level l) [
    | inl more ↦
        let e : level + 1 + (l - (level + 1)) ≡ l = omega arith in
        absurd (ends (has-below size index (level + 1) (l - (level + 1)) (rw (e) has)))
    | inr le ↦ record { first = at.first; hashed = λ k below. at.hashed k (omega arith) }
  ]

-- ---- the digests are put

-- Below a level they are put.
pub record Putting (size index : ℕ) (old new over : List Digest) (level : ℕ) : Type 0 where
  pub long : length new ≡ length old
  pub put : (k : ℕ) → k < level → HasOverLeaf size index k
      → get_or new (position k (index_up k index)) [] ≡ get_or over k []
  pub others : (at : ℕ) → (IsOverLeaf size index at → ⊥) → get_or new at [] ≡ get_or old at []

pub putting-seat : {size index : ℕ} {old new over : List Digest} {level : ℕ} (place count : ℕ)
    → Putting size index old new over level → size < 2 ^ 63 → stored_count size ≤ length old
    → count ≡ index_up level size → place < count → Seat level place (length new)
putting-seat {size} {level = level} place count at fits whole count_is below =
    seat size level place _ fits (omega (arith, at.long)) (omega arith)

pub putting-next : {size index : ℕ} {old new over : List Digest} {level : ℕ} (place : ℕ) (digest : Digest)
    → Putting size index old new over level → place ≡ index_up level index → HasOverLeaf size index level
    → position level place < length new → digest ≡ get_or over level []
    → Putting size index old (set new (position level place) digest) over (level + 1)
putting-next {size} {index} {old} {new} {over} {level} place digest at here has inside is = record {
  long = length-set new (position level place) digest ∙ at.long;
  put = λ k below own. elim (cases_lt k level) [
    | inl less ↦ get_or-set_other new (position level place) (position k (index_up k index)) digest []
        (λ same. levels-apart k (index_up k index) level place less same) ∙ at.put k less own
    | inr ge ↦
        let e : level ≡ k = omega arith in
        subst (λ n. get_or (set new (position level place) digest) (position n (index_up n index)) []
        ≡ get_or over n [])
        e (get_or-set_at new (position level place) (position level (index_up level index)) digest []
        (ap (position level) (sym here)) inside ∙ is)
  ];
  others = λ i not. get_or-set_other new (position level place) i digest []
      (λ same. not (level, has, same ∙ ap (position level) here)) ∙ at.others i not;
}

pub putting-end : {size index : ℕ} {old new over : List Digest} {level : ℕ} → Putting size index old new over level
    → (HasOverLeaf size index level → ⊥) → PutsOver size index old new over
putting-end {size} {index} {old} {new} {over} {level} at ends = record {
  long = at.long;
  put = λ k has. elim (cases_lt k level) [
    | inl less ↦ at.put k less has
    | inr ge ↦
        let e : level + (k - level) ≡ k = omega arith in
        absurd (ends (has-below size index level (k - level) (subst (HasOverLeaf size index) (sym e) has)))
  ];
  others = at.others;
}

-- ---- a pair of a row in which one digest is another

-- its hash, by the pair's number
pair-over : (hash : NodeHash) (old new : List Digest) (place q : ℕ) (own digest : Digest)
    → hashed_over hash old place own ≡ Ok digest → get_or new place [] ≡ own
    → ((i : ℕ) → i < length new → (i ≡ place → ⊥) → get_or new i [] ≡ get_or old i [])
    → q ≡ place / 2 → 2 * q + 1 < length new
    → hash (get_or new (2 * q) []) (get_or new (2 * q + 1) []) ≡ Ok digest
pair-over hash old new place q own digest is put others half inside = elim (cases_lt (place % 2) 1) [
  | inl even ↦
      let at : 2 * q ≡ place = omega arith in
      let beside : 2 * q + 1 ≡ place + 1 = omega arith in
      ap (λ d. hash d (get_or new (2 * q + 1) [])) (ap (λ i. get_or new i []) at ∙ put)
      ∙ ap (hash own) (others (2 * q + 1) inside (λ same. omega arith) ∙ ap (λ i. get_or old i []) beside)
      ∙ rw (even_test place (omega arith)) at is
  | inr odd ↦
      let at : 2 * q + 1 ≡ place = omega arith in
      let beside : 2 * q ≡ place - 1 = omega arith in
      ap (λ d. hash (get_or new (2 * q) []) d) (ap (λ i. get_or new i []) at ∙ put)
      ∙ ap (λ d. hash d own) (others (2 * q) (omega arith) (λ same. omega arith) ∙ ap (λ i. get_or old i []) beside)
      ∙ rw (odd_test place (omega arith)) at is
]

-- ---- the memory to which the digests are put

module _ {hash : NodeHash} {size index : ℕ} {own : Digest} {old new over : List Digest}
    (puts : PutsOver size index old new over)
    (climbs : (level : ℕ) → HasOverLeaf size index level
    → Climbs hash (row_at (front size old)) index own over level) where
  other-place : (level place : ℕ) → place < index_up level size → (place ≡ index_up level index → ⊥)
      → get_or (row_at (front size new) level) place [] ≡ get_or (row_at (front size old) level) place []
  other-place level place below other = row_of-at (front size new) level place below
      ∙ puts.others (position level place) (other-apart size index level place other)
      ∙ sym (row_of-at (front size old) level place below)

  own-place : (level : ℕ) → HasOverLeaf size index level
      → get_or (row_at (front size new) level) (index_up level index) [] ≡ get_or over level []
  own-place level has = row_of-at (front size new) level (index_up level index) has ∙ puts.put level has

  changed-lowest : index < size → row_at (front size new) 0 ≡ set (row_at (front size old) 0) index own
  changed-lowest inside = ext_get_or [] (row_at (front size new) 0) (set (row_at (front size old) 0) index own)
      (length-row_of (front size new) 0 ∙ sym (length-row_of (front size old) 0) ∙ sym (length-set
      (row_at (front size old) 0) index own))
      (λ i below. at i (omega (arith, length-row_of (front size new) 0)))
    where
      at : (i : ℕ) → i < size → get_or (row_at (front size new) 0) i []
          ≡ get_or (set (row_at (front size old) 0) index own) i []
      at i below = elim (cases_lt i index) [
        | inl less ↦ other-place 0 i below (λ same. omega arith)
            ∙ sym (get_or-set_other (row_at (front size old) 0) index i own [] (λ same. omega arith))
        | inr ge ↦ elim (cases_lt index i) [
          | inl more ↦ other-place 0 i below (λ same. omega arith)
              ∙ sym (get_or-set_other (row_at (front size old) 0) index i own [] (λ same. omega arith))
          | inr le ↦
              let e : i ≡ index = omega arith in
              ap (λ n. get_or (row_at (front size new) 0) n []) e ∙ own-place 0 inside ∙ (climbs 0 inside).first
              ∙ sym (get_or-set_at (row_at (front size old) 0) index i own [] e
              (omega (arith, length-row_of (front size old) 0)))
        ]
      ]

  module _ (stored : IsStored hash (row_at (front size old))) where
    -- a pair over the leaf
    pair-own : (level q : ℕ) → q < index_up (level + 1) size → q ≡ index_up (level + 1) index
        → hash (get_or (row_at (front size new) level) (2 * q) []) (get_or (row_at (front size new) level)
        (2 * q + 1) []) ≡ Ok (get_or (row_at (front size new) (level + 1)) q [])
    pair-own level q below own_is =
        let has : HasOverLeaf size index (level + 1) = rw (own_is) at below in
        let low : HasOverLeaf size index level = has-below size index level 1 has in
        let next : level + 1 ≡ suc level = omega arith in
        let long = length-row_of (front size new) level in
        pair-over hash (row_at (front size old) level) (row_at (front size new) level) (index_up level index) q
        (get_or over level []) (get_or over (suc level) []) ((climbs (level + 1) has).hashed level (omega arith))
        (own-place level low) (λ i inside other. other-place level i (omega arith) other)
        (own_is ∙ up-more level index) (omega (arith, up-more level size))
        ∙ ap (λ n. Ok (get_or over n [])) (sym next) ∙ ap Ok (sym (own-place (level + 1) has))
        ∙ ap (λ n. Ok (get_or (row_at (front size new) (level + 1)) n [])) (sym own_is)

    -- another pair
    pair-other : (level q : ℕ) → q < index_up (level + 1) size → (q ≡ index_up (level + 1) index → ⊥)
        → hash (get_or (row_at (front size new) level) (2 * q) []) (get_or (row_at (front size new) level)
        (2 * q + 1) []) ≡ Ok (get_or (row_at (front size new) (level + 1)) q [])
    pair-other level q below other =
        let next : suc level ≡ level + 1 = omega arith in
        let long = length-row_of (front size old) level in
        let half = up-more level size in
        let up = up-more level index in
        ap (λ d. hash d (get_or (row_at (front size new) level) (2 * q + 1) []))
        (other-place level (2 * q) (omega arith) (λ same. other (omega arith)))
        ∙ ap (hash (get_or (row_at (front size old) level) (2 * q) []))
        (other-place level (2 * q + 1) (omega arith) (λ same. other (omega arith)))
        ∙ row_pair hash (row_at (front size old) level) (row_at (front size old) (suc level)) (stored.pairs level) q
        (2 * q) (2 * q + 1) (omega arith) refl (omega arith)
        ∙ ap (λ n. Ok (get_or (row_at (front size old) n) q [])) next
        ∙ ap Ok (sym (other-place (level + 1) q below other))

    pair-each : (level q : ℕ) → q < index_up (level + 1) size
        → hash (get_or (row_at (front size new) level) (2 * q) []) (get_or (row_at (front size new) level)
        (2 * q + 1) []) ≡ Ok (get_or (row_at (front size new) (level + 1)) q [])
    pair-each level q below = elim (cases_lt q (index_up (level + 1) index)) [
      | inl less ↦ pair-other level q below (λ same. omega arith)
      | inr ge ↦ elim (cases_lt (index_up (level + 1) index) q) [
        | inl more ↦ pair-other level q below (λ same. omega arith)
        | inr le ↦ pair-own level q below (omega arith)
      ]
    ]

    changed-hashed : IsStored hash (row_at (front size new))
    changed-hashed = record {
      pairs = λ level.
          let e : level + 1 ≡ suc level = omega arith in
          hashed-all hash (row_at (front size new) level) (row_at (front size new) (level + 1))
          (length-up (front size new) level)
          (λ q below. pair-each level q (omega (arith, length-row_of (front size new) (level + 1))))
          ∙ ap (λ n. Ok (row_at (front size new) n)) e;
    }

-- Memory that keeps a list keeps then the list with the new leaf at the index.
pub changed-keeps : {hash : NodeHash} {size index : ℕ} {own : Digest} {old new over leaves : List Digest}
    → PutsOver size index old new over
    → ((level : ℕ) → HasOverLeaf size index level → Climbs hash (row_at (front size old)) index own over level)
    → index < size → length leaves ≡ size → KeepsBy hash leaves old → KeepsBy hash (set leaves index own) new
changed-keeps {hash} {size} {index} {own} {old} {new} {over} {leaves} puts climbs inside count keeps =
    let le : size ≤ length leaves = omega arith in
    let room : stored_count size ≤ length old = rw (count) at keeps.inside in
    let lowest : row_at (front size old) 0 ≡ leaves = rw (count) at keeps.lowest in
    let stored : IsStored hash (row_at (front size old)) = fewer-hashed-by keeps size le in
    kept-by hash size (set leaves index own) new (length-set leaves index own ∙ count) (omega (arith, puts.long))
    (changed-lowest puts climbs inside ∙ ap (λ l. set l index own) lowest) (changed-hashed puts climbs stored)

-- ---- nothing is refused

different : (digest : Digest) (error : Error) → Ok digest ≡ Err error → ⊥
different digest error is = cc

module _ {hash : NodeHash} {test : Digest → Bool} (closed : IsClosed hash test)
    (passed : (left right digest : Digest) → hash left right ≡ Ok digest
    → (test left ≡ true) × (test right ≡ true)) where
  -- The hash over a place of a row whose pairs are hashed, of a digest that passes the test, passes it.
  over-passes : (row next : List Digest) (place : ℕ) (own : Digest) → row_pairs hash row ≡ Ok next
      → place / 2 < length row / 2 → test own ≡ true
      → (digest : Digest) × (hashed_over hash row place own ≡ Ok digest) × (test digest ≡ true)
  over-passes row next place own is paired passes = elim (cases_lt (place % 2) 1) [
    | inl even ↦
        let both = passed (get_or row place []) (get_or row (place + 1) []) (get_or next (place / 2) [])
        (row_pair hash row next is (place / 2) place (place + 1) (omega arith) refl (omega arith)) in
        let up = closed.hashed own (get_or row (place + 1) []) passes both.1 in
        (up.0, rw (even_test place (omega arith)) up.1, up.2)
    | inr odd ↦
        let both = passed (get_or row (place - 1) []) (get_or row place []) (get_or next (place / 2) [])
        (row_pair hash row next is (place / 2) (place - 1) place (omega arith) (omega arith) (omega arith)) in
        let up = closed.hashed (get_or row (place - 1) []) own both.0 passes in
        (up.0, rw (odd_test place (omega arith)) up.1, up.2)
  ]

  -- and so do the digests that are made
  climb-passes : (rows : ℕ → List Digest) (size index : ℕ) (own : Digest) (over : List Digest) (level : ℕ)
      → IsStored hash rows → ((k : ℕ) → length (rows k) ≡ index_up k size) → test own ≡ true
      → Climbs hash rows index own over level → HasOverLeaf size index level → (k : ℕ) → k ≤ level
      → test (get_or over k []) ≡ true
  climb-passes rows size index own over level stored long passes at has zero le = ap test at.first ∙ passes
  climb-passes rows size index own over level stored long passes at has (suc k) le =
      let e : k + 1 + (level - (k + 1)) ≡ level = omega arith in
      let next : HasOverLeaf size index (k + 1) =
      has-below size index (k + 1) (level - (k + 1)) (subst (HasOverLeaf size index) (sym e) has) in
      let up = over-passes (rows k) (rows (suc k)) (index_up k index) (get_or over k []) (stored.pairs k)
      (omega (arith, long k, next, up-more k index, up-more k size))
      (climb-passes rows size index own over level stored long passes at has k (omega arith)) in
      let same : up.0 ≡ get_or over (suc k) [] =
      done_injective {E = Error} up.0 (get_or over (suc k) []) (sym up.1 ∙ at.hashed k (omega arith)) in
      sym (ap test same) ∙ up.2

  pub never-refused : (rows : ℕ → List Digest) (size index : ℕ) (own : Digest) → IsStored hash rows
      → ((k : ℕ) → length (rows k) ≡ index_up k size) → test own ≡ true
      → RefusesClimb hash rows size index own → ⊥
  never-refused rows size index own stored long passes at =
      let e : suc at.level ≡ at.level + 1 = omega arith in
      let next : HasOverLeaf size index (at.level + 1) = subst (HasOverLeaf size index) e at.has in
      let up = over-passes (rows at.level) (rows (suc at.level)) (index_up at.level index) (get_or at.over at.level [])
      (stored.pairs at.level) (omega (arith, long at.level, next, up-more at.level index, up-more at.level size))
      (climb-passes rows size index own at.over at.level stored long passes at.climbs
      (has-below size index at.level 1 next) at.level (omega arith)) in
      different up.0 at.error (sym up.1 ∙ at.refused)
