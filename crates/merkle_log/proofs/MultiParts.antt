-- The halves of places, of rising indexes, and of what a multi-proof shows.
use Rattle.std.proofs.Common.{zero, suc, ◌≡◌, ℕ, ◌+◌, ◌*◌, ◌<◌, ◌≤◌, ◌^◌, true, ◌&&◌, not, nat_lt, List, [], ◌∷◌, length, take, drop, arith, refl, ap, sym, ◌∙◌, inl, inr, pow_pos}
use Rattle.std.proofs.lemmas.Bool.{cases_lt, lt-ltb, le-ltb, ltb-true, ltb-false, and_parts, not-true}
use Rattle.std.proofs.lemmas.List.{length-take, length-drop, length-append, take_all, take-take, drop-drop, drop-take}
use Rattle.std.proofs.Math.Nat.{add-mul}
use Rattle.merkle_log.specs.Trees.{tree_hash, node}
use Rattle.merkle_log.specs.Multi.{middle, is_none, count_below, rise_below, are_multi_indexes, hashes_around, count_around}
use Rattle.merkle_log.proofs.Tests.{twice, mul-twice}

-- ---- rising indexes

abbrev pub Rises : ℕ → ℕ → List ℕ → Type 0
Rises from end [] = Unit {0}
Rises from end (i ∷ rest) = (from ≤ i) × (i < end) × Rises (suc i) end rest

pub rises-true : (from end : ℕ) (indexes : List ℕ) → rise_below from end indexes ≡ true → Rises from end indexes
rises-true from end [] is = tt
rises-true from end (i ∷ rest) is =
    let a = and_parts (not (nat_lt i from) && nat_lt i end) (rise_below (suc i) end rest) is in
    let b = and_parts (not (nat_lt i from)) (nat_lt i end) a.0 in (
      ltb-false i from (not-true (nat_lt i from) b.0),
      ltb-true i end b.1,
      rises-true (suc i) end rest a.1,
    )

pub rises-first : (bound from end : ℕ) (indexes : List ℕ) → Rises from end indexes
    → Rises from bound (take (count_below bound indexes) indexes)
rises-first bound from end [] r = tt
rises-first bound from end (i ∷ rest) r = elim (cases_lt i bound) [
  | inl less ↦ rw (lt-ltb i bound less) (r.0, less, rises-first bound (suc i) end rest r.2)
  | inr ge ↦ rw (le-ltb i bound ge) tt
]

pub rises-last : (bound from end : ℕ) (indexes : List ℕ) → Rises from end indexes
    → from ≤ bound → Rises bound end (drop (count_below bound indexes) indexes)
rises-last bound from end [] r le = tt
rises-last bound from end (i ∷ rest) r le = elim (cases_lt i bound) [
  | inl less ↦ rw (lt-ltb i bound less) (rises-last bound (suc i) end rest r.2 less)
  | inr ge ↦ rw (le-ltb i bound ge) (ge, r.1, r.2)
]

pub count-few : (bound : ℕ) (indexes : List ℕ) → count_below bound indexes ≤ length indexes
count-few bound [] = omega arith
count-few bound (i ∷ rest) = let few = count-few bound rest in elim (cases_lt i bound) [
  | inl less ↦ rw (lt-ltb i bound less) (omega arith)
  | inr ge ↦ rw (le-ltb i bound ge) (omega arith)
]

-- Rising indexes, all below a place and below the size.
pub record Within (size level place : ℕ) (indexes : List ℕ) : Type 0 where
  pub end : ℕ
  pub inside : end ≤ size
  pub below : end ≤ (place + 1) * 2 ^ level
  pub rises : Rises (place * 2 ^ level) end indexes

-- the first of the two places below a place, and the second one
pub left-first : (level place : ℕ) → place * 2 ^ suc level ≡ (place + place) * 2 ^ level
left-first level place = mul-twice level place ∙ sym (add-mul place place (2 ^ level))

pub middle-first : (level place : ℕ) → middle level place ≡ place * 2 ^ suc level + 2 ^ level
middle-first level place =
    add-mul (place + place) 1 (2 ^ level) ∙ omega (arith, left-first level place)

pub right-end : (level place : ℕ) → (place + 1) * 2 ^ suc level ≡ (place + place + 1 + 1) * 2 ^ level
right-end level place =
    left-first level (place + 1) ∙ ap (λ n. n * 2 ^ level) (omega arith)

pub within-left : {size level place : ℕ} {indexes : List ℕ} → Within size (suc level) place indexes
    → middle level place < size → Within size level (place + place) (take (count_below (middle level place) indexes)
    indexes)
within-left {size} {level} {place} {indexes} w more = record {
  end = middle level place;
  inside = omega arith;
  below = omega arith;
  rises = rises-first (middle level place) _ w.end indexes (rw left-first at w.rises);
}

pub within-right : {size level place : ℕ} {indexes : List ℕ} → Within size (suc level) place indexes
    → Within size level (place + place + 1) (drop (count_below (middle level place) indexes) indexes)
within-right {size} {level} {place} {indexes} w = record {
  end = w.end;
  inside = w.inside;
  below = omega (arith, w.below, right-end level place);
  rises = rises-last (middle level place) _ w.end indexes w.rises (omega (arith, middle-first level place));
}

pub within-alone : {size level place : ℕ} {indexes : List ℕ} → Within size (suc level) place indexes
    → size ≤ middle level place → Within size level (place + place) indexes
within-alone {size} {level} {place} {indexes} w few = record {
  end = w.end;
  inside = w.inside;
  below = omega (arith, w.inside);
  rises = rw left-first at w.rises;
}

pub within-levels : (size k : ℕ) (indexes : List ℕ) → size ≤ 2 ^ k → are_multi_indexes size indexes ≡ true
    → Within size k 0 indexes
within-levels size k indexes high is =
    let a = and_parts (not (is_none indexes)) (rise_below 0 size indexes) is in
    let zero_first : 0 ≡ 0 * 2 ^ k = omega arith in
    record {
      end = size;
      inside = omega arith;
      below = omega arith;
      rises = rw zero_first at (rises-true 0 size indexes a.1);
    }

pub within-all : (size : ℕ) (indexes : List ℕ) → size ≤ 2 ^ size → are_multi_indexes size indexes ≡ true
    → Within size size 0 indexes
within-all size indexes high is = within-levels size size indexes high is

-- ---- the hash of a place

module _ {A : Type 0} (join : A → A → A) (none : A) where
  part : ℕ → ℕ → List A → List A
  part level place xs = take (2 ^ level) (drop (place * 2 ^ level) xs)

  pub node-both : (level place : ℕ) (xs : List A) → middle level place < length xs → node join none (suc level) place xs
      ≡ join (node join none level (place + place) xs) (node join none level (place + place + 1) xs)
  node-both level place xs more =
      let from = place * 2 ^ suc level in
      let rest = drop from xs in
      let more_there : 2 ^ level < length (take (2 ^ suc level) rest) = omega (
        arith,
        length-take (2 ^ suc level) rest,
        length-drop from xs,
        middle-first level place,
        twice level,
        pow_pos
            level,
      ) in
      let left : take (2 ^ level) (take (2 ^ suc level) rest) ≡ take (2 ^ level) (drop ((place + place) * 2 ^ level) xs)
      = take-take (2 ^ level) (2 ^ suc level) rest (omega (arith, twice level))
      ∙ ap (λ n. take (2 ^ level) (drop n xs)) (left-first level place) in
      let right : drop (2 ^ level) (take (2 ^ suc level) rest) ≡ take (2 ^ level) (drop (middle level place) xs)
      = ap (λ n. drop (2 ^ level) (take n rest)) (twice level) ∙ drop-take (2 ^ level) (2 ^ level) rest
      ∙ ap (take (2 ^ level)) (drop-drop (2 ^ level) from xs ∙ ap (λ n. drop n xs) (sym (middle-first level place)))
      in
      rw (lt-ltb (2 ^ level) (length (take (2 ^ suc level) rest)) more_there)
      (ap (λ l. join (tree_hash join none level l) (tree_hash join none level (drop (2 ^ level) (take (2 ^ suc level)
      rest)))) left ∙ ap (λ l. join (node join none level (place + place) xs) (tree_hash join none level l)) right)

  pub node-alone : (level place : ℕ) (xs : List A) → length xs ≤ middle level place
      → node join none (suc level) place xs ≡ node join none level (place + place) xs
  node-alone level place xs few =
      let from = place * 2 ^ suc level in
      let rest = drop from xs in
      let short : length rest ≤ 2 ^ level = omega (arith, length-drop from xs, middle-first level place) in
      let all : take (2 ^ suc level) rest ≡ rest = take_all (2 ^ suc level) rest (omega (arith, twice level)) in
      let there : length (take (2 ^ suc level) rest) ≤ 2 ^ level = omega (arith, ap length all) in
      rw (le-ltb (2 ^ level) (length (take (2 ^ suc level) rest)) there)
      (ap (tree_hash join none level) (all ∙ sym (take_all (2 ^ level) rest short)
      ∙ ap (λ n. take (2 ^ level) (drop n xs)) (left-first level place)))

  pub node-top : (size : ℕ) (xs : List A) → length xs ≤ 2 ^ size → node join none size 0 xs ≡ tree_hash join none size
      xs
  node-top size xs high =
      let first : 0 * 2 ^ size ≡ 0 = omega arith in
      ap (tree_hash join none size) (ap (λ n. take (2 ^ size) (drop n xs)) first ∙ take_all (2 ^ size) xs high)

  -- ---- how many hashes a multi-proof has

  pub length-around : (level place : ℕ) (indexes : List ℕ) (xs : List A)
      → length (hashes_around join none level place indexes xs) ≡ count_around (length xs) level place indexes
  length-around zero place [] xs = refl
  length-around zero place (i ∷ rest) xs = refl
  length-around (suc level) place [] xs = refl
  length-around (suc level) place (i ∷ rest) xs =
      let bound = middle level place in
      let at = count_below bound (i ∷ rest) in
      elim (cases_lt bound (length xs)) [
        | inl more ↦
            rw (lt-ltb bound (length xs) more)
            (length-append (hashes_around join none level (place + place) (take at (i ∷ rest)) xs)
            (hashes_around join none level (place + place + 1) (drop at (i ∷ rest)) xs)
            ∙ ap (λ n. n + length (hashes_around join none level (place + place + 1) (drop at (i ∷ rest)) xs))
            (length-around level (place + place) (take at (i ∷ rest)) xs)
            ∙ ap (λ n. count_around (length xs) level (place + place) (take at (i ∷ rest)) + n)
            (length-around level (place + place + 1) (drop at (i ∷ rest)) xs))
        | inr few ↦ rw (le-ltb bound (length xs) few) (length-around level (place + place) (i ∷ rest) xs)
      ]
