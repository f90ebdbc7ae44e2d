-- What the code that counts and splits indexes needs.
use Rattle.std.proofs.Common.{zero, suc, ◌≡◌, ℕ, ◌+◌, ◌-◌, ◌*◌, ◌/◌, ◌%◌, ◌<◌, ◌≤◌, ◌^◌, Bool, true, false, ◌==◌, List, [], ◌∷◌, length, take, drop, arith, refl, ap, sym, ◌∙◌, inl, inr, pow_pos, pow-add}
use Rattle.std.proofs.lemmas.Bool.{cases_lt, lt-ltb, le-ltb, eqb-true}
use Rattle.std.proofs.lemmas.List.{length-take-le, length-drop}
use Rattle.std.proofs.lemmas.Nat.{div-add-mod'}
use Rattle.std.proofs.Math.Nat.{mod-eq_of_lt, mod-lt, add-mul, mul-le-mul_right}
use Rattle.merkle_log.specs.Multi.{middle, count_below, count_around, pairs_around, are_multi_indexes, multi_length}
use Rattle.merkle_log.proofs.Tests.{twice, stays, power-rises}
use Rattle.merkle_log.proofs.Verdicts.{pow_above}
use Rattle.merkle_log.proofs.MultiParts.{Within, within-left, within-right, within-alone, count-few, left-first, middle-first}

-- ---- the middle of a place fits a word

place-few : (level place : ℕ) → level < 64 → place * 2 ^ suc level < 2 ^ 64 → place < 2 ^ (63 - level)
place-few level place low below = elim (cases_lt place (2 ^ (63 - level))) [
  | inl less ↦ less
  | inr ge ↦
      let all : 2 ^ 64 ≡ 2 ^ (63 - level) * 2 ^ suc level
      = let e : 64 ≡ 63 - level + suc level = omega arith in
      ap (λ n. 2 ^ n) e ∙ pow-add 2 (63 - level) (suc level) in
      absurd (omega (arith, mul-le-mul_right (2 ^ suc level) ge))
]

middle-below : (level place : ℕ) → level < 64 → place * 2 ^ suc level < 2 ^ 64 → middle level place < 2 ^ 64
middle-below level place low below =
    let few = place-few level place low below in
    let all : 2 ^ 64 ≡ 2 ^ (63 - level) * 2 ^ suc level
    = let e : 64 ≡ 63 - level + suc level = omega arith in
    ap (λ n. 2 ^ n) e ∙ pow-add 2 (63 - level) (suc level) in
    omega (
      arith,
      mul-le-mul_right (2 ^ suc level) few,
      add-mul place 1 (2 ^ suc level),
      middle-first level place,
      twice level,
      pow_pos level,
    )

-- the middle, as the machine makes it
pub middle-machine : (level place : ℕ) → level < 64 → place * 2 ^ (level + 1) < 2 ^ 64
    → (2 * place + 1) * 2 ^ level % 18446744073709551616 ≡ middle level place
middle-machine level place low below =
    let e : level + 1 ≡ suc level = omega arith in
    let same : (2 * place + 1) * 2 ^ level ≡ middle level place = ap (λ n. n * 2 ^ level) (omega arith) in
    let less = middle-below level place low (rw e at below) in
    mod-eq_of_lt (omega (arith, same)) ∙ same

pub twice-fits : (level place : ℕ) → level < 64 → place * 2 ^ (level + 1) < 2 ^ 64 → 2 * place + 1 < 2 ^ 64
twice-fits level place low below =
    let e : level + 1 ≡ suc level = omega arith in
    let few = place-few level place low (rw e at below) in
    omega (arith, few, power-rises (63 - level) 63 (omega arith))

-- ---- complete places

pub incomplete-by : (size level place : ℕ) → size / 2 ^ level ≤ place → size < (place + 1) * 2 ^ level
incomplete-by size level place few =
    omega (
      arith,
      mul-le-mul_right (2 ^ level) few,
      div-add-mod' size (2 ^ level),
      add-mul place 1 (2 ^ level),
      mod-lt size (pow_pos level),
    )

pub high-incomplete : (size level place : ℕ) → size < 2 ^ 64 → 64 ≤ level → size < (place + 1) * 2 ^ level
high-incomplete size level place fits high =
    omega (arith, power-rises 64 level high, add-mul place 1 (2 ^ level))

-- A place that is not complete is no leaf.
pub high-place : (size level place : ℕ) → place * 2 ^ level < size → size < (place + 1) * 2 ^ level → 0 < level
high-place size zero place inside few = absurd (omega arith)
high-place size (suc level) place inside few = omega arith

-- ---- a level down

-- the two places below one, and their leaves
pub record Halves (level place : ℕ) : Type 0 where
  pub first : 2 * place * 2 ^ (level - 1) ≡ place * 2 ^ level
  pub second : (2 * place + 1) * 2 ^ (level - 1) ≡ middle (level - 1) place
  pub middle_is : middle (level - 1) place ≡ place * 2 ^ level + 2 ^ (level - 1)
  pub two : 2 ^ level ≡ 2 ^ (level - 1) + 2 ^ (level - 1)

pub halves : (level place : ℕ) → 0 < level → Halves level place
halves zero place some = absurd (omega arith)
halves (suc below) place some =
    let e : suc below - 1 ≡ below = omega arith in
    record {
      first = ap (λ n. 2 * place * 2 ^ n) e ∙ ap (λ n. n * 2 ^ below) (omega arith) ∙ sym (left-first below place);
      second = ap (λ n. n * 2 ^ (suc below - 1)) (omega arith);
      middle_is = ap (λ n. middle n place) e ∙ middle-first below place ∙ ap (λ n. place * 2 ^ suc below + 2 ^ n) (sym
          e);
      two = twice below ∙ ap (λ n. 2 ^ n + 2 ^ n) (sym e);
    }

-- A list that is not empty, as a test says.
pub filled : {A : Type 0} (xs : List A) (b : Bool) → b ≡ (length xs == 0) → b ≡ false → 0 < length xs
filled [] b is none = absurd cc
filled (x ∷ xs) b is none = omega arith

-- A list that is empty, as a test says.
pub emptied : {A : Type 0} (xs : List A) (b : Bool) → b ≡ (length xs == 0) → b ≡ true → length xs ≡ 0
emptied xs b is none = eqb-true (length xs) 0 (sym is ∙ none)

-- A multi-proof has an index.
pub some-indexes : (size : ℕ) (indexes : List ℕ) → are_multi_indexes size indexes ≡ true → 0 < length indexes
some-indexes size [] form = absurd cc
some-indexes size (i ∷ rest) form = omega arith

module _ (size place : ℕ) where
  pub around-none : (level : ℕ) (indexes : List ℕ) → length indexes ≡ 0 → count_around size level place indexes ≡ 1
  around-none zero [] none = refl
  around-none (suc level) [] none = refl
  around-none level (i ∷ rest) none = absurd (omega arith)

  pub around-leaf : (level : ℕ) (indexes : List ℕ) → 0 < length indexes → level ≡ 0
      → count_around size level place indexes ≡ 0
  around-leaf zero (i ∷ rest) some leaf = refl
  around-leaf (suc level) indexes some leaf = absurd (omega arith)
  around-leaf zero [] some leaf = absurd (omega arith)

  pub around-alone : (level : ℕ) (indexes : List ℕ) → 0 < level → 0 < length indexes
      → size ≤ middle (level - 1) place
      → count_around size level place indexes ≡ count_around size (level - 1) (2 * place) indexes
  around-alone (suc below) (i ∷ rest) high some few =
      let e : suc below - 1 ≡ below = omega arith in
      let double : place + place ≡ 2 * place = omega arith in
      rw (e, le-ltb (middle below place) size (rw e at few))
      (ap (λ n. count_around size below n (i ∷ rest)) double)
  around-alone zero indexes high some few = absurd (omega arith)
  around-alone (suc below) [] high some few = absurd (omega arith)

  pub around-both : (level : ℕ) (indexes : List ℕ) → 0 < level → 0 < length indexes
      → middle (level - 1) place < size → (count : ℕ) → count ≡ count_below (middle (level - 1) place) indexes
      → count_around size level place indexes ≡ count_around size (level - 1) (2 * place) (take count indexes)
      + count_around size (level - 1) (2 * place + 1) (drop count indexes)
  around-both (suc below) (i ∷ rest) high some more count is =
      let e : suc below - 1 ≡ below = omega arith in
      let double : place + place ≡ 2 * place = omega arith in
      let at = count_below (middle below place) (i ∷ rest) in
      let at_is : count ≡ at = is ∙ ap (λ n. count_below (middle n place) (i ∷ rest)) e in
      rw (e, at_is, lt-ltb (middle below place) size (rw e at more))
      (ap (λ n. count_around size below n (take at (i ∷ rest)) + count_around size below (n + 1) (drop at (i ∷ rest)))
      double)
  around-both zero indexes high some more count is = absurd (omega arith)
  around-both (suc below) [] high some more count is = absurd (omega arith)

  -- the same of the pairs that are hashed
  pub pairs-none : (level : ℕ) (indexes : List ℕ) → length indexes ≡ 0 → pairs_around size level place indexes ≡ 0
  pairs-none zero [] none = refl
  pairs-none (suc level) [] none = refl
  pairs-none level (i ∷ rest) none = absurd (omega arith)

  pub pairs-leaf : (level : ℕ) (indexes : List ℕ) → level ≡ 0 → pairs_around size level place indexes ≡ 0
  pairs-leaf zero indexes leaf = refl
  pairs-leaf (suc level) indexes leaf = absurd (omega arith)

  pub pairs-alone : (level : ℕ) (indexes : List ℕ) → 0 < level → 0 < length indexes
      → size ≤ middle (level - 1) place
      → pairs_around size level place indexes ≡ pairs_around size (level - 1) (2 * place) indexes
  pairs-alone (suc below) (i ∷ rest) high some few =
      let e : suc below - 1 ≡ below = omega arith in
      let double : place + place ≡ 2 * place = omega arith in
      rw (e, le-ltb (middle below place) size (rw e at few))
      (ap (λ n. pairs_around size below n (i ∷ rest)) double)
  pairs-alone zero indexes high some few = absurd (omega arith)
  pairs-alone (suc below) [] high some few = absurd (omega arith)

  pub pairs-both : (level : ℕ) (indexes : List ℕ) → 0 < level → 0 < length indexes
      → middle (level - 1) place < size → (count : ℕ) → count ≡ count_below (middle (level - 1) place) indexes
      → pairs_around size level place indexes ≡ pairs_around size (level - 1) (2 * place) (take count indexes)
      + pairs_around size (level - 1) (2 * place + 1) (drop count indexes) + 1
  pairs-both (suc below) (i ∷ rest) high some more count is =
      let e : suc below - 1 ≡ below = omega arith in
      let double : place + place ≡ 2 * place = omega arith in
      let at = count_below (middle below place) (i ∷ rest) in
      let at_is : count ≡ at = is ∙ ap (λ n. count_below (middle n place) (i ∷ rest)) e in
      rw (e, at_is, lt-ltb (middle below place) size (rw e at more))
      (ap (λ n. pairs_around size below n (take at (i ∷ rest)) + pairs_around size below (n + 1) (drop at (i ∷ rest))
      + 1) double)
  pairs-both zero indexes high some more count is = absurd (omega arith)
  pairs-both (suc below) [] high some more count is = absurd (omega arith)

-- Of rising indexes these are one fewer than indexes and digests.
pub pairs-many : (size level place : ℕ) (indexes : List ℕ) → Within size level place indexes
    → pairs_around size level place indexes + 1 ≡ length indexes + count_around size level place indexes
pairs-many size zero place [] w = refl
pairs-many size (suc level) place [] w = refl
pairs-many size zero place (i ∷ []) w = refl
pairs-many size zero place (i ∷ j ∷ rest) w =
    absurd (omega (arith, w.below, w.rises.0, w.rises.2.0, w.rises.2.1))
pairs-many size (suc level) place (i ∷ rest) w =
    let at = count_below (middle level place) (i ∷ rest) in
    let few = count-few (middle level place) (i ∷ rest) in
    elim (cases_lt (middle level place) size) [
      | inl more ↦ rw (lt-ltb (middle level place) size more) (omega (
        arith,
        pairs-many size level (place + place) (take at (i ∷ rest)) (within-left w more),
        pairs-many size level (place + place + 1) (drop at (i ∷ rest)) (within-right w),
        length-take-le at (i ∷ rest) few,
        length-drop at (i ∷ rest),
      ))
      | inr none ↦ rw (le-ltb (middle level place) size none)
          (pairs-many size level (place + place) (i ∷ rest) (within-alone w none))
    ]

-- ---- the number of levels does not matter

-- What one level more leaves as it is, from two numbers of levels on.
pub stays_both : {B : Type 0} (f : ℕ → B) (size k n : ℕ) → size ≤ 2 ^ k → size ≤ 2 ^ n
    → ((m : ℕ) → size ≤ 2 ^ m → f (suc m) ≡ f m) → f n ≡ f k
stays_both f size k n high low same = elim (cases_lt k n) [
  | inl less ↦ stays f k n (omega arith) (λ m le. same m (omega (arith, power-rises k m le)))
  | inr ge ↦ sym (stays f n k ge (λ m le. same m (omega (arith, power-rises n m le))))
]

around-level : (size : ℕ) (indexes : List ℕ) (m : ℕ) → size ≤ 2 ^ m → count_around size (suc m) 0 indexes
    ≡ count_around size m 0 indexes
around-level size [] zero low = refl
around-level size [] (suc m) low = refl
around-level size (i ∷ rest) m low = rw (le-ltb (middle m 0) size (omega (arith, middle-first m 0))) refl

pub around-levels : (size k : ℕ) (indexes : List ℕ) → size ≤ 2 ^ k → count_around size k 0 indexes
    ≡ multi_length size indexes
around-levels size k indexes low =
    stays_both (λ n. count_around size n 0 indexes) size size k (omega (arith, pow_above size)) low
    (around-level size indexes)

-- Rising indexes and these digests are together at most as many as the leaves.
pub shown-most : (size level place : ℕ) (indexes : List ℕ) → Within size level place indexes → place * 2 ^ level < size
    → (length indexes + count_around size level place indexes ≤ 2 ^ level)
    × (length indexes + count_around size level place indexes + place * 2 ^ level ≤ size)
shown-most size zero place [] w inside = (omega arith, omega arith)
shown-most size (suc level) place [] w inside = (omega (arith, pow_pos (suc level)), omega arith)
shown-most size zero place (i ∷ []) w inside = (omega arith, omega arith)
shown-most size zero place (i ∷ j ∷ rest) w inside =
    absurd (omega (arith, w.below, w.rises.0, w.rises.2.0, w.rises.2.1))
shown-most size (suc level) place (i ∷ rest) w inside =
    let two = twice level in
    let first = left-first level place in
    let mid = middle-first level place in
    elim (cases_lt (middle level place) size) [
      | inl more ↦
          let at = count_below (middle level place) (i ∷ rest) in
          let few = length-take-le at (i ∷ rest) (count-few (middle level place) (i ∷ rest)) in
          let back = length-drop at (i ∷ rest) in
          let c = count-few (middle level place) (i ∷ rest) in
          let l = shown-most size level (place + place) (take at (i ∷ rest)) (within-left w more) (omega arith) in
          let r = shown-most size level (place + place + 1) (drop at (i ∷ rest)) (within-right w) more in
          rw (lt-ltb (middle level place) size more) (
            omega (arith, l.0, r.0, two),
            omega (arith, l.0, r.1, mid),
          )
      | inr few ↦
          let l = shown-most size level (place + place) (i ∷ rest) (within-alone w few) (omega arith) in
          rw (le-ltb (middle level place) size few) (omega (arith, l.0, two), omega (arith, l.1, first))
    ]
