-- The digests that an appended one makes.
use Rattle.std.proofs.Common.{suc, ◌≡◌, ℕ, ◌+◌, ◌-◌, ◌%◌, ◌<◌, ◌≤◌, List, [], ◌∷◌, ◌++◌, length, get_or, Ok, Err, arith, refl, ap, sym, ◌∙◌, inl, inr}
use Rattle.std.proofs.lemmas.Bool.{cases_lt, lt-ltb, le-ltb}
use Rattle.std.proofs.lemmas.List.{get_or_append_left, get_or_push}
use Rattle.ark_base.specs.declared.error.Error.{Error}
use Rattle.ark_base.specs.Laws.Steps.{done_injective}
use Rattle.ark_base.specs.Outcome.{Outcome, ◌>>=◌}
use Rattle.ark_paths.specs.Pair.{Digest}
use Rattle.merkle_log.specs.Log.{NodeHash}
use Rattle.merkle_log.specs.Stored.{row_pairs, IsStored}
use Rattle.merkle_log.specs.Append.{IsCarried, RefusesCarry, RefusesRow, pushed_row}
use Rattle.merkle_log.proofs.Lasts.{pairs_parts}

-- those of the levels so far
pub record CarriesTo (hash : NodeHash) (rows : ℕ → List Digest) (digest : Digest) (level : ℕ) (made : List Digest) :
    Type 0 where
  pub first : get_or made 0 [] ≡ digest
  pub odd : (k : ℕ) → k < level → length (rows k) % 2 ≡ 1
  pub hashed : (k : ℕ) → k < level → hash (get_or (rows k) (length (rows k) - 1) []) (get_or made k [])
      ≡ Ok (get_or made (suc k) [])

pub carries-first : (hash : NodeHash) (rows : ℕ → List Digest) (digest : Digest) → CarriesTo hash rows digest 0
    (digest ∷ [])
carries-first hash rows digest = record {
  first = refl;
  odd = λ k under. absurd (omega arith);
  hashed = λ k under.
      absurd (omega arith);
}

-- The digests that are made, each with the one beside it, are one more.
pub chain-more : (hash : NodeHash) (beside : ℕ → Digest) (level : ℕ) (made : List Digest) (up : Digest)
    → length made ≡ level + 1
    → ((k : ℕ) → k < level → hash (beside k) (get_or made k []) ≡ Ok (get_or made (suc k) []))
    → hash (beside level) (get_or made level []) ≡ Ok up
    → (k : ℕ) → k < level + 1
    → hash (beside k) (get_or (made ++ (up ∷ [])) k []) ≡ Ok (get_or (made ++ (up ∷ [])) (suc k) [])
chain-more hash beside level made up count so_far is k under = elim (cases_lt k level) [
  | inl less ↦
      ap (hash (beside k)) (get_or_append_left made (up ∷ []) [] k (omega arith)) ∙ so_far k less
      ∙ ap Ok (sym (get_or_append_left made (up ∷ []) [] (suc k) (omega arith)))
  | inr here ↦
      let e : level ≡ k = omega arith in
      rw (← e) (ap (hash (beside level)) (get_or_append_left made (up ∷ []) [] level (omega arith)) ∙ is
      ∙ ap Ok (sym (get_or_push made up [] (suc level) (omega arith))))
]

-- Each of them stands behind an odd number.
pub odd-more : (count : ℕ → ℕ) (level : ℕ) → ((k : ℕ) → k < level → count k % 2 ≡ 1) → count level % 2 ≡ 1
    → (k : ℕ) → k < level + 1 → count k % 2 ≡ 1
odd-more count level so_far is_odd k under = elim (cases_lt k level) [
  | inl less ↦ so_far k less
  | inr here ↦ let e : k ≡ level = omega arith in rw (e) is_odd
]

pub carries-more : (hash : NodeHash) (rows : ℕ → List Digest) (digest : Digest) (level : ℕ) (made : List Digest)
    (up : Digest) → CarriesTo hash rows digest level made → length made ≡ level + 1 → length (rows level) % 2 ≡ 1
    → hash (get_or (rows level) (length (rows level) - 1) []) (get_or made level []) ≡ Ok up → CarriesTo hash rows
    digest (level + 1) (made ++ (up ∷ []))
carries-more hash rows digest level made up so_far count is_odd is = record {
  first = get_or_append_left made (up ∷ []) [] 0 (omega arith) ∙ so_far.first;
  odd = odd-more (λ k. length (rows k)) level so_far.odd is_odd;
  hashed = chain-more hash (λ k. get_or (rows k) (length (rows k) - 1) []) level made up count so_far.hashed is;
}

pub carries-end : (hash : NodeHash) (rows : ℕ → List Digest) (digest : Digest) (level : ℕ) (made : List Digest)
    → CarriesTo hash rows digest level made → length made ≡ level + 1
    → length (rows level) % 2 ≡ 0 → IsCarried hash rows digest made
carries-end hash rows digest level made so_far count even =
    let last : length made - 1 ≡ level = omega arith in
    record {
      some = omega arith;
      first = so_far.first;
      odd = λ k under. so_far.odd k (omega arith);
      hashed = λ k under. so_far.hashed k (omega arith);
      even = rw (last) even;
    }

-- ---- pairs of a row with one more

-- a row with what is made behind it, if it is
abbrev pub pushed : List Digest → Outcome Digest → Outcome (List Digest)
pushed row made = made >>= λ up. Ok (row ++ (up ∷ []))

pushed-behind : (first : Digest) (row : List Digest) (made : Outcome Digest)
    → (pushed row made >>= λ more. Ok (first ∷ more)) ≡ pushed (first ∷ row) made
pushed-behind first row (Ok up) = refl
pushed-behind first row (Err e) = refl

pub row_pairs-odd : (hash : NodeHash) (row next : List Digest) (digest : Digest) (made : Outcome Digest)
    → row_pairs hash row ≡ Ok next → length row % 2 ≡ 1 → hash (get_or row (length row - 1) []) digest ≡ made
    → row_pairs hash (row ++ (digest ∷ [])) ≡ pushed next made
row_pairs-odd hash [] next digest made is odd hashed = absurd (omega arith)
row_pairs-odd hash (a ∷ []) next digest made is odd hashed =
    let none = done_injective {E = Error} [] next is in
    rw (hashed, ← none) refl
row_pairs-odd hash (a ∷ b ∷ row) next digest made is odd hashed =
    let p = pairs_parts hash a b row next is in
    let at : length (a ∷ b ∷ row) - 1 ≡ suc (suc (length row - 1)) = omega arith in
    rw (p.2, row_pairs-odd hash row p.1 digest made p.3 (omega arith) (rw (at) at hashed))
    (pushed-behind p.0 p.1 made ∙ ap (λ l. pushed l made) p.4)

pub row_pairs-even : (hash : NodeHash) (row next : List Digest) (digest : Digest) → row_pairs hash row ≡ Ok next
    → length row % 2 ≡ 0 → row_pairs hash (row ++ (digest ∷ [])) ≡ Ok next
row_pairs-even hash [] next digest is even = is
row_pairs-even hash (a ∷ []) next digest is even = absurd (omega arith)
row_pairs-even hash (a ∷ b ∷ row) next digest is even =
    let p = pairs_parts hash a b row next is in
    rw (p.2, row_pairs-even hash row p.1 digest p.3 (omega arith), p.4) refl

-- A digest that cannot be carried on is behind a row of which a pair is refused.
pub carried-refused : (hash : NodeHash) (rows : ℕ → List Digest) (digest : Digest) (error : Error)
    → IsStored hash rows → RefusesCarry hash rows digest error
    → RefusesRow hash (rows 0 ++ (digest ∷ [])) error
carried-refused hash rows digest error stored carry = record {
  rows = λ k. rows k ++ (get_or carry.made k [] ∷ []);
  level = carry.level;
  lowest = ap (λ d. rows 0 ++ (d ∷ [])) carry.first;
  hashed = λ k below. row_pairs-odd hash (rows k) (rows (suc k)) _ (Ok (get_or carry.made (suc k) []))
      (stored.pairs k) (carry.odd k (omega arith)) (carry.hashed k below);
  refused = row_pairs-odd hash (rows carry.level) (rows (suc carry.level)) _ (Err error) (stored.pairs carry.level)
      (carry.odd carry.level (omega arith)) carry.refused;
}

-- ---- rows with one more each

pub pushed-in : (rows : ℕ → List Digest) (made : List Digest) (level : ℕ) → level < length made
    → pushed_row rows made level
    ≡ rows level ++ (get_or made level [] ∷ [])
pushed-in rows made level under = rw (lt-ltb level (length made) under) refl

pub pushed-out : (rows : ℕ → List Digest) (made : List Digest) (level : ℕ) → length made ≤ level → pushed_row rows made
    level ≡ rows level
pushed-out rows made level over = rw (le-ltb level (length made) over) refl

pub stored-pushed : (hash : NodeHash) (rows new : ℕ → List Digest) (digest : Digest) (made : List Digest)
    → IsStored hash rows → IsCarried hash rows digest made → ((level : ℕ) → new level ≡ pushed_row rows made level)
    → IsStored hash new
stored-pushed hash rows new digest made stored carried same = record {
  pairs = λ level. ap (row_pairs hash) (same level) ∙ pairs level ∙ ap Ok (sym (same (suc level)));
}
  where
    pairs : (level : ℕ) → row_pairs hash (pushed_row rows made level) ≡ Ok (pushed_row rows made (suc level))
    pairs level = elim (cases_lt (suc level) (length made)) [
      | inl under ↦
          ap (row_pairs hash) (pushed-in rows made level (omega arith))
          ∙ row_pairs-odd hash (rows level) (rows (suc level)) (get_or made level []) (Ok (get_or made (suc level) []))
          (stored.pairs level) (carried.odd level under) (carried.hashed level under)
          ∙ ap Ok (sym (pushed-in rows made (suc level) under))
      | inr over ↦ elim (cases_lt level (length made)) [
        | inl last ↦
            let e : length made - 1 ≡ level = omega arith in
            ap (row_pairs hash) (pushed-in rows made level last)
            ∙ row_pairs-even hash (rows level) (rows (suc level)) (get_or made level []) (stored.pairs level)
            (rw (e) at carried.even)
            ∙ ap Ok (sym (pushed-out rows made (suc level) over))
        | inr above ↦ ap (row_pairs hash) (pushed-out rows made level above) ∙ stored.pairs level
            ∙ ap Ok (sym (pushed-out rows made (suc level) over))
      ]
    ]

pub pushed-first : (hash : NodeHash) (rows new : ℕ → List Digest) (digest : Digest) (made : List Digest)
    → IsCarried hash rows digest made → ((level : ℕ) → new level ≡ pushed_row rows made level) → new 0
    ≡ rows 0 ++ (digest ∷ [])
pushed-first hash rows new digest made carried same =
    same 0 ∙ pushed-in rows made 0 carried.some ∙ ap (λ d. rows 0 ++ (d ∷ [])) carried.first

-- the rows of no leaves
pub stored-none : (hash : NodeHash) (rows : ℕ → List Digest) → ((level : ℕ) → rows level ≡ []) → IsStored hash rows
stored-none hash rows none = record {
  pairs = λ level. ap (row_pairs hash) (none level)
      ∙ ap Ok (sym (none (suc level)));
}
