-- Insertions, a level at a time.
use Rattle.std.proofs.Common.{zero, suc, ◌≡◌, ◌≢◌, ◌⊎◌, ℕ, ◌+◌, ◌-◌, ◌*◌, ◌<◌, ◌≤◌, ◌^◌, List, [], ◌++◌, length, map, take, drop, get_or, Ok, Err, Bool, true, false, None, arith, pow_pos, refl, ap, sym, ◌∙◌, inl, inr}
use Rattle.std.proofs.lemmas.Bool.{cases_lt, lt-ltb, le-ltb, eq-eqb, ne_eqb}
use Rattle.std.proofs.lemmas.List.{length-map, nil_from_length, take-map, drop-map}
use Rattle.std.proofs.lemmas.Slice.Eq.{bytes_eq-Decides}
use Rattle.std.proofs.lemmas.Nat.{ones_cat, zero_from_ones}
use Rattle.std.specs.Prelude.{count_ones, min}
use Rattle.ark_base.specs.declared.error.Error.{Error}
use Rattle.ark_base.specs.Outcome.{Outcome, ◌>>=◌}
use Rattle.ark_paths.specs.Pair.{Digest, digest_eq}
use Rattle.merkle_log.specs.Insertion.{can_insert, insertion_root, makes_root, peaks_hash, root_over, some_digest}
use Rattle.merkle_log.specs.Log.{NodeHash}
use Rattle.merkle_log.specs.Walk.{joined}
use Rattle.merkle_log.proofs.Joined.{one-one, ones-less}
use Rattle.merkle_log.proofs.Subtrees.{no-ones}
use Rattle.merkle_log.proofs.Tests.{twice, stays, power-rises}
use Rattle.merkle_log.proofs.Verdicts.{pow_above}

-- ---- counts

pub power-one : (k : ℕ) → count_ones (2 ^ k) ≡ 1
power-one k =
    let e : 2 ^ k ≡ 1 * 2 ^ k + 0 = omega arith in
    ap count_ones e ∙ ones_cat k 1 0 (pow_pos k) ∙ omega (arith, one-one, no-ones)

pub some-ones : (n : ℕ) → 0 < n → 0 < count_ones n
some-ones n some = elim (cases_lt 0 (count_ones n)) [
  | inl more ↦ more
  | inr none ↦ absurd (omega (arith, zero_from_ones n (omega arith)))
]

pub some-known : (size more : ℕ) → 0 < size + more → 0 < count_ones size + more
some-known size more some = elim (cases_lt 0 size) [
  | inl first ↦ omega (arith, some-ones size first)
  | inr none ↦ omega (arith, none, some)
]

-- A tree whose first `size` digests are known by their peaks, with so many behind, is split behind the first 2 ^ k.
pub record Cut (size more k own : ℕ) : Type 0 where
  pub ones : count_ones own + count_ones (size - own) ≡ count_ones size
  pub first : 0 < count_ones own + (2 ^ k - own)
  pub last : 0 < count_ones (size - own) + (more - (2 ^ k - own))
  pub inside : 2 ^ k - own ≤ more
  pub front : own + (2 ^ k - own) ≡ 2 ^ k
  pub back : size - own + (more - (2 ^ k - own)) + 2 ^ k ≡ size + more
  pub less : own ≤ size

pub cut : (size more k own : ℕ) → own ≡ min size (2 ^ k) → 2 ^ k < size + more → size + more ≤ 2 ^ suc k
    → count_ones size + more ≢ 1 → Cut size more k own
cut size more k own own_is above few many =
    let two = twice k in
    let some = pow_pos k in
    elim (cases_lt size (2 ^ k)) [
      | inl low ↦
          let same : own ≡ size = omega (arith, own_is) in
          let none : size - own ≡ 0 = omega (arith, same) in
          record {
            ones = omega (arith, ap count_ones same, ap count_ones none, no-ones);
            first = omega (arith, same);
            last = omega (arith, same);
            inside = omega (arith, same);
            front = omega (arith, same);
            back = omega (arith, same);
            less = omega (arith, same);
          }
      | inr high ↦
          let same : own ≡ 2 ^ k = omega (arith, own_is) in
          let rest : size - own ≡ size - 2 ^ k = omega (arith, same) in
          let first : count_ones own ≡ 1 = ap count_ones same ∙ power-one k in
          let short : size < 2 ^ suc k = elim (cases_lt size (2 ^ suc k)) [
            | inl less ↦ less
            | inr ge ↦ absurd (many (
                let whole : size ≡ 2 ^ suc k = omega arith in
                omega (arith, ap count_ones whole, power-one (suc k))
                ))
          ] in
          record {
            ones = omega (arith, first, ap count_ones rest, ones-less k size high short);
            first = omega (arith, first);
            last = elim (cases_lt 0 (size - own)) [
              | inl behind ↦ omega (arith, some-ones (size - own) behind)
              | inr none ↦ omega (arith, same)
            ];
            inside = omega (arith, same);
            front = omega (arith, same);
            back = omega (arith, same);
            less = omega (arith, same);
          }
    ]

-- Where more than one digest is known there are levels.
pub some-levels : (level size more : ℕ) → 0 < size + more → size + more ≤ 2 ^ level → count_ones size + more ≢ 1
    → 0 < level
some-levels (suc level) size more some few many = omega arith
some-levels zero size more some few many = elim (cases_lt 0 size) [
  | inl one ↦ absurd (many (let e : size ≡ 1 = omega arith in omega (arith, ap count_ones e, one-one)))
  | inr none ↦ absurd (many (let e : size ≡ 0 = omega arith in omega (arith, ap count_ones e, no-ones)))
]

pub one-or-not : (n : ℕ) → (n ≡ 1) ⊎ (n ≢ 1)
one-or-not zero = inr (λ e. absurd (omega arith))
one-or-not (suc zero) = inl refl
one-or-not (suc (suc n)) = inr (λ e. absurd (omega arith))

-- ---- the hash of a level

module _ (hash : NodeHash) (none : Digest) where
  -- one digest that is known
  pub known-one : (k size : ℕ) (peaks more : List Digest) → length peaks + length more ≡ 1
      → peaks_hash hash none k size peaks more ≡ Ok (get_or (peaks ++ more) 0 none)
  known-one zero size peaks more one = refl
  known-one (suc k) size peaks more one = rw (eq-eqb (length peaks + length more) 1 one) refl

  pub known-down : (k size : ℕ) (peaks more : List Digest) → size + length more ≤ 2 ^ k
      → peaks_hash hash none (suc k) size peaks more ≡ peaks_hash hash none k size peaks more
  known-down k size peaks more few = elim (one-or-not (length peaks + length more)) [
    | inl one ↦ known-one (suc k) size peaks more one ∙ sym (known-one k size peaks more one)
    | inr many ↦ rw (
      ne_eqb (length peaks + length more) 1 many,
      le-ltb (2 ^ k) (size + length more) few,
    ) refl
  ]

  pub known-both : (k size own : ℕ) (peaks more : List Digest) → own ≡ min size (2 ^ k)
      → length peaks + length more ≢ 1 → 2 ^ k < size + length more
      → peaks_hash hash none (suc k) size peaks more
      ≡ joined hash (peaks_hash hash none k own (take (count_ones own) peaks) (take (2 ^ k - own) more))
      (peaks_hash hash none k (size - own) (drop (count_ones own) peaks) (drop (2 ^ k - own) more))
  known-both k size own peaks more own_is many above =
      rw (
        own_is,
        ne_eqb (length peaks + length more) 1 many,
        lt-ltb (2 ^ k) (size + length more) above,
      ) refl

  -- The number of levels does not matter.
  pub known-levels : (k size : ℕ) (peaks more : List Digest) → size + length more ≤ 2 ^ k
      → root_over hash none size peaks more ≡ peaks_hash hash none k size peaks more
  known-levels k size peaks more few =
      let total = size + length more in
      sym (up total (omega (arith, pow_above total)) (omega arith)) ∙ up k few (omega arith)
    where
      up : (m : ℕ) → size + length more ≤ 2 ^ m → m ≤ size + length more + k
          → peaks_hash hash none (size + length more + k) size peaks more ≡ peaks_hash hash none m size peaks more
      up m low le =
          stays (λ n. peaks_hash hash none n size peaks more) m (size + length more + k) le
          (λ n more_levels. known-down n size peaks more (omega (arith, power-rises m n more_levels)))

-- ---- what the code does on a level

-- the counts of its split
pub cut-level : (level size more half own : ℕ) → half ≡ 2 ^ (level - 1) → own ≡ min size half → half < size + more
    → size + more ≤ 2 ^ level → count_ones size + more ≢ 1 → Cut size more (level - 1) own
cut-level level size more half own half_is own_is above few many =
    let high = some-levels level size more (omega arith) few many in
    let e : level ≡ suc (level - 1) = omega (arith, high) in
    cut size more (level - 1) own (own_is ∙ ap (min size) half_is) (omega (arith, half_is, above))
    (omega (arith, few, ap (λ n. 2 ^ n) e)) many

-- what it splits: the known peaks, and the digests behind them
pub record Parts {A : Type 0} (level size half own : ℕ) (peaks more first last front back : List A) : Type 0 where
  pub high : 0 < level
  pub half_is : half ≡ 2 ^ (level - 1)
  pub own_is : own ≡ min size half
  pub many : length peaks + length more ≢ 1
  pub above : half < size + length more
  pub first_is : first ≡ take (count_ones own) peaks
  pub last_is : last ≡ drop (count_ones own) peaks
  pub front_is : front ≡ take (half - own) more
  pub back_is : back ≡ drop (half - own) more

module _ {A : Type 0} {level size half own : ℕ} {peaks more first last front back : List A}
    (p : Parts level size half own peaks more first last front back) (numbers : A → Digest) (hash : NodeHash)
    (none : Digest) where
  abbrev whole : Outcome Digest
  whole = peaks_hash hash none level size (map numbers peaks) (map numbers more)

  abbrev left : Outcome Digest
  left = peaks_hash hash none (level - 1) own (map numbers first) (map numbers front)

  abbrev right : Outcome Digest
  right = peaks_hash hash none (level - 1) (size - own) (map numbers last) (map numbers back)

  both : whole ≡ joined hash left right
  both =
      let e : level ≡ suc (level - 1) = omega (arith, p.high) in
      let long = length-map peaks numbers in
      let behind = length-map more numbers in
      let up = level - 1 in
      ap (λ n. peaks_hash hash none n size (map numbers peaks) (map numbers more)) e
      ∙ known-both hash none up size own (map numbers peaks) (map numbers more) (p.own_is ∙ ap (min size) p.half_is)
      (λ one. p.many (omega (arith, one, long, behind))) (omega (arith, p.above, p.half_is, behind))
      ∙ ap (λ l. joined hash (peaks_hash hash none up own l (take (2 ^ up - own) (map numbers more))) (peaks_hash hash
      none up (size - own) (drop (count_ones own) (map numbers peaks)) (drop (2 ^ up - own) (map numbers more))))
      (take-map numbers (count_ones own) peaks ∙ ap (map numbers) (sym p.first_is))
      ∙ ap (λ l. joined hash (peaks_hash hash none up own (map numbers first) l) (peaks_hash hash none up (size - own)
      (drop (count_ones own) (map numbers peaks)) (drop (2 ^ up - own) (map numbers more))))
      (take-map numbers (2 ^ up - own) more ∙ ap (map numbers) (sym front_here))
      ∙ ap (λ l. joined hash left (peaks_hash hash none up (size - own) l (drop (2 ^ up - own) (map numbers more))))
      (drop-map numbers (count_ones own) peaks ∙ ap (map numbers) (sym p.last_is))
      ∙ ap (λ l. joined hash left (peaks_hash hash none up (size - own) (map numbers last) l))
      (drop-map numbers (2 ^ up - own) more ∙ ap (map numbers) (sym back_here))
    where
      front_here : front ≡ take (2 ^ (level - 1) - own) more
      front_here = p.front_is ∙ ap (λ n. take (n - own) more) p.half_is

      back_here : back ≡ drop (2 ^ (level - 1) - own) more
      back_here = p.back_is ∙ ap (λ n. drop (n - own) more) p.half_is

  pub both-gives : {a b c d : Digest} → left ≡ Ok a → right ≡ Ok b → c ≡ a → d ≡ b → whole ≡ hash c d
  both-gives left_is right_is same_left same_right = both ∙ rw (left_is, right_is, same_left, same_right) refl

  pub left-refused : {e : Error} → left ≡ Err e → whole ≡ Err e
  left-refused is = both ∙ rw (is) refl

  pub right-refused : {a : Digest} {e : Error} → left ≡ Ok a → right ≡ Err e → whole ≡ Err e
  right-refused left_is is = both ∙ rw (left_is, is) refl

-- A tree that has no more than its first half.
pub alone : {A : Type 0} (numbers : A → Digest) (hash : NodeHash) (none : Digest) (level size : ℕ) (peaks more : List A)
    → 0 < level → size + length more ≤ 2 ^ (level - 1)
    → peaks_hash hash none level size (map numbers peaks) (map numbers more)
    ≡ peaks_hash hash none (level - 1) size (map numbers peaks) (map numbers more)
alone numbers hash none level size peaks more high few =
    let e : level ≡ suc (level - 1) = omega (arith, high) in
    ap (λ n. peaks_hash hash none n size (map numbers peaks) (map numbers more)) e
    ∙ known-down hash none (level - 1) size (map numbers peaks) (map numbers more)
    (omega (arith, few, length-map more numbers))

-- ---- the whole

module _ (hash : NodeHash) (old : Digest) (size : ℕ) where
  -- no digests
  pub none-made : (peaks : List Digest) → length peaks ≡ count_ones size → size ≡ 0
      → makes_root hash old size peaks ≡ Ok true
  none-made peaks count none =
      let no_peaks = nil_from_length peaks (count ∙ ap count_ones none ∙ no-ones) in
      rw (none, no_peaks, (bytes_eq-Decides old old).1 refl) refl

  pub none-over : (peaks more : List Digest) → length peaks ≡ count_ones size → size + length more ≡ 0
      → root_over hash old size peaks more ≡ Ok old
  none-over peaks more count none =
      let size_none : size ≡ 0 = omega (arith, none) in
      let no_peaks = nil_from_length peaks (count ∙ ap count_ones size_none ∙ no-ones) in
      let no_more = nil_from_length more (omega (arith, none)) in
      rw (size_none, no_peaks, no_more) refl

  module _ (peaks : List Digest) (k : ℕ) (low : size ≤ 2 ^ k) where
    made-levels : makes_root hash old size peaks
        ≡ (peaks_hash hash old k size peaks [] >>= λ made. Ok (digest_eq made old))
    made-levels = ap (λ o. o >>= λ made. Ok (digest_eq made old)) (known-levels hash old k size peaks [] (omega arith))

    pub made-refused : {e : Error} → peaks_hash hash old k size peaks [] ≡ Err e → makes_root hash old size peaks
        ≡ Err e
    made-refused is = made-levels ∙ rw (is) refl

    pub made-gives : {made own : Digest} {yes : Bool} → peaks_hash hash old k size peaks [] ≡ Ok made → own ≡ made
        → yes ≡ digest_eq own old → makes_root hash old size peaks ≡ Ok yes
    made-gives is same told = made-levels ∙ rw (is, told, same) refl

  module _ (proof more : List Digest) where
    pub no-insertion : can_insert size (length proof) (length more) ≡ false → insertion_root hash old size proof more
        ≡ Ok None
    no-insertion is = rw (is) refl

    pub not-made : can_insert size (length proof) (length more) ≡ true → makes_root hash old size proof ≡ Ok false
        → insertion_root hash old size proof more ≡ Ok None
    not-made can is = rw (can, is) refl

    pub insertion-refused : {e : Error} → can_insert size (length proof) (length more) ≡ true
        → makes_root hash old size proof ≡ Err e → insertion_root hash old size proof more ≡ Err e
    insertion-refused can is = rw (can, is) refl

    pub made-over : can_insert size (length proof) (length more) ≡ true → makes_root hash old size proof ≡ Ok true
        → insertion_root hash old size proof more ≡ some_digest (root_over hash old size proof more)
    made-over can is = rw (can, is) refl
