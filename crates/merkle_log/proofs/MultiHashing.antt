-- What the code that checks a multi-proof needs, a level at a time.
use Rattle.std.proofs.Common.{zero, suc, ◌≡◌, ℕ, ◌+◌, ◌-◌, ◌*◌, ◌<◌, ◌≤◌, ◌^◌, Bool, true, false, if◌then◌else◌, List, [], ◌∷◌, length, map, take, drop, Ok, Err, arith, refl, ap, sym, ◌∙◌}
use Rattle.std.proofs.lemmas.Bool.{lt-ltb, le-ltb, and_from, eq-eqb}
use Rattle.std.proofs.lemmas.List.{length-map, take_rest, take-map, drop-map}
use Rattle.ark_base.specs.declared.error.Error.{Error}
use Rattle.ark_base.specs.Outcome.{Outcome, ◌>>=◌}
use Rattle.ark_paths.specs.Pair.{Digest, digest_eq}
use Rattle.merkle_log.specs.Append.{counted_after}
use Rattle.merkle_log.specs.Log.{NodeHash}
use Rattle.merkle_log.specs.Walk.{joined}
use Rattle.merkle_log.specs.Multi.{Known, known_of, middle, count_below, count_around, pairs_around, known_hash, are_multi_indexes, have_counts, multi_length, has_form, multi_pairs, known_verdict}
use Rattle.merkle_log.proofs.Verdicts.{pow_above}
use Rattle.merkle_log.proofs.MultiParts.{middle-first, within-levels}
use Rattle.merkle_log.proofs.MultiBound.{knows, form-parts, some-size, verdict-form}
use Rattle.merkle_log.proofs.MultiCounts.{halves, around-none, around-both, pairs-both, pairs-many, shown-most, around-levels, stays_both}

-- At least one index or one digest of the proof is below a place.
pub around-some : (size level place : ℕ) (indexes : List ℕ) → 0 < length indexes + count_around size level place indexes
around-some size level place [] = omega (arith, around-none size place level [] refl)
around-some size level place (i ∷ rest) = omega arith

-- The two places below one that both have leaves: where they begin, and how many digests of the proof they use.
pub record Both (size level place : ℕ) (indexes : List ℕ) (count : ℕ) : Type 0 where
  pub left_inside : 2 * place * 2 ^ (level - 1) < size
  pub right_inside : (2 * place + 1) * 2 ^ (level - 1) < size
  pub total : count_around size level place indexes ≡ count_around size (level - 1) (2 * place) (take count indexes)
      + count_around size (level - 1) (2 * place + 1) (take (length indexes - count) (drop count indexes))
  pub pairs : pairs_around size level place indexes ≡ pairs_around size (level - 1) (2 * place) (take count indexes)
      + pairs_around size (level - 1) (2 * place + 1) (take (length indexes - count) (drop count indexes)) + 1

-- the digest of the first of the two places below one, as the code asks for it, and that of the second one
abbrev pub left_hash : {A : Type 0} → (A → Digest) → NodeHash → ℕ → ℕ → ℕ → ℕ → List ℕ → List A → List A
    → Outcome Digest
left_hash numbers hash size level place count indexes leaves proof =
    known_hash hash size (level - 1) (2 * place) (known_of numbers (take count indexes) (take count leaves) proof)

abbrev pub right_hash : {A : Type 0} → (A → Digest) → NodeHash → ℕ → ℕ → ℕ → ℕ → List ℕ → List A → List A → ℕ
    → Outcome Digest
right_hash numbers hash size level place count indexes leaves proof used =
    known_hash hash size (level - 1) (2 * place + 1) (known_of numbers (take (length indexes - count) (drop count
    indexes)) (take (length leaves - count) (drop count leaves)) (take (length proof - used) (drop used proof)))

module _ (size level place bound : ℕ) (indexes : List ℕ) (high : 0 < level) (some : 0 < length indexes)
    (bound_is : bound ≡ middle (level - 1) place) (more : bound < size) (inside : place * 2 ^ level < size) (count : ℕ)
    (count_is : count ≡ count_below bound indexes) where
  pub both : Both size level place indexes count
  both =
      let h = halves level place high in
      record {
        left_inside = omega (arith, h.first);
        right_inside = omega (arith, h.second);
        total = around-both size place level indexes high some (omega arith) count
            (count_is ∙ ap (λ n. count_below n indexes) bound_is)
            ∙ ap (λ l. count_around size (level - 1) (2 * place) (take count indexes) + count_around size (level - 1)
            (2 * place + 1) l) (sym (take_rest indexes count));
        pairs = pairs-both size place level indexes high some (omega arith) count
            (count_is ∙ ap (λ n. count_below n indexes) bound_is)
            ∙ ap (λ l. pairs_around size (level - 1) (2 * place) (take count indexes) + pairs_around size (level - 1)
            (2 * place + 1) l + 1) (sym (take_rest indexes count));
      }

  module _ {A : Type 0} (numbers : A → Digest) (hash : NodeHash) (leaves proof : List A) where
    abbrev whole : Outcome Digest
    whole = known_hash hash size level place (known_of numbers indexes leaves proof)

    abbrev left : Outcome Digest
    left = left_hash numbers hash size level place count indexes leaves proof

    abbrev right : ℕ → Outcome Digest
    right used = right_hash numbers hash size level place count indexes leaves proof used

    both-hash : (used : ℕ) → used ≡ count_around size (level - 1) (2 * place) (take count indexes)
        → whole ≡ joined hash left (right used)
    both-hash used used_is =
        by_level level indexes high some (count_is ∙ ap (λ n. count_below n indexes) bound_is)
        (omega arith) used_is
        ∙ ap (λ l. joined hash left (known_hash hash size (level - 1) (2 * place + 1) l)) parts
      where
        parts : known_of numbers (drop count indexes) (drop count leaves) (drop used proof) ≡ known_of numbers
            (take (length indexes - count) (drop count indexes)) (take (length leaves - count) (drop count leaves))
            (take (length proof - used) (drop used proof))
        parts = sym (rw (take_rest, take_rest, take_rest) refl)

        by_level : (level : ℕ) (indexes : List ℕ) → 0 < level → 0 < length indexes
            → count ≡ count_below (middle (level - 1) place) indexes → middle (level - 1) place < size
            → used ≡ count_around size (level - 1) (2 * place) (take count indexes)
            → known_hash hash size level place (known_of numbers indexes leaves proof) ≡ joined hash
            (known_hash hash size (level - 1) (2 * place) (known_of numbers (take count indexes) (take count leaves)
            proof))
            (known_hash hash size (level - 1) (2 * place + 1) (known_of numbers (drop count indexes) (drop count leaves)
            (drop used proof)))
        by_level (suc below) (i ∷ rest) high some is less used_is =
            let e : suc below - 1 ≡ below = omega arith in
            let double : place + place ≡ 2 * place = omega arith in
            let at = count_below (middle below place) (i ∷ rest) in
            let at_is : at ≡ count = sym (is ∙ ap (λ n. count_below (middle n place) (i ∷ rest)) e) in
            let there : count_around size below (2 * place) (take count (i ∷ rest)) ≡ used
            = sym (used_is ∙ ap (λ n. count_around size n (2 * place) (take count (i ∷ rest))) e) in
            rw (lt-ltb (middle below place) size (rw e at less), at_is, double, there, e, take-map, drop-map, drop-map)
            refl
        by_level zero indexes high some is less used_is = absurd (omega arith)
        by_level (suc below) [] high some is less used_is = absurd (omega arith)

    -- what the code gives, or the refusal in its place
    pub both-gives : {a b c d : Digest} (used : ℕ)
        → used ≡ count_around size (level - 1) (2 * place) (take count indexes) → left ≡ Ok a → right used ≡ Ok b
        → c ≡ a → d ≡ b → whole ≡ hash c d
    both-gives used used_is left_is right_is same_left same_right =
        both-hash used used_is ∙ rw (left_is, right_is, same_left, same_right) refl

    pub left-refused : {e : Error} → left ≡ Err e → whole ≡ Err e
    left-refused is = both-hash _ refl ∙ rw (is) refl

    pub right-refused : {a : Digest} {e : Error} (used : ℕ)
        → used ≡ count_around size (level - 1) (2 * place) (take count indexes) → left ≡ Ok a → right used ≡ Err e
        → whole ≡ Err e
    right-refused used used_is left_is is = both-hash used used_is ∙ rw (left_is, is) refl

-- A place whose second half has no leaf.
pub alone-hash : {A : Type 0} (size level place bound : ℕ) (indexes : List ℕ) → 0 < level → 0 < length indexes
    → bound ≡ middle (level - 1) place → size ≤ bound
    → (numbers : A → Digest) (hash : NodeHash) (leaves proof : List A)
    → known_hash hash size level place (known_of numbers indexes leaves proof)
    ≡ known_hash hash size (level - 1) (2 * place) (known_of numbers indexes leaves proof)
alone-hash size (suc below) place bound (i ∷ rest) high some is few numbers hash leaves proof =
    let e : suc below - 1 ≡ below = omega arith in
    let double : place + place ≡ 2 * place = omega arith in
    let less : size ≤ middle below place = omega (arith, is, ap (λ n. middle n place) e) in
    rw (le-ltb (middle below place) size less, double, e) refl
alone-hash size zero place bound indexes high some is few numbers hash leaves proof = absurd (omega arith)
alone-hash size (suc below) place bound [] high some is few numbers hash leaves proof = absurd (omega arith)

-- ---- the whole check

hash-level : (hash : NodeHash) (size : ℕ) (indexes : List ℕ) (leaves proof : List Digest) (m : ℕ) → size ≤ 2 ^ m
    → known_hash hash size (suc m) 0 (knows indexes leaves proof)
    ≡ known_hash hash size m 0 (knows indexes leaves proof)
hash-level hash size [] leaves proof zero low = refl
hash-level hash size [] leaves proof (suc m) low = refl
hash-level hash size (i ∷ rest) leaves proof m low =
    rw (le-ltb (middle m 0) size (omega (arith, middle-first m 0))) refl

-- The number of levels does not matter.
pub hash-levels : (hash : NodeHash) (size k : ℕ) (known : Known) → size ≤ 2 ^ k
    → known_hash hash size size 0 known ≡ known_hash hash size k 0 known
hash-levels hash size k known low =
    sym (stays_both (λ n. known_hash hash size n 0 known) size size k (omega (arith, pow_above size)) low
    (hash-level hash size known.indexes known.leaves known.proof))

module _ {A : Type 0} (numbers : A → Digest) (size : ℕ) (indexes : List ℕ) (leaves proof : List A) where
  form-same : has_form size (known_of numbers indexes leaves proof) ≡ have_counts size indexes (length leaves)
      (length proof)
  form-same = ap (λ n. have_counts size indexes n (length (map numbers proof))) (length-map leaves numbers)
      ∙ ap (have_counts size indexes (length leaves)) (length-map proof numbers)

  has-form : are_multi_indexes size indexes ≡ true → length leaves ≡ length indexes
      → length proof ≡ multi_length size indexes → has_form size (known_of numbers indexes leaves proof) ≡ true
  has-form form many few =
      form-same ∙ and_from _ _ (and_from _ _ form (eq-eqb _ _ many)) (eq-eqb _ _ few)

  -- how many pairs are hashed
  pub pairs-hashed : (k : ℕ) → size ≤ 2 ^ k → are_multi_indexes size indexes ≡ true → length leaves ≡ length indexes
      → length proof ≡ multi_length size indexes → pairs_around size k 0 indexes
      ≡ multi_pairs size (known_of numbers indexes leaves proof)
  pairs-hashed k low form many few =
      rw (has-form form many few) (omega (
        arith,
        pairs-many size k 0 indexes (within-levels size k indexes low form),
        around-levels size k indexes low,
        length-map leaves numbers,
        length-map proof numbers,
      ))

  pub no-pairs : have_counts size indexes (length leaves) (length proof) ≡ false → (before : ℕ) → before < 2 ^ 64
      → before ≡ counted_after before (multi_pairs size (known_of numbers indexes leaves proof))
  no-pairs none before low = rw (form-same, none) (omega arith)

  pub no-verdict : (hash : NodeHash) (root : Digest) → have_counts size indexes (length leaves) (length proof) ≡ false
      → known_verdict hash root size (known_of numbers indexes leaves proof) ≡ Ok false
  no-verdict hash root none = rw (form-same, none) refl

module _ {A : Type 0} (numbers : A → Digest) (hash : NodeHash) (root : Digest) (size k : ℕ) (indexes : List ℕ)
    (leaves proof : List A) (low : size ≤ 2 ^ k) (form : are_multi_indexes size indexes ≡ true)
    (many : length leaves ≡ length indexes) (few : length proof ≡ multi_length size indexes) where
  verdict-levels : known_verdict hash root size (known_of numbers indexes leaves proof)
      ≡ (known_hash hash size k 0 (known_of numbers indexes leaves proof) >>= λ top. Ok (digest_eq top root))
  verdict-levels =
      verdict-form hash root size (known_of numbers indexes leaves proof)
      (has-form numbers size indexes leaves proof form many few)
      ∙ ap (λ o. o >>= λ top. Ok (digest_eq top root)) (hash-levels hash size k (known_of numbers indexes leaves proof)
      low)

  pub verdict-refused : {e : Error} → known_hash hash size k 0 (known_of numbers indexes leaves proof) ≡ Err e
      → known_verdict hash root size (known_of numbers indexes leaves proof) ≡ Err e
  verdict-refused is = verdict-levels ∙ rw (is) refl

  pub verdict-gives : {top own : Digest} {yes : Bool}
      → known_hash hash size k 0 (known_of numbers indexes leaves proof) ≡ Ok top → own ≡ top
      → yes ≡ digest_eq own root → known_verdict hash root size (known_of numbers indexes leaves proof) ≡ Ok yes
  verdict-gives is same told = verdict-levels ∙ rw (is, told, same) refl

-- A count of the pairs is a word.
pub pairs-fit : (size : ℕ) (known : Known) → size < 2 ^ 64 → multi_pairs size known < 2 ^ 64
pairs-fit size known fits = by_form (has_form size known) refl
  where
    by_form : (b : Bool) → has_form size known ≡ b
        → (if b then (length known.leaves + length known.proof - 1) else 0) < 2 ^ 64
    by_form false none = omega arith
    by_form true form =
        let parts = form-parts size known form in
        let most = shown-most size size 0 known.indexes (within-levels size size known.indexes (omega (
          arith,
          pow_above
              size,
        )) parts.0) (omega (arith, some-size size known.indexes parts.0)) in
        omega (arith, parts.1, parts.2, most.1)
