-- What the code that makes a multi-proof needs.
use Rattle.std.proofs.Common.{zero, suc, ◌≡◌, ℕ, ◌+◌, ◌-◌, ◌*◌, ◌<◌, ◌≤◌, ◌^◌, true, List, [], ◌∷◌, ◌++◌, length, map, take, drop, set, get_or, Ok, Err, arith, refl, ap, sym, ◌∙◌, pow_pos}
use Rattle.std.proofs.lemmas.Bool.{lt-ltb, le-ltb}
use Rattle.std.proofs.lemmas.List.{length-take-le, length-map, map-append, get_or-take, append_assoc, append-nil, take_rest, take_more_set}
use Rattle.ark_base.specs.declared.error.Error.{Error}
use Rattle.ark_base.specs.Outcome.{Outcome, ◌>>=◌}
use Rattle.ark_paths.specs.Pair.{Digest}
use Rattle.merkle_log.specs.Edge.{all_of, path_behind}
use Rattle.merkle_log.specs.Log.{NodeHash}
use Rattle.merkle_log.specs.Stored.{row_pairs, IsStored, StoredValue, row_at}
use Rattle.merkle_log.specs.Walk.{joined}
use Rattle.merkle_log.specs.Multi.{middle, count_below, place_hash, place_hashes, put_behind, are_multi_indexes, multi_proof}
use Rattle.merkle_log.proofs.Tests.{twice}
use Rattle.merkle_log.proofs.Above.{there}
use Rattle.merkle_log.proofs.TreePairs.{node-zero}
use Rattle.merkle_log.proofs.Verdicts.{pow_above}
use Rattle.merkle_log.proofs.Lasts.{length-row_pairs, pairs_parts}
use Rattle.merkle_log.proofs.KeptPlaces.{inside-up}
use Rattle.merkle_log.proofs.Positions.{length-row_of}
use Rattle.merkle_log.proofs.MultiParts.{left-first, middle-first, right-end, node-both, node-alone}
use Rattle.merkle_log.proofs.MultiCounts.{halves, some-indexes, stays_both}

-- ---- complete places

-- the hash of a pair of a row
pairs-at : (hash : NodeHash) (row next : List Digest) (place : ℕ) → row_pairs hash row ≡ Ok next
    → place + place + 1 < length row
    → hash (get_or row (place + place) []) (get_or row (place + place + 1) []) ≡ Ok (get_or next place [])
pairs-at hash (a ∷ b ∷ row) next zero is inside =
    let p = pairs_parts hash a b row next is in p.2 ∙ ap (λ l. Ok (get_or l 0 [])) p.4
pairs-at hash (a ∷ b ∷ row) next (suc place) is inside =
    let p = pairs_parts hash a b row next is in
    let left : suc place + suc place ≡ suc (suc (place + place)) = omega arith in
    let right : suc place + suc place + 1 ≡ suc (suc (place + place + 1)) = omega arith in
    ap (λ n. hash (get_or (a ∷ b ∷ row) n []) (get_or (a ∷ b ∷ row) (suc place + suc place + 1) [])) left
    ∙ ap (λ n. hash (get_or row (place + place) []) (get_or (a ∷ b ∷ row) n [])) right
    ∙ pairs-at hash row p.1 place p.3 (omega arith) ∙ ap (λ l. Ok (get_or l (suc place) [])) p.4
pairs-at hash [] next place is inside = absurd (omega arith)
pairs-at hash (a ∷ []) next place is inside = absurd (omega arith)

module _ {hash : NodeHash} {rows : ℕ → List Digest} (stored : IsStored hash rows) where
  -- a complete place has a digest in its row
  rows-long : (level place : ℕ) → (place + 1) * 2 ^ level ≤ length (rows 0) → place < length (rows level)
  rows-long zero place le = omega arith
  rows-long (suc level) place le =
      omega (
        arith,
        rows-long level (place + place + 1) (omega (arith, right-end level place)),
        length-row_pairs hash (rows level) (rows (suc level)) (stored.pairs level),
      )

  pub complete-hash : (empty : Digest) (size level place : ℕ) → size ≤ length (rows 0) → (place + 1) * 2 ^ level ≤ size
      → place_hash hash empty level place (take size (rows 0)) ≡ Ok (get_or (rows level) place [])
  complete-hash empty size zero place within complete =
      let long = length-take-le size (rows 0) within in
      node-zero hash [] (Ok empty) (take size (rows 0)) place (omega arith)
      ∙ ap Ok (get_or-take size (rows 0) place [] (omega arith))
  complete-hash empty size (suc level) place within complete =
      let front = take size (rows 0) in
      let long = length-take-le size (rows 0) within in
      let all = length-map {B = Outcome Digest} front Ok in
      let end = right-end level place in
      let mid : (place + place + 1) * 2 ^ level ≤ size
      = omega (arith, middle-first level place, twice level, left-first level place, left-first level (place + 1)) in
      node-both (joined hash) (Ok empty) level place (there front) (omega (
        arith,
        long,
        all,
        middle-first level place,
        twice level,
        pow_pos level,
        left-first level place,
        left-first level (place + 1),
      ))
      ∙ ap (λ x. joined hash x (place_hash hash empty level (place + place + 1) front)) (complete-hash empty size level
      (place + place) within mid)
      ∙ ap (joined hash (Ok (get_or (rows level) (place + place) []))) (complete-hash empty size level
      (place + place + 1) within (omega arith))
      ∙ pairs-at hash (rows level) (rows (suc level)) place (stored.pairs level) (rows-long level (place + place + 1)
      (omega arith))

-- ---- a level down

front-long : (size : ℕ) (row : List Digest) → size ≤ length row → length (there {E = Error} (take size row)) ≡ size
front-long size row within = length-map (take size row) Ok ∙ length-take-le size row within

pub node-down : (hash : NodeHash) (empty : Digest) (row : List Digest) (size level place bound : ℕ)
    → size ≤ length row → 0 < level → bound ≡ middle (level - 1) place → size ≤ bound
    → place_hash hash empty level place (take size row) ≡ place_hash hash empty (level - 1) (2 * place) (take size row)
node-down hash empty row size zero place bound within high is few = absurd (omega arith)
node-down hash empty row size (suc below) place bound within high is few =
    let e : suc below - 1 ≡ below = omega arith in
    let double : place + place ≡ 2 * place = omega arith in
    node-alone (joined hash) (Ok empty) below place (there (take size row)) (omega (
      arith,
      is,
      ap (λ n. middle n place) e,
      front-long size row within,
    ))
    ∙ ap (λ n. place_hash hash empty below n (take size row)) double
    ∙ ap (λ n. place_hash hash empty n (2 * place) (take size row)) (sym e)

node-halves : (hash : NodeHash) (empty : Digest) (row : List Digest) (size level place bound : ℕ)
    → size ≤ length row → 0 < level → bound ≡ middle (level - 1) place → bound < size
    → place_hash hash empty level place (take size row) ≡ joined hash
    (place_hash hash empty (level - 1) (2 * place) (take size row))
    (place_hash hash empty (level - 1) (2 * place + 1) (take size row))
node-halves hash empty row size zero place bound within high is more = absurd (omega arith)
node-halves hash empty row size (suc below) place bound within high is more =
    let e : suc below - 1 ≡ below = omega arith in
    let double : place + place ≡ 2 * place = omega arith in
    node-both (joined hash) (Ok empty) below place (there (take size row)) (omega (
      arith,
      is,
      ap (λ n. middle n place) e,
      front-long size row within,
    ))
    ∙ rw (double, e) refl

-- The row of a complete place has its digest.
pub place-there : (stored : StoredValue) (size level place : ℕ) → size ≤ length (row_at stored 0)
    → (place + 1) * 2 ^ level ≤ size → place < length (row_at stored level)
place-there stored size level place within complete =
    omega (
      arith,
      length-row_of stored 0,
      length-row_of stored level,
      inside-up level place stored.size (omega (arith, length-row_of stored 0)),
    )

module _ {hash : NodeHash} {rows : ℕ → List Digest} (stored : IsStored hash rows) (empty : Digest)
    (size level place bound : ℕ) (within : size ≤ length (rows 0)) (high : 0 < level)
    (is : bound ≡ middle (level - 1) place) (more : bound < size) where
  left-complete : place_hash hash empty (level - 1) (2 * place) (take size (rows 0))
      ≡ Ok (get_or (rows (level - 1)) (2 * place) [])
  left-complete =
      let h = halves level place high in
      complete-hash stored empty size (level - 1) (2 * place) within (omega (arith, h.second))

  pub edge-refused : {e : Error} → place_hash hash empty (level - 1) (2 * place + 1) (take size (rows 0)) ≡ Err e
      → place_hash hash empty level place (take size (rows 0)) ≡ Err e
  edge-refused refused =
      node-halves hash empty (rows 0) size level place bound within high is more ∙ rw (left-complete, refused) refl

  pub edge-gives : {a b c : Digest} → place_hash hash empty (level - 1) (2 * place + 1) (take size (rows 0)) ≡ Ok b
      → a ≡ get_or (rows (level - 1)) (2 * place) [] → c ≡ b
      → place_hash hash empty level place (take size (rows 0)) ≡ hash a c
  edge-gives last_is left_is same =
      node-halves hash empty (rows 0) size level place bound within high is more
      ∙ rw (left-complete, last_is, left_is, same) refl

-- ---- digests behind others

all_of-append : (xs ys : List (Outcome Digest)) → all_of (xs ++ ys) ≡ (all_of xs >>= λ front. all_of ys >>= λ back.
    Ok (front ++ back))
all_of-append [] ys = alone (all_of ys)
  where
    alone : (o : Outcome (List Digest)) → o ≡ (o >>= λ back. Ok back)
    alone (Ok back) = refl
    alone (Err e) = refl
all_of-append (Err e ∷ xs) ys = refl
all_of-append (Ok d ∷ xs) ys = ap (λ o. o >>= λ more. Ok (d ∷ more)) (all_of-append xs ys) ∙ go (all_of xs) (all_of ys)
  where
    go : (o p : Outcome (List Digest)) → ((o >>= λ front. p >>= λ back. Ok (front ++ back)) >>= λ more. Ok (d ∷ more))
        ≡ ((o >>= λ more. Ok (d ∷ more)) >>= λ front. p >>= λ back. Ok (front ++ back))
    go (Ok front) (Ok back) = refl
    go (Ok front) (Err e) = refl
    go (Err e) p = refl

behind-append : (sofar : List Digest) (xs ys : List (Outcome Digest)) → put_behind sofar (xs ++ ys)
    ≡ (put_behind sofar xs >>= λ more. put_behind more ys)
behind-append sofar xs ys = ap (λ o. o >>= path_behind sofar) (all_of-append xs ys) ∙ go (all_of xs) (all_of ys)
  where
    go : (o p : Outcome (List Digest)) → ((o >>= λ front. p >>= λ back. Ok (front ++ back)) >>= path_behind sofar)
        ≡ ((o >>= path_behind sofar) >>= λ more. p >>= path_behind more)
    go (Ok front) (Ok back) = ap Ok (sym (append_assoc sofar front back))
    go (Ok front) (Err e) = refl
    go (Err e) p = refl

behind-gives : (sofar more : List Digest) (xs ys : List (Outcome Digest)) → put_behind sofar xs ≡ Ok more
    → put_behind sofar (xs ++ ys) ≡ put_behind more ys
behind-gives sofar more xs ys is = behind-append sofar xs ys ∙ rw (is) refl

behind-refused : (sofar : List Digest) (xs ys : List (Outcome Digest)) (e : Error) → put_behind sofar xs ≡ Err e
    → put_behind sofar (xs ++ ys) ≡ Err e
behind-refused sofar xs ys e is = behind-append sofar xs ys ∙ rw (is) refl

-- none are behind
pub behind-nothing : (sofar : List Digest) → put_behind sofar [] ≡ Ok sofar
behind-nothing sofar = ap Ok (append-nil sofar)

behind-none : (xs : List (Outcome Digest)) → put_behind [] xs ≡ all_of xs
behind-none xs = go (all_of xs)
  where
    go : (o : Outcome (List Digest)) → (o >>= path_behind []) ≡ o
    go (Ok ds) = refl
    go (Err e) = refl

-- ---- the hashes around indexes, a level down

module _ (hash : NodeHash) (empty : Digest) (row : List Digest) (size place : ℕ) (within : size ≤ length row) where
  abbrev around : ℕ → ℕ → List ℕ → List (Outcome Digest)
  around level place indexes = place_hashes hash empty level place indexes (take size row)

  pub hashes-none : (level : ℕ) (indexes : List ℕ) → length indexes ≡ 0
      → around level place indexes ≡ place_hash hash empty level place (take size row) ∷ []
  hashes-none zero [] none = refl
  hashes-none (suc level) [] none = refl
  hashes-none level (i ∷ rest) none = absurd (omega arith)

  pub hashes-leaf : (level : ℕ) (indexes : List ℕ) → 0 < length indexes → level ≡ 0 → around level place indexes ≡ []
  hashes-leaf zero (i ∷ rest) some leaf = refl
  hashes-leaf (suc level) indexes some leaf = absurd (omega arith)
  hashes-leaf zero [] some leaf = absurd (omega arith)

  pub hashes-alone : (level bound : ℕ) (indexes : List ℕ) → 0 < level → 0 < length indexes
      → bound ≡ middle (level - 1) place → size ≤ bound
      → around level place indexes ≡ around (level - 1) (2 * place) indexes
  hashes-alone (suc below) bound (i ∷ rest) high some is few =
      let e : suc below - 1 ≡ below = omega arith in
      let double : place + place ≡ 2 * place = omega arith in
      rw (
        le-ltb (middle below place) (length (there {E = Error} (take size row))) (omega (
          arith,
          is,
          ap (λ n. middle n
              place) e,
          front-long size row within,
        )),
        double,
        e,
      ) refl
  hashes-alone zero bound indexes high some is few = absurd (omega arith)
  hashes-alone (suc below) bound [] high some is few = absurd (omega arith)

  pub hashes-both : (level bound : ℕ) (indexes : List ℕ) → 0 < level → 0 < length indexes
      → bound ≡ middle (level - 1) place → bound < size → (count : ℕ) → count ≡ count_below bound indexes
      → around level place indexes ≡ around (level - 1) (2 * place) (take count indexes)
      ++ around (level - 1) (2 * place + 1) (take (length indexes - count) (drop count indexes))
  hashes-both (suc below) bound (i ∷ rest) high some is more count count_is =
      let e : suc below - 1 ≡ below = omega arith in
      let double : place + place ≡ 2 * place = omega arith in
      let at = count_below (middle below place) (i ∷ rest) in
      let same : bound ≡ middle below place = is ∙ ap (λ n. middle n place) e in
      let at_is : at ≡ count = sym (count_is ∙ ap (λ n. count_below n (i ∷ rest)) same) in
      rw (
        take_rest (i ∷ rest) count,
        lt-ltb (middle below place) (length (there {E = Error} (take size row))) (omega
            (arith, same, front-long size row within)),
        at_is,
        double,
        e,
      ) refl
  hashes-both zero bound indexes high some is more count count_is = absurd (omega arith)
  hashes-both (suc below) bound [] high some is more count count_is = absurd (omega arith)

  -- what is written behind others, or the refusal in its place
  module _ (level bound : ℕ) (indexes : List ℕ) (high : 0 < level) (some : 0 < length indexes)
      (is : bound ≡ middle (level - 1) place) (more : bound < size) (count : ℕ) (count_is : count ≡ count_below bound
      indexes) (sofar : List Digest) where
    pub left-behind : (next : List Digest)
        → put_behind sofar (around (level - 1) (2 * place) (take count indexes)) ≡ Ok next
        → put_behind sofar (around level place indexes) ≡ put_behind next
        (around (level - 1) (2 * place + 1) (take (length indexes - count) (drop count indexes)))
    left-behind next known =
        ap (put_behind sofar) (hashes-both level bound indexes high some is more count count_is)
        ∙ behind-gives sofar next (around (level - 1) (2 * place) (take count indexes))
        (around (level - 1) (2 * place + 1) (take (length indexes - count) (drop count indexes))) known

    pub left-refused : (e : Error)
        → put_behind sofar (around (level - 1) (2 * place) (take count indexes)) ≡ Err e
        → put_behind sofar (around level place indexes) ≡ Err e
    left-refused e known =
        ap (put_behind sofar) (hashes-both level bound indexes high some is more count count_is)
        ∙ behind-refused sofar (around (level - 1) (2 * place) (take count indexes))
        (around (level - 1) (2 * place + 1) (take (length indexes - count) (drop count indexes))) e known

  -- one digest more
  pub one-behind : {A : Type 0} (numbers : A → Digest) (proof : List A) (level at next : ℕ) (indexes : List ℕ) (own : A)
      → length indexes ≡ 0 → place_hash hash empty level place (take size row) ≡ Ok (numbers own) → at < length proof
      → next ≡ at + 1 → put_behind (map numbers (take at proof)) (around level place indexes)
      ≡ Ok (map numbers (take next (set proof at own)))
  one-behind numbers proof level at next indexes own none known inside next_is =
      ap (put_behind (map numbers (take at proof))) (hashes-none level indexes none)
      ∙ rw (known, next_is, take_more_set proof at own inside, map-append) refl

  pub one-refused : (sofar : List Digest) (level : ℕ) (indexes : List ℕ) (e : Error) → length indexes ≡ 0
      → place_hash hash empty level place (take size row) ≡ Err e
      → put_behind sofar (around level place indexes) ≡ Err e
  one-refused sofar level indexes e none known =
      ap (put_behind sofar) (hashes-none level indexes none) ∙ rw (known) refl

-- ---- the whole proof

around-level : (hash : NodeHash) (empty : Digest) (row : List Digest) (size : ℕ) → size ≤ length row
    → (indexes : List ℕ) (m : ℕ) → size ≤ 2 ^ m → 0 < length indexes
    → place_hashes hash empty (suc m) 0 indexes (take size row) ≡ place_hashes hash empty m 0 indexes (take size row)
around-level hash empty row size within (i ∷ rest) m low some =
    rw (le-ltb (middle m 0) (length (there {E = Error} (take size row))) (omega (
      arith,
      middle-first m 0,
      front-long size row within,
    ))) refl
around-level hash empty row size within [] m low some = absurd (omega arith)

proof-levels : (hash : NodeHash) (empty : Digest) (row : List Digest) (size k : ℕ) (indexes : List ℕ)
    → size ≤ length row → size ≤ 2 ^ k → are_multi_indexes size indexes ≡ true
    → multi_proof hash empty indexes (take size row) ≡ place_hashes hash empty k 0 indexes (take size row)
proof-levels hash empty row size k indexes within low form =
    ap (λ n. place_hashes hash empty n 0 indexes (take size row)) (length-take-le size row within)
    ∙ sym (stays_both (λ n. place_hashes hash empty n 0 indexes (take size row)) size size k (omega (
      arith,
      pow_above
          size,
    )) low (λ m le. around-level hash empty row size within indexes m le (some-indexes size indexes form)))

pub proof-behind : (hash : NodeHash) (empty : Digest) (row : List Digest) (size k : ℕ) (indexes : List ℕ)
    → size ≤ length row → size ≤ 2 ^ k → are_multi_indexes size indexes ≡ true
    → all_of (multi_proof hash empty indexes (take size row))
    ≡ put_behind [] (place_hashes hash empty k 0 indexes (take size row))
proof-behind hash empty row size k indexes within low form =
    ap all_of (proof-levels hash empty row size k indexes within low form)
    ∙ sym (behind-none (place_hashes hash empty k 0 indexes (take size row)))
