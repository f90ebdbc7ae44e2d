-- What the root after an insertion says of each list, and a list's own insertion.
use Rattle.std.proofs.Common.{zero, suc, ◌≡◌, ◌⊎◌, ℕ, ◌+◌, ◌-◌, ◌*◌, ◌/◌, ◌%◌, ◌<◌, ◌≤◌, ◌^◌, ◌==◌, nat_lt, Bool, true, false, if◌then◌else◌, List, [], ◌∷◌, ◌++◌, length, take, drop, get_or, Ok, Some, None, Option, arith, pow_pos, refl, ap, subst, sym, ◌∙◌, inl, inr}
use Rattle.std.proofs.lemmas.Bool.{cases_lt, cases_Bool, lt-ltb, eq-eqb, eqb-true, and_from, and_parts}
use Rattle.std.proofs.lemmas.List.{append-nil, drop-drop, drop-map, get_or-drop, length-append, length-drop, length-map, length-take-le, nil_from_length, take_all}
use Rattle.std.proofs.lemmas.Nat.{div-mul-add, mod-mul-add, ones_cat}
use Rattle.std.proofs.lemmas.Slice.Eq.{bytes_eq-Decides}
use Rattle.std.specs.Prelude.{count_ones}
use Rattle.ark_base.specs.declared.error.Error.{Error}
use Rattle.ark_base.specs.Outcome.{Outcome, ◌>>=◌}
use Rattle.ark_base.specs.Laws.Steps.{bind_ok, done_injective}
use Rattle.ark_paths.specs.Pair.{Digest, digest_eq}
use Rattle.merkle_log.specs.Collision.{Collide, IsTreePair}
use Rattle.merkle_log.specs.Frontier.{frontier, IsFrontier}
use Rattle.merkle_log.specs.Insertion.{BindsInsertion, InsertionCollidesAt, IsInsertion, can_insert, insertion_root, makes_root, peaks_above, peaks_hash, root_over, some_digest}
use Rattle.merkle_log.specs.Log.{NodeHash, merkle_tree_hash}
use Rattle.merkle_log.specs.Trees.{node, tree_hash}
use Rattle.merkle_log.specs.Walk.{index_up, joined}
use Rattle.merkle_log.proofs.Above.{joined-ok, there}
use Rattle.merkle_log.proofs.Inserting.{known-both, known-down, known-levels, known-one, power-one, some-ones, one-or-not, made-over, none-over}
use Rattle.merkle_log.proofs.Levels.{up-is}
use Rattle.merkle_log.proofs.MultiParts.{left-first, middle-first, node-alone, node-both, node-top}
use Rattle.merkle_log.proofs.Peaks.{frontier-any, root-folded}
use Rattle.merkle_log.proofs.Positions.{half_ones}
use Rattle.merkle_log.proofs.Subtrees.{frontier-first, no-ones}
use Rattle.merkle_log.proofs.Tests.{twice}
use Rattle.merkle_log.proofs.TreePairs.{same_pairs}
use Rattle.merkle_log.proofs.Verdicts.{pow_above, same_digests, tree_hash-levels}
use Rattle.merkle_log.proofs.InsertionOwn.{first-and-rest, first-any, length-frontier, no-frontier, only-one, own-hash, peaks-count, tree_hash-some}

-- ---- each list with the root

ones-double : (place : ℕ) → count_ones (place + place) ≡ count_ones place
ones-double place =
    let half : (place + place) / 2 ≡ place = omega arith in omega (arith, half_ones (place + place), ap count_ones half)

ones-next : (place : ℕ) → count_ones (place + place + 1) ≡ suc (count_ones place)
ones-next place =
    let half : (place + place + 1) / 2 ≡ place = omega arith in
    omega (arith, half_ones (place + place + 1), ap count_ones half)

-- The first tree of a list and the frontier behind it are the list's frontier.
front-joined : (hash : NodeHash) (empty : Digest) (k : ℕ) (list peaks : List Digest) (size : ℕ) → length list ≡ size
    → 2 ^ k ≤ size → size < 2 ^ suc k → 0 < length peaks
    → tree_hash (joined hash) (Ok empty) k (take (2 ^ k) (there list)) ≡ Ok (get_or peaks 0 empty)
    → IsFrontier hash (drop (2 ^ k) list) (size - 2 ^ k) (drop 1 peaks) → IsFrontier hash list size peaks
front-joined hash empty k list peaks size long low high some first rest = record {
  size_is = long;
  peaks_are = λ none.
      let all = length-map {B = Outcome Digest} list Ok in
      let behind = drop (2 ^ k) list in
      let behind_long = length-map {B = Outcome Digest} behind Ok in
      let short : length behind ≡ size - 2 ^ k = rest.size_is in
      let front_long = length-take-le (2 ^ k) (there {E = Error} list) (omega (arith, all, long, low)) in
      frontier-any (joined hash) (Ok none) (length list) (suc k) (there list) (omega (
        arith,
        all,
        pow_above (length
            list),
      )) (omega (arith, all, long, high))
      ∙ frontier-first (joined hash) (Ok none) k (there list) (omega (arith, all, long, low)) (omega
      (arith, all, long, high))
      ∙ ap (λ o. o ∷ frontier (joined hash) (Ok none) k (drop (2 ^ k) (there list))) (tree_hash-some (joined hash)
      (Ok none) (Ok empty) k (take (2 ^ k) (there list)) (omega (arith, front_long, pow_pos k)) ∙ first)
      ∙ ap (λ l. Ok (get_or peaks 0 empty) ∷ l) (ap (frontier (joined hash) (Ok none) k) (drop-map Ok (2 ^ k) list)
      ∙ frontier-any (joined hash) (Ok none) k (length behind) (there behind) (omega
      (arith, behind_long, short, high, low, twice k)) (omega (arith, behind_long, pow_above (length behind)))
      ∙ rest.peaks_are none)
      ∙ ap there (first-and-rest peaks some empty);
}

module _ (hash : NodeHash) (old empty : Digest) (digests peaks : List Digest) (size : ℕ)
    (long : length digests ≡ size) (count : length peaks ≡ count_ones size) where
  abbrev Clash : Type 0
  Clash = (level : ℕ) × InsertionCollidesAt hash empty digests old peaks level

  all : length (there {E = Error} digests) ≡ size
  all = length-map {B = Outcome Digest} digests Ok ∙ long

  module _ (k place s : ℕ) (at : place * 2 ^ k + s ≡ size) (some : 0 < s) (few : s < 2 ^ k) where
    abbrev part : List Digest
    part = drop (place * 2 ^ k) digests

    abbrev ps : List Digest
    ps = drop (count_ones place) peaks

    part-long : length part ≡ s
    part-long = omega (arith, length-drop (place * 2 ^ k) digests, long, at)

    ps-long : length ps ≡ count_ones s
    ps-long = omega
        (arith, length-drop (count_ones place) peaks, count, sym (ap count_ones at), ones_cat k place s few)

    node-part : node (joined hash) (Ok empty) k place (there digests)
        ≡ tree_hash (joined hash) (Ok empty) k (there part)
    node-part =
        ap (λ l. tree_hash (joined hash) (Ok empty) k (take (2 ^ k) l)) (drop-map Ok (place * 2 ^ k) digests)
        ∙ ap (tree_hash (joined hash) (Ok empty) k) (take_all (2 ^ k) (there part) (omega
        (arith, length-map {B = Outcome Digest} part Ok, part-long, few)))

    one-peak : (root : Digest) → count_ones s ≡ 1
        → node (joined hash) (Ok empty) k place (there digests) ≡ Ok root → peaks_hash hash old k s ps [] ≡ Ok root
        → IsFrontier hash part s ps
    one-peak root one tree known = record {
      size_is = part-long;
      peaks_are = λ none.
          let row = frontier (joined hash) (Ok none) (length part) (there part) in
          let rows = length-map {B = Outcome Digest} part Ok in
          let high = pow_above (length part) in
          let single = only-one row (length-frontier (joined hash) (Ok none) (length part) (there part) (omega
          (arith, rows, high)) ∙ ap count_ones (rows ∙ part-long) ∙ one) (Ok none) in
          let root_is : tree_hash (joined hash) (Ok none) (length part) (there part) ≡ Ok root =
          tree_hash-some (joined hash) (Ok none) (Ok empty) (length part) (there part) (omega
          (arith, rows, part-long, some))
          ∙ sym (tree_hash-levels (joined hash) (Ok empty) (length part) (k + length part) (there part) (omega
          (arith, rows, high)) (omega arith))
          ∙ tree_hash-levels (joined hash) (Ok empty) k (k + length part) (there part) (omega
          (arith, rows, part-long, few)) (omega arith)
          ∙ sym node-part ∙ tree in
          let own : get_or (ps ++ []) 0 old ≡ root = done_injective {E = Error} (get_or (ps ++ []) 0 old) root
          (sym (known-one hash old k s ps [] (omega (arith, ps-long, one))) ∙ known) in
          single
          ∙ ap (λ o. o ∷ []) (sym (root-folded (joined hash) (Ok none) (length part) (there part) []
          (get_or row 0 (Ok none)) (omega (arith, rows, high)) single) ∙ root_is ∙ ap Ok (sym own))
          ∙ ap (λ d. Ok d ∷ []) (ap (λ l. get_or l 0 old) (append-nil ps))
          ∙ ap there (sym (only-one ps (ps-long ∙ one) old));
    }

  clash : (k place s : ℕ) (a b c d root : Digest) → place * 2 ^ suc k + s ≡ size → s < 2 ^ suc k → 2 ^ k < s
      → get_or (drop (count_ones place) peaks) 0 old ≡ a
      → peaks_hash hash old k (s - 2 ^ k) (drop 1 (drop (count_ones place) peaks)) [] ≡ Ok b
      → node (joined hash) (Ok empty) k (place + place) (there digests) ≡ Ok c
      → node (joined hash) (Ok empty) k (place + place + 1) (there digests) ≡ Ok d
      → Collide hash (a, b) (c, d) → Clash
  clash k place s a b c d root at few above first rest left right collide =
      let up : index_up (suc k) (length digests) ≡ place = up-is (suc k) (length digests)
      ∙ ap (λ n. n / 2 ^ suc k) (long ∙ sym at) ∙ div-mul-add place (2 ^ suc k) s few in
      let two = twice k in
      let middle_at = middle-first k place in
      let here : size ≡ (place + place + 1) * 2 ^ k + (s - 2 ^ k) = omega (arith, middle_at, at, above) in
      let low : length digests % 2 ^ k ≡ s - 2 ^ k = ap (λ n. n % 2 ^ k) (long ∙ here)
      ∙ mod-mul-add (place + place + 1) (2 ^ k) (s - 2 ^ k) (omega (arith, few, two, above)) in
      let none : count_ones place + 0 ≡ count_ones place = omega arith in
      let Tree : ℕ → Type 0 = λ n. IsTreePair hash (Ok empty) digests k n (c, d) in (
        k,
        record {
          pair = (a, b);
          hashed = record {
            left = ap (λ n. get_or peaks (count_ones n) old) up ∙ ap (λ n. get_or peaks n old) (sym none)
                ∙ sym (get_or-drop (count_ones place) peaks 0 old) ∙ first;
            right = ap (λ n. peaks_hash hash old k n (drop (suc (peaks_above k (length digests))) peaks) []) low
                ∙ ap (λ n. peaks_hash hash old k (s - 2 ^ k) (drop (suc (count_ones n)) peaks) []) up
                ∙ ap (λ l. peaks_hash hash old k (s - 2 ^ k) l []) (sym (rest-drop (count_ones place))) ∙ rest;
          };
          own = (c, d);
          tree = subst Tree (sym up) (record {
            inside = omega (arith, here, above, long);
            left = left;
            right = right;
          });
          collide = collide;
        },
      )
    where
      rest-drop : (n : ℕ) → drop 1 (drop n peaks) ≡ drop (suc n) peaks
      rest-drop n = let e : n + 1 ≡ suc n = omega arith in drop-drop 1 n peaks ∙ ap (λ m. drop m peaks) e

  bound : (k place s : ℕ) (root : Digest) → place * 2 ^ k + s ≡ size → 0 < s → s < 2 ^ k
      → node (joined hash) (Ok empty) k place (there digests) ≡ Ok root
      → peaks_hash hash old k s (drop (count_ones place) peaks) [] ≡ Ok root
      → IsFrontier hash (drop (place * 2 ^ k) digests) s (drop (count_ones place) peaks) ⊎ Clash
  bound zero place s root at some few tree known = absurd (omega (arith, some, few))
  bound (suc k) place s root at some few tree known = elim (one-or-not (count_ones s)) [
    | inl one ↦ inl (one-peak (suc k) place s at some few root one tree known)
    | inr many ↦ elim (cases_lt (2 ^ k) s) [
      | inr low ↦
          let less : s < 2 ^ k = elim (cases_lt s (2 ^ k)) [
            | inl less ↦ less
            | inr ge ↦ absurd (many (
                let whole : s ≡ 2 ^ k = omega (arith, ge, low) in ap count_ones whole ∙ power-one k
                ))
          ] in
          let from = left-first k place in
          let Front : ℕ → ℕ → Type 0 = λ m n. IsFrontier hash (drop m digests) s (drop n peaks) in
          elim (bound k (place + place) s root (omega (arith, from, at)) some less
          (sym (node-alone (joined hash) (Ok empty) k place (there digests) (omega
          (arith, all, middle-first k place, at, low))) ∙ tree)
          (ap (λ n. peaks_hash hash old k s (drop n peaks) []) (ones-double place)
          ∙ sym (known-down hash old k s (drop (count_ones place) peaks) [] (omega (arith, low))) ∙ known)) [
            | inr clash ↦ inr clash
            | inl front ↦ inl (subst (λ m. Front m (count_ones place)) (sym from)
                (subst (Front ((place + place) * 2 ^ k)) (ones-double place) front))
          ]
      | inl above ↦
          let qs = drop (count_ones place) peaks in
          let two = twice k in
          let many_peaks : length qs ≡ count_ones s = ps-long (suc k) place s at some few in
          let some_peaks : 0 < length qs = omega (arith, many_peaks, some-ones s some) in
          let nothing : 2 ^ k - 2 ^ k ≡ 0 = omega arith in
          let split : joined hash (Ok (get_or (take 1 qs ++ []) 0 old)) (peaks_hash hash old k (s - 2 ^ k) (drop 1 qs)
          []) ≡ Ok root =
          ap (λ o. joined hash o (peaks_hash hash old k (s - 2 ^ k) (drop 1 qs) [])) (sym (known-one hash old k (2 ^ k)
          (take 1 qs) [] (omega (arith, length-take-le 1 qs (omega (arith, some_peaks))))))
          ∙ sym (known-both hash old k s (2 ^ k) qs [] (omega (arith, above)) (λ one. many (omega
          (arith, one, many_peaks))) (omega (arith, above))
          ∙ ap (λ n. joined hash (peaks_hash hash old k (2 ^ k) (take n qs) (take (2 ^ k - 2 ^ k) [])) (peaks_hash hash
          old k (s - 2 ^ k) (drop n qs) (drop (2 ^ k - 2 ^ k) []))) (power-one k)
          ∙ ap (λ n. joined hash (peaks_hash hash old k (2 ^ k) (take 1 qs) (take n [])) (peaks_hash hash
          old k (s - 2 ^ k) (drop 1 qs) (drop n []))) nothing)
          ∙ known in
          let both = joined-ok hash _ _ root split in
          let first : get_or qs 0 old ≡ both.0 = first-any qs some_peaks old old ∙ done_injective {E = Error}
          (get_or (take 1 qs ++ []) 0 old) both.0 both.2 in
          let own = joined-ok hash _ _ root (sym (node-both (joined hash) (Ok empty) k place (there digests) (omega
          (arith, all, middle-first k place, at, above))) ∙ tree) in
          elim (same_pairs same_digests hash (both.0, both.1) (own.0, own.1) root both.4 own.4) [
            | inr collide ↦ inr (clash k place s both.0 both.1 own.0 own.1 root at few above first both.3 own.2 own.3
                collide)
            | inl same ↦
                let from = middle-first k place in
                let behind : drop (count_ones (place + place + 1)) peaks ≡ drop 1 qs = ap (λ n. drop n peaks)
                (ones-next place ∙ omega arith) ∙ sym (drop-drop 1 (count_ones place) peaks) in
                let Front : ℕ → List Digest → Type 0 = λ m l. IsFrontier hash (drop m digests) (s - 2 ^ k) l in
                elim (bound k (place + place + 1) (s - 2 ^ k) both.1 (omega (arith, from, at, above)) (omega
                (arith, above)) (omega (arith, above, few, two)) (own.3 ∙ ap (λ q. Ok q.1) (sym same))
                (ap (λ l. peaks_hash hash old k (s - 2 ^ k) l []) behind ∙ both.3)) [
                  | inr clash ↦ inr clash
                  | inl rest ↦ inl (front-joined hash empty k (drop (place * 2 ^ suc k) digests) qs s
                      (part-long (suc k) place s at some few) (omega (arith, above)) few some_peaks
                      (ap (λ l. tree_hash (joined hash) (Ok empty) k (take (2 ^ k) l)) (sym (drop-map Ok
                      (place * 2 ^ suc k) digests) ∙ ap (λ n. drop n (there digests)) (left-first k place))
                      ∙ own.2 ∙ ap (λ q. Ok q.0) (sym same) ∙ ap Ok (sym first ∙ first-any qs some_peaks old empty
                      ∙ sym (first-any qs some_peaks empty empty)))
                      (let Behind : List Digest → Type 0 = λ l. IsFrontier hash l (s - 2 ^ k) (drop 1 qs) in
                      subst Behind (ap (λ n. drop n digests) from ∙ sym (drop-drop (2 ^ k) (place * 2 ^ suc k)
                      digests)) (subst (Front ((place + place + 1) * 2 ^ k)) behind rest)))
                ]
          ]
    ]
  ]

-- ---- the root after an insertion

some-not : (new : Digest) → Path (Outcome (Option Digest)) (Ok None) (Ok (Some new)) → ⊥
some-not new e = absurd cc

-- Where a root comes the proof has as many peaks as the size has ones, they make the old root, and with the digests
-- behind them the new one.
insertion-parts : (hash : NodeHash) (old : Digest) (size : ℕ) (proof more : List Digest) (new : Digest)
    → insertion_root hash old size proof more ≡ Ok (Some new) → (length proof ≡ count_ones size)
    × (root_over hash old size proof [] ≡ Ok old) × (root_over hash old size proof more ≡ Ok new)
insertion-parts hash old size proof more new is = elim (cases_Bool (can_insert size (length proof) (length more))) [
  | inr none ↦ absurd (some-not new (rw (none) at is))
  | inl can ↦
      let step = bind_ok (root_over hash old size proof []) (λ made. Ok (digest_eq made old)) in
      let first = bind_ok (makes_root hash old size proof) (λ made. if made then (some_digest (root_over hash old size
      proof more)) else (Ok None)) (Some new) (rw (can) at is) in
      let made = made-true first.0 first.2 in
      let own = step true (first.1 ∙ ap Ok made) in
      let parts = and_parts (length proof == count_ones size) (nat_lt (size + length more) (2 ^ 64)) can in
      let last = bind_ok (root_over hash old size proof more) (λ digest. Ok (Some digest)) (Some new)
      (rw (made) at first.2) in (
        eqb-true (length proof) (count_ones size) parts.0,
        own.1 ∙ ap Ok ((bytes_eq-Decides own.0 old).0 (done_injective {E = Error} (digest_eq own.0 old) true own.2)),
        last.1 ∙ ap Ok (some-same last.0 (done_injective {E = Error} (Some last.0) (Some new) last.2)),
      )
]
  where
    some-same : (x : Digest) → Path (Option Digest) (Some x) (Some new) → x ≡ new
    some-same x e = cc

    made-true : (made : Bool) → (if made then (some_digest (root_over hash old size proof more)) else (Ok None))
        ≡ Ok (Some new) → made ≡ true
    made-true true e = refl
    made-true false e = absurd (some-not new e)

-- By a list's own frontier, with its root, the hash of peaks is the root with the digests behind it.
own-root : (hash : NodeHash) (old empty : Digest) (digests : List Digest) (size : ℕ) (proof more : List Digest)
    → IsFrontier hash digests size proof → merkle_tree_hash hash empty digests ≡ Ok old
    → root_over hash old size proof more ≡ merkle_tree_hash hash empty (digests ++ more)
own-root hash old empty digests size proof more own tree = elim (cases_lt 0 (size + length more)) [
  | inl some ↦
      let total = size + length more in
      let long : total ≡ length (digests ++ more) = sym (length-append digests more ∙ ap (λ n. n + length more)
      own.size_is) in
      own-hash hash old empty total digests size proof more own (omega (arith, pow_above total)) some
      ∙ ap (λ n. tree_hash (joined hash) (Ok empty) n (there (digests ++ more))) long
  | inr none ↦
      let no_more = nil_from_length more (omega (arith, none)) in
      none-over hash old size proof more (peaks-count own) (omega (arith, none)) ∙ sym (ap (λ l. merkle_tree_hash hash
      empty (digests ++ l)) no_more ∙ ap (merkle_tree_hash hash empty) (append-nil digests) ∙ tree)
]

pub insertion-bound : (hash : NodeHash) (old : Digest) (size : ℕ) (proof more : List Digest) (new : Digest)
    → insertion_root hash old size proof more ≡ Ok (Some new) → BindsInsertion hash old size proof more new
insertion-bound hash old size proof more new is empty digests long tree =
    let parts = insertion-parts hash old size proof more new is in
    elim (own-or-clash (cases_lt 0 size) parts.0 parts.1) [
      | inl own ↦ inl (sym (own-root hash old empty digests size proof more own tree) ∙ parts.2)
      | inr clash ↦ inr clash
    ]
  where
    own-or-clash : (0 < size) ⊎ (size ≤ 0) → length proof ≡ count_ones size → root_over hash old size proof [] ≡ Ok old
        → IsFrontier hash digests size proof ⊎ ((level : ℕ) × InsertionCollidesAt hash empty digests old proof level)
    own-or-clash (inl some) count made =
        let none : 0 * 2 ^ size ≡ 0 = omega arith in
        let high = pow_above size in
        let all = length-map {B = Outcome Digest} digests Ok in
        let Front : ℕ → ℕ → Type 0 = λ m n. IsFrontier hash (drop m digests) size (drop n proof) in
        elim (bound hash old empty digests proof size long count size 0 size old (omega (arith, none)) some high
        (node-top (joined hash) (Ok empty) size (there digests) (omega (arith, all, long, high)) ∙ ap (λ n. tree_hash
        (joined hash) (Ok empty) n (there digests)) (sym long) ∙ tree)
        (ap (λ n. peaks_hash hash old size size (drop n proof) []) no-ones
        ∙ sym (known-levels hash old size size proof [] (omega (arith, high))) ∙ made)) [
          | inr clash ↦ inr clash
          | inl front ↦ inl (subst (λ m. Front m 0) none (subst (Front (0 * 2 ^ size)) no-ones front))
        ]
    own-or-clash (inr few) count made =
        let nothing : size ≡ 0 = omega (arith, few) in
        let no_digests = nil_from_length digests (long ∙ nothing) in
        let no_proof = nil_from_length proof (count ∙ ap count_ones nothing ∙ no-ones) in
        inl (rw (nothing, no_digests, no_proof) (no-frontier hash))

pub insertion-own : (hash : NodeHash) (old : Digest) (size : ℕ) (proof more : List Digest) (empty : Digest)
    (digests : List Digest) → IsInsertion hash old size proof (length more) empty digests
    → insertion_root hash old size proof more ≡ some_digest (merkle_tree_hash hash empty (digests ++ more))
insertion-own hash old size proof more empty digests own =
    let can : can_insert size (length proof) (length more) ≡ true = and_from (length proof == count_ones size)
    (nat_lt (size + length more) (2 ^ 64)) (eq-eqb (length proof) (count_ones size) (peaks-count own.frontier))
    (lt-ltb (size + length more) (2 ^ 64) own.fits) in
    let made : makes_root hash old size proof ≡ Ok true =
    ap (λ o. o >>= λ made. Ok (digest_eq made old)) (own-root hash old empty digests size proof [] own.frontier
    own.root_is ∙ ap (merkle_tree_hash hash empty) (append-nil digests) ∙ own.root_is)
    ∙ ap Ok ((bytes_eq-Decides old old).1 refl) in
    made-over hash old size proof more can made
    ∙ ap some_digest (own-root hash old empty digests size proof more own.frontier own.root_is)
