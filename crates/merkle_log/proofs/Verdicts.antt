-- What the verdicts on proofs say.
use Rattle.std.proofs.Common.{zero, suc, ◌≡◌, ◌≢◌, ℕ, ◌+◌, ◌-◌, ◌<◌, ◌≤◌, ◌^◌, ◌⊎◌, Bool, true, false, ◌&&◌, List, [], length, take, Ok, Err, Option, Some, None, arith, refl, ap, sym, ◌∙◌, inl, inr, pow_pos}
use Rattle.std.proofs.lemmas.Bool.{cases_lt, lt-ltb, le-ltb, eq-eqb, ne_eqb, and_parts, false≢true}
use Rattle.std.proofs.lemmas.List.{length-map, length-take-le, take_all}
use Rattle.std.proofs.lemmas.Slice.Eq.{bytes_eq-Decides}
use Rattle.std.specs.Str.{bytes_eq}
use Rattle.ark_base.specs.declared.error.Error.{Error}
use Rattle.ark_base.specs.Outcome.{Outcome, ◌>>=◌}
use Rattle.ark_base.specs.Laws.Steps.{bind_ok, done, done_injective}
use Rattle.merkle_log.specs.Trees.{tree_hash, subproof}
use Rattle.merkle_log.specs.Walk.{joined, walk, on_left, on_right, both_roots}
use Rattle.ark_paths.specs.Pair.{Digest, Hashes}
use Rattle.merkle_log.specs.Log.{NodeHash, merkle_tree_hash}
use Rattle.merkle_log.specs.Verdict.{ends_at, ends_at_both, is_empty, inclusion_verdict, consistency_verdict, leaf_verdict}
use Rattle.merkle_log.specs.Bind.{BindsDigest, BindsLogLeaf, BindsFront, BindsOldRoot, IsInclusion, IsLeafInclusion, IsConsistency}
use Rattle.merkle_log.specs.Collision.{InTrees}
use Rattle.merkle_log.proofs.Tests.{twice, stays, power-rises}
use Rattle.merkle_log.proofs.Above.{there}
use Rattle.merkle_log.proofs.TreePairs.{pair_same}
use Rattle.merkle_log.proofs.Sound.{walk-binds}
use Rattle.merkle_log.proofs.Agree.{both_roots-agree, same_root}
use Rattle.merkle_log.proofs.Begins.{both_roots-begins}
use Rattle.merkle_log.proofs.Own.{walk-own, both_roots-own}

pub same_digests : (x y : Digest) → (x ≡ y) ⊎ (x ≢ y)
same_digests x y = by_test (bytes_eq x y) refl
  where
    by_test : (b : Bool) → bytes_eq x y ≡ b → (x ≡ y) ⊎ (x ≢ y)
    by_test true e = inl ((bytes_eq-Decides x y).0 e)
    by_test false e = inr (λ same. let t = (bytes_eq-Decides x y).1 same in absurd cc)

pub pow_above : (n : ℕ) → n < 2 ^ n
pow_above zero = pow_pos 0
pow_above (suc n) = let t = twice n in let h = pow_above n in omega arith

-- Levels above a whole tree change nothing.
pub tree_hash-levels : {A : Type 0} (join : A → A → A) (none : A) (k n : ℕ) (xs : List A) → length xs ≤ 2 ^ k → k ≤ n
    → tree_hash join none n xs ≡ tree_hash join none k xs
tree_hash-levels join none k n xs long le = stays (λ n. tree_hash join none n xs) k n le (λ m more.
    rw (le-ltb (2 ^ m) (length xs) (omega (arith, power-rises k m more))) refl)

-- a tree by the number of its leaves
sized : (hash : NodeHash) (empty : Digest) (digests : List Digest) (size : ℕ) (root : Digest) → length digests ≡ size
    → merkle_tree_hash hash empty digests ≡ Ok root → tree_hash (joined hash) (Ok empty) size (there digests) ≡ Ok root
sized hash empty digests size root long tree = rw (← long) tree

-- ---- inclusion

pub refused : (b : Bool) → done {E = Error} b ≡ done true → b ≡ true
refused b e = done_injective b true e

not_accepted : done {E = Error} false ≡ done true → ⊥
not_accepted e = false≢true (refused false e)

-- a way that was accepted
pub ended_at : (root : Digest) (o : Outcome (Option Digest)) → (o >>= ends_at root) ≡ Ok true → o ≡ Ok (Some root)
ended_at root (Err e) is = absurd cc
ended_at root (Ok None) is = absurd (not_accepted is)
ended_at root (Ok (Some end)) is =
    ap (λ d. Ok (Some d)) ((bytes_eq-Decides end root).0 (refused (bytes_eq end root) is))

pub inclusion-bound : (hash : NodeHash) (root : Digest) (size index : ℕ) (digest : Digest) (path : List Digest)
    → inclusion_verdict hash root size index digest path ≡ Ok true → BindsDigest hash root size index digest path
inclusion-bound hash root size index digest path is empty digests long tree = elim (cases_lt index size) [
  | inl inside ↦
      rw (long) (walk-binds same_digests hash [] (Ok empty) size index (size - 1) digest path root digests (omega arith)
      (omega arith) (omega (arith, pow_above size)) (sized hash empty digests size root long tree)
      (ended_at root _ (rw (lt-ltb index size inside) at is)))
  | inr outside ↦ absurd (not_accepted (rw (le-ltb index size outside) at is))
]

pub inclusion-own : (hash : NodeHash) (root : Digest) (size index : ℕ) (digest : Digest) (path : List Digest)
    → IsInclusion hash root size index digest path → inclusion_verdict hash root size index digest path ≡ Ok true
inclusion-own hash root size index digest path own =
    let inside = own.inside in
    let way = walk-own hash [] (Ok own.empty) size index (size - 1) own.digests path root (omega (arith, own.size_is))
    (omega arith) (omega (arith, pow_above size)) (sized hash own.empty own.digests size root own.size_is own.root_is)
    (ap (λ n. Rattle.merkle_log.specs.Trees.path (joined hash) (Ok own.empty) n index (there own.digests))
    (sym own.size_is) ∙ own.path_is) in
    rw (lt-ltb index size inside) (ap (λ d. walk (on_left hash) (on_right hash) size index (size - 1) d path >>= ends_at
    root) (sym own.digest_is) ∙ ap (λ o. o >>= ends_at root) way ∙ ap Ok ((bytes_eq-Decides root root).1 refl))

-- ---- of a leaf

module _ {A : Type 0} (hashes : Hashes A) (root : Digest) (size index : ℕ) (leaf : A) (path : List Digest) where
  pub leaf_inside : index < size → leaf_verdict hashes root size index leaf path ≡ (hashes.leaf leaf >>= λ digest.
      inclusion_verdict hashes.pair.upper root size index digest path)
  leaf_inside inside = rw (lt-ltb index size inside) refl

  pub leaf-bound : leaf_verdict hashes root size index leaf path ≡ Ok true
      → BindsLogLeaf hashes root size index leaf path
  leaf-bound is = elim (cases_lt index size) [
    | inl inside ↦
        let hashed = bind_ok (hashes.leaf leaf) (λ digest. inclusion_verdict hashes.pair.upper root size index digest
        path) true (sym (leaf_inside inside) ∙ is) in
        (hashed.0, hashed.1, inclusion-bound hashes.pair.upper root size index hashed.0 path hashed.2)
    | inr outside ↦ absurd (not_accepted (rw (le-ltb index size outside) at is))
  ]

  pub leaf-own : IsLeafInclusion hashes root size index leaf path → leaf_verdict hashes root size index leaf
      path ≡ Ok true
  leaf-own own =
      leaf_inside own.2.inside ∙ ap (λ o. o >>= λ digest. inclusion_verdict hashes.pair.upper root size index digest
      path) own.1
      ∙ inclusion-own hashes.pair.upper root size index own.0 path own.2

-- ---- consistency

ended_at_both : (old new : Digest) (o : Outcome (Option (Digest × Digest))) → (o >>= ends_at_both old new) ≡ Ok true → o
    ≡ Ok (Some (old, new))
ended_at_both old new (Err e) is = absurd cc
ended_at_both old new (Ok None) is = absurd (not_accepted is)
ended_at_both old new (Ok (Some ends)) is =
    let both = and_parts (bytes_eq ends.0 old) (bytes_eq ends.1 new) (refused _ is) in
    ap (λ d. Ok (Some d)) (pair_same ends (old, new) ((bytes_eq-Decides ends.0 old).0 both.0)
    ((bytes_eq-Decides ends.1 new).0 both.1))

-- the three cases of the sizes
module _ (hash : NodeHash) (old_size : ℕ) (old : Digest) (size : ℕ) (new : Digest) (path : List Digest) where
  sizes-refused : (old_size ≡ 0) ⊎ (size < old_size) → consistency_verdict hash old_size old size new path ≡ Ok false
  sizes-refused (inl e) = rw (eq-eqb old_size 0 e) refl
  sizes-refused (inr e) = rw (ne_eqb old_size 0 (λ none. omega arith), lt-ltb size old_size e) refl

  sizes-same : 0 < old_size → old_size ≡ size → consistency_verdict hash old_size old size new path
      ≡ Ok (is_empty path && bytes_eq old new)
  sizes-same some same = rw (
    ne_eqb old_size 0 (λ none. omega arith),
    le-ltb size old_size (omega arith),
    eq-eqb old_size size same,
  ) refl

  pub sizes-grown : 0 < old_size → old_size < size → consistency_verdict hash old_size old size new path
      ≡ (both_roots hash size (old_size - 1) (size - 1) old path >>= ends_at_both old new)
  sizes-grown some more = rw (
    ne_eqb old_size 0 (λ none. omega arith),
    le-ltb size old_size (omega arith),
    ne_eqb old_size size (λ same. omega arith),
  ) refl

  -- the old tree, with as many levels as the new one
  tree_hash-wider : (empty : Digest) (ds : List Digest) → length ds ≡ old_size → old_size ≤ size → merkle_tree_hash hash
      empty ds ≡ Ok old → tree_hash (joined hash) (Ok empty) size (there ds) ≡ Ok old
  tree_hash-wider empty ds long le tree =
      tree_hash-levels (joined hash) (Ok empty) old_size size (there ds)
      (omega (arith, pow_above old_size, length-map {B = Outcome Digest} ds Ok)) le
      ∙ sized hash empty ds old_size old long tree

  pub consistency-bound : consistency_verdict hash old_size old size new path ≡ Ok true → BindsFront hash old_size old
      size new path
  consistency-bound is empty old_digests digests old_long long old_tree tree = elim (cases_lt 0 old_size) [
    | inr none ↦ absurd (not_accepted (sym (sizes-refused (inl (omega arith))) ∙ is))
    | inl some ↦ elim (cases_lt size old_size) [
      | inl less ↦ absurd (not_accepted (sym (sizes-refused (inr less)) ∙ is))
      | inr le ↦
          let wide = tree_hash-wider empty old_digests old_long le old_tree in
          let high = pow_above size in
          let new_tree = sized hash empty digests size new long tree in
          elim (cases_lt old_size size) [
            | inr ge ↦
                let same : old_size ≡ size = omega arith in
                let roots = (bytes_eq-Decides old new).0 (and_parts (is_empty path) (bytes_eq old new)
                (refused _ (sym (sizes-same some same) ∙ is))).1 in
                elim (same_root same_digests hash [] (Ok empty) size new old_digests digests (omega arith) (omega arith)
                (wide ∙ ap Ok roots) new_tree) [
                  | inr found ↦ inr (InTrees found.0 found.1 found.2)
                  | inl lists ↦ inl (lists ∙ sym (take_all old_size digests (omega arith)))
                ]
            | inl more ↦
                let way = ended_at_both old new _ (sym (sizes-grown some more) ∙ is) in
                let one : old_size - 1 + 1 ≡ old_size = omega arith in
                elim (both_roots-agree same_digests hash [] (Ok empty) size (old_size - 1) (size - 1) old path new
                old_digests digests (omega arith) (omega arith) (omega arith) (omega arith) wide new_tree way) [
                  | inr found ↦ inr found
                  | inl front ↦ inl (front ∙ ap (λ n. take n digests) one)
                ]
          ]
    ]
  ]

  -- the front of a list with the new root
  pub consistency-root : consistency_verdict hash old_size old size new path ≡ Ok true
      → BindsOldRoot hash old_size old size new path
  consistency-root is empty digests long tree = elim (cases_lt 0 old_size) [
    | inr none ↦ absurd (not_accepted (sym (sizes-refused (inl (omega arith))) ∙ is))
    | inl some ↦ elim (cases_lt size old_size) [
      | inl less ↦ absurd (not_accepted (sym (sizes-refused (inr less)) ∙ is))
      | inr le ↦ elim (cases_lt old_size size) [
        | inr ge ↦
            let same : old_size ≡ size = omega arith in
            let roots = (bytes_eq-Decides old new).0 (and_parts (is_empty path) (bytes_eq old new)
            (refused _ (sym (sizes-same some same) ∙ is))).1 in
            inl (ap (merkle_tree_hash hash empty) (take_all old_size digests (omega (arith, long))) ∙ tree
            ∙ ap Ok (sym roots))
        | inl more ↦
            let front = take old_size digests in
            let first : length front ≡ old_size = length-take-le old_size digests (omega (arith, long)) in
            let levels = λ (n : ℕ). tree_hash (joined hash) (Ok empty) n (there front) in
            let one : old_size - 1 + 1 ≡ old_size = omega arith in
            let high = pow_above size in
            elim (both_roots-begins same_digests hash [] (Ok empty) size (old_size - 1) (size - 1) old path new digests
            (omega arith) (omega arith) (omega arith) (sized hash empty digests size new long tree)
            (ended_at_both old new _ (sym (sizes-grown some more) ∙ is))) [
              | inr found ↦ inr found
              | inl begins ↦ inl (ap levels first ∙ sym (tree_hash-levels (joined hash) (Ok empty) old_size size
                  (there front) (omega (arith, pow_above old_size, length-map {B = Outcome Digest} front Ok, first)) le)
                  ∙ ap (λ n. tree_hash (joined hash) (Ok empty) size (there (take n digests))) (sym one) ∙ begins)
            ]
      ]
    ]
  ]

  pub consistency-own : IsConsistency hash old_size old size new path → consistency_verdict hash old_size old size new
      path ≡ Ok true
  consistency-own own =
      let some = own.some in
      let more = own.inside in
      let long = own.size_is in
      let high = pow_above size in
      let one : old_size ≡ old_size - 1 + 1 = omega arith in
      let front = take old_size own.digests in
      let old_long : length front ≡ old_size = length-take-le old_size own.digests (omega arith) in
      let wide = tree_hash-wider own.empty front old_long (omega arith) own.old_is in
      let tree = sized hash own.empty own.digests size new long own.new_is in
      let path_is = ap (λ m. subproof (joined hash) (Ok own.empty) size m (there own.digests) true) (sym one)
      ∙ ap (λ n. subproof (joined hash) (Ok own.empty) n old_size (there own.digests) true) (sym long)
      ∙ own.path_is in
      let way = both_roots-own hash [] (Ok own.empty) size (old_size - 1) (size - 1) own.digests path old new
      (omega arith) (omega arith) (omega arith)
      (ap (λ m. tree_hash (joined hash) (Ok own.empty) size (there (take m own.digests))) (sym one) ∙ wide)
      tree path_is in
      sizes-grown some more ∙ ap (λ o. o >>= ends_at_both old new) way
      ∙ rw ((bytes_eq-Decides old old).1 refl, (bytes_eq-Decides new new).1 refl) refl
