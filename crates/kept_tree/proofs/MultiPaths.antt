-- Multi-proofs out of memory.
use Rattle.std.proofs.Common.{◌≡◌, ℕ, zero, suc, ◌+◌, ◌-◌, ◌<◌, ◌≤◌, true, false, List, [], ◌∷◌, ◌++◌, length, map, drop, Global, refl, sym, ap, ◌∙◌, append_assoc, arith}
use Rattle.std.proofs.lemmas.List.{map-id}
use Rattle.std.specs.List.{All}
use Rattle.std.specs.declared.vec.Vec.{Vec}
use Rattle.ark_base.specs.Digits.{itself}
use Rattle.ark_merkle.specs.MultiProof.{own_multi_path}
use Rattle.ark_paths.specs.Laws.ByNumbers.{multi_spelling-way}
use Rattle.ark_paths.specs.MultiPathBytes.{multi_bytes, multi_path_spelling}
use Rattle.ark_paths.specs.Pair.{Digest, digest_eq}
use Rattle.ark_paths.specs.Path.{Way}
use Rattle.ark_paths.specs.Rising.{rising_set}
use Rattle.ark_paths.specs.Sharing.{multi_path_of, prefixes_of, shared_count, suffixes_of}
use Rattle.ark_paths.specs.Tree.{own_path}
use Rattle.ark_paths.proofs.MultiIndexes.{All-rising}
use Rattle.ark_paths.proofs.MultiShared.{shared-le, shared-other, shared-same}
use Rattle.kept_tree.specs.KeptTree.{KeepsTree, PlainNode, alike, digests_above, kept_above, kept_beside, kept_multi_way, kept_way, leaf_count}
use Rattle.kept_tree.proofs.HeldTrees.{held-path}
use Rattle.kept_tree.proofs.Lengths.{held-count}
use Rattle.kept_tree.proofs.PathWrites.{length-above}

-- behind the first digests above a leaf stand those of fewer levels
pub drop-above : (memory : List Digest) (index count levels : ℕ) → count ≤ levels
    → drop count (kept_above memory index levels) ≡ kept_above memory index (levels - count)
drop-above memory index zero levels le = let all : levels - 0 ≡ levels = omega arith in rw all refl
drop-above memory index (suc count) zero le = absurd (omega arith)
drop-above memory index (suc count) (suc levels) le =
    let rest : suc levels - suc count ≡ levels - count = omega arith in
    rw rest (drop-above memory index count levels (omega arith))

-- The first digests above a leaf, and one more.
pub above-more : (memory : List Digest) (index levels done : ℕ) (digests : List Digest) (digest : Digest)
    → done < levels → digest ≡ kept_beside memory index (levels - done)
    → digests ++ kept_above memory index (levels - done) ≡ kept_above memory index levels
    → (digests ++ digest ∷ []) ++ kept_above memory index (levels - (done + 1)) ≡ kept_above memory index levels
above-more memory index levels done digests digest below digest_is so =
    let k = levels - (done + 1) in
    let next : levels - done ≡ suc k = omega arith in
    let rest : digests ++ kept_above memory index (suc k) ≡ kept_above memory index levels = rw next at so in
    let same : digest ≡ kept_beside memory index (suc k) = digest_is ∙ ap (kept_beside memory index) next in
    append_assoc digests (digest ∷ []) (kept_above memory index k)
    ∙ ap (λ (d : Digest). digests ++ d ∷ kept_above memory index k) same ∙ rest

-- ---- what two paths share

module _ (memory : List Digest) (before index levels done : ℕ) where
  -- how many digests so many levels above the leaves and below they share
  abbrev pub shared : ℕ → ℕ
  shared level = shared_count (kept_above memory before level) (kept_above memory index level)

  -- The first digests are the same.
  abbrev pub AreShared : Type 0
  AreShared = shared levels ≡ done + shared (levels - done)

  module _ (below : done < levels) (so : AreShared) where
    abbrev level : ℕ
    level = levels - (done + 1)

    next : levels - done ≡ suc level
    next = omega arith

    pub shared-more : (a b : Digest) → a ≡ kept_beside memory before (levels - done)
        → b ≡ kept_beside memory index (levels - done) → digest_eq a b ≡ true → shared levels ≡ done + 1 + shared level
    shared-more a b a_is b_is same =
        let step : shared (levels - done) ≡ suc (shared level) =
        rw next (shared-same (kept_beside memory before (suc level)) (kept_beside memory index (suc level))
        (kept_above memory before level) (kept_above memory index level) (rw (a_is, b_is, next) at same)) in
        omega (arith, so, step)

    pub shared-stop : (a b : Digest) → a ≡ kept_beside memory before (levels - done)
        → b ≡ kept_beside memory index (levels - done) → digest_eq a b ≡ false → shared levels ≡ done
    shared-stop a b a_is b_is other =
        let step : shared (levels - done) ≡ 0 =
        rw next (shared-other (kept_beside memory before (suc level)) (kept_beside memory index (suc level))
        (kept_above memory before level) (kept_above memory index level) (rw (a_is, b_is, next) at other)) in
        omega (arith, so, step)

  pub shared-all : levels ≤ done → done ≤ levels → AreShared → shared levels ≡ levels
  shared-all most least so =
      let none : levels - done ≡ 0 = omega arith in
      let is : shared levels ≡ done + 0 = rw none at so in
      omega (arith, is)

pub shared-below : (memory : List Digest) (before index levels : ℕ)
    → shared memory before index levels 0 levels ≤ levels
shared-below memory before index levels = omega (
  arith,
  shared-le (kept_above memory before levels) (kept_above memory index levels),
  length-above memory index levels,
)

-- ---- the whole proof

module _ (memory : List Digest) where
  multi-siblings : (indexes : List ℕ) → map (λ way. way.sibling) (map (kept_way memory) indexes)
      ≡ map (λ index. kept_beside memory index 0) indexes
  multi-siblings [] = refl
  multi-siblings (i ∷ indexes) =
      ap (λ (digests : List Digest). kept_beside memory i 0 ∷ digests) (multi-siblings indexes)

  multi-above : (indexes : List ℕ) → map (λ way. way.above) (map (kept_way memory) indexes)
      ≡ map (digests_above memory) indexes
  multi-above [] = refl
  multi-above (i ∷ indexes) =
      ap (λ (lists : List (List Digest)). digests_above memory i ∷ lists) (multi-above indexes)

  multi-indexes : (indexes : List ℕ) → map (λ way. way.index) (map (kept_way memory) indexes) ≡ indexes
  multi-indexes [] = refl
  multi-indexes (i ∷ indexes) = ap (λ (ns : List ℕ). i ∷ ns) (multi-indexes indexes)

  rows-same : (rows : List (Vec Digest Global))
      → map (λ row. row.items) rows ≡ map (λ row. map itself row.items) rows
  rows-same [] = refl
  rows-same (row ∷ rows) =
      ap (λ (digests : List Digest). digests ∷ map (λ row. row.items) rows) (sym (map-id row.items))
      ∙ ap (λ (lists : List (List Digest)). map itself row.items ∷ lists) (rows-same rows)

  -- it is made of its four lists
  multi-made : (asked once : List ℕ) (siblings : List Digest) (prefixes : List ℕ) (suffixes : List (List Digest))
      → rising_set asked ≡ once → map (λ index. kept_beside memory index 0) once ≡ siblings
      → prefixes_of [] (map (digests_above memory) once) ≡ prefixes
      → suffixes_of [] (map (digests_above memory) once) ≡ suffixes
      → kept_multi_way memory asked
      ≡ record { siblings = siblings; prefixes = prefixes; suffixes = suffixes; indexes = once }
  multi-made asked once siblings prefixes suffixes once_is siblings_are prefixes_are suffixes_are =
      let beside = multi-siblings once ∙ siblings_are in
      let shared_are = ap (prefixes_of []) (multi-above once) ∙ prefixes_are in
      let others = ap (suffixes_of []) (multi-above once) ∙ suffixes_are in
      let indexes = multi-indexes once in
      ap (λ (indexes : List ℕ). multi_path_of (map (kept_way memory) indexes)) once_is
      ∙ (λ j. record { siblings = beside j; prefixes = shared_are j; suffixes = others j; indexes = indexes j })

  -- and its bytes are those of the lists
  pub multi-written : (asked once : List ℕ) (siblings : List Digest) (prefixes : List ℕ)
      (suffixes : List (Vec Digest Global)) → rising_set asked ≡ once
      → map (λ index. kept_beside memory index 0) once ≡ siblings
      → prefixes_of [] (map (digests_above memory) once) ≡ prefixes
      → suffixes_of [] (map (digests_above memory) once) ≡ map (λ row. row.items) suffixes
      → multi_path_spelling itself itself (
        map itself siblings,
        (map (λ n. n) prefixes, (map (λ row. map itself row.items) suffixes, map (λ n. n) once)),
      )
      ≡ multi_bytes itself itself (kept_multi_way memory asked)
  multi-written asked once siblings prefixes suffixes once_is siblings_are prefixes_are suffixes_are =
      multi_spelling-way itself itself itself itself siblings prefixes suffixes once itself itself itself itself
      (λ d. refl) (λ d. refl)
      ∙ ap (multi_bytes itself itself) (sym (multi-made asked once (map itself siblings) prefixes
      (map (λ row. map itself row.items) suffixes) once_is (siblings_are ∙ sym (map-id siblings)) prefixes_are
      (suffixes_are ∙ rows-same suffixes)))

-- ---- of a tree

module _ (node : PlainNode) (memory leaves : List Digest) (holds : KeepsTree node memory leaves) where
  held-paths : (indexes : List ℕ) → All (λ index. index < length leaves) indexes
      → map (λ index. own_path (alike node) index leaves) indexes ≡ map (kept_way memory) indexes
  held-paths [] inside = refl
  held-paths (i ∷ indexes) inside =
      ap (λ (way : Way). way ∷ map (λ index. own_path (alike node) index leaves) indexes)
      (held-path node memory leaves holds i (inside 0 i (omega arith)))
      ∙ ap (λ (ways : List Way). kept_way memory i ∷ ways)
      (held-paths indexes (λ k d below. inside (suc k) d (omega arith)))

  -- the multi-proof in memory is the tree's own
  pub held-multi : (indexes : List ℕ) → All (λ index. index < leaf_count (length memory)) indexes
      → own_multi_path (alike node) indexes leaves ≡ kept_multi_way memory indexes
  held-multi indexes inside =
      let within : All (λ index. index < length leaves) indexes =
      rw (held-count node memory leaves holds) at inside in
      ap multi_path_of (held-paths (rising_set indexes) (All-rising (λ index. index < length leaves) indexes within))
