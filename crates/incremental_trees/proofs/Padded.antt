-- The root of a tree whose last leaves are empty is the root of the tree over all leaves.
use Rattle.std.proofs.Common.{◌≡◌, ◌⊎◌, ℕ, zero, suc, ◌+◌, ◌-◌, ◌*◌, ◌/◌, ◌%◌, ◌^◌, ◌<◌, ◌≤◌, List, [], length, get_or, replicate, Ok, Err, arith, refl, ap, sym, subst, ◌∙◌, inl, inr, length-append}
use Rattle.std.proofs.lemmas.Bool.{cases_lt}
use Rattle.std.proofs.lemmas.List.{length-replicate, get_or_append_left, get_or-append_right, get_or_default, get_or-replicate, get_or_past}
use Rattle.std.proofs.lemmas.Nat.{shl-shr}
use Rattle.std.proofs.Math.Nat.{div-eq_of_lt}
use Rattle.ark_base.specs.Outcome.{Outcome, ◌>>=◌, AnswersBy}
use Rattle.ark_base.specs.declared.error.Error.{Error}
use Rattle.ark_base.specs.Laws.Steps.{bind_ok}
use Rattle.ark_paths.specs.Pair.{Digest, HashPair}
use Rattle.ark_paths.specs.Root.{Root, Refused, place, place_at, outcome_of, root}
use Rattle.ark_paths.specs.Rows.{part}
use Rattle.ark_paths.proofs.Logs.{upper_levels-is}
use Rattle.ark_paths.proofs.Parts.{part-left, part-right, part-whole, part-pair}
use Rattle.incremental_trees.specs.Nodes.{LevelHash, node_at, depth_root, level_hash, padded_leaves}
use Rattle.incremental_trees.specs.Incremental.{AreFilled, HoldsLeaves, IncrementalValue, last_left}
use Rattle.incremental_trees.proofs.LevelNodes.{doubled_next}
use Rattle.incremental_trees.proofs.Halves.{half-up}
use Rattle.incremental_trees.proofs.Edges.{IsKept, left-of_edge, right-of_edge}

pub length-padded : (depth : ℕ) (empty : Digest) (leaves : List Digest) → length leaves ≤ 2 ^ depth
    → length (padded_leaves depth empty leaves) ≡ 2 ^ depth
length-padded depth empty leaves fits =
    length-append leaves (replicate (2 ^ depth - length leaves) empty)
    ∙ ap (λ n. length leaves + n) (length-replicate (2 ^ depth - length leaves) empty) ∙ omega arith

pub padded-at : (depth : ℕ) (empty : Digest) (leaves : List Digest) (j : ℕ) → length leaves ≤ 2 ^ depth → j < 2 ^ depth
    → get_or (padded_leaves depth empty leaves) j [] ≡ get_or leaves j empty
padded-at depth empty leaves j fits below =
    let more = replicate (2 ^ depth - length leaves) empty in
    elim (cases_lt j (length leaves)) [
      | inl lower ↦ get_or_append_left leaves more [] j lower ∙ get_or_default leaves j [] empty lower
      | inr high ↦ get_or-append_right leaves more (length leaves) j [] refl high
          ∙ get_or-replicate (2 ^ depth - length leaves) (j - length leaves) empty [] (omega arith)
          ∙ sym (get_or_past leaves j empty high)
    ]

-- what a step that failed met
bind_err : {A B : Type 0} (o : Outcome A) (next : A → Outcome B) (e : Error) → (o >>= next) ≡ Err e
    → (o ≡ Err e) ⊎ ((x : A) × (o ≡ Ok x) × (next x ≡ Err e))
bind_err (Ok x) next e is = inr (x, refl, is)
bind_err (Err f) next e is = let same : f ≡ e = cc in inl (ap Err same)

module _ (h : HashPair) (empty : Digest) (leaves : List Digest) (depth : ℕ) (fits : length leaves ≤ 2 ^ depth) where
  abbrev pub hash : LevelHash
  hash = level_hash h

  abbrev pub padded : List Digest
  padded = padded_leaves depth empty leaves

  lowest : (q : ℕ) (outcome : Outcome Digest) → (q + 1) * 2 ^ 1 ≤ 2 ^ depth → node_at hash empty leaves 1 q ≡ outcome
      → h.bottom (get_or padded (2 * q) []) (get_or padded (2 * q + 1) []) ≡ outcome
  lowest q outcome inside is =
      ap (λ d. h.bottom d (get_or padded (2 * q + 1) [])) (padded-at depth empty leaves (2 * q) fits (omega arith))
      ∙ ap (h.bottom (get_or leaves (2 * q) empty)) (padded-at depth empty leaves (2 * q + 1) fits (omega arith))
      ∙ is

  -- The node at a place is the root of the leaves below it.
  pub place-ok : (m q : ℕ) (digest : Digest) → (q + 1) * 2 ^ suc m ≤ 2 ^ depth
      → node_at hash empty leaves (suc m) q ≡ Ok digest → place h m (part m q padded) ≡ Root digest
  place-ok zero q digest inside is =
      ap (λ (p : Digest × Digest). place_at 0 (h.bottom p.0 p.1)) (part-pair q padded)
      ∙ ap (place_at 0) (lowest q (Ok digest) inside is)
  place-ok (suc m) q digest inside is =
      let l = bind_ok (node_at hash empty leaves (suc m) (2 * q))
      (λ left. node_at hash empty leaves (suc m) (2 * q + 1) >>= λ right. h.upper left right) digest is in
      let r = bind_ok (node_at hash empty leaves (suc m) (2 * q + 1)) (λ right. h.upper l.0 right) digest l.2 in
      let a = place-ok m (2 * q) l.0 (omega (arith, doubled_next q (suc m))) l.1 in
      let b = place-ok m (2 * q + 1) r.0 (omega (arith, doubled_next q (suc m))) r.1 in
      rw (part-left m q padded, part-right m q padded, a, b, r.2) refl

  module _ {size : ℕ} {empties filled : List Digest} (kept : IsKept hash empty leaves size depth empties filled) where
    -- Of two places, of which the left one has a root.
    right_refused : (m q : ℕ) (left : Digest) (error : Error) → (q + 1) * 2 ^ suc (suc m) ≤ 2 ^ depth
        → node_at hash empty leaves (suc m) (2 * q) ≡ Ok left
        → node_at hash empty leaves (suc (suc m)) q ≡ Err error
        → (node_at hash empty leaves (suc m) (2 * q + 1) ≡ Err error
        → (l : ℕ) × (place h m (part m (2 * q + 1) padded) ≡ Refused l error))
        → (l : ℕ) × (place h (suc m) (part (suc m) q padded) ≡ Refused l error)
    right_refused m q left error inside own is below =
        let a = place-ok m (2 * q) left (omega (arith, doubled_next q (suc m))) own in
        let rest : (node_at hash empty leaves (suc m) (2 * q + 1) >>= λ right. h.upper left right) ≡ Err error =
        rw own at is in
        elim (bind_err (node_at hash empty leaves (suc m) (2 * q + 1)) (λ right. h.upper left right) error rest) [
          | inl refused ↦
              let b = below refused in
              (b.0, rw (part-left m q padded, part-right m q padded, a, b.1) refl)
          | inr made ↦
              let b = place-ok m (2 * q + 1) made.0 (omega (arith, doubled_next q (suc m))) made.1 in
              (suc m, rw (part-left m q padded, part-right m q padded, a, b, made.2) refl)
        ]

    -- Of two places, of which the right one has a root.
    left_refused : (m q : ℕ) (right : Digest) (error : Error) → (q + 1) * 2 ^ suc (suc m) ≤ 2 ^ depth
        → node_at hash empty leaves (suc m) (2 * q + 1) ≡ Ok right
        → node_at hash empty leaves (suc (suc m)) q ≡ Err error
        → (node_at hash empty leaves (suc m) (2 * q) ≡ Err error
        → (l : ℕ) × (place h m (part m (2 * q) padded) ≡ Refused l error))
        → (l : ℕ) × (place h (suc m) (part (suc m) q padded) ≡ Refused l error)
    left_refused m q right error inside own is below =
        let b = place-ok m (2 * q + 1) right (omega (arith, doubled_next q (suc m))) own in
        elim (bind_err (node_at hash empty leaves (suc m) (2 * q))
        (λ left. node_at hash empty leaves (suc m) (2 * q + 1) >>= λ r. h.upper left r) error is) [
          | inl refused ↦
              let a = below refused in
              (a.0, rw (part-left m q padded, part-right m q padded, a.1, b) refl)
          | inr made ↦
              let a = place-ok m (2 * q) made.0 (omega (arith, doubled_next q (suc m))) made.1 in
              let hashed : h.upper made.0 right ≡ Err error = rw own at made.2 in
              (suc m, rw (part-left m q padded, part-right m q padded, a, b, hashed) refl)
        ]

    pub place-refused : (m : ℕ) (error : Error) → (size / 2 ^ suc m + 1) * 2 ^ suc m ≤ 2 ^ depth → suc m ≤ depth
        → node_at hash empty leaves (suc m) (size / 2 ^ suc m) ≡ Err error
        → (l : ℕ) × (place h m (part m (size / 2 ^ suc m) padded) ≡ Refused l error)
    place-refused zero error inside le is = (
      0,
      ap (λ (p : Digest × Digest). place_at 0 (h.bottom p.0 p.1)) (part-pair (size / 2 ^ 1) padded)
          ∙ ap (place_at 0) (lowest (size / 2 ^ 1) (Err error) inside is),
    )
    place-refused (suc m) error inside le is =
        let e = size / 2 ^ suc m in
        let q = size / 2 ^ suc (suc m) in
        let half = half-up size (suc m) in
        elim (cases_lt (e % 2) 1) [
          | inl even ↦
              let same : 2 * q ≡ e = omega (arith, half) in
              let own = ap (λ n. node_at hash empty leaves (suc m) (n + 1)) same
              ∙ right-of_edge kept (suc m) (omega arith) in
              left_refused m q (get_or empties (suc m) []) error inside own is (λ refused.
              let low = place-refused m error
              (omega (arith, ap (λ n. (n + 1) * 2 ^ suc m) same, doubled_next q (suc m)))
              (omega arith) (ap (node_at hash empty leaves (suc m)) (sym same) ∙ refused) in
              (low.0, ap (λ n. place h m (part m n padded)) same ∙ low.1))
          | inr odd ↦
              let next : 2 * q + 1 ≡ e = omega (arith, half) in
              let own = ap (λ n. node_at hash empty leaves (suc m) (2 * n)) half
              ∙ left-of_edge kept (suc m) (omega arith) (omega arith) in
              right_refused m q (get_or filled (suc m) []) error inside own is (λ refused.
              let low = place-refused m error
              (omega (arith, ap (λ n. (n + 1) * 2 ^ suc m) next, doubled_next q (suc m)))
              (omega arith) (ap (node_at hash empty leaves (suc m)) (sym next) ∙ refused) in
              (low.0, ap (λ n. place h m (part m n padded)) next ∙ low.1))
        ]

-- ---- roots

-- The root of a full tree is kept.
pub full-root : {hash : LevelHash} {empty : Digest} {leaves : List Digest} {depth : ℕ} {filled : List Digest}
    → AreFilled hash empty leaves depth filled → length leaves ≡ 2 ^ depth
    → depth_root hash depth empty leaves ≡ Ok (get_or filled depth [])
full-root {hash} {empty} {leaves} {depth} {filled} filled_are full =
    let once : length leaves ≡ 1 * 2 ^ depth = omega arith in
    let one : length leaves / 2 ^ depth ≡ 1 = ap (λ n. n / 2 ^ depth) once ∙ shl-shr 1 depth in
    let last : last_left depth (length leaves) ≡ 0 = ap (λ n. 2 * ((n - 1) / 2)) one in
    ap (node_at hash empty leaves depth) (sym last) ∙ filled_are.at depth (omega arith) (omega arith)

-- The root of a tree that is not full is the node on its edge.
pub edge-root : (hash : LevelHash) (empty : Digest) (leaves : List Digest) (size depth : ℕ) → size < 2 ^ depth
    → depth_root hash depth empty leaves ≡ node_at hash empty leaves depth (size / 2 ^ depth)
edge-root hash empty leaves size depth room =
    ap (node_at hash empty leaves depth) (sym (div-eq_of_lt room))

module _ {T : Type 0} {h : HashPair} {leaves : List Digest} {tree : IncrementalValue T}
    (holds : HoldsLeaves (level_hash h) leaves tree) where
  abbrev pub padded_list : List Digest
  padded_list = padded_leaves tree.depth tree.empty leaves

  top_place : (m : ℕ) → tree.depth ≡ suc m → root h padded_list ≡ outcome_of (place h m (part m 0 padded_list))
  top_place m deep =
      let long = length-padded tree.depth tree.empty leaves holds.fits ∙ ap (λ n. 2 ^ n) deep in
      ap (λ n. outcome_of (place h n padded_list)) (upper_levels-is m padded_list long)
      ∙ ap (λ l. outcome_of (place h m l)) (sym (part-whole m padded_list long))

  by_outcome : (m : ℕ) → tree.depth ≡ suc m → (outcome : Outcome Digest)
      → depth_root (level_hash h) tree.depth tree.empty leaves ≡ outcome → root h padded_list ≡ outcome
  by_outcome m deep (Ok digest) is =
      let all : (0 + 1) * 2 ^ suc m ≤ 2 ^ tree.depth = omega (arith, ap (λ n. 2 ^ n) deep) in
      top_place m deep ∙ ap outcome_of (place-ok h tree.empty leaves tree.depth holds.fits m 0 digest all
      (ap (λ n. node_at (level_hash h) tree.empty leaves n 0) (sym deep) ∙ is))
  by_outcome m deep (Err error) is = elim (cases_lt (length leaves) (2 ^ tree.depth)) [
    | inl room ↦
        let none : length leaves / 2 ^ suc m ≡ 0 = ap (λ n. length leaves / 2 ^ n) (sym deep)
        ∙ div-eq_of_lt room in
        let all : (length leaves / 2 ^ suc m + 1) * 2 ^ suc m ≤ 2 ^ tree.depth =
        omega (arith, ap (λ n. 2 ^ n) deep, ap (λ n. (n + 1) * 2 ^ suc m) none) in
        let low = place-refused h tree.empty leaves tree.depth holds.fits (record {
          long = refl;
          empties_are = holds.empties;
          filled_are = holds.filled;
        }) m error all (omega arith) (ap (node_at (level_hash h) tree.empty leaves (suc m)) none
        ∙ ap (λ n. node_at (level_hash h) tree.empty leaves n 0) (sym deep) ∙ is) in
        top_place m deep ∙ ap (λ n. outcome_of (place h m (part m n padded_list))) (sym none) ∙ ap outcome_of low.1
    | inr high ↦
        let kept = full-root holds.filled (omega (arith, holds.fits)) in
        absurd (differ _ _ (sym kept ∙ is))
  ]
    where
      differ : (d : Digest) (e : Error) → Ok d ≡ Err e → ⊥
      differ d e same = cc

  pub tree-root : 0 < tree.depth → depth_root (level_hash h) tree.depth tree.empty leaves ≡ root h padded_list
  tree-root deep =
      let above : tree.depth ≡ suc (tree.depth - 1) = omega arith in
      sym (by_outcome (tree.depth - 1) above (depth_root (level_hash h) tree.depth tree.empty leaves) refl)

-- what answers the root over leaves, answers that of the tree over all
pub answers-tree : {T D : Type 0} (numbers : D → Digest) (result : Outcome D) {hash : LevelHash} (h : HashPair)
    (leaves : List Digest) {tree : IncrementalValue T} → hash ≡ level_hash h → 0 < tree.depth
    → HoldsLeaves (level_hash h) leaves tree
    → (HoldsLeaves hash leaves tree → AnswersBy numbers (depth_root hash tree.depth tree.empty leaves) result)
    → AnswersBy numbers (root h (padded_leaves tree.depth tree.empty leaves)) result
answers-tree {T} {D} numbers result {hash} h leaves {tree} same deep holds answers =
    subst (λ (o : Outcome Digest). AnswersBy numbers o result)
    (ap (λ f. depth_root f tree.depth tree.empty leaves) same ∙ tree-root holds deep)
    (answers (subst (λ (f : LevelHash). HoldsLeaves f leaves tree) (sym same) holds))
