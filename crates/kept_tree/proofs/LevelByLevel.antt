-- Digests that are hashed anew level by level, above the leaves of some indexes.
use Rattle.std.proofs.Common.{◌≡◌, ℕ, suc, ◌+◌, ◌-◌, ◌*◌, ◌/◌, ◌<◌, ◌≤◌, ◌^◌, List, [], ◌∷◌, length, drop, get_or, set, refl, sym, ap, subst, ◌∙◌, inl, inr, arith}
use Rattle.std.proofs.lemmas.Bool.{cases_lt}
use Rattle.std.proofs.lemmas.List.{ext_get_or, get_or-drop, get_or-set_other, length-drop, length-set}
use Rattle.std.proofs.Math.Nat.{div-eq_of_lt, pow-le-pow_right, pow-succ'}
use Rattle.std.specs.List.{zip}
use Rattle.ark_paths.specs.Pair.{Digest}
use Rattle.ark_merkle.specs.Batch.{puts}
use Rattle.kept_tree.proofs.Changing.{on_way-up, same_or}
use Rattle.kept_tree.proofs.Besides.{HasLevels}
use Rattle.kept_tree.proofs.LevelPlaces.{place-from, place-some, place-to}
use Rattle.kept_tree.specs.KeptTree.{ChangesLeaves, KeepsTree, IsHashed, IsOnWay, IsOnWays, LevelHashed, PlainNode, RehashesAbove, kept_leaves, leaf_count, place_above}

-- the levels below this one are hashed
pub record AboveUpTo (node : PlainNode) (old now : List Digest) (levels done : ℕ) (indexes : List ℕ) : Type 0 where
  pub long : length now ≡ length old
  pub leaves : kept_leaves now ≡ kept_leaves old
  pub ways : (i : ℕ) → i < length old / 2 → 2 ^ (levels - done) ≤ i + 1
      → IsOnWays (length old / 2) indexes i → IsHashed node now i
  pub others : (i : ℕ) → i < length old / 2 → (IsOnWays (length old / 2) indexes i → ⊥)
      → get_or now i [] ≡ get_or old i []

-- ---- all levels

-- two places of one level and of another
module _ {levels : ℕ} (node : PlainNode) (old : List Digest) (tree : HasLevels (length old) levels) (indexes : List ℕ)
    (inside : (j : ℕ) → j < length indexes → get_or indexes j 0 < leaf_count (length old)) where
  abbrev inner : ℕ
  inner = length old / 2

  leaf-place : (j : ℕ) → inner + get_or indexes j 0 + 1 ≡ leaf_count (length old) + get_or indexes j 0
  leaf-place j = omega (arith, tree.half)

  pub above-none : AboveUpTo node old old levels 0 indexes
  above-none = record {
    long = refl;
    leaves = refl;
    ways = λ i below high on.
        let e : levels - 0 ≡ levels = omega arith in
        let past : 2 ^ levels ≤ i + 1 = rw e at high in
        absurd (omega (arith, past, tree.leaves, tree.half));
    others = λ i below apart. refl;
  }

  -- a place on the way stands on one level
  on-level : (i j k level : ℕ) → j < length indexes → level ≤ levels → k ≤ levels
      → i + 1 ≡ (leaf_count (length old) + get_or indexes j 0) / 2 ^ k
      → 2 ^ (levels - level) ≤ i + 1 → i + 1 < 2 * 2 ^ (levels - level) → k ≡ level
  on-level i j k level below high small at from to =
      let least = place-from tree (inside j below) small in
      let most = place-to tree (inside j below) small in
      let two : 0 < 2 = omega arith in
      elim (cases_lt k level) [
        | inl lt ↦
            let le : 2 ^ suc (levels - level) ≤ 2 ^ (levels - k) = pow-le-pow_right two (omega arith) in
            absurd (omega (arith, least, le, pow-succ' 2 (levels - level)))
        | inr ge ↦ elim (cases_lt level k) [
          | inl gt ↦
              let le : 2 ^ suc (levels - k) ≤ 2 ^ (levels - level) = pow-le-pow_right two (omega arith) in
              absurd (omega (arith, most, le, pow-succ' 2 (levels - k)))
          | inr le ↦ omega arith
        ]
      ]

  -- no place of a level above the leaves is at or behind this one
  level-before : (level j : ℕ) → 0 < level → level ≤ levels → j < length indexes → (i : ℕ)
      → 2 * 2 ^ (levels - level) ≤ i + 1 → i ≡ place_above (length old) level (get_or indexes j 0) → ⊥
  level-before level j low high below i past same = absurd (omega (arith, place-to tree (inside j below) high))

  pub above-more : (now new : List Digest) (done : ℕ) → done < levels → AboveUpTo node old now levels done indexes
      → LevelHashed node now new (done + 1) indexes → AboveUpTo node old new levels (done + 1) indexes
  above-more now new done below so step = record {
    long = step.long ∙ so.long;
    leaves = rw (step.long, so.long) (ext_get_or [] (drop inner new) (drop inner now)
        (omega (arith, length-drop inner new, length-drop inner now, step.long))
        (λ q under. get_or-drop inner new q []
        ∙ unchanged (inner + q) (omega (arith, wide, tree.leaves, tree.half))
        ∙ sym (get_or-drop inner now q []))) ∙ leaves-now;
    ways = ways;
    others = λ i under apart. step.others i (λ j within same. apart (
      j,
      within,
      (
        done + 1,
        at-level i j within
            (same ∙ ap (λ (n : ℕ). place_above n (done + 1) (get_or indexes j 0)) so.long),
      ),
    )) ∙ so.others i under apart;
  }
    where
      level : ℕ
      level = done + 1

      leaves-now : drop (length old / 2) now ≡ kept_leaves old
      leaves-now = rw so.long at so.leaves

      wide : 2 * 2 ^ (levels - (done + 1)) ≤ 2 ^ levels
      wide = let two : 0 < 2 = omega arith in
          let le : 2 ^ suc (levels - (done + 1)) ≤ 2 ^ levels = pow-le-pow_right two (omega arith) in
          omega (arith, le, pow-succ' 2 (levels - (done + 1)))

      unchanged : (i : ℕ) → 2 * 2 ^ (levels - (done + 1)) ≤ i + 1 → get_or new i [] ≡ get_or now i []
      unchanged i past = step.others i (λ j within same. level-before (done + 1) j (omega arith)
          (omega arith) within i past
          (same ∙ ap (λ (n : ℕ). place_above n (done + 1) (get_or indexes j 0)) so.long))

      at-level : (i j : ℕ) → j < length indexes → i ≡ place_above (length old) (done + 1) (get_or indexes j 0)
          → i + 1 ≡ (inner + get_or indexes j 0 + 1) / 2 ^ (done + 1)
      at-level i j within same =
          rw (leaf-place j) (omega (arith, same, place-some {level = done + 1} tree (inside j within) (omega arith)))

      ways : (i : ℕ) → i < length old / 2 → 2 ^ (levels - (done + 1)) ≤ i + 1 → IsOnWays (length old / 2) indexes i
          → IsHashed node new i
      ways i under from (j, within, (k, is)) = elim (cases_lt (i + 1) (2 * 2 ^ (levels - (done + 1)))) [
        | inl to ↦
            let on : i + 1 ≡ (leaf_count (length old) + get_or indexes j 0) / 2 ^ k = rw (leaf-place j) at is in
            let same : k ≡ done + 1 =
            on-level i j k (done + 1) within (omega arith) (not-past i j k within on) on from to in
            let here : i ≡ place_above (length old) (done + 1) (get_or indexes j 0) =
            omega (arith, subst (λ (n : ℕ). i + 1 ≡ (leaf_count (length old) + get_or indexes j 0) / 2 ^ n) same on) in
            let hashed = step.hashed j within in
            rw here (subst (λ (n : ℕ). IsHashed node new (place_above n (done + 1)
            (get_or indexes j 0))) so.long hashed)
        | inr past ↦
            let twice : 2 ^ (levels - done) ≤ i + 1 =
            let e : levels - done ≡ suc (levels - (done + 1)) = omega arith in
            rw e (omega (arith, pow-succ' 2 (levels - (done + 1)))) in
            let left = unchanged (2 * i + 1) (omega arith) in
            let right = unchanged (2 * i + 2) (omega arith) in
            unchanged i past ∙ so.ways i under twice (j, within, (k, is)) ∙ rw (left, right) refl
      ]
        where
          not-past : (i j k : ℕ) → j < length indexes
              → i + 1 ≡ (leaf_count (length old) + get_or indexes j 0) / 2 ^ k → k ≤ levels
          not-past i j k within on = elim (cases_lt levels k) [
            | inl gt ↦
                let two : 0 < 2 = omega arith in
                let le : 2 ^ suc levels ≤ 2 ^ k = pow-le-pow_right two (omega arith) in
                let small : leaf_count (length old) + get_or indexes j 0 < 2 ^ k =
                omega (arith, le, pow-succ' 2 levels, inside j within, tree.leaves) in
                absurd (omega (arith, on, div-eq_of_lt small))
            | inr le ↦ le
          ]

  pub above-all : (now : List Digest) (done : ℕ) → levels ≤ done → AboveUpTo node old now levels done indexes
      → RehashesAbove node old now indexes
  above-all now done all so = record {
    long = so.long;
    leaves = so.leaves;
    ways = λ i below on. so.ways i below (let e : levels - done ≡ 0 = omega arith in rw e (omega arith)) on;
    others = so.others;
  }

-- ---- of a tree

pub length-puts : (changes : List (ℕ × Digest)) (digests : List Digest) → length (puts digests changes)
    ≡ length digests
length-puts [] digests = refl
length-puts (change ∷ others) digests =
    length-puts others (set digests change.0 change.1) ∙ length-set digests change.0 change.1

-- a digest that no change names is as before
puts-other : (indexes : List ℕ) (made digests : List Digest) (q : ℕ)
    → ((j : ℕ) → j < length indexes → get_or indexes j 0 ≡ q → ⊥)
    → get_or (puts digests (zip indexes made)) q [] ≡ get_or digests q []
puts-other [] made digests q apart = refl
puts-other (index ∷ indexes) [] digests q apart = refl
puts-other (index ∷ indexes) (d ∷ made) digests q apart =
    puts-other indexes made (set digests index d) q (λ j below. apart (suc j) (omega arith))
    ∙ get_or-set_other digests index q d [] (λ same. apart 0 (omega arith) (sym same))

-- Leaf digests are put in their places, and then those above them are hashed.
pub changes-both : (node : PlainNode) (old now new : List Digest) (indexes : List ℕ) (digests : List Digest)
    → length now ≡ length old → kept_leaves now ≡ puts (kept_leaves old) (zip indexes digests)
    → ((i : ℕ) → i < length old / 2 → get_or now i [] ≡ get_or old i []) → RehashesAbove node now new indexes
    → ChangesLeaves node old new indexes digests
changes-both node old now new indexes digests long put above so =
    let OnWays : ℕ → ℕ → Type 0 = λ n i. IsOnWays (n / 2) indexes i in
    record {
      long = so.long ∙ long;
      leaves = so.leaves ∙ put;
      ways = λ i below on. so.ways i (rw long below) (subst (λ (n : ℕ). OnWays n i) (sym long) on);
      others = λ i below apart. so.others i (rw long below) (λ on. apart (subst (λ (n : ℕ). OnWays n i) long on))
          ∙ above i below;
    }

module _ (node : PlainNode) (old new leaves : List Digest) (indexes : List ℕ) (digests : List Digest)
    (changed : ChangesLeaves node old new indexes digests) (holds : KeepsTree node old leaves) where
  -- the place above one on a way is on it
  on_ways-up : (i c : ℕ) → IsOnWays (length old / 2) indexes c → 0 < c → (c - 1) / 2 ≡ i
      → IsOnWays (length old / 2) indexes i
  on_ways-up i c (j, below, on) some is = (
    j,
    below,
    subst (IsOnWay (length old / 2 + get_or indexes j 0)) is
        (on_way-up (length old / 2 + get_or indexes j 0) c some on),
  )

  pub changes-trees : KeepsTree node new (puts leaves (zip indexes digests))
  changes-trees = record {
    size = rw (length-puts (zip indexes digests) leaves) holds.size;
    count = rw (changed.long, length-puts (zip indexes digests) leaves) holds.count;
    last = changed.leaves ∙ ap (λ (ds : List Digest). puts ds (zip indexes digests)) holds.last;
    hashed = λ i below. let under : i < length old / 2 = rw changed.long at below in same_or _ _
        (λ differ. differ (kept i under (λ on. differ (changed.ways i under on))));
  }
    where
      -- a place beside the ways is as before, a leaf's too
      below : (c : ℕ) → c < length old → (IsOnWays (length old / 2) indexes c → ⊥)
          → get_or new c [] ≡ get_or old c []
      below c inside apart = elim (cases_lt c (length old / 2)) [
        | inl lt ↦ changed.others c lt apart
        | inr ge ↦
            let q = c - length old / 2 in
            let at : length old / 2 + q ≡ c = omega arith in
            let now : get_or (drop (length old / 2) new) q [] ≡ get_or new c [] =
            get_or-drop (length old / 2) new q [] ∙ ap (λ (n : ℕ). get_or new n []) at in
            let then : get_or (drop (length old / 2) old) q [] ≡ get_or old c [] =
            get_or-drop (length old / 2) old q [] ∙ ap (λ (n : ℕ). get_or old n []) at in
            let leaves_are : drop (length old / 2) new ≡ puts (kept_leaves old) (zip indexes digests) =
            rw changed.long at changed.leaves in
            let other = puts-other indexes digests (kept_leaves old) q
            (λ j within same. apart (j, within, (0, omega (arith, same, at)))) in
            sym now ∙ ap (λ (ds : List Digest). get_or ds q []) leaves_are ∙ other ∙ then
      ]

      kept : (i : ℕ) → i < length old / 2 → (IsOnWays (length old / 2) indexes i → ⊥) → IsHashed node new i
      kept i under apart =
          let own : get_or new i [] ≡ get_or old i [] = changed.others i under apart in
          let left : get_or new (2 * i + 1) [] ≡ get_or old (2 * i + 1) [] =
          below (2 * i + 1) (omega (arith, holds.count)) (λ on. apart (on_ways-up i (2 * i + 1) on (omega arith)
          (omega arith))) in
          let right : get_or new (2 * i + 2) [] ≡ get_or old (2 * i + 2) [] =
          below (2 * i + 2) (omega (arith, holds.count)) (λ on. apart (on_ways-up i (2 * i + 2) on (omega arith)
          (omega arith))) in
          own ∙ holds.hashed i under ∙ rw (left, right) refl
