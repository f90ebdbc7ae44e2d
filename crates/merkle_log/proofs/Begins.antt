-- What a consistency proof that is accepted says of one list with the new root: of its front's root.
use Rattle.std.proofs.Common.{zero, suc, ◌≡◌, ◌≢◌, ℕ, ◌+◌, ◌-◌, ◌/◌, ◌%◌, ◌<◌, ◌≤◌, ◌^◌, ◌⊎◌, ◌==◌, if◌then◌else◌, List, [], ◌∷◌, ◌++◌, length, take, get_or, Result, Ok, Some, arith, refl, ap, sym, ◌∙◌, inl, inr}
use Rattle.std.proofs.lemmas.Bool.{cases_lt, cases_eq, cases_Bool, eq-eqb, ne_eqb}
use Rattle.std.proofs.lemmas.List.{take_more, length-map, length-append, length-take-le, map-append}
use Rattle.ark_base.specs.Laws.Steps.{done_injective}
use Rattle.merkle_log.specs.Trees.{tree_hash}
use Rattle.merkle_log.specs.Collision.{NewCollidesAt, WalkCollides}
use Rattle.merkle_log.specs.Walk.{joined, walk, both_left, new_right, from_shared, from_seed, both_roots, has_beside, in_order, Meets}
use Rattle.merkle_log.proofs.RowsUp.{row_up, tree_hash-up}
use Rattle.merkle_log.proofs.Above.{there, IsAbove, row_above, above-pair, above-last, above-take, row_up-cut}
use Rattle.merkle_log.proofs.Agree.{both_roots-odd, both_roots-even, both_stepped, higher_pair, seed_here, seed_higher}
use Rattle.merkle_log.proofs.Sound.{walk-alone, stepped, had_next, ended, meets-zero, meets-up, moves-beside, moves-alone, beside-inside, alone-last}
use Rattle.merkle_log.proofs.Tests.{odd_test, even_test, if_even}
use Rattle.merkle_log.proofs.TreePairs.{pair_of, own_of, tree_pair-zero, same_pairs}

module _ {D E : Type 0} (same : (x y : D) → (x ≡ y) ⊎ (x ≢ y)) (hash : D → D → Result D E) (none : D)
    (empty : Result D E) where
  abbrev Clash : List D → ℕ → ℕ → D × D → List D → Type 0
  Clash xs i s ends path = (level : ℕ) × NewCollidesAt hash empty xs 0 i s ends path level

  clash_higher : {xs ys : List D} {i s : ℕ} {ends next : D × D} {path rest : List D} → IsAbove hash xs ys
      → length ys ≡ (length xs + 1) / 2
      → ((level : ℕ) (reached : D × D) (sibling : D) → Meets (both_left hash) (new_right hash) (i / 2) (s / 2) next
      rest level reached sibling → Meets (both_left hash) (new_right hash) i s ends path (suc level) reached sibling)
      → Clash ys (i / 2) (s / 2) next rest → Clash xs i s ends path
  clash_higher up size met found = (
    suc found.0,
    record {
      reached = found.1.reached;
      sibling = found.1.sibling;
      met = met found.0 found.1.reached found.1.sibling found.1.met;
      pair = found.1.pair;
      tree = higher_pair hash empty up size (omega arith) found.1.tree;
      collide = found.1.collide;
    },
  )

  -- The list has the digest at the index, and its front with the old tree's last value behind has the old root.
  record Begins (k i : ℕ) (old_own own old : D) (xs : List D) : Type 0 where
    pub is : get_or xs i none ≡ own
    pub hashed : tree_hash (joined hash) empty k (there (take i xs ++ (old_own ∷ []))) ≡ Ok old

  -- a level down: the row above the front
  lowered : (k i s : ℕ) (xs row : List D) (old_own next old : D) → IsAbove hash xs row → length xs ≡ s + 1 → i ≤ s
      → s < 2 ^ suc k
      → (if i % 2 == 1 then (joined hash (Ok (get_or xs (i - 1) none)) (Ok old_own)) else (Ok old_own)) ≡ Ok next
      → tree_hash (joined hash) empty k (there (take (i / 2) row ++ (next ∷ []))) ≡ Ok old
      → tree_hash (joined hash) empty (suc k) (there (take i xs ++ (old_own ∷ []))) ≡ Ok old
  lowered k i s xs row old_own next old up long inside low last hashed =
      let front = take i xs ++ (old_own ∷ []) in
      let all = length-map {B = Result D E} front Ok in
      let size = length-append (take i xs) (old_own ∷ []) in
      let first = length-take-le i xs (omega arith) in
      tree_hash-up (joined hash) empty k (there front) (omega arith)
      ∙ ap (tree_hash (joined hash) empty k) (ap (row_up (joined hash)) (map-append Ok (take i xs) (old_own ∷ []))
      ∙ row_up-cut hash none i xs row (Ok old_own) (λ c d two le. above-take hash c d xs row up two) (omega arith)
      ∙ ap (λ x. there (take (i / 2) row) ++ (x ∷ [])) last
      ∙ sym (map-append Ok (take (i / 2) row) (next ∷ [])))
      ∙ hashed

  walk-begins : (k i s : ℕ) (old_own own : D) (path : List D) (old new : D) (xs : List D) → length xs ≡ s + 1 → i ≤ s
      → s < 2 ^ k → tree_hash (joined hash) empty k (there xs) ≡ Ok new
      → walk (both_left hash) (new_right hash) k i s (old_own, own) path ≡ Ok (Some (old, new))
      → Begins k i old_own own old xs ⊎ Clash xs i s (old_own, own) path
  walk-begins zero zero s old_own own path old new (x ∷ xs) long inside low tree way =
      let e = ended {E = E} (old_own, own) path (old, new) way in
      let e0 : old_own ≡ old = ap (λ p. p.0) e.1 in
      let e1 : own ≡ new = ap (λ p. p.1) e.1 in
      inl (record { is = cc; hashed = ap Ok e0 })
  walk-begins (suc k) i s old_own own path old new xs long inside low tree way =
      let up = row_above hash empty k s xs new long low tree in
      let left = both_left hash in
      let right = new_right hash in
      let above = λ (next : D × D) (rest : List D). walk-begins k (i / 2) (s / 2) next.0 next.1 rest old new up.row
      up.long (omega arith) up.low up.hashed in
      elim (cases_Bool (has_beside i s)) [
        | inl beside ↦
            let n = stepped left right k i s (old_own, own) path (old, new) beside way in
            let steps = both_stepped hash i old_own own n.digest n.state n.stepped in
            let less = beside-inside i s inside beside in
            elim (above n.state n.rest n.went) [
              | inr found ↦ inr (clash_higher up.above up.size (λ level. meets-up left right i s (old_own, own) path
                  (moves-beside left right i s (old_own, own) path beside n.is n.stepped level)) found)
              | inl here ↦ elim (same_pairs same hash (in_order i own n.digest) (pair_of none xs (i / 2)) n.state.1
                  steps.1 (above-pair hash none xs up.row up.above (i / 2) (omega arith) ∙ ap Ok here.is)) [
                    | inr collide ↦ inr (
                      0,
                      record {
                        reached = (old_own, own);
                        sibling = n.digest;
                        met = meets-zero left right i s (old_own, own) path n.digest n.rest beside n.is;
                        pair = pair_of none xs (i / 2);
                        tree = tree_pair-zero none empty xs (i / 2) (omega arith);
                        collide = collide;
                      },
                    )
                    | inl both ↦ inl (record {
                      is = sym (own_of none xs i own n.digest both).0;
                      hashed = lowered k i s xs up.row old_own n.state.0 old up.above long inside low
                          (last_of i xs old_own own n.digest n.state.0 both steps.0) here.hashed;
                    })
                  ]
            ]
        | inr alone ↦
            let last = alone-last i s inside alone in
            elim (above (old_own, own) path (sym (walk-alone left right k i s (old_own, own) path alone) ∙ way)) [
              | inr found ↦ inr (clash_higher up.above up.size (λ level. meets-up left right i s (old_own, own) path
                  (moves-alone left right i s (old_own, own) path alone level)) found)
              | inl here ↦ inl (record {
                is = sym (above-last hash none xs up.row up.above (i / 2) i last.1 (omega arith)) ∙ here.is;
                hashed = lowered k i s xs up.row old_own old_own old up.above long inside low
                    (if_even i _ _ (omega (arith, last.1))) here.hashed;
              })
            ]
      ]
    where
      -- what the step hashes for the old root, with the list's own value on the left
      last_of : (i : ℕ) (xs : List D) (old_own own digest next : D) → in_order i own digest ≡ pair_of none xs (i / 2)
          → (if i % 2 == 1 then (hash digest old_own) else (Ok old_own)) ≡ Ok next
          → (if i % 2 == 1 then (joined hash (Ok (get_or xs (i - 1) none)) (Ok old_own)) else (Ok old_own)) ≡ Ok next
      last_of i xs old_own own digest next both step = elim (cases_lt (i % 2) 1) [
        | inl even ↦ rw (even_test i (omega arith)) (rw (even_test i (omega arith)) at step)
        | inr odd ↦
            let e : i / 2 + i / 2 ≡ i - 1 = omega arith in
            let is : digest ≡ get_or xs (i - 1) none = ap (λ q. q.0) (rw (odd_test i (omega arith)) at both)
            ∙ ap (λ n. get_or xs n none) e in
            rw (odd_test i (omega arith)) (ap (λ d. hash d old_own) (sym is) ∙ rw (odd_test i (omega arith)) at step)
      ]
  walk-begins zero i s old_own own path old new xs long inside low tree way = absurd (omega arith)

  -- from the digest that both trees have
  seeded-begins : (k i s : ℕ) (old : D) (path : List D) (new : D) (xs : List D) → i % 2 ≡ 0 → length xs ≡ s + 1
      → i ≤ s → s < 2 ^ k → tree_hash (joined hash) empty k (there xs) ≡ Ok new
      → from_seed hash k i s old path ≡ Ok (Some (old, new))
      → (tree_hash (joined hash) empty k (there (take (i + 1) xs)) ≡ Ok old) ⊎ WalkCollides hash empty xs i s old path
  seeded-begins k i s old path new xs even long inside low tree way = elim (cases_eq i 0) [
    | inl first ↦ whole old path (inl (first, refl, refl)) (rw (eq-eqb i 0 first) at way)
    | inr later ↦
        let n = had_next {E = E} Ok (from_shared hash k i s) path (old, new) (rw (ne_eqb i 0 later) at way) in
        let step : n.digest ≡ n.state = done_injective {E = E} n.digest n.state n.stepped in
        whole n.state n.rest (inr (omega arith, n.is ∙ ap (λ d. d ∷ n.rest) step)) n.went
  ]
    where
      whole : (digest : D) (rest : List D) → (i ≡ 0) × (digest ≡ old) × (rest ≡ path) ⊎ (0 < i)
          × (path ≡ digest ∷ rest) → from_shared hash k i s digest rest ≡ Ok (Some (old, new))
          → (tree_hash (joined hash) empty k (there (take (i + 1) xs)) ≡ Ok old)
          ⊎ WalkCollides hash empty xs i s old path
      whole digest rest is e = elim (walk-begins k i s digest digest rest old new xs long inside low tree e) [
        | inr found ↦ inr (0, digest, rest, seed_here even is, found.0, found.1)
        | inl here ↦ inl (ap (λ l. tree_hash (joined hash) empty k (there l)) (take_more xs i none (omega arith)
            ∙ ap (λ x. take i xs ++ (x ∷ [])) here.is) ∙ here.hashed)
      ]

  -- The front of the list has the old root, or two pairs collide.
  pub both_roots-begins : (k i s : ℕ) (old : D) (path : List D) (new : D) (xs : List D) → length xs ≡ s + 1 → i ≤ s
      → s < 2 ^ k → tree_hash (joined hash) empty k (there xs) ≡ Ok new
      → both_roots hash k i s old path ≡ Ok (Some (old, new))
      → (tree_hash (joined hash) empty k (there (take (i + 1) xs)) ≡ Ok old) ⊎ WalkCollides hash empty xs i s old path
  both_roots-begins zero i s old path new xs long inside low tree way =
      seeded-begins zero i s old path new xs (omega arith) long inside low tree way
  both_roots-begins (suc k) i s old path new xs long inside low tree way = elim (cases_lt (i % 2) 1) [
    | inl even ↦
        seeded-begins (suc k) i s old path new xs (omega arith) long inside low tree
        (sym (both_roots-even hash k i s old path (omega arith)) ∙ way)
    | inr odd ↦
        let is_odd : i % 2 ≡ 1 = omega arith in
        let up = row_above hash empty k s xs new long low tree in
        let pre : i + 1 ≡ (i / 2 + 1) + (i / 2 + 1) = omega arith in
        let all = length-map {B = Result D E} (take (i + 1) xs) Ok in
        let first = length-take-le (i + 1) xs (omega arith) in
        elim (both_roots-begins k (i / 2) (s / 2) old path new up.row up.long (omega arith) up.low up.hashed
        (sym (both_roots-odd hash k i s old path is_odd) ∙ way)) [
          | inr found ↦ inr (
            suc found.0,
            found.1,
            found.2,
            seed_higher is_odd found.3,
            found.4,
            record {
              reached = found.5.reached;
              sibling = found.5.sibling;
              met = found.5.met;
              pair = found.5.pair;
              tree = higher_pair hash empty up.above up.size (omega arith) found.5.tree;
              collide = found.5.collide;
            },
          )
          | inl rows ↦ inl (tree_hash-up (joined hash) empty k (there (take (i + 1) xs)) (omega arith)
              ∙ ap (tree_hash (joined hash) empty k) (above-take hash (i / 2 + 1) (i + 1) xs up.row up.above pre)
              ∙ rows)
        ]
  ]
