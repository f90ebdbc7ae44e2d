-- A tree's own proofs lead to its root.
use Rattle.std.proofs.Common.{zero, suc, ◌≡◌, ℕ, ◌+◌, ◌-◌, ◌/◌, ◌%◌, ◌<◌, ◌≤◌, ◌^◌, true, false, ◌==◌, if◌then◌else◌, List, [], ◌∷◌, ◌++◌, length, take, get_or, Result, Ok, Some, arith, refl, ap, sym, ◌∙◌, inl, inr}
use Rattle.std.proofs.lemmas.Bool.{cases_lt, cases_Bool, ne_eqb, false≢true}
use Rattle.std.proofs.lemmas.List.{length-take-le, length-map, length-append, map-append, take_more}
use Rattle.ark_base.specs.Outcome.{◌>>=◌}
use Rattle.ark_base.specs.Laws.Steps.{done, done_injective}
use Rattle.merkle_log.specs.Trees.{tree_hash, path, subproof}
use Rattle.merkle_log.specs.Walk.{joined, with_next, walk, on_left, on_right, both_left, new_right, from_shared, from_seed, both_roots, has_beside, in_order}
use Rattle.merkle_log.proofs.RowsUp.{row_up}
use Rattle.merkle_log.proofs.Tests.{odd_test, even_test, if_even}
use Rattle.merkle_log.proofs.PathRows.{Right, Left, Alone, side, beside, beside-odd, beside-even, beside-last, path-up}
use Rattle.merkle_log.proofs.SubproofRows.{seed, seed-more, subproof-up, subproof-odd, tree_hash-one}
use Rattle.merkle_log.proofs.Above.{there, IsAbove, row_above, above-pair, above-last, above-take, row_up-cut}
use Rattle.merkle_log.proofs.TreePairs.{get_or-there, pair_of, pair_same}
use Rattle.merkle_log.proofs.Sound.{turn, turned, walk-next, walk-alone, beside-inside, beside-none, alone-last}
use Rattle.merkle_log.proofs.Agree.{both_roots-odd, both_roots-even}

-- digests that begin with one
pub there-cons : {D E : Type 0} (c : D) (rest : List (Result D E)) (p : List D) → Ok c ∷ rest ≡ there p
    → (more : List D) × (p ≡ c ∷ more) × (rest ≡ there more)
there-cons c rest [] e = absurd cc
there-cons {D} {E} c rest (d ∷ p) e = (
  p,
  let h : done {E = E} c ≡ done d = cc in ap (λ x. x ∷ p)
      (sym (done_injective c d h)),
  cc,
)

-- digests with one more behind
there-push : {D E : Type 0} (ys zs : List D) (x : Result D E) → there zs ≡ there ys ++ (x ∷ []) → (d : D) × (x ≡ Ok d)
    × (zs ≡ ys ++ (d ∷ []))
there-push [] (z ∷ []) x e = (z, cc, refl)
there-push {D} {E} (y ∷ ys) (z ∷ zs) x e =
    let tails : there zs ≡ there ys ++ (x ∷ []) = cc in
    let h : done {E = E} z ≡ done y = cc in
    let r = there-push ys zs x tails in
    (r.0, r.1, cons_same (done_injective {E = E} z y h) r.2)
  where
    cons_same : {a b : D} {xs ws : List D} → a ≡ b → xs ≡ ws → a ∷ xs ≡ b ∷ ws
    cons_same e f = cc
there-push ys zs x e = absurd cc

module _ {D E : Type 0} (hash : D → D → Result D E) (none : D) (empty : Result D E) where
  -- ---- the path of an index, and that of its half in the row above

  -- A path whose first digest stands beside the index, the two in order.
  record Next (k i : ℕ) (xs ys p : List D) : Type 0 where
    pub sibling : D
    pub rest : List D
    pub is : p ≡ sibling ∷ rest
    pub path_is : path (joined hash) empty k (i / 2) (there ys) ≡ there rest
    pub pair_is : in_order i (get_or xs i none) sibling ≡ pair_of none xs (i / 2)
    pub hashed : hash (in_order i (get_or xs i none) sibling).0 (in_order i (get_or xs i none) sibling).1
        ≡ Ok (get_or ys (i / 2) none)

  -- a level up of the path of an index
  module _ (k i s : ℕ) (xs ys p : List D) (up : IsAbove hash xs ys) (long : length xs ≡ s + 1) (inside : i ≤ s)
      (low : s < 2 ^ suc k) (is : path (joined hash) empty (suc k) i (there xs) ≡ there p) where
    all : length (there {E = E} xs) ≡ length xs
    all = length-map xs Ok

    parts : beside empty i (there xs) ++ path (joined hash) empty k (i / 2) (there ys) ≡ there p
    parts = ap (λ r. beside empty i (there xs) ++ path (joined hash) empty k (i / 2) r) (sym up.is)
        ∙ sym (path-up (joined hash) empty k i (there xs) (omega (arith, all)) (omega (arith, all))) ∙ is

    next_of : has_beside i s ≡ true → (sibling : D) → beside empty i (there xs) ≡ Ok sibling ∷ []
        → in_order i (get_or xs i none) sibling ≡ pair_of none xs (i / 2) → Next k i xs ys p
    next_of inside_it sibling stands pair_is =
        let n = there-cons sibling _ p (ap (λ l. l ++ path (joined hash) empty k (i / 2) (there ys)) (sym stands)
        ∙ parts) in
        record {
          sibling = sibling;
          rest = n.0;
          is = n.1;
          path_is = n.2;
          pair_is = pair_is;
          hashed = ap (λ q. hash q.0 q.1) pair_is ∙ above-pair hash none xs ys up (i / 2)
              (omega (arith, beside-inside i s inside inside_it));
        }

    own_next : has_beside i s ≡ true → Next k i xs ys p
    own_next stands = elim (side i (length xs)) [
      | Right odd ↦
          let left : i - 1 ≡ i / 2 + i / 2 = omega arith in
          let right : i ≡ i / 2 + i / 2 + 1 = omega arith in
          next_of stands (get_or xs (i - 1) none) (beside-odd empty i (there xs) odd
          ∙ ap (λ x. x ∷ []) (get_or-there none empty xs (i - 1) (omega arith))) (rw (odd_test i odd)
          (pair_same _ _ (ap (λ n. get_or xs n none) left) (ap (λ n. get_or xs n none) right)))
      | Left even more ↦
          let left : i ≡ i / 2 + i / 2 = omega arith in
          let right : i + 1 ≡ i / 2 + i / 2 + 1 = omega arith in
          next_of stands (get_or xs (i + 1) none) (beside-even empty i (there xs) even (omega (arith, all))
          ∙ ap (λ x. x ∷ []) (get_or-there none empty xs (i + 1) more)) (rw (even_test i even)
          (pair_same _ _ (ap (λ n. get_or xs n none) left) (ap (λ n. get_or xs n none) right)))
      | Alone even last ↦ absurd (false≢true (sym (beside-none i s even (omega arith)) ∙ stands))
    ]

    own_alone : has_beside i s ≡ false → path (joined hash) empty k (i / 2) (there ys) ≡ there p
    own_alone alone =
        ap (λ l. l ++ path (joined hash) empty k (i / 2) (there ys)) (sym (beside-last empty i (there xs)
        (omega (arith, alone-last i s inside alone)) (omega (arith, alone-last i s inside alone, all)))) ∙ parts

  -- ---- inclusion

  pub walk-own : (k i s : ℕ) (xs : List D) (p : List D) (root : D) → length xs ≡ s + 1 → i ≤ s → s < 2 ^ k
      → tree_hash (joined hash) empty k (there xs) ≡ Ok root
      → path (joined hash) empty k i (there xs) ≡ there p → walk (on_left hash) (on_right hash) k i s (get_or xs i none)
      p ≡ Ok (Some root)
  walk-own zero zero s (x ∷ xs) [] root long inside low tree is = ap (λ (r : Result D E). r >>= λ d. Ok (Some d)) tree
  walk-own zero zero s (x ∷ xs) (c ∷ p) root long inside low tree is = absurd cc
  walk-own (suc k) i s xs p root long inside low tree is =
      let up = row_above hash empty k s xs root long low tree in
      let ih = λ (q : List D). walk-own k (i / 2) (s / 2) up.row q root up.long (omega arith) up.low up.hashed in
      elim (cases_Bool (has_beside i s)) [
        | inl beside ↦
            let n = own_next k i s xs up.row p up.above long inside low is beside in
            walk-next (on_left hash) (on_right hash) k i s (get_or xs i none) p beside n.is
            (turned hash i (get_or xs i none) n.sibling ∙ n.hashed) ∙ ih n.rest n.path_is
        | inr alone ↦
            let last = alone-last i s inside alone in
            walk-alone (on_left hash) (on_right hash) k i s (get_or xs i none) p alone
            ∙ ap (λ d. walk (on_left hash) (on_right hash) k (i / 2) (s / 2) d p)
            (sym (above-last hash none xs up.row up.above (i / 2) i last.1 (omega arith)))
            ∙ ih p (own_alone k i s xs up.row p up.above long inside low is alone)
      ]
  walk-own zero i s xs p root long inside low tree is = absurd (omega arith)

  -- ---- consistency

  -- a step of both ways, where it hashes the old digest too
  both_turned : (i : ℕ) (old own digest left old_up own_up : D) → (i % 2 ≡ 1 → digest ≡ left)
      → (if i % 2 == 1 then (joined hash (Ok left) (Ok old)) else (Ok old)) ≡ Ok old_up
      → hash (in_order i own digest).0 (in_order i own digest).1 ≡ Ok own_up
      → turn (both_left hash) (new_right hash) (i % 2 == 1) (old, own) digest ≡ Ok (old_up, own_up)
  both_turned i old own digest left old_up own_up is e f = elim (cases_lt (i % 2) 1) [
    | inl even ↦
        let kept : old ≡ old_up = done_injective {E = E} old old_up (rw (even_test i (omega arith)) at e) in
        rw (even_test i (omega arith), rw (even_test i (omega arith)) at f, kept) refl
    | inr odd ↦
        rw (
          odd_test i (omega arith),
          rw (odd_test i (omega arith)) at f,
          is (omega arith),
          rw (odd_test i (omega arith)) at e,
        ) refl
  ]

  walk-own_two : (k i s : ℕ) (xs : List D) (old_own : D) (p : List D) (old new : D) → length xs ≡ s + 1 → i ≤ s
      → s < 2 ^ k
      → tree_hash (joined hash) empty k (there (take i xs ++ (old_own ∷ []))) ≡ Ok old → tree_hash (joined hash) empty k
      (there xs) ≡ Ok new
      → path (joined hash) empty k i (there xs) ≡ there p → walk (both_left hash) (new_right hash) k i s
      (old_own, get_or xs i none) p ≡ Ok (Some (old, new))
  walk-own_two zero zero s (x ∷ xs) old_own [] old new long inside low old_tree tree is =
      ap (λ (r : Result D E). r >>= λ o. Ok (Some (o, x))) old_tree ∙ ap (λ (r : Result D E). r >>= λ d.
      Ok (Some (old, d))) tree
  walk-own_two zero zero s (x ∷ xs) old_own (c ∷ p) old new long inside low old_tree tree is = absurd cc
  walk-own_two (suc k) i s xs old_own p old new long inside low old_tree tree is =
      let up = row_above hash empty k s xs new long low tree in
      let old_up = row_above hash empty k i (take i xs ++ (old_own ∷ [])) old
      (omega (arith, length-append (take i xs) (old_own ∷ []), length-take-le i xs (omega arith))) (omega arith)
      old_tree in
      let last = there-push (take (i / 2) up.row) old_up.row _ (sym old_up.above.is
      ∙ ap (row_up (joined hash)) (map-append Ok (take i xs) (old_own ∷ []))
      ∙ row_up-cut hash none i xs up.row (Ok old_own) (λ c d two le. above-take hash c d xs up.row up.above two)
      (omega arith)) in
      let ih = λ (q : List D). walk-own_two k (i / 2) (s / 2) up.row last.0 q old new up.long (omega arith) up.low
      (ap (λ l. tree_hash (joined hash) empty k (there l)) (sym last.2) ∙ old_up.hashed) up.hashed in
      elim (cases_Bool (has_beside i s)) [
        | inl beside ↦
            let n = own_next k i s xs up.row p up.above long inside low is beside in
            let sibling_is = λ (odd : i % 2 ≡ 1). let e : i / 2 + i / 2 ≡ i - 1 = omega arith in
            ap (λ q. q.0) (rw (odd_test i odd) at n.pair_is) ∙ ap (λ n. get_or xs n none) e in
            walk-next (both_left hash) (new_right hash) k i s (old_own, get_or xs i none) p beside n.is
            (both_turned i old_own (get_or xs i none) n.sibling (get_or xs (i - 1) none) last.0
            (get_or up.row (i / 2) none) sibling_is last.1 n.hashed) ∙ ih n.rest n.path_is
        | inr alone ↦
            let end = alone-last i s inside alone in
            let kept = done_injective {E = E} old_own last.0 (sym (if_even i _ _ (omega arith)) ∙ last.1) in
            walk-alone (both_left hash) (new_right hash) k i s (old_own, get_or xs i none) p alone
            ∙ ap (λ e. walk (both_left hash) (new_right hash) k (i / 2) (s / 2) e p)
            (pair_same (old_own, get_or xs i none) (last.0, get_or up.row (i / 2) none) kept
            (sym (above-last hash none xs up.row up.above (i / 2) i end.1 (omega arith))))
            ∙ ih p (own_alone k i s xs up.row p up.above long inside low is alone)
      ]
  walk-own_two zero i s xs old_own p old new long inside low old_tree tree is = absurd (omega arith)

  -- from the last of an odd number of values
  seeded-own : (k i s : ℕ) (xs : List D) (p : List D) (old new : D) → i % 2 ≡ 0 → length xs ≡ s + 1 → i < s → s < 2 ^ k
      → tree_hash (joined hash) empty k (there (take (i + 1) xs)) ≡ Ok old → tree_hash (joined hash) empty k
      (there xs) ≡ Ok new
      → subproof (joined hash) empty k (i + 1) (there xs) true ≡ there p → from_seed hash k i s old p
      ≡ Ok (Some (old, new))
  seeded-own k zero s (x ∷ xs) p old new even long inside low old_tree tree is =
      let same : x ≡ old = done_injective {E = E} x old (sym (tree_hash-one (joined hash) empty k (Ok x)) ∙ old_tree) in
      let all = length-map {B = Result D E} (x ∷ xs) Ok in
      let parts = sym (subproof-odd (joined hash) empty k 1 (there (x ∷ xs)) true refl (omega arith) (inr refl)
      (omega arith)) ∙ is in
      ap (λ d. walk (both_left hash) (new_right hash) k 0 s (old, d) p) (sym same)
      ∙ walk-own_two k 0 s (x ∷ xs) old p old new long (omega arith) low (tree_hash-one (joined hash) empty k (Ok old))
      tree parts
  seeded-own k (suc j) s xs p old new even long inside low old_tree tree is =
      let all : length (there {E = E} xs) ≡ length xs = length-map xs Ok in
      let one : suc j + 1 - 1 ≡ suc j = omega arith in
      let own = get_or xs (suc j) none in
      let front = seed-more empty true (suc j + 1) (there xs) (omega arith) ∙ ap (λ n. get_or (there xs) n empty ∷ [])
      one ∙ ap (λ x. x ∷ []) (get_or-there none empty xs (suc j) (omega arith)) in
      let parts = ap (λ l. l ++ path (joined hash) empty k (suc j) (there xs)) (sym front)
      ∙ ap (λ n. seed empty true (suc j + 1) (there xs) ++ path (joined hash) empty k n (there xs)) (sym one)
      ∙ sym (subproof-odd (joined hash) empty k (suc j + 1) (there xs) true (omega arith) (omega arith)
      (inl (omega arith)) (omega arith)) ∙ is in
      let n = there-cons own (path (joined hash) empty k (suc j) (there xs)) p parts in
      rw (ne_eqb (suc j) 0 (λ e. omega arith)) (ap (with_next Ok (from_shared hash k (suc j) s)) n.1)
      ∙ walk-own_two k (suc j) s xs own n.0 old new long (omega arith) low
      (ap (λ l. tree_hash (joined hash) empty k (there l)) (sym (take_more xs (suc j) none (omega arith)))
      ∙ old_tree) tree n.2
  seeded-own k i s xs p old new even long inside low old_tree tree is = absurd (omega arith)

  pub both_roots-own : (k i s : ℕ) (xs : List D) (p : List D) (old new : D) → length xs ≡ s + 1 → i < s → s < 2 ^ k
      → tree_hash (joined hash) empty k (there (take (i + 1) xs)) ≡ Ok old → tree_hash (joined hash) empty k
      (there xs) ≡ Ok new
      → subproof (joined hash) empty k (i + 1) (there xs) true ≡ there p → both_roots hash k i s old p
      ≡ Ok (Some (old, new))
  both_roots-own zero i s xs p old new long inside low old_tree tree is = absurd (omega arith)
  both_roots-own (suc k) i s xs p old new long inside low old_tree tree is =
      elim (cases_lt (i % 2) 1) [
        | inl even ↦ both_roots-even hash k i s old p (omega arith) ∙ seeded-own (suc k) i s xs p old new (omega arith)
            long inside low old_tree tree is
        | inr odd ↦
            let up = row_above hash empty k s xs new long low tree in
            let old_up = row_above hash empty k i (take (i + 1) xs) old (length-take-le (i + 1) xs (omega arith))
            (omega arith) old_tree in
            let c = i / 2 + 1 in
            let pre : i + 1 ≡ c + c = omega arith in
            let half : (i + 1) / 2 ≡ c = omega arith in
            let size : length (there {E = E} xs) ≡ s + 1 = length-map xs Ok ∙ long in
            let is_up : subproof (joined hash) empty k c (there up.row) true ≡ there p =
            ap (λ r. subproof (joined hash) empty k c r true) (sym up.above.is)
            ∙ ap (λ n. subproof (joined hash) empty k n (row_up (joined hash) (there xs)) true) (sym half)
            ∙ sym (subproof-up (joined hash) empty k (i + 1) (there xs) true (omega arith) (omega arith) (omega arith)
            (omega arith)) ∙ is in
            both_roots-odd hash k i s old p (omega arith) ∙ both_roots-own k (i / 2) (s / 2) up.row p old new
            up.long (omega arith) up.low (ap (tree_hash (joined hash) empty k)
            (sym (above-take hash c (i + 1) xs up.row up.above pre) ∙ old_up.above.is) ∙ old_up.hashed) up.hashed is_up
      ]
