-- What a way that ends at the root says of a tree with that root.
use Rattle.std.proofs.Common.{zero, suc, ◌≡◌, ◌≢◌, ℕ, ◌+◌, ◌/◌, ◌%◌, ◌<◌, ◌≤◌, ◌^◌, ◌⊎◌, Bool, true, false, nat_lt, ◌==◌, ◌||◌, if◌then◌else◌, List, [], ◌∷◌, length, take, drop, get_or, Result, Ok, Option, Some, arith, refl, ap, sym, ◌∙◌, inl, inr}
use Rattle.std.proofs.lemmas.Bool.{cases_lt, cases_Bool, lt-ltb, le-ltb, or_parts, or_right, false≢true}
use Rattle.ark_base.specs.Laws.Steps.{bind_ok}
use Rattle.ark_base.specs.Outcome.{◌>>=◌}
use Rattle.merkle_log.specs.Trees.{tree_hash}
use Rattle.merkle_log.specs.Collision.{Collide, PathCollidesAt}
use Rattle.merkle_log.specs.Walk.{joined, finish, with_next, walk, on_left, on_right, has_beside, used_below, index_up, in_order, Meets}
use Rattle.merkle_log.proofs.Above.{there, IsAbove, row_above, above-pair, above-last}
use Rattle.merkle_log.proofs.Tests.{odd_test, even_test}
use Rattle.merkle_log.proofs.TreePairs.{pair_of, own_of, tree_pair-up, tree_pair-zero, same_pairs}

-- ---- whether a digest stands beside

pub beside-right : (i s : ℕ) → i % 2 ≡ 1 → has_beside i s ≡ true
beside-right i s odd = rw (odd_test i odd) refl

pub beside-left : (i s : ℕ) → i < s → has_beside i s ≡ true
beside-left i s more = or_right (i % 2 == 1) (nat_lt i s) (lt-ltb i s more)

pub beside-none : (i s : ℕ) → i % 2 ≡ 0 → s ≤ i → has_beside i s ≡ false
beside-none i s even last = rw (even_test i even, le-ltb i s last) refl

-- then both are in the row
pub beside-inside : (i s : ℕ) → i ≤ s → has_beside i s ≡ true → i / 2 + i / 2 < s
beside-inside i s inside beside = elim (cases_lt (i / 2 + i / 2) s) [
  | inl less ↦ less
  | inr end ↦ absurd (false≢true (sym (beside-none i s (omega arith) (omega arith)) ∙ beside))
]

-- and otherwise the index is the last, and even
pub alone-last : (i s : ℕ) → i ≤ s → has_beside i s ≡ false → (s ≡ i) × (i ≡ i / 2 + i / 2)
alone-last i s inside alone = elim (cases_lt (i % 2) 1) [
  | inr odd ↦ absurd (false≢true (sym alone ∙ beside-right i s (omega arith)))
  | inl even ↦ elim (cases_lt i s) [
    | inl more ↦ absurd (false≢true (sym alone ∙ beside-left i s more))
    | inr last ↦ (omega arith, omega arith)
  ]
]

-- ---- one level of a way

-- the step at a level: left at an odd index
abbrev pub turn : {D S E : Type 0} → (D → S → Result S E) → (D → S → Result S E) → Bool → S → D → Result S E
turn left right is_right state digest = if is_right then (left digest state) else (right digest state)

pub walk-beside : {D S E : Type 0} (left right : D → S → Result S E) (k i s : ℕ) (state : S) (path : List D)
    → has_beside i s ≡ true → walk left right (suc k) i s state path
    ≡ with_next (turn left right (i % 2 == 1) state) (walk left right k (i / 2) (s / 2)) path
walk-beside {D} {S} {E} left right k i s state path beside = by_tests (i % 2 == 1) (nat_lt i s) beside
  where
    next : S → List D → Result (Option S) E
    next = walk left right k (i / 2) (s / 2)

    by_tests : (odd less : Bool) → (odd || less) ≡ true → (if odd then (with_next (λ d. left d state) next path)
        else (if less then (with_next (λ d. right d state) next path) else (next state path)))
        ≡ with_next (turn left right odd state) next path
    by_tests true less e = refl
    by_tests false true e = refl
    by_tests false false e = absurd cc

pub walk-alone : {D S E : Type 0} (left right : D → S → Result S E) (k i s : ℕ) (state : S) (path : List D)
    → has_beside i s ≡ false
    → walk left right (suc k) i s state path ≡ walk left right k (i / 2) (s / 2) state path
walk-alone left right k i s state path alone =
    let both = or_parts (i % 2 == 1) (nat_lt i s) alone in rw (both.0, both.1) refl

pub walk-next : {D S E : Type 0} (left right : D → S → Result S E) (k i s : ℕ) (state : S) (path : List D) {digest : D}
    {rest : List D} {next : S} → has_beside i s ≡ true → path ≡ digest ∷ rest
    → turn left right (i % 2 == 1) state digest ≡ Ok next
    → walk left right (suc k) i s state path ≡ walk left right k (i / 2) (s / 2) next rest
walk-next left right k i s state path {digest} {rest} beside is step =
    walk-beside left right k i s state path beside
    ∙ ap (with_next (turn left right (i % 2 == 1) state) (walk left right k (i / 2) (s / 2))) is
    ∙ ap (λ o. o >>= λ next. walk left right k (i / 2) (s / 2) next rest) step

-- a step is the hash of the digest and the one beside it
pub turned : {D E : Type 0} (hash : D → D → Result D E) (i : ℕ) (own sibling : D)
    → turn (on_left hash) (on_right hash) (i % 2 == 1) own sibling
    ≡ hash (in_order i own sibling).0 (in_order i own sibling).1
turned {D} {E} hash i own sibling = by_test (i % 2 == 1)
  where
    ordered : Bool → D × D
    ordered odd = if odd then (sibling, own) else (own, sibling)

    by_test : (odd : Bool) → turn (on_left hash) (on_right hash) odd own sibling
        ≡ hash (ordered odd).0 (ordered odd).1
    by_test true = refl
    by_test false = refl

-- a level that had its digest
pub record HadNext {D S R E : Type 0} (step : D → Result S E) (next : S → List D → Result (Option R) E) (path : List D)
    (end : R) : Type 0 where
  pub digest : D
  pub rest : List D
  pub is : path ≡ digest ∷ rest
  pub state : S
  pub stepped : step digest ≡ Ok state
  pub went : next state rest ≡ Ok (Some end)

pub had_next : {D S R E : Type 0} (step : D → Result S E) (next : S → List D → Result (Option R) E) (path : List D)
    (end : R) → with_next step next path ≡ Ok (Some end) → HadNext step next path end
had_next step next [] end e = absurd cc
had_next step next (digest ∷ rest) end e =
    let b = bind_ok (step digest) (λ state. next state rest) (Some end) e in
    record { digest = digest; rest = rest; is = refl; state = b.0; stepped = b.1; went = b.2 }

pub stepped : {D S E : Type 0} (left right : D → S → Result S E) (k i s : ℕ) (state : S) (path : List D) (end : S)
    → has_beside i s ≡ true → walk left right (suc k) i s state path ≡ Ok (Some end)
    → HadNext (turn left right (i % 2 == 1) state) (walk left right k (i / 2) (s / 2)) path end
stepped left right k i s state path end beside way = had_next (turn left right (i % 2 == 1) state)
    (walk left right k (i / 2) (s / 2)) path end (sym (walk-beside left right k i s state path beside) ∙ way)

pub ended : {D S E : Type 0} (state : S) (path : List D) (end : S) → finish {E = E} state path ≡ Ok (Some end)
    → (path ≡ []) × (state ≡ end)
ended state [] end e = (refl, cc)
ended state (digest ∷ rest) end e = absurd cc

-- ---- what a way meets

-- at the lowest level
pub meets-zero : {D S E : Type 0} (left right : D → S → Result S E) (i s : ℕ) (state : S) (path : List D) (digest : D)
    (rest : List D) → has_beside i s ≡ true → path ≡ digest ∷ rest → Meets left right i s state path 0 state digest
meets-zero left right i s state path digest rest beside is =
    record { beside = beside; rest = rest; next_is = is; reached_is = refl }

-- a level higher
module _ {D S E : Type 0} (left right : D → S → Result S E) (i s : ℕ) (state : S) (path : List D) where
  -- What is left of the path and where the way is, some levels up, are so from the level above this one, too.
  pub record Moves (level : ℕ) (next : S) (rest : List D) : Type 0 where
    pub drops : drop (used_below (suc level) i s) path ≡ drop (used_below level (i / 2) (s / 2)) rest
    pub walks : walk left right (suc level) i s state (take (used_below (suc level) i s) path)
        ≡ walk left right level (i / 2) (s / 2) next (take (used_below level (i / 2) (s / 2)) rest)

  pub moves-beside : {digest : D} {rest : List D} {next : S} → has_beside i s ≡ true → path ≡ digest ∷ rest
      → turn left right (i % 2 == 1) state digest ≡ Ok next → (level : ℕ) → Moves level next rest
  moves-beside {digest} {rest} {next} beside is stepped level =
      let u = used_below level (i / 2) (s / 2) in
      let used : used_below (suc level) i s ≡ suc u = rw (beside) refl in
      record {
        drops = ap (λ n. drop n path) used ∙ ap (drop (suc u)) is;
        walks = ap (λ n. walk left right (suc level) i s state (take n path)) used
            ∙ walk-next left right level i s state (take (suc u) path) beside (ap (take (suc u)) is) stepped;
      }

  pub moves-alone : has_beside i s ≡ false → (level : ℕ) → Moves level state path
  moves-alone alone level =
      let used : used_below (suc level) i s ≡ used_below level (i / 2) (s / 2) = rw (alone) refl in
      record {
        drops = ap (λ n. drop n path) used;
        walks = ap (λ n. walk left right (suc level) i s state (take n path)) used
            ∙ walk-alone left right level i s state (take (used_below level (i / 2) (s / 2)) path) alone;
      }

  pub meets-up : {level : ℕ} {next : S} {rest : List D} → Moves level next rest → (reached : S) (sibling : D)
      → Meets left right (i / 2) (s / 2) next rest level reached sibling
      → Meets left right i s state path (suc level) reached sibling
  meets-up moved reached sibling met = record {
    beside = met.beside;
    rest = met.rest;
    next_is = moved.drops ∙ met.next_is;
    reached_is = moved.walks ∙ met.reached_is;
  }

  pub meets-down : {level : ℕ} {next : S} {rest : List D} → Moves level next rest → (reached : S) (sibling : D)
      → Meets left right i s state path (suc level) reached sibling
      → Meets left right (i / 2) (s / 2) next rest level reached sibling
  meets-down moved reached sibling met = record {
    beside = met.beside;
    rest = met.rest;
    next_is = sym moved.drops ∙ met.next_is;
    reached_is = sym moved.walks ∙ met.reached_is;
  }

-- ---- inclusion

module _ {D E : Type 0} (same : (x y : D) → (x ≡ y) ⊎ (x ≢ y)) (hash : D → D → Result D E) where
  -- The digest stands in a row, or at some level the walk's pair and the tree's collide.
  abbrev pub Binds : D → Result D E → List D → ℕ → ℕ → D → List D → Type 0
  Binds none empty xs i s own path = (get_or xs i none ≡ own) ⊎ ((level : ℕ) × PathCollidesAt hash empty xs i s own
      path level)

  -- what collides in the row above collides here
  module _ {empty : Result D E} {xs : List D} {i s : ℕ} {own : D} {path : List D} where
    pub higher_collision : {ys : List D} (state : D) (rest : List D) (level : ℕ) → IsAbove hash xs ys → length ys
        ≡ (length xs + 1) / 2
        → ((reached sibling : D) → Meets (on_left hash) (on_right hash) (i / 2) (s / 2) state rest level reached sibling
        → Meets (on_left hash) (on_right hash) i s own path (suc level) reached sibling)
        → PathCollidesAt hash empty ys (i / 2) (s / 2) state rest level
        → PathCollidesAt hash empty xs i s own path (suc level)
    higher_collision {ys} state rest level up size met found = record {
      reached = found.reached;
      sibling = found.sibling;
      met = met found.reached found.sibling found.met;
      pair = found.pair;
      tree = tree_pair-up empty xs ys level (index_up (suc level) (i / 2)) found.pair up size found.tree;
      collide = found.collide;
    }

    -- the lowest pairs
    pub lowest_collision : (none sibling : D) (rest : List D) → i ≤ s → length xs ≡ s + 1 → has_beside i s ≡ true → path
        ≡ sibling ∷ rest → Collide hash (in_order i own sibling) (pair_of none xs (i / 2))
        → PathCollidesAt hash empty xs i s own path 0
    lowest_collision none sibling rest inside long beside is collide =
        let less = beside-inside i s inside beside in
        record {
          reached = own;
          sibling = sibling;
          met = meets-zero (on_left hash) (on_right hash) i s own path sibling rest beside is;
          pair = pair_of none xs (i / 2);
          tree = tree_pair-zero none empty xs (i / 2) (omega arith);
          collide = collide;
        }

  pub walk-binds : (none : D) (empty : Result D E) (k i s : ℕ) (own : D) (path : List D) (root : D) (xs : List D)
      → length xs ≡ s + 1 → i ≤ s → s < 2 ^ k
      → tree_hash (joined hash) empty k (there xs) ≡ Ok root → walk (on_left hash) (on_right hash) k i s own path
      ≡ Ok (Some root)
      → Binds none empty xs i s own path
  walk-binds none empty zero zero s own path root (x ∷ xs) long inside low tree way =
      let e = ended {E = E} own path root way in inl cc
  walk-binds none empty (suc k) i s own path root xs long inside low tree way =
      let up = row_above hash empty k s xs root long low tree in
      let above = λ (next : D) (rest : List D). walk-binds none empty k (i / 2) (s / 2) next rest root up.row up.long
      (omega arith) up.low up.hashed in
      elim (cases_Bool (has_beside i s)) [
        | inl beside ↦
            let n = stepped (on_left hash) (on_right hash) k i s own path root beside way in
            let less = beside-inside i s inside beside in
            elim (above n.state n.rest n.went) [
              | inr found ↦ inr (
                suc found.0,
                higher_collision n.state n.rest found.0 up.above up.size (meets-up _ _ i s
                    own path (moves-beside _ _ i s own path beside n.is n.stepped found.0)) found.1,
              )
              | inl here ↦ elim (same_pairs same hash (in_order i own n.digest) (pair_of none xs (i / 2)) n.state
                  (sym (turned hash i own n.digest) ∙ n.stepped)
                  (above-pair hash none xs up.row up.above (i / 2) (omega arith) ∙ ap Ok here)) [
                    | inl both ↦ inl (sym (own_of none xs i own n.digest both).0)
                    | inr collide ↦ inr (0, lowest_collision none n.digest n.rest inside long beside n.is collide)
                  ]
            ]
        | inr alone ↦
            let last = alone-last i s inside alone in
            elim (above own path (sym (walk-alone (on_left hash) (on_right hash) k i s own path alone) ∙ way)) [
              | inr found ↦ inr (
                suc found.0,
                higher_collision own path found.0 up.above up.size (meets-up _ _ i s own path
                    (moves-alone _ _ i s own path alone found.0)) found.1,
              )
              | inl here ↦ inl (sym (above-last hash none xs up.row up.above (i / 2) i last.1 (omega arith)) ∙ here)
            ]
      ]
  walk-binds none empty zero i s own path root xs long inside low tree way = absurd (omega arith)
