-- What a consistency proof that is accepted says of two trees.
use Rattle.std.proofs.Common.{zero, suc, ◌≡◌, ◌≢◌, ℕ, ◌+◌, ◌/◌, ◌%◌, ◌<◌, ◌≤◌, ◌^◌, ◌⊎◌, Bool, true, false, ◌==◌, if◌then◌else◌, List, [], ◌∷◌, length, take, get_or, Result, Ok, Some, arith, refl, ap, sym, ◌∙◌, inl, inr}
use Rattle.std.proofs.lemmas.Bool.{cases_lt, cases_eq, cases_Bool, eq-eqb, ne_eqb}
use Rattle.std.proofs.lemmas.List.{take_more, take_all, take-take, get_or-take}
use Rattle.ark_base.specs.Outcome.{◌>>=◌}
use Rattle.ark_base.specs.Laws.Steps.{bind_ok, done_injective}
use Rattle.merkle_log.specs.Trees.{tree_hash}
use Rattle.merkle_log.specs.Collision.{IsSeed, IsTreePair, OldCollidesAt, NewCollidesAt, TreesCollideAt, HistoriesCollide, InOld, InNew, InTrees}
use Rattle.merkle_log.specs.Walk.{joined, walk, both_left, new_right, from_shared, from_seed, both_roots, has_beside, index_up, in_order, Meets}
use Rattle.merkle_log.proofs.Above.{there, IsAbove, higher, row_above, above-pair, above-last}
use Rattle.merkle_log.proofs.Sound.{turn, walk-alone, stepped, had_next, ended, meets-zero, meets-up, moves-beside, moves-alone, beside-inside, alone-last}
use Rattle.merkle_log.proofs.Tests.{twice, odd_test, even_test, if_even}
use Rattle.merkle_log.proofs.TreePairs.{pair_of, own_of, tree_pair-up, tree_pair-zero, same_pairs}

pub both_roots-odd : {D E : Type 0} (hash : D → D → Result D E) (k i s : ℕ) (old : D) (path : List D) → i % 2 ≡ 1
    → both_roots hash (suc k) i s old path ≡ both_roots hash k (i / 2) (s / 2) old path
both_roots-odd hash k i s old path odd = rw (odd_test i odd) refl

pub both_roots-even : {D E : Type 0} (hash : D → D → Result D E) (k i s : ℕ) (old : D) (path : List D) → i % 2 ≡ 0
    → both_roots hash (suc k) i s old path ≡ from_seed hash (suc k) i s old path
both_roots-even hash k i s old path even = if_even i _ _ even

one_more : {D : Type 0} (none : D) (c d : ℕ) (ys xs : List D) → d ≡ c + 1 → c < length ys → c < length xs → take c ys
    ≡ take c xs → get_or ys c none ≡ get_or xs c none → take d ys ≡ take d xs
one_more none c d ys xs e cy cx front own = rw (e, take_more ys c none cy, take_more xs c none cx, front, own) refl

-- fewer of the first values
one_less : {D : Type 0} (none : D) (c d : ℕ) (ys xs : List D) → c < d → take d ys ≡ take d xs → (take c ys ≡ take c xs)
    × (get_or ys c none ≡ get_or xs c none)
one_less none c d ys xs less same = (
  sym (take-take c d ys (omega arith)) ∙ ap (take c) same ∙ take-take c d xs (omega arith),
  sym (get_or-take d ys c none less) ∙ ap (λ l. get_or l c none) same ∙ get_or-take d xs c none less,
)

-- the seed of a way, at this level and at one more
pub seed_here : {D : Type 0} {i : ℕ} {root seed : D} {path rest : List D} → i % 2 ≡ 0 → (i ≡ 0) × (seed ≡ root)
    × (rest ≡ path) ⊎ (0 < i) × (path ≡ seed ∷ rest) → IsSeed i root path 0 seed rest
seed_here even is = record { whole = λ level below. absurd (omega arith); even = even; is = is }

pub seed_higher : {D : Type 0} {i start : ℕ} {root seed : D} {path rest : List D} → i % 2 ≡ 1
    → IsSeed (i / 2) root path start seed rest → IsSeed i root path (suc start) seed rest
seed_higher {D} {i} {start} odd is = record { whole = whole; even = is.even; is = is.is }
  where
    whole : (level : ℕ) → level < suc start → index_up level i % 2 ≡ 1
    whole zero below = odd
    whole (suc level) below = is.whole level (omega arith)

-- What a step of both ways hashes: for the old root only a digest that stands left, for the new one always.
pub both_stepped : {D E : Type 0} (hash : D → D → Result D E) (i : ℕ) (old own digest : D) (ends : D × D)
    → turn (both_left hash) (new_right hash) (i % 2 == 1) (old, own) digest ≡ Ok ends
    → ((if i % 2 == 1 then (hash digest old) else (Ok old)) ≡ Ok ends.0)
    × (hash (in_order i own digest).0 (in_order i own digest).1 ≡ Ok ends.1)
both_stepped {D} {E} hash i old own digest ends = by_test (i % 2 == 1)
  where
    ordered : Bool → D × D
    ordered odd = if odd then (digest, own) else (own, digest)

    by_test : (odd : Bool) → turn (both_left hash) (new_right hash) odd (old, own) digest ≡ Ok ends
        → ((if odd then (hash digest old) else (Ok old)) ≡ Ok ends.0)
        × (hash (ordered odd).0 (ordered odd).1 ≡ Ok ends.1)
    by_test true e =
        let h = bind_ok (hash digest old) (λ o. hash digest own >>= λ w. Ok (o, w)) ends e in
        let g = bind_ok (hash digest own) (λ w. Ok (h.0, w)) ends h.2 in
        let state : (h.0, g.0) ≡ ends = done_injective {A = D × D} {E = E} (h.0, g.0) ends g.2 in
        (h.1 ∙ ap (λ p. Ok p.0) state, g.1 ∙ ap (λ p. Ok p.1) state)
    by_test false e =
        let g = bind_ok (hash own digest) (λ w. Ok (old, w)) ends e in
        let state : (old, g.0) ≡ ends = done_injective {A = D × D} {E = E} (old, g.0) ends g.2 in
        (ap (λ p. Ok p.0) state, g.1 ∙ ap (λ p. Ok p.1) state)

module _ {D E : Type 0} (hash : D → D → Result D E) (empty : Result D E) where
  -- where two rows collide, of which a way begins `start` levels up
  data Clash (old_xs xs : List D) (start i s : ℕ) (ends : D × D) (path : List D) : Type 0 where
    OldPair : (level : ℕ) → OldCollidesAt hash empty old_xs start i s ends path level → Clash old_xs xs start i
        s ends path
    NewPair : (level : ℕ) → NewCollidesAt hash empty xs start i s ends path level → Clash old_xs xs start i s ends path
    OwnPairs : (level place : ℕ) → TreesCollideAt hash empty old_xs xs level place → Clash old_xs xs start i s ends path

  -- a pair of the row above, at the level that is one more
  pub higher_pair : {xs ys : List D} {a b place : ℕ} {pair : D × D} → IsAbove hash xs ys
      → length ys ≡ (length xs + 1) / 2 → b ≡ suc a → IsTreePair hash empty ys a place pair
      → IsTreePair hash empty xs b place pair
  higher_pair {xs} {ys} {a} {b} {place} {pair} up size e tree =
      rw (e) (tree_pair-up empty xs ys a place pair up size tree)

  -- rows and those above them
  module _ {old_xs xs old_ys ys : List D} (old_up : IsAbove hash old_xs old_ys) (up : IsAbove hash xs ys)
      (old_size : length old_ys ≡ (length old_xs + 1) / 2) (size : length ys ≡ (length xs + 1) / 2) where
    own_higher : (level place : ℕ) → TreesCollideAt hash empty old_ys ys level place → TreesCollideAt hash empty old_xs
        xs (suc level) place
    own_higher level place found = record {
      old_pair = found.old_pair;
      old_tree = higher_pair old_up old_size refl found.old_tree;
      new_pair = found.new_pair;
      new_tree = higher_pair up size refl found.new_tree;
      collide = found.collide;
    }

    -- the way goes on a level higher
    clash_higher : {i s : ℕ} {ends next : D × D} {path rest : List D}
        → ((level : ℕ) (reached : D × D) (sibling : D) → Meets (both_left hash) (new_right hash) (i / 2) (s / 2) next
        rest level reached sibling → Meets (both_left hash) (new_right hash) i s ends path (suc level)
        reached sibling)
        → Clash old_ys ys 0 (i / 2) (s / 2) next rest → Clash old_xs xs 0 i s ends path
    clash_higher {i} {s} met (OldPair level found) = OldPair (suc level) (record {
      reached = found.reached;
      sibling = found.sibling;
      met = met level found.reached found.sibling found.met;
      odd = found.odd;
      pair = found.pair;
      tree = higher_pair old_up old_size (omega arith) found.tree;
      collide = found.collide;
    })
    clash_higher {i} {s} met (NewPair level found) = NewPair (suc level) (record {
      reached = found.reached;
      sibling = found.sibling;
      met = met level found.reached found.sibling found.met;
      pair = found.pair;
      tree = higher_pair up size (omega arith) found.tree;
      collide = found.collide;
    })
    clash_higher met (OwnPairs level place found) = OwnPairs (suc level) place (own_higher level place found)

    -- the way begins a level higher
    histories_higher : {i s : ℕ} {root : D} {path : List D} → i % 2 ≡ 1 → HistoriesCollide hash empty old_ys ys (i / 2)
        (s / 2) root path → HistoriesCollide hash empty old_xs xs i s root path
    histories_higher {i} odd (InOld start seed rest is level found) = InOld (suc start) seed rest (seed_higher odd is)
        level (record {
          reached = found.reached;
          sibling = found.sibling;
          met = found.met;
          odd = found.odd;
          pair = found.pair;
          tree = higher_pair old_up old_size (omega arith) found.tree;
          collide = found.collide;
        })
    histories_higher {i} odd (InNew start seed rest is level found) = InNew (suc start) seed rest (seed_higher odd is)
        level (record {
          reached = found.reached;
          sibling = found.sibling;
          met = found.met;
          pair = found.pair;
          tree = higher_pair up size (omega arith) found.tree;
          collide = found.collide;
        })
    histories_higher odd (InTrees level place found) = InTrees (suc level) place (own_higher level place found)

  -- a way from its seed
  seeded : {old_xs xs : List D} {i s : ℕ} {root : D} {path : List D} (seed : D) (rest : List D) → i % 2 ≡ 0 → (i ≡ 0)
      × (seed ≡ root) × (rest ≡ path) ⊎ (0 < i) × (path ≡ seed ∷ rest) → Clash old_xs xs 0 i s (seed, seed) rest
      → HistoriesCollide hash empty old_xs xs i s root path
  seeded seed rest even is (OldPair level found) = InOld 0 seed rest (seed_here even is) level found
  seeded seed rest even is (NewPair level found) = InNew 0 seed rest (seed_here even is) level found
  seeded seed rest even is (OwnPairs level place found) = InTrees level place found

module _ {D E : Type 0} (same : (x y : D) → (x ≡ y) ⊎ (x ≢ y)) (hash : D → D → Result D E) (none : D)
    (empty : Result D E) where
  -- Rows that agree above agree below, or two pairs of theirs collide.
  pub same_below : (c d : ℕ) (xs ys old_xs old_ys : List D) → IsAbove hash old_xs old_ys → IsAbove hash xs ys → d
      ≡ c + c → d ≤ length old_xs → d ≤ length xs → take c old_ys ≡ take c ys
      → (take d old_xs ≡ take d xs) ⊎ ((place : ℕ) × TreesCollideAt hash empty old_xs xs 0 place)
  same_below zero d xs ys old_xs old_ys old_up up two old_in in_xs e = inl (rw (two) refl)
  same_below (suc c) d xs ys old_xs old_ys old_up up two old_in in_xs e =
      let less = one_less none c (suc c) old_ys ys (omega arith) e in
      elim (same_below c (c + c) xs ys old_xs old_ys old_up up refl (omega arith) (omega arith) less.0) [
        | inr found ↦ inr found
        | inl front ↦ elim (same_pairs same hash (pair_of none old_xs c) (pair_of none xs c) (get_or ys c none)
            (above-pair hash none old_xs old_ys old_up c (omega arith) ∙ ap Ok less.1)
            (above-pair hash none xs ys up c (omega arith))) [
              | inr collide ↦ inr (
                c,
                record {
                  old_pair = pair_of none old_xs c;
                  old_tree = tree_pair-zero none empty old_xs c (omega arith);
                  new_pair = pair_of none xs c;
                  new_tree = tree_pair-zero none empty xs c (omega arith);
                  collide = collide;
                },
              )
              | inl both ↦ inl (one_more none (c + c + 1) d old_xs xs (omega arith) (omega arith) (omega arith)
                  (one_more none (c + c) (c + c + 1) old_xs xs refl (omega arith) (omega arith) front
                  (ap (λ p. p.0) both)) (ap (λ p. p.1) both))
            ]
      ]

  -- What the way from index i says: of the old tree, whose last value it is, and of the new one.
  record Agrees (i : ℕ) (old_own own : D) (old_xs xs : List D) : Type 0 where
    pub old_is : get_or old_xs i none ≡ old_own
    pub is : get_or xs i none ≡ own
    pub before : take i old_xs ≡ take i xs

  walk-agrees : (k i s : ℕ) (old_own own : D) (path : List D) (old new : D) (old_xs xs : List D) → length old_xs ≡ i + 1
      → length xs ≡ s + 1 → i ≤ s → s < 2 ^ k
      → tree_hash (joined hash) empty k (there old_xs) ≡ Ok old → tree_hash (joined hash) empty k (there xs) ≡ Ok new
      → walk (both_left hash) (new_right hash) k i s (old_own, own) path ≡ Ok (Some (old, new))
      → Agrees i old_own own old_xs xs ⊎ Clash hash empty old_xs xs 0 i s (old_own, own) path
  walk-agrees zero zero s old_own own path old new (o ∷ old_xs) (x ∷ xs) old_long long inside low old_tree tree way =
      let e = ended {E = E} (old_own, own) path (old, new) way in
      let e0 : old_own ≡ old = ap (λ p. p.0) e.1 in
      let e1 : own ≡ new = ap (λ p. p.1) e.1 in
      inl (record { old_is = cc; is = cc; before = refl })
  walk-agrees (suc k) i s old_own own path old new old_xs xs old_long long inside low old_tree tree way =
      let old_up = row_above hash empty k i old_xs old old_long (omega arith) old_tree in
      let up = row_above hash empty k s xs new long low tree in
      let left = both_left hash in
      let right = new_right hash in
      let above = λ (next : D × D) (rest : List D). walk-agrees k (i / 2) (s / 2) next.0 next.1 rest old new old_up.row
      up.row old_up.long up.long (omega arith) up.low old_up.hashed up.hashed in
      elim (cases_Bool (has_beside i s)) [
        | inl beside ↦
            let n = stepped left right k i s (old_own, own) path (old, new) beside way in
            let steps = both_stepped hash i old_own own n.digest n.state n.stepped in
            let less = beside-inside i s inside beside in
            elim (above n.state n.rest n.went) [
              | inr found ↦ inr (clash_higher hash empty old_up.above up.above old_up.size up.size
                  (λ level. meets-up left right
                  i s (old_own, own) path (moves-beside left right i s (old_own, own) path beside n.is n.stepped level))
                  found)
              | inl here ↦ elim (same_pairs same hash (in_order i own n.digest) (pair_of none xs (i / 2)) n.state.1
                  steps.1 (above-pair hash none xs up.row up.above (i / 2) (omega arith) ∙ ap Ok here.is)) [
                    | inr collide ↦ inr (NewPair 0 (record {
                      reached = (old_own, own);
                      sibling = n.digest;
                      met = meets-zero left right i s (old_own, own) path n.digest n.rest beside n.is;
                      pair = pair_of none xs (i / 2);
                      tree = tree_pair-zero none empty xs (i / 2) (omega arith);
                      collide = collide;
                    }))
                    | inl both ↦ elim (same_below (i / 2) (i / 2 + i / 2) xs up.row old_xs old_up.row old_up.above
                        up.above refl (omega arith) (omega arith) here.before) [
                          | inr found ↦ inr (OwnPairs 0 found.0 found.1)
                          | inl lows ↦ elim (cases_lt (i % 2) 1) [
                            | inl even ↦
                                let at : i ≡ i / 2 + i / 2 = omega arith in
                                let same_old : old_own ≡ n.state.0 = done_injective {E = E} old_own n.state.0
                                (rw (even_test i (omega arith)) at steps.0) in
                                inl (record {
                                  old_is = sym (above-last hash none old_xs old_up.row old_up.above (i / 2) i at
                                      old_long) ∙ here.old_is ∙ sym same_old;
                                  is = sym (own_of none xs i own n.digest both).0;
                                  before = rw (at) lows;
                                })
                            | inr odd ↦
                                let one : i ≡ i / 2 + i / 2 + 1 = omega arith in
                                elim (same_pairs same hash (n.digest, old_own) (pair_of none old_xs (i / 2)) n.state.0
                                (rw (odd_test i (omega arith)) at steps.0)
                                (above-pair hash none old_xs old_up.row old_up.above (i / 2) (omega arith)
                                ∙ ap Ok here.old_is)) [
                                  | inr collide ↦ inr (OldPair 0 (record {
                                    reached = (old_own, own);
                                    sibling = n.digest;
                                    met = meets-zero left right i s (old_own, own) path n.digest n.rest beside n.is;
                                    odd = omega arith;
                                    pair = pair_of none old_xs (i / 2);
                                    tree = tree_pair-zero none empty old_xs (i / 2) (omega arith);
                                    collide = collide;
                                  }))
                                  | inl old_both ↦ inl (record {
                                    old_is = sym (own_of none old_xs i old_own n.digest
                                        (rw (odd_test i (omega arith)) old_both)).0;
                                    is = sym (own_of none xs i own n.digest both).0;
                                    before = one_more none (i / 2 + i / 2) i old_xs xs one (omega arith) (omega arith)
                                        lows (sym (ap (λ p. p.0) old_both) ∙ ap (λ p. p.0)
                                        (rw (odd_test i (omega arith)) at both));
                                  })
                                ]
                          ]
                        ]
                  ]
            ]
        | inr alone ↦
            let last = alone-last i s inside alone in
            elim (above (old_own, own) path (sym (walk-alone left right k i s (old_own, own) path alone) ∙ way)) [
              | inr found ↦ inr (clash_higher hash empty old_up.above up.above old_up.size up.size
                  (λ level. meets-up left right
                  i s (old_own, own) path (moves-alone left right i s (old_own, own) path alone level)) found)
              | inl here ↦ elim (same_below (i / 2) i xs up.row old_xs old_up.row old_up.above up.above last.1
                  (omega arith) (omega arith) here.before) [
                    | inr found ↦ inr (OwnPairs 0 found.0 found.1)
                    | inl lows ↦ inl (record {
                      old_is = sym (above-last hash none old_xs old_up.row old_up.above (i / 2) i last.1 old_long)
                          ∙ here.old_is;
                      is = sym (above-last hash none xs up.row up.above (i / 2) i last.1 (omega arith)) ∙ here.is;
                      before = lows;
                    })
                  ]
            ]
      ]
  walk-agrees zero i s old_own own path old new old_xs xs old_long long inside low old_tree tree way =
      absurd (omega arith)

  -- two trees of one size with one root
  pub same_root : (k : ℕ) (root : D) (old_xs xs : List D) → length old_xs ≡ length xs → length xs ≤ 2 ^ k
      → tree_hash (joined hash) empty k (there old_xs) ≡ Ok root → tree_hash (joined hash) empty k (there xs) ≡ Ok root
      → (old_xs ≡ xs) ⊎ ((level place : ℕ) × TreesCollideAt hash empty old_xs xs level place)
  same_root zero root [] [] long low old_tree tree = inl refl
  same_root zero root (o ∷ []) (x ∷ []) long low old_tree tree = inl cc
  same_root (suc k) root old_xs xs long low old_tree tree =
      let two = twice k in
      let old_up = higher hash empty k old_xs root (omega arith) old_tree in
      let up = higher hash empty k xs root low tree in
      let old_size = old_up.size in
      let size = up.size in
      let n = length xs in
      elim (same_root k root old_up.row up.row (omega arith) (omega arith) old_up.hashed up.hashed) [
        | inr found ↦ inr (
          suc found.0,
          found.1,
          own_higher hash empty old_up.above up.above old_size size found.0
              found.1 found.2,
        )
        | inl rows ↦
            elim (same_below (n / 2) (n / 2 + n / 2) xs up.row old_xs old_up.row old_up.above up.above refl
            (omega arith) (omega arith) (ap (take (n / 2)) rows)) [
              | inr found ↦ inr (0, found.0, found.1)
              | inl lows ↦ elim (cases_lt (n / 2 + n / 2) n) [
                | inr whole ↦ inl (sym (take_all (n / 2 + n / 2) old_xs (omega arith)) ∙ lows
                    ∙ take_all (n / 2 + n / 2) xs whole)
                | inl more ↦
                    let one : n ≡ n / 2 + n / 2 + 1 = omega arith in
                    let old_own = above-last hash none old_xs old_up.row old_up.above (n / 2) (n / 2 + n / 2) refl
                    (omega arith) in
                    let own = above-last hash none xs up.row up.above (n / 2) (n / 2 + n / 2) refl one in
                    inl (sym (take_all n old_xs (omega arith)) ∙ one_more none (n / 2 + n / 2) n old_xs xs one
                    (omega arith) (omega arith) lows (sym old_own ∙ ap (λ r. get_or r (n / 2) none) rows ∙ own)
                    ∙ take_all n xs (omega arith))
              ]
            ]
      ]
  same_root zero root old_xs xs long low old_tree tree = absurd (omega arith)

  -- from the digest that both trees have
  module _ (k i s : ℕ) (old : D) (path : List D) (new : D) where
    shared-agrees : (old_xs xs : List D)
        → i % 2 ≡ 0
        → length old_xs ≡ i + 1
        → length xs ≡ s + 1
        → i ≤ s
        → s < 2 ^ k
        → tree_hash (joined hash) empty k (there old_xs) ≡ Ok old
        → tree_hash (joined hash) empty k (there xs) ≡ Ok new
        → from_seed hash k i s old path ≡ Ok (Some (old, new))
        → (old_xs ≡ take (i + 1) xs) ⊎ HistoriesCollide hash empty old_xs xs i s old path
    shared-agrees old_xs xs even old_long long inside low old_tree tree way = elim (cases_eq i 0) [
      | inl first ↦
          whole old path (inl (first, refl, refl)) (rw (eq-eqb i 0 first) at way)
      | inr later ↦
          let n = had_next {E = E} Ok (from_shared hash k i s) path (old, new) (rw (ne_eqb i 0 later) at way) in
          let step : n.digest ≡ n.state = done_injective {E = E} n.digest n.state n.stepped in
          whole n.state n.rest (inr (omega arith, n.is ∙ ap (λ d. d ∷ n.rest) step)) n.went
    ]
      where
        whole : (digest : D) (rest : List D) → (i ≡ 0) × (digest ≡ old) × (rest ≡ path) ⊎ (0 < i) ×
            (path ≡ digest ∷ rest)
            → from_shared hash k i s digest rest ≡ Ok (Some (old, new))
            → (old_xs ≡ take (i + 1) xs) ⊎ HistoriesCollide hash empty old_xs xs i s old path
        whole digest rest is e = elim (walk-agrees k i s digest digest rest old new old_xs xs old_long long inside low
            old_tree tree e) [
              | inr found ↦ inr (seeded hash empty digest rest even is found)
              | inl here ↦ inl (sym (take_all (i + 1) old_xs (omega arith)) ∙ one_more none i (i + 1) old_xs xs refl
                  (omega arith) (omega arith) here.before (here.old_is ∙ sym here.is))
            ]

  -- The old tree's values are the first of the new one's, or two pairs collide.
  pub both_roots-agree : (k i s : ℕ) (old : D) (path : List D) (new : D) (old_xs xs : List D) → length old_xs ≡ i + 1
      → length xs ≡ s + 1 → i ≤ s → s < 2 ^ k
      → tree_hash (joined hash) empty k (there old_xs) ≡ Ok old → tree_hash (joined hash) empty k (there xs) ≡ Ok new
      → both_roots hash k i s old path ≡ Ok (Some (old, new))
      → (old_xs ≡ take (i + 1) xs) ⊎ HistoriesCollide hash empty old_xs xs i s old path
  both_roots-agree zero i s old path new old_xs xs old_long long inside low old_tree tree way =
      shared-agrees zero i s old path new old_xs xs (omega arith) old_long long inside low old_tree tree way
  both_roots-agree (suc k) i s old path new old_xs xs old_long long inside low old_tree tree way =
      elim (cases_lt (i % 2) 1) [
        | inl even ↦
            shared-agrees (suc k) i s old path new old_xs xs (omega arith) old_long long inside low old_tree tree
            (sym (both_roots-even hash k i s old path (omega arith)) ∙ way)
        | inr odd ↦
            let is_odd : i % 2 ≡ 1 = omega arith in
            let old_up = row_above hash empty k i old_xs old old_long (omega arith) old_tree in
            let up = row_above hash empty k s xs new long low tree in
            elim (both_roots-agree k (i / 2) (s / 2) old path new old_up.row up.row old_up.long up.long (omega arith)
            (omega arith) old_up.hashed up.hashed (sym (both_roots-odd hash k i s old path is_odd) ∙ way)) [
              | inr found ↦ inr (histories_higher hash empty old_up.above up.above old_up.size up.size is_odd found)
              | inl rows ↦
                  let here : take (i / 2 + 1) old_up.row ≡ take (i / 2 + 1) up.row =
                  take_all (i / 2 + 1) old_up.row (omega (arith, old_up.long)) ∙ rows in
                  elim (same_below (i / 2 + 1) (i + 1) xs up.row old_xs old_up.row old_up.above up.above (omega arith)
                  (omega arith) (omega arith) here) [
                    | inr found ↦ inr (InTrees 0 found.0 found.1)
                    | inl lows ↦ inl (sym (take_all (i + 1) old_xs (omega arith)) ∙ lows)
                  ]
            ]
      ]
