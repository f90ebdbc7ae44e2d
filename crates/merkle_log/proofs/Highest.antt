-- The highest level at which a path's pair and that of a list's tree collide.
use Rattle.std.proofs.Common.{zero, suc, ◌≡◌, ℕ, ◌+◌, ◌/◌, ◌%◌, ◌≤◌, Bool, true, false, ◌==◌, ◌&&◌, not, List, [], ◌∷◌, length, get_or, Ok, Option, Some, None, arith, refl, ap, sym, ◌∙◌}
use Rattle.std.proofs.lemmas.Bool.{false≢true}
use Rattle.std.proofs.lemmas.Slice.Eq.{bytes_eq-Decides}
use Rattle.ark_base.specs.declared.error.Error.{Error}
use Rattle.ark_base.specs.Outcome.{Outcome}
use Rattle.ark_base.specs.Laws.Steps.{done_injective}
use Rattle.ark_paths.specs.Pair.{Digest}
use Rattle.merkle_log.specs.Binding.{IsHighest, found_at, is_other_pair, index_beside}
use Rattle.merkle_log.specs.Collision.{PathCollidesAt}
use Rattle.merkle_log.specs.Log.{NodeHash}
use Rattle.merkle_log.specs.Walk.{on_left, on_right, has_beside, hash_beside, in_order, index_up}
use Rattle.merkle_log.proofs.Above.{IsAbove, above-pair, above-last}
use Rattle.merkle_log.proofs.Sound.{Moves, moves-beside, moves-alone, meets-up, meets-down, turned, beside-inside, alone-last, higher_collision, lowest_collision}
use Rattle.merkle_log.proofs.TreePairs.{pair_of, own_of, own_pair, pair_same, tree_pair-down, node-zero}
use Rattle.merkle_log.proofs.Verdicts.{same_digests}

-- what is found a level higher, seen from a level whose pairs differ or not
abbrev pub found_up : Option ℕ → Bool → Option ℕ
found_up (Some level) other = Some (suc level)
found_up None true = Some 0
found_up None false = None

-- what is found from a level on, or else below it
abbrev pub found_over : Option ℕ → ℕ → Option ℕ → Option ℕ
found_over below level None = below
found_over below level (Some up) = Some (level + up)

pub found_over-up : (below : Option ℕ) (level : ℕ) (other : Bool) (up : Option ℕ)
    → found_over below level (found_up up other) ≡ found_over (found_at other level below) (level + 1) up
found_over-up below level true None = let e : level + 0 ≡ level = omega arith in ap Some e
found_over-up below level false None = refl
found_over-up below level other (Some up) = let e : level + suc up ≡ level + 1 + up = omega arith in ap Some e

-- ---- the pair at the lowest level

both_known : (a b c : Bool) → (a && not (b && c)) ≡ true → b ≡ true → c ≡ true → ⊥
both_known true b c e f g = absurd cc
both_known false b c e f g = absurd cc

both_same : (a b c : Bool) → (a && not (b && c)) ≡ false → a ≡ true → (b ≡ true) × (c ≡ true)
both_same true true true e f = (refl, refl)
both_same a b c e f = absurd cc

-- The pairs differ exactly where the level says so.
other-differs : (xs : List Digest) (i s : ℕ) (own sibling : Digest) → is_other_pair xs i s own sibling ≡ true
    → in_order i own sibling ≡ pair_of [] xs (i / 2) → ⊥
other-differs xs i s own sibling other same =
    let both = own_of [] xs i own sibling same in
    both_known (has_beside i s) _ _ other ((bytes_eq-Decides own (get_or xs i [])).1 both.0)
    ((bytes_eq-Decides sibling (get_or xs (index_beside i) [])).1 both.1)

other-same : (xs : List Digest) (i s : ℕ) (own sibling : Digest) → is_other_pair xs i s own sibling ≡ false
    → has_beside i s ≡ true → in_order i own sibling ≡ pair_of [] xs (i / 2)
other-same xs i s own sibling other beside =
    let both = both_same (has_beside i s) _ _ other beside in
    own_pair [] xs i own sibling ((bytes_eq-Decides own (get_or xs i [])).0 both.0)
    ((bytes_eq-Decides sibling (get_or xs (index_beside i) [])).0 both.1)

-- ---- a level up

module _ (hash : NodeHash) (empty : Digest) (xs ys : List Digest) (i s : ℕ) (own : Digest) (path : List Digest)
    (up : IsAbove hash xs ys) (size : length ys ≡ (length xs + 1) / 2) (long : length xs ≡ s + 1) (inside : i ≤ s) where
  abbrev Hit : ℕ → Type 0
  Hit level = PathCollidesAt hash (Ok empty) xs i s own path level

  abbrev Moved : ℕ → Digest → List Digest → Type 0
  Moved level next rest = Moves (on_left hash) (on_right hash) i s own path level next rest

  lower : (next : Digest) (rest : List Digest) (level : ℕ) → Moved level next rest → Hit (suc level)
      → PathCollidesAt hash (Ok empty) ys (i / 2) (s / 2) next rest level
  lower next rest level moved found = record {
    reached = found.reached;
    sibling = found.sibling;
    met = meets-down (on_left hash) (on_right hash) i s own path moved found.reached found.sibling found.met;
    pair = found.pair;
    tree = tree_pair-down (Ok empty) xs ys level (index_up (suc level) (i / 2)) found.pair up size found.tree;
    collide = found.collide;
  }

  -- What is highest in the row above is so here, unless the pairs at this level are the first to differ.
  lifted : (next : Digest) (rest : List Digest) → ((level : ℕ) → Moved level next rest) → (other : Bool)
      → (other ≡ false → get_or ys (i / 2) [] ≡ next → (get_or xs i [] ≡ own) × (Hit 0 → ⊥))
      → (other ≡ true → get_or ys (i / 2) [] ≡ next → Hit 0)
      → (found : Option ℕ) → IsHighest hash empty ys (i / 2) (s / 2) next rest found
      → IsHighest hash empty xs i s own path (found_up found other)
  lifted next rest moves other agree differ (Some level) highest = (
    higher_collision same_digests hash next rest level up size
        (meets-up (on_left hash) (on_right hash) i s own path (moves level)) highest.0,
    bounded,
  )
    where
      bounded : (o : ℕ) → Hit o → o ≤ suc level
      bounded zero hit = omega arith
      bounded (suc o) hit = let le = highest.1 o (lower next rest o (moves o) hit) in omega arith
  lifted next rest moves true agree differ None highest = (differ refl highest.0, bounded)
    where
      bounded : (o : ℕ) → Hit o → o ≤ 0
      bounded zero hit = omega arith
      bounded (suc o) hit = absurd (highest.1 o (lower next rest o (moves o) hit))
  lifted next rest moves false agree differ None highest = ((agree refl highest.0).0, none)
    where
      none : (o : ℕ) → Hit o → ⊥
      none zero hit = (agree refl highest.0).1 hit
      none (suc o) hit = highest.1 o (lower next rest o (moves o) hit)

  -- The lowest pair does not collide where it is the list's own.
  own_lowest : (sibling : Digest) (rest : List Digest) → path ≡ sibling ∷ rest → in_order i own sibling
      ≡ (get_or xs (i / 2 + i / 2) [], get_or xs (i / 2 + i / 2 + 1) []) → Hit 0 → ⊥
  own_lowest sibling rest is same hit =
      let within = hit.tree.inside in
      let left : get_or xs (i / 2 + i / 2) [] ≡ hit.pair.0 = done_injective {E = Error} _ _
      (sym (node-zero hash [] (Ok empty) xs (i / 2 + i / 2) (omega arith)) ∙ hit.tree.left) in
      let right : get_or xs (i / 2 + i / 2 + 1) [] ≡ hit.pair.1 = done_injective {E = Error} _ _
      (sym (node-zero hash [] (Ok empty) xs (i / 2 + i / 2 + 1) (omega arith)) ∙ hit.tree.right) in
      let reached : own ≡ hit.reached = first_state own hit.reached hit.met.reached_is in
      let next : sibling ≡ hit.sibling = first_of sibling hit.sibling rest hit.met.rest (sym is ∙ hit.met.next_is) in
      hit.collide.differ (ap (λ x. in_order i x hit.sibling) (sym reached) ∙ ap (in_order i own) (sym next) ∙ same
      ∙ pair_same _ _ left right)
    where
      first_state : (a b : Digest) → Path (Outcome (Option Digest)) (Ok (Some a)) (Ok (Some b)) → a ≡ b
      first_state a b e = cc

      first_of : (a b : Digest) (x y : List Digest) → a ∷ x ≡ b ∷ y → a ≡ b
      first_of a b x y e = cc

  -- with a digest beside, and without one
  pub highest-next : has_beside i s ≡ true → {sibling : Digest} {rest : List Digest} {next : Digest}
      → path ≡ sibling ∷ rest → hash_beside hash (i % 2 == 1) own sibling ≡ Ok next → (found : Option ℕ)
      → IsHighest hash empty ys (i / 2) (s / 2) next rest found
      → IsHighest hash empty xs i s own path (found_up found (is_other_pair xs i s own sibling))
  highest-next beside {sibling} {rest} {next} is step =
      let less = beside-inside i s inside beside in
      lifted next rest (moves-beside (on_left hash) (on_right hash) i s own path beside is step)
      (is_other_pair xs i s own sibling)
      (λ t here. let same = other-same xs i s own sibling t beside in
      (sym (own_of [] xs i own sibling same).0, own_lowest sibling rest is same))
      (λ t here. lowest_collision same_digests hash [] sibling rest inside long beside is (record {
        differ = other-differs xs i s own sibling t;
        common = next;
        pair_hash = sym (turned hash i own sibling) ∙ step;
        other_hash = above-pair hash [] xs ys up (i / 2) (omega arith) ∙ ap Ok here;
      }))

  pub highest-alone : has_beside i s ≡ false → (sibling : Digest) (found : Option ℕ)
      → IsHighest hash empty ys (i / 2) (s / 2) own path found
      → IsHighest hash empty xs i s own path (found_up found (is_other_pair xs i s own sibling))
  highest-alone alone sibling =
      let last = alone-last i s inside alone in
      let none : is_other_pair xs i s own sibling ≡ false = rw (alone) refl in
      lifted own path (moves-alone (on_left hash) (on_right hash) i s own path alone)
      (is_other_pair xs i s own sibling)
      (λ t here. (
        sym (above-last hash [] xs ys up (i / 2) i last.1 (omega arith)) ∙ here,
        λ hit. false≢true (sym alone ∙ hit.met.beside),
      ))
      (λ t here. absurd (false≢true (sym none ∙ t)))
