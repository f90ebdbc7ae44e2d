-- Places of one level that are hashed together, and the run in which they wait.
use Rattle.std.proofs.Common.{◌≡◌, ◌≢◌, ◌⊎◌, ℕ, zero, suc, ◌+◌, ◌-◌, ◌*◌, ◌/◌, ◌<◌, ◌≤◌, ◌^◌, List, [], length, take, get_or, set, refl, sym, ap, subst, ◌∙◌, inl, inr, arith, pow_pos}
use Rattle.std.proofs.lemmas.Bool.{cases_lt}
use Rattle.std.proofs.lemmas.List.{get_or-set_other, get_or-set_same, get_or-take, length-set, length-take-le}
use Rattle.std.proofs.lemmas.Nat.{div_below, le-div, pow-add}
use Rattle.std.proofs.Math.Nat.{pow-le-pow_right, pow-succ'}
use Rattle.ark_paths.specs.Pair.{Digest}
use Rattle.kept_tree.proofs.Besides.{HasLevels}
use Rattle.kept_tree.specs.KeptTree.{NoneIsBelow, AreInside, PlacesHashed, IsHashed, LevelHashed, PlainNode, leaf_count, place_above}

-- Of some places the first so many are hashed.
pub record PlacesUpTo (node : PlainNode) (old now : List Digest) (places : List ℕ) (count : ℕ) : Type 0 where
  pub long : length now ≡ length old
  pub written : (j : ℕ) → j < count → get_or now (get_or places j 0) []
      ≡ node (get_or old (2 * get_or places j 0 + 1) []) (get_or old (2 * get_or places j 0 + 2) [])
  pub others : (i : ℕ) → ((j : ℕ) → j < count → i ≡ get_or places j 0 → ⊥) → get_or now i [] ≡ get_or old i []

-- Of the first indexes of a list, each has its place on one level hashed, or that waits in a run; no other is changed.
pub record LevelWaits (node : PlainNode) (old now : List Digest) (level : ℕ) (indexes : List ℕ) (count : ℕ)
    (run : List ℕ) (waiting : ℕ) : Type 0 where
  pub long : length now ≡ length old
  pub room : length run ≡ 64
  pub within : waiting ≤ 64
  pub done : (j : ℕ) → j < count → IsHashed node now (place_above (length old) level (get_or indexes j 0))
      ⊎ ((i : ℕ) × (i < waiting) × (get_or run i 0 ≡ place_above (length old) level (get_or indexes j 0)))
  pub waits : (i : ℕ) → i < waiting
      → (j : ℕ) × (j < count) × (get_or run i 0 ≡ place_above (length old) level (get_or indexes j 0))
  pub others : (i : ℕ) → ((j : ℕ) → j < count → i ≡ place_above (length old) level (get_or indexes j 0) → ⊥)
      → get_or now i [] ≡ get_or old i []

-- ---- places of a level

module _ {count levels level index : ℕ} (tree : HasLevels count levels) (inside : index < leaf_count count)
    (high : level ≤ levels) where
  abbrev width : ℕ
  width = 2 ^ (levels - level)

  split : 2 ^ levels ≡ width * 2 ^ level
  split = let e : levels ≡ (levels - level) + level = omega arith in
      ap (λ (n : ℕ). 2 ^ n) e ∙ pow-add 2 (levels - level) level

  place-least : width ≤ (leaf_count count + index) / 2 ^ level
  place-least =
      le-div width (leaf_count count + index) (2 ^ level) (pow_pos level) (omega (arith, split, tree.leaves))

  place-below : (leaf_count count + index) / 2 ^ level < 2 * width
  place-below =
      let twice : 2 * width * 2 ^ level ≡ 2 * (width * 2 ^ level) = grind arith in
      div_below (leaf_count count + index) (2 ^ level) (2 * width) (pow_pos level)
      (omega (arith, twice, split, tree.leaves))

  -- what stands below a place of a level
  pub place-from : width ≤ place_above count level index + 1
  place-from = omega (arith, place-least, pow_pos (levels - level))

  pub place-to : place_above count level index + 1 < 2 * width
  place-to = omega (arith, place-least, place-below, pow_pos (levels - level))

  pub place-some : 1 ≤ (leaf_count count + index) / 2 ^ level
  place-some = omega (arith, place-least, pow_pos (levels - level))

  -- above the leaves it has two below it
  pub place-room : 0 < level → 2 * place_above count level index + 2 < count
  place-room low =
      let two : 0 < 2 = omega arith in
      let le : 2 ^ suc (levels - level) ≤ 2 ^ levels = pow-le-pow_right two (omega arith) in
      omega (arith, place-to, le, pow-succ' 2 (levels - level), tree.size)

-- ---- places that are hashed together

module _ (node : PlainNode) (old : List Digest) (places : List ℕ) where
  pub places-none : PlacesUpTo node old old places 0
  places-none = record { long = refl; written = λ j below. absurd (omega arith); others = λ i apart. refl }

  pub places-all : (now : List Digest) → PlacesUpTo node old now places (length places) → NoneIsBelow places
      → PlacesHashed node old now places
  places-all now so apart = record {
    long = so.long;
    hashed = λ j below.
        let left = so.others (2 * get_or places j 0 + 1) (λ i under e. (apart i j under below).0 (sym e)) in
        let right = so.others (2 * get_or places j 0 + 2) (λ i under e. (apart i j under below).1 (sym e)) in
        so.written j below ∙ rw (left, right) refl;
    others = so.others;
  }

-- ---- indexes whose places wait in a run

-- whether a number stands among the first of a list
found : (xs : List ℕ) (p n : ℕ) → ((i : ℕ) × (i < n) × (get_or xs i 0 ≡ p)) ⊎ ((i : ℕ) → i < n → get_or xs i 0 ≢ p)
found xs p zero = inr (λ i below. absurd (omega arith))
found xs p (suc n) = further (found xs p n) (cases_lt (get_or xs n 0) p) (cases_lt p (get_or xs n 0))
  where
    Found : ℕ → Type 0
    Found m = ((i : ℕ) × (i < m) × (get_or xs i 0 ≡ p)) ⊎ ((i : ℕ) → i < m → get_or xs i 0 ≢ p)

    other : get_or xs n 0 ≢ p → Found n → Found (suc n)
    other differs (inl w) = inl (w.0, omega (arith, w.1), w.2)
    other differs (inr none) = inr (λ i below. elim (cases_lt i n) [
      | inl lt ↦ none i lt
      | inr ge ↦ let e : n ≡ i = omega arith in subst (λ (m : ℕ). get_or xs m 0 ≢ p) e differs
    ])

    further : Found n → (get_or xs n 0 < p) ⊎ (p ≤ get_or xs n 0) → (p < get_or xs n 0) ⊎ (get_or xs n 0 ≤ p)
        → Found (suc n)
    further before (inl lt) after = other (λ e. absurd (omega (arith, e))) before
    further before (inr ge) (inl gt) = other (λ e. absurd (omega (arith, e))) before
    further before (inr ge) (inr le) = inl (n, omega arith, omega arith)

module _ {levels level : ℕ} (node : PlainNode) (old : List Digest) (tree : HasLevels (length old) levels)
    (high : level ≤ levels) (indexes : List ℕ) (inside : (j : ℕ) → j < length indexes
    → get_or indexes j 0 < leaf_count (length old)) where
  abbrev place : ℕ → ℕ
  place j = place_above (length old) level (get_or indexes j 0)

  pub waits-none : (run : List ℕ) → length run ≡ 64 → LevelWaits node old old level indexes 0 run 0
  waits-none run room = record {
    long = refl;
    room = room;
    within = omega arith;
    done = λ j below. absurd (omega arith);
    waits = λ i below. absurd (omega arith);
    others = λ i apart. refl;
  }

  -- a place that waits already
  pub waits-same : (now : List Digest) (count : ℕ) (run : List ℕ) (waiting : ℕ)
      → LevelWaits node old now level indexes count run waiting → 0 < waiting
      → get_or run (waiting - 1) 0 ≡ place count → LevelWaits node old now level indexes (count + 1) run waiting
  waits-same now count run waiting so some same = record {
    long = so.long;
    room = so.room;
    within = so.within;
    done = λ j below. elim (cases_lt j count) [
      | inl lt ↦ so.done j lt
      | inr ge ↦ let e : j ≡ count = omega arith in rw (e) (inr (waiting - 1, omega arith, same))
    ];
    waits = λ i below. let w = so.waits i below in (w.0, omega (arith, w.1), w.2);
    others = λ i apart. so.others i (λ j under. apart j (omega arith));
  }

  -- a place that is put behind those that wait
  pub waits-more : (now : List Digest) (count : ℕ) (run : List ℕ) (waiting : ℕ)
      → LevelWaits node old now level indexes count run waiting → waiting < 64
      → LevelWaits node old now level indexes (count + 1) (set run waiting (place count)) (waiting + 1)
  waits-more now count run waiting so room = record {
    long = so.long;
    room = length-set run waiting (place count) ∙ so.room;
    within = omega arith;
    done = λ j below. elim (cases_lt j count) [
      | inl lt ↦ elim (so.done j lt) [
        | inl hashed ↦ inl hashed
        | inr w ↦ inr (
          w.0,
          omega (arith, w.1),
          get_or-set_other run waiting w.0 (place count) 0 (omega
              (arith, w.1)) ∙ w.2,
        )
      ]
      | inr ge ↦ let e : j ≡ count = omega arith in
          rw (e) (inr (waiting, omega arith, get_or-set_same run waiting (place count) 0 (omega (arith, so.room))))
    ];
    waits = λ i below. elim (cases_lt i waiting) [
      | inl lt ↦ let w = so.waits i lt in
          (w.0, omega (arith, w.1), get_or-set_other run waiting i (place count) 0 (omega arith) ∙ w.2)
      | inr ge ↦ let e : i ≡ waiting = omega arith in (
        count,
        omega arith,
        ap (λ n. get_or (set run waiting (place count)) n 0) e ∙ get_or-set_same run waiting
            (place count) 0 (omega (arith, so.room)),
      )
    ];
    others = λ i apart. so.others i (λ j under. apart j (omega arith));
  }

  -- Those that wait stand apart, and have two places below them.
  pub waits-apart : (now : List Digest) (count : ℕ) (run : List ℕ) (waiting : ℕ) → count ≤ length indexes
      → LevelWaits node old now level indexes count run waiting → NoneIsBelow (take waiting run)
  waits-apart now count run waiting below so i j first second =
      let room = length-take-le waiting run (omega (arith, so.room, so.within)) in
      let a = so.waits i (omega (arith, room, first)) in
      let b = so.waits j (omega (arith, room, second)) in
      let one = get_or-take waiting run i 0 (omega (arith, room, first)) ∙ a.2 in
      let two = get_or-take waiting run j 0 (omega (arith, room, second)) ∙ b.2 in
      let to = place-to tree (inside a.0 (omega (arith, a.1))) high in
      let from = place-from tree (inside b.0 (omega (arith, b.1))) high in
      (λ e. absurd (omega (arith, one, two, to, from, e)), λ e. absurd (omega (arith, one, two, to, from, e)))

  -- The run is hashed.
  pub waits-hashed : (now new : List Digest) (count : ℕ) (run : List ℕ) (waiting : ℕ) → count ≤ length indexes
      → LevelWaits node old now level indexes count run waiting → PlacesHashed node now new (take waiting run)
      → LevelWaits node old new level indexes count run 0
  waits-hashed now new count run waiting below so step = record {
    long = step.long ∙ so.long;
    room = so.room;
    within = omega arith;
    done = λ j under. inl (hashed j under (so.done j under));
    waits = λ i none. absurd (omega arith);
    others = λ i apart. step.others i (λ k short e. let w = so.waits k (omega (arith, room, short)) in
        apart w.0 w.1 (e ∙ get_or-take waiting run k 0 (omega (arith, room, short)) ∙ w.2)) ∙ so.others i apart;
  }
    where
      room : length (take waiting run) ≡ waiting
      room = length-take-le waiting run (omega (arith, so.room, so.within))

      of_run : (j i : ℕ) → i < waiting → get_or run i 0 ≡ place j → IsHashed node new (place j)
      of_run j i short is =
          let e : get_or (take waiting run) i 0 ≡ place j = get_or-take waiting run i 0 short ∙ is in
          subst (IsHashed node new) e (step.hashed i (omega (arith, room, short)))

      -- what stands below a place of the level stays
      stays : (j p : ℕ) → j < count → 2 * place j < p → get_or new p [] ≡ get_or now p []
      stays j p under past = step.others p (λ k short e.
          let w = so.waits k (omega (arith, room, short)) in
          let is = get_or-take waiting run k 0 (omega (arith, room, short)) ∙ w.2 in
          absurd (omega (
            arith,
            e,
            is,
            past,
            place-from tree (inside j (omega arith)) high,
            place-to tree (inside w.0 (omega (arith, w.1))) high,
          )))

      hashed : (j : ℕ) → j < count → IsHashed node now (place j) ⊎ ((i : ℕ) × (i < waiting) × (get_or run i 0
          ≡ place j)) → IsHashed node new (place j)
      hashed j under (inr w) = of_run j w.0 w.1 w.2
      hashed j under (inl is) = elim (found run (place j) waiting) [
        | inl w ↦ of_run j w.0 w.1 w.2
        | inr none ↦
            let own = step.others (place j) (λ k short e. none k (omega (arith, room, short))
            (sym (e ∙ get_or-take waiting run k 0 (omega (arith, room, short))))) in
            own ∙ is ∙ rw (stays j (2 * place j + 1) under (omega arith), stays j (2 * place j + 2) under (omega arith))
            refl
      ]

  pub waits-inside : (now : List Digest) (count : ℕ) (run : List ℕ) (waiting : ℕ) → count ≤ length indexes
      → LevelWaits node old now level indexes count run waiting → 0 < level → AreInside (length now) (take waiting run)
  waits-inside now count run waiting below so low i short =
      let room = length-take-le waiting run (omega (arith, so.room, so.within)) in
      let w = so.waits i (omega (arith, room, short)) in
      let is = get_or-take waiting run i 0 (omega (arith, room, short)) ∙ w.2 in
      omega (arith, is, place-room tree (inside w.0 (omega (arith, w.1))) high low, so.long)

  pub waits-all : (now : List Digest) (count : ℕ) (run : List ℕ) → count ≡ length indexes
      → LevelWaits node old now level indexes count run 0 → LevelHashed node old now level indexes
  waits-all now count run all so = record {
    long = so.long;
    hashed = λ j below. elim (so.done j (omega arith)) [ inl is ↦ is | inr w ↦ absurd (omega (arith, w.1)) ];
    others = λ i apart. so.others i (λ j under. apart j (omega arith));
  }
