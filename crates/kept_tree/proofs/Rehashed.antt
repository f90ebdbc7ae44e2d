-- Digests that are hashed anew from those below them.
use Rattle.std.proofs.Common.{◌≡◌, ℕ, ◌+◌, ◌-◌, ◌*◌, ◌/◌, ◌<◌, ◌≤◌, List, [], ◌∷◌, length, map, take, drop, set, get_or, true, ap, sym, subst, ◌∙◌, inl, inr, arith}
use Rattle.std.proofs.lemmas.Bool.{cases_lt}
use Rattle.std.proofs.lemmas.List.{ext_get_or, get_or-drop, get_or-map, get_or-set_other, get_or-set_same, get_or-take, length-drop, length-take-le}
use Rattle.ark_paths.specs.Pair.{Digest}
use Rattle.kept_tree.specs.KeptTree.{KeepsTree, PlainNode, Rehashes, is_tree_length, kept_leaves}
use Rattle.kept_tree.proofs.Lengths.{holds-here}

module _ (node : PlainNode) where
  -- all digests above the leaves: then memory holds the tree above the leaf digests in it
  pub rehashes-all : (first count : ℕ) (old new : List Digest) → first ≡ 0 → count ≡ length old / 2
      → is_tree_length (length old) ≡ true → Rehashes node first count old new → KeepsTree node new (kept_leaves old)
  rehashes-all first count old new none whole is all =
      let same : kept_leaves new ≡ kept_leaves old =
      rw all.long (ext_get_or [] (drop (length old / 2) new) (drop (length old / 2) old)
      (omega (arith, length-drop (length old / 2) new, length-drop (length old / 2) old, all.long))
      (λ i below. get_or-drop (length old / 2) new i [] ∙ all.others (length old / 2 + i) (inr (omega arith))
      ∙ sym (get_or-drop (length old / 2) old i []))) in
      let here = holds-here node new (rw all.long is) (λ i below. let under : i < length old / 2 =
      rw all.long at below in all.hashed i (omega arith) (omega arith)) in
      subst (KeepsTree node new) same here

  -- a run below one that is hashed already, none of which stands below another
  pub rehashes-below : (first count inner half : ℕ) (old mid new : List Digest) → first + count ≡ inner → inner ≤ half
      → count ≤ first + 1 → Rehashes node inner (half - inner) old mid → Rehashes node first count mid new
      → Rehashes node first (half - first) old new
  rehashes-below first count inner half old mid new joins within apart before here = record {
    long = here.long ∙ before.long;
    hashed = λ i low high. elim (cases_lt i inner) [
      | inl lt ↦ here.hashed i low (omega arith)
      | inr ge ↦
          let past : (j : ℕ) → first + count ≤ j → get_or new j [] ≡ get_or mid j [] = λ j le. here.others j (inr le) in
          past i (omega arith) ∙ before.hashed i ge (omega arith)
          ∙ (λ k. node (sym (past (2 * i + 1) (omega arith)) k) (sym (past (2 * i + 2) (omega arith)) k))
    ];
    others = λ i out. here.others i (elim out [ inl lt ↦ inl lt | inr ge ↦ inr (omega arith) ])
        ∙ before.others i (elim out [ inl lt ↦ inl (omega arith) | inr ge ↦ inr (omega arith) ]);
  }

-- ---- what is read of a run

module _ {X : Type 0} (P : ℕ → X → Type 0) where
  -- one more is written
  pub written-next : (xs : List X) (n : ℕ) (y : X) → n < length xs → ((i : ℕ) (d : X) → i < n → P i (get_or xs i d))
      → P n y → (i : ℕ) (d : X) → i < n + 1 → P i (get_or (set xs n y) i d)
  written-next xs n y inside before here i d below =
      elim (cases_lt i n) [
        | inl lt ↦ subst (P i) (sym (get_or-set_other xs n i y d (λ same. omega (arith, same)))) (before i d lt)
        | inr ge ↦
            let same : n ≡ i = omega arith in
            subst (λ (j : ℕ). P j (get_or (set xs n y) j d)) same
            (subst (P n) (sym (get_or-set_same xs n y d inside)) here)
      ]

pub mapped-reads : {X : Type 0} (f : X → Digest) (xs : List X) (n : ℕ) (want : ℕ → Digest)
    → ((i : ℕ) (d : X) → i < n → f (get_or xs i d) ≡ want i) → n ≤ length xs
    → (i : ℕ) → i < n → get_or (map f (take n xs)) i [] ≡ want i
mapped-reads f [] n want reads inside i below = absurd (omega arith)
mapped-reads f (x ∷ xs) n want reads inside i below =
    get_or-map f (take n (x ∷ xs)) i x [] (omega (arith, length-take-le n (x ∷ xs) inside))
    ∙ ap f (get_or-take n (x ∷ xs) i x below) ∙ reads i x below
