-- The last change of each index, and a map of them.
use Rattle.std.proofs.Common.{zero, suc, ◌≡◌, ℕ, ◌+◌, ◌/◌, ◌^◌, ◌<◌, ◌≤◌, Bool, true, false, List, [], ◌∷◌, length, map, drop, ◌-◌, get_or, Ok, Err, inl, inr, refl, ap, sym, subst, ◌∙◌, arith, nat_cmp}
use Rattle.std.specs.BTreeMap.{is_at, insert_entry}
use Rattle.std.specs.Cmp.{nat_cmp_is}
use Rattle.std.specs.List.{All, Contains}
use Rattle.std.proofs.lemmas.List.{length-map, get_or-map, get_or_default, map-id}
use Rattle.std.specs.Map.{lookup}
use Rattle.std.specs.Option.{is_some}
use Rattle.std.specs.declared.cmp.Ordering.TheVariants.{Less, Equal, Greater}
use Rattle.std.specs.Prelude.{IfOk, OnErr}
use Rattle.std.proofs.Math.Logic.{⊎_map}
use Rattle.ark_base.specs.declared.error.Error.{Error}
use Rattle.ark_base.specs.Outcome.{Outcome, AnswersBy}
use Rattle.ark_paths.specs.Pair.{Digest, Hashes}
use Rattle.ark_paths.specs.Root.{leaves_with_root}
use Rattle.ark_paths.specs.Tree.{HashedTree, tree_with, with_hashes}
use Rattle.ark_paths.proofs.OwnPaths.{place-above}
use Rattle.ark_merkle.proofs.ListParts.{map-twice}
use Rattle.ark_merkle.specs.Batch.{with_change, last_changes, hashed_changes, puts, with_leaves, with_each_leaf}
use Rattle.ark_paths.specs.Above.{count_above}
use Rattle.ark_merkle.specs.Changed.{seen_changes, AreChanges, Rise, count_over}
use Rattle.ark_paths.specs.Rising.{with_number, rising_set}
use Rattle.ark_merkle.proofs.Batches.{placed_change-below, placed_change-same, placed_change-past}
use Rattle.ark_merkle.proofs.ChangedRows.{places, places-seen}
use Rattle.ark_merkle.proofs.Reached.{hashed-places}
use Rattle.ark_paths.proofs.MultiIndexes.{trichotomy, placed-below, placed-same, placed-past, rising-unique, rising-increases, rising-elements}

no_both : {b : Bool} → b ≡ true → b ≡ false → ⊥
no_both is not = absurd cc

-- ---- places that rise

rise-later : {A : Type 0} (first next : ℕ) (cs : List (ℕ × A)) → first ≤ next → Rise next cs → Rise first cs
rise-later first next [] le so = tt
rise-later first next (c ∷ cs) le so = (omega (arith, so.0), so.1)

pub rise-unseen : {A B : Type 0} (view : A → B) (first : ℕ) (cs : List (ℕ × A)) → Rise first (seen_changes view cs)
    → Rise first cs
rise-unseen view first [] so = tt
rise-unseen view first (c ∷ cs) so = (so.0, rise-unseen view (suc c.0) cs so.1)

rise-placed : {A : Type 0} (first : ℕ) (c : ℕ × A) (cs : List (ℕ × A)) → first ≤ c.0 → Rise first cs
    → Rise first (with_change c cs)
rise-placed first c [] le so = (le, tt)
rise-placed first c (d ∷ cs) le so =
    elim (trichotomy c.0 d.0) [
      | inl lt ↦ rw (placed_change-below c d cs lt) (le, (lt, so.1))
      | inr (inl same) ↦ rw (placed_change-same c d cs same) so
      | inr (inr gt) ↦ rw (placed_change-past c d cs gt) (so.0, rise-placed (suc d.0) c cs gt so.1)
    ]

pub last-rises : {A : Type 0} (cs : List (ℕ × A)) → Rise 0 (last_changes cs)
last-rises [] = tt
last-rises (c ∷ cs) = rise-placed 0 c (last_changes cs) (omega arith) (last-rises cs)

-- changes that rise are their own last ones
pub last-rising : {A : Type 0} (first : ℕ) (cs : List (ℕ × A)) → Rise first cs → last_changes cs ≡ cs
last-rising first [] so = refl
last-rising first (c ∷ []) so = refl
last-rising first (c ∷ d ∷ cs) so =
    ap (with_change c) (last-rising (suc c.0) (d ∷ cs) so.1) ∙ placed_change-below c d cs so.1.0

-- the last of some changes rises
pub rise-end : {A : Type 0} (cs : List (ℕ × A)) → Rise 0 (drop (length cs - 1) cs)
rise-end [] = tt
rise-end (c ∷ []) = (omega arith, tt)
rise-end (c ∷ d ∷ cs) =
    let later : length (c ∷ d ∷ cs) - 1 ≡ suc (length (d ∷ cs) - 1) = omega arith in
    rw later (rise-end (d ∷ cs))

places-placed : {A : Type 0} (c : ℕ × A) (cs : List (ℕ × A)) → places (with_change c cs) ≡ with_number c.0 (places cs)
places-placed c [] = refl
places-placed c (d ∷ cs) =
    elim (trichotomy c.0 d.0) [
      | inl lt ↦ ap places (placed_change-below c d cs lt) ∙ sym (placed-below c.0 d.0 (places cs) lt)
      | inr (inl same) ↦ ap places (placed_change-same c d cs same) ∙ sym (placed-same c.0 d.0 (places cs) same)
      | inr (inr gt) ↦ ap places (placed_change-past c d cs gt) ∙ ap (λ (ns : List ℕ). d.0 ∷ ns) (places-placed c cs)
          ∙ sym (placed-past c.0 d.0 (places cs) gt)
    ]

-- the places are the changed indexes, each once
pub last-places : {A : Type 0} (cs : List (ℕ × A)) → places (last_changes cs) ≡ rising_set (places cs)
last-places [] = refl
last-places (c ∷ cs) = places-placed c (last_changes cs) ∙ ap (with_number c.0) (last-places cs)

-- ---- a map of changes

module _ {A B : Type 0} (view : A → B) (k : ℕ) (x : A) where
  found_none : (es : List (ℕ × A)) → Rise (suc k) es → is_some (lookup (is_at (nat_cmp k)) es) ≡ false
  found_none [] so = refl
  found_none (e ∷ es) so = rw (← nat_cmp_is k e.0 Less so.0) (found_none es (rise-later (suc k) (suc e.0) es
      (omega (arith, so.0)) so.1))

  -- a change of an index that is there is not entered
  pub entered-again : (first : ℕ) (es : List (ℕ × A)) → Rise first es → is_some (lookup (is_at (nat_cmp k)) es) ≡ true
      → seen_changes view es ≡ with_change (k, view x) (seen_changes view es)
  entered-again first [] so found = absurd cc
  entered-again first (e ∷ es) so found =
      elim (trichotomy k e.0) [
        | inl lt ↦ absurd (no_both (rw (← nat_cmp_is k e.0 Less lt) at found) (found_none es (rise-later (suc k)
            (suc e.0) es (omega arith) so.1)))
        | inr (inl same) ↦ sym (placed_change-same (k, view x) (e.0, view e.1) (seen_changes view es) same)
        | inr (inr gt) ↦ ap (λ cs. (e.0, view e.1) ∷ cs) (entered-again (suc e.0) es so.1
            (rw (← nat_cmp_is k e.0 Greater gt) at found))
            ∙ sym (placed_change-past (k, view x) (e.0, view e.1) (seen_changes view es) gt)
      ]

  -- another one is
  pub entered-new : (es : List (ℕ × A)) → is_some (lookup (is_at (nat_cmp k)) es) ≡ false → seen_changes view
      (insert_entry nat_cmp es k x) ≡ with_change (k, view x) (seen_changes view es)
  entered-new [] none = refl
  entered-new (e ∷ es) none =
      elim (trichotomy k e.0) [
        | inl lt ↦ rw (← nat_cmp_is k e.0 Less lt) (sym (placed_change-below (k, view x) (e.0, view e.1)
            (seen_changes view es) lt))
        | inr (inl same) ↦ absurd (no_both (rw (← nat_cmp_is k e.0 Equal same) refl) none)
        | inr (inr gt) ↦ rw (← nat_cmp_is k e.0 Greater gt) (ap (λ cs. (e.0, view e.1) ∷ cs)
            (entered-new es (rw (← nat_cmp_is k e.0 Greater gt) at none))
            ∙ sym (placed_change-past (k, view x) (e.0, view e.1) (seen_changes view es) gt))
      ]

-- ---- changes of a tree's leaves

changes-placed : {A : Type 0} (first end : ℕ) (c : ℕ × A) (cs : List (ℕ × A)) → first ≤ c.0 → c.0 < end
    → AreChanges first end cs → AreChanges first end (with_change c cs)
changes-placed first end c [] le below so = (le, below, tt)
changes-placed first end c (d ∷ cs) le below so =
    elim (trichotomy c.0 d.0) [
      | inl lt ↦ rw (placed_change-below c d cs lt) (le, below, (lt, so.1, so.2))
      | inr (inl same) ↦ rw (placed_change-same c d cs same) so
      | inr (inr gt) ↦ rw (placed_change-past c d cs gt) (so.0, so.1, changes-placed (suc d.0) end c cs gt below so.2)
    ]

pub last-changes : {A : Type 0} (end : ℕ) (cs : List (ℕ × A)) → All (λ c. c.0 < end) cs → AreChanges 0 end
    (last_changes cs)
last-changes end [] inside = tt
last-changes end (c ∷ cs) inside = changes-placed 0 end c (last_changes cs) (omega arith) (inside 0 c (omega arith))
    (last-changes end cs (λ k d below. inside (suc k) d (omega arith)))

-- ---- how many places stand above them

Contains-map : (f : ℕ → ℕ) (xs : List ℕ) (n : ℕ) → Contains xs n → Contains (map f xs) (f n)
Contains-map f xs n c = (c.0, omega (arith, length-map xs f, c.1), get_or-map f xs c.0 n (f n) c.1 ∙ ap f c.2)

Contains-mapped : (f : ℕ → ℕ) (xs : List ℕ) (m : ℕ) → Contains (map f xs) m → (n : ℕ) × Contains xs n × (f n ≡ m)
Contains-mapped f xs m c =
    let below : c.0 < length xs = omega (arith, length-map xs f, c.1) in (
      get_or xs c.0 m,
      (c.0, below, get_or_default xs c.0 (get_or xs c.0 m) m below),
      sym (get_or-map f xs c.0 m m below)
          ∙ c.2,
    )

rising-mapped : (f : ℕ → ℕ) (xs : List ℕ) → rising_set (map f (rising_set xs)) ≡ rising_set (map f xs)
rising-mapped f xs =
    rising-unique (map f (rising_set xs)) (rising_set (map f xs)) (rising-increases (map f xs))
    (λ n h. let from = Contains-mapped f (rising_set xs) n h in (rising-elements (map f xs) n).1
    (subst (Contains (map f xs)) from.2 (Contains-map f xs from.0 ((rising-elements xs from.0).0 from.1))))
    (λ n h. let from = Contains-mapped f xs n ((rising-elements (map f xs) n).0 h) in
    subst (Contains (map f (rising_set xs))) from.2 (Contains-map f (rising_set xs) from.0
    ((rising-elements xs from.0).1 from.1)))

-- the places of a level, of which that of the leaf digests is the lowest
abbrev level_places : ℕ → List ℕ → List ℕ
level_places level indexes = rising_set (map (λ i. i / 2 ^ level) indexes)

level-halves : (level : ℕ) (indexes : List ℕ) → rising_set (map (λ place. place / 2) (level_places level indexes))
    ≡ level_places (suc level) indexes
level-halves level indexes =
    rising-mapped (λ place. place / 2) (map (λ i. i / 2 ^ level) indexes)
    ∙ ap rising_set (map-twice (λ i. i / 2 ^ level) (λ place. place / 2) (λ i. i / 2 ^ suc level) indexes
    (λ i. sym (place-above i level)))

count-levels : (rows level : ℕ) (indexes : List ℕ) → count_over rows (level_places level indexes) + count_above level
    indexes ≡ count_above (level + rows) indexes
count-levels zero level indexes = let same : level + zero ≡ level = omega arith in rw same (omega arith)
count-levels (suc rows) level indexes =
    let next = count-levels rows (suc level) indexes in
    let at : suc level + rows ≡ level + suc rows = omega arith in
    ap (λ (ps : List ℕ). (length ps + count_over rows ps) + count_above level indexes) (level-halves level indexes)
    ∙ omega (arith, next ∙ ap (λ (n : ℕ). count_above n indexes) at)

-- counted from row to row, they are the places above the leaves
pub count_over-above : (rows : ℕ) (indexes : List ℕ) → count_over rows (rising_set indexes) ≡ count_above rows indexes
count_over-above rows indexes =
    let same : map (λ i. i / 2 ^ 0) indexes ≡ indexes = sym (map-id (map (λ i. i / 2 ^ 0) indexes))
    ∙ map-twice (λ i. i / 2 ^ 0) (λ i. i) (λ i. i) indexes (λ i. omega arith) ∙ map-id indexes in
    let none = count-levels rows 0 indexes in
    let at : 0 + rows ≡ rows = omega arith in
    ap (λ (ps : List ℕ). count_over rows (rising_set ps)) (sym same)
    ∙ omega (arith, none ∙ ap (λ (n : ℕ). count_above n indexes) at)

-- ---- what the calls answer

pub with_leaves-hashed : {A : Type 0} (tree : HashedTree A) (cs : List (ℕ × A)) (hs : List (ℕ × Digest))
    → hashed_changes tree.hashes.leaf (last_changes cs) ≡ Ok hs → with_leaves tree cs ≡ with_hashes tree.hashes
    (leaves_with_root tree.hashes.pair (puts tree.leaves hs))
with_leaves-hashed tree cs hs is = rw is refl

pub answered-again : {A B C : Type 0} (view : A → B) (see : A → C) (o : Outcome B) (p : Outcome C) (result : Outcome A)
    → AnswersBy view o result → ((a : A) → o ≡ Ok (view a) → p ≡ Ok (see a)) → ((e : Error) → o ≡ Err e → p ≡ Err e)
    → AnswersBy see p result
answered-again view see o p (Ok a) h good bad = good a h
answered-again view see o p (Err e) h good bad = ⊎_map (λ memory. memory) (bad e) h

pub if_ok-again : {A : Type 0} (P Q : A → Type 0) (result : Outcome A) → IfOk result P → ((a : A) → P a → Q a)
    → IfOk result Q
if_ok-again P Q (Ok a) h more = more a h
if_ok-again P Q (Err e) h more = tt

pub on_err-again : {A : Type 0} (P Q : Type 0) (result : Outcome A) → OnErr result P → (P → Q) → OnErr result Q
on_err-again P Q (Ok a) h more = tt
on_err-again P Q (Err e) h more = more h

-- Leaf digests that change answer the batch of their tree.
pub batch-answered : {A B : Type 0} (hashes : Hashes A) (leaves : List Digest) (cs : List (ℕ × A))
    (hs : List (ℕ × Digest)) → hashed_changes hashes.leaf (last_changes cs) ≡ Ok hs
    → (made : List Digest) (result : Outcome B)
    → AnswersBy (λ _. made) (leaves_with_root hashes.pair (puts leaves hs)) result
    → AnswersBy (λ _. tree_with hashes made) (with_leaves (tree_with hashes leaves) cs) result
batch-answered {A = A} {B = B} hashes leaves cs hs hashed made result answers =
    let batch = with_leaves-hashed (tree_with hashes leaves) cs hs hashed in
    answered-again (λ (_ : B). made) (λ (_ : B). tree_with hashes made)
    (leaves_with_root hashes.pair (puts leaves hs)) (with_leaves (tree_with hashes leaves) cs) result answers
    (λ a ok. batch ∙ ap (with_hashes hashes) ok) (λ e bad. batch ∙ ap (with_hashes hashes) bad)

-- Equal hashes make equal batches.
pub batch-of : {A B : Type 0} {own hashes : Hashes A} → own ≡ hashes → (leaves made : List Digest) (cs : List (ℕ × A))
    (result : Outcome B)
    → AnswersBy (λ _. tree_with own made) (with_leaves (tree_with own leaves) cs) result
    → AnswersBy (λ _. tree_with hashes made) (with_leaves (tree_with hashes leaves) cs) result
batch-of same leaves made cs result answers = rw (← same) answers

pub each-of : {A : Type 0} {own hashes : Hashes A} → own ≡ hashes → (leaves : List Digest) (cs : List (ℕ × A))
    → ((made : _) → with_each_leaf (tree_with own leaves) cs ≡ Ok made
    → with_leaves (tree_with own leaves) cs ≡ Ok made)
    → (made : _) → with_each_leaf (tree_with hashes leaves) cs ≡ Ok made
    → with_leaves (tree_with hashes leaves) cs ≡ Ok made
each-of same leaves cs one_by_one = rw (← same) one_by_one

-- The count of a batch is that of the places above the changed indexes.
pub batch-counted : {A B : Type 0} (hash : A → Outcome Digest) (view : B → Digest) (rows : ℕ) (cs : List (ℕ × A))
    (hs : List (ℕ × B)) → hashed_changes hash (last_changes cs) ≡ Ok (seen_changes view hs) → count_over rows
    (places hs) ≡ count_above rows (places cs)
batch-counted hash view rows cs hs hashed =
    ap (count_over rows) (sym (places-seen view hs) ∙ hashed-places hash (last_changes cs) (seen_changes view hs) hashed
    ∙ last-places cs) ∙ count_over-above rows (places cs)
