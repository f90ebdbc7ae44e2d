-- Several changes of leaves, as lists.
use Rattle.std.proofs.Common.{zero, suc, ◌≡◌, ◌≢◌, ℕ, ◌+◌, ◌<◌, ◌≤◌, true, false, ltb, eqb, List, [], ◌∷◌, length, drop, map, get_or, set, Ok, inl, inr, refl, ap, sym, ◌∙◌, arith, append-nil}
use Rattle.std.proofs.lemmas.Bool.{lt-ltb, le-ltb, eq-eqb, ne_eqb}
use Rattle.std.proofs.lemmas.List.{length-map, set-set, length-set, drop_more, drop_all, drop-drop, drop-set-lt, get_or-drop}
use Rattle.ark_base.specs.Outcome.{Outcome, ◌>>=◌}
use Rattle.ark_base.specs.Laws.Steps.{bind_ok, done_injective}
use Rattle.ark_paths.specs.Pair.{Digest}
use Rattle.ark_paths.specs.Root.{root, leaves_with_root}
use Rattle.ark_paths.specs.Tree.{HashedTree}
use Rattle.ark_paths.proofs.ListOutcomes.{begun}
use Rattle.ark_merkle.specs.Batch.{with_change, last_changes, hashed_changes, puts, with_leaves, with_each_leaf}
use Rattle.ark_merkle.specs.Changed.{seen_changes, AreChanges}
use Rattle.ark_merkle.specs.Update.{with_leaf}
use Rattle.ark_paths.proofs.MultiIndexes.{trichotomy}

-- ---- a change at its place

module _ {A : Type 0} (c d : ℕ × A) (cs : List (ℕ × A)) where
  pub placed_change-below : c.0 < d.0 → with_change c (d ∷ cs) ≡ c ∷ d ∷ cs
  placed_change-below lt = let e : ltb c.0 d.0 ≡ true = lt-ltb _ _ lt in rw e refl

  pub placed_change-same : c.0 ≡ d.0 → with_change c (d ∷ cs) ≡ d ∷ cs
  placed_change-same same = let no : ltb c.0 d.0 ≡ false = le-ltb _ _ (omega arith) in let e : eqb c.0 d.0 ≡ true =
      eq-eqb c.0 d.0 same in rw (no, e) refl

  pub placed_change-past : d.0 < c.0 → with_change c (d ∷ cs) ≡ d ∷ with_change c cs
  placed_change-past gt = let no : ltb c.0 d.0 ≡ false = le-ltb _ _ (omega arith) in let other : eqb c.0 d.0 ≡ false =
      ne_eqb c.0 d.0 (λ same. omega arith) in rw (no, other) refl

-- ---- places that rise

pub AreChanges-later : {A : Type 0} (first next end : ℕ) (cs : List (ℕ × A)) → first ≤ next → AreChanges next end cs
    → AreChanges first end cs
AreChanges-later first next end [] le so = tt
AreChanges-later first next end (c ∷ cs) le so = (omega (arith, so.0), so.1, so.2)

pub AreChanges-at : {A : Type 0} (first end : ℕ) (cs : List (ℕ × A)) (n : ℕ) (d : ℕ × A) → AreChanges first end cs
    → n < length cs → (get_or cs n d).0 < end
AreChanges-at first end [] n d so below = absurd (omega arith)
AreChanges-at first end (c ∷ cs) zero d so below = so.1
AreChanges-at first end (c ∷ cs) (suc n) d so below = AreChanges-at (suc c.0) end cs n d so.2 (omega arith)

-- the places count, whatever stands there
pub AreChanges-seen : {A B : Type 0} (view : A → B) (first end : ℕ) (cs : List (ℕ × A)) → AreChanges first end cs
    → AreChanges first end (seen_changes view cs)
AreChanges-seen view first end [] so = tt
AreChanges-seen view first end (c ∷ cs) so = (so.0, so.1, AreChanges-seen view (suc c.0) end cs so.2)

-- changes of a list are changes of its view
pub AreChanges-inside : {A B C : Type 0} (view : A → B) (xs : List A) (cs : List (ℕ × C)) → AreChanges 0 (length xs) cs
    → AreChanges 0 (length (map view xs)) cs
AreChanges-inside view xs cs so = rw (length-map xs view) so

pub AreChanges-unseen : {A B : Type 0} (view : A → B) (first end : ℕ) (cs : List (ℕ × A)) → AreChanges first end
    (seen_changes view cs) → AreChanges first end cs
AreChanges-unseen view first end [] so = tt
AreChanges-unseen view first end (c ∷ cs) so = (so.0, so.1, AreChanges-unseen view (suc c.0) end cs so.2)

-- ---- digests that are put in their places

get_or-drop_first : {A : Type 0} (n : ℕ) (xs : List A) (d : A) → get_or (drop n xs) 0 d ≡ get_or xs n d
get_or-drop_first n xs d = get_or-drop n xs 0 d ∙ ap (λ (k : ℕ). get_or xs k d) (omega arith)

set-commute : (digests : List Digest) (i j : ℕ) (d e : Digest) → i ≢ j → set (set digests i d) j e
    ≡ set (set digests j e) i d
set-commute [] i j d e other = refl
set-commute (x ∷ xs) zero zero d e other = absurd (other refl)
set-commute (x ∷ xs) zero (suc j) d e other = refl
set-commute (x ∷ xs) (suc i) zero d e other = refl
set-commute (x ∷ xs) (suc i) (suc j) d e other =
    ap (λ (ds : List Digest). x ∷ ds) (set-commute xs i j d e (λ same. other (ap suc same)))

pub length-puts : (digests : List Digest) (cs : List (ℕ × Digest)) → length (puts digests cs) ≡ length digests
length-puts digests [] = refl
length-puts digests (c ∷ cs) = length-puts (set digests c.0 c.1) cs ∙ length-set digests c.0 c.1

puts-placed : (digests : List Digest) (c : ℕ × Digest) (cs : List (ℕ × Digest)) → puts digests (with_change c cs)
    ≡ puts (set digests c.0 c.1) cs
puts-placed digests c [] = refl
puts-placed digests c (d ∷ cs) =
    elim (trichotomy c.0 d.0) [
      | inl lt ↦ rw (placed_change-below c d cs lt) refl
      | inr (inl same) ↦ rw (placed_change-same c d cs same, same, set-set digests d.0 c.1 d.1) refl
      | inr (inr gt) ↦ rw (placed_change-past c d cs gt, set-commute digests c.0 d.0 c.1 d.1 (λ same. omega arith))
          (puts-placed (set digests d.0 d.1) c cs)
    ]

pub puts-last : (digests : List Digest) (cs : List (ℕ × Digest)) → puts digests (last_changes cs) ≡ puts digests cs
puts-last digests [] = refl
puts-last digests (c ∷ cs) = puts-placed digests c (last_changes cs) ∙ puts-last (set digests c.0 c.1) cs

-- The first changes of a list are put; the others are still to be.
pub record ArePutSoFar {A : Type 0} (numbers : A → Digest) (given : List (ℕ × A)) (before : List Digest) (n : ℕ)
    (now : List Digest) (left : List (ℕ × A)) : Type 0 where
  pub long : length now ≡ length before
  pub count : length left ≡ length given
  pub to_put : drop n left ≡ drop n given
  pub put : puts now (seen_changes numbers (drop n given)) ≡ puts before (seen_changes numbers given)

module _ {A : Type 0} (numbers : A → Digest) (given : List (ℕ × A)) (before : List Digest) where
  module _ (n : ℕ) (now : List Digest) (left : List (ℕ × A)) (so : ArePutSoFar numbers given before n now left) where
    pub put_so_far-all : length given ≤ n → now ≡ puts before (seen_changes numbers given)
    put_so_far-all past = ap (λ cs. puts now (seen_changes numbers cs)) (sym (drop_all n given past)) ∙ so.put

    module _ (c : ℕ × A) (below : n < length left) (is : c ≡ get_or left n c) where
      here : drop n given ≡ c ∷ drop (n + 1) given
      here =
          let e : get_or given n c ≡ c = sym (get_or-drop_first n given c) ∙ ap (λ cs. get_or cs 0 c) (sym so.to_put)
          ∙ get_or-drop_first n left c ∙ sym is in
          drop_more given n c (omega (arith, so.count)) ∙ ap (λ (d : ℕ × A). d ∷ drop (n + 1) given) e

      pub put_so_far-more : (gone : ℕ × A) → ArePutSoFar numbers given before (n + 1) (set now c.0 (numbers c.1))
          (set left n gone)
      put_so_far-more gone = record {
        long = length-set now c.0 (numbers c.1) ∙ so.long;
        count = length-set left n gone ∙ so.count;
        to_put = drop-set-lt (n + 1) left n gone (omega arith) ∙ sym (drop-drop 1 n left) ∙ ap (drop 1) so.to_put
            ∙ drop-drop 1 n given;
        put = sym (ap (λ cs. puts now (seen_changes numbers cs)) here) ∙ so.put;
      }

      -- its place is one of the list
      pub put_so_far-inside : AreChanges 0 (length before) given → c.0 < length now
      put_so_far-inside rise =
          let first : (get_or given n c).0 < length before =
          AreChanges-at 0 (length before) given n c rise (omega (arith, so.count)) in
          omega (
            arith,
            so.long,
            ap (λ (d : ℕ × A). d.0) (sym (get_or-drop_first n given c) ∙ ap (λ cs. get_or cs 0 c)
                here),
            first,
          )

-- ---- changes that are hashed

module _ {A : Type 0} (hash : A → Outcome Digest) where
  -- what hashed a list, first and others
  pub record Hashed (c : ℕ × A) (cs : List (ℕ × A)) (hs : List (ℕ × Digest)) : Type 0 where
    pub digest : Digest
    pub others : List (ℕ × Digest)
    pub digest_is : hash c.1 ≡ Ok digest
    pub others_are : hashed_changes hash cs ≡ Ok others
    pub whole : (c.0, digest) ∷ others ≡ hs

  pub hashed-cons : (c : ℕ × A) (cs : List (ℕ × A)) (hs : List (ℕ × Digest)) → hashed_changes hash (c ∷ cs) ≡ Ok hs
      → Hashed c cs hs
  hashed-cons c cs hs e =
      let first = bind_ok (hash c.1) (λ d. hashed_changes hash cs >>= λ ds. Ok ((c.0, d) ∷ ds)) hs e in
      let others = bind_ok (hashed_changes hash cs) (λ ds. Ok ((c.0, first.0) ∷ ds)) hs first.2 in
      record {
        digest = first.0;
        others = others.0;
        digest_is = first.1;
        others_are = others.1;
        whole = done_injective
            ((c.0, first.0) ∷ others.0) hs others.2;
      }

  hashed-first : (c : ℕ × A) (d : Digest) (cs : List (ℕ × A)) (hs : List (ℕ × Digest)) → hash c.1 ≡ Ok d
      → hashed_changes hash cs ≡ Ok hs → hashed_changes hash (c ∷ cs) ≡ Ok ((c.0, d) ∷ hs)
  hashed-first c d cs hs is all = rw (is, all) refl

  hashed-placed : (c : ℕ × A) (d : Digest) (cs : List (ℕ × A)) (hs : List (ℕ × Digest)) → hash c.1 ≡ Ok d
      → hashed_changes hash cs ≡ Ok hs → hashed_changes hash (with_change c cs) ≡ Ok (with_change (c.0, d) hs)
  hashed-placed c d [] hs is all = rw (is, ← done_injective [] hs all) refl
  hashed-placed c d (e ∷ cs) hs is all =
      let f = hashed-cons e cs hs all in
      elim (trichotomy c.0 e.0) [
        | inl lt ↦ rw (placed_change-below, ← f.whole, placed_change-below, is, f.digest_is, f.others_are) refl
        | inr (inl same) ↦ rw (placed_change-same, ← f.whole, placed_change-same, f.digest_is, f.others_are) refl
        | inr (inr gt) ↦
            let rest = hashed-placed c d cs f.others is f.others_are in
            rw (placed_change-past, ← f.whole, placed_change-past, f.digest_is, rest) refl
      ]

  hashed-last : (cs : List (ℕ × A)) (hs : List (ℕ × Digest)) → hashed_changes hash cs ≡ Ok hs → hashed_changes hash
      (last_changes cs) ≡ Ok (last_changes hs)
  hashed-last [] hs all = rw (← done_injective [] hs all) refl
  hashed-last (c ∷ cs) hs all = let f = hashed-cons c cs hs all in rw (← f.whole) (hashed-placed c f.digest
      (last_changes cs) (last_changes f.others) f.digest_is (hashed-last cs f.others f.others_are))

-- the changes before the rest are hashed
abbrev pub AreHashedSoFar : {A : Type 0} → (A → Outcome Digest) → List (ℕ × A) → List (ℕ × Digest)
    → List (ℕ × A) → Type 0
AreHashedSoFar hash cs done rest = hashed_changes hash cs ≡ begun done (hashed_changes hash rest)

pub hashed_so_far-all : {A : Type 0} (hash : A → Outcome Digest) (cs : List (ℕ × A)) (done : List (ℕ × Digest))
    → AreHashedSoFar hash cs done [] → hashed_changes hash cs ≡ Ok done
hashed_so_far-all hash cs done so = so ∙ ap Ok (append-nil done)

-- ---- one change after the other

-- the digests of changes one after the other, each of which left a tree
record EachMade {A : Type 0} (tree : HashedTree A) (cs : List (ℕ × A)) (made : HashedTree A) : Type 0 where
  pub digests : List (ℕ × Digest)
  pub hashed : hashed_changes tree.hashes.leaf cs ≡ Ok digests
  pub made_is : made ≡ record { hashes = tree.hashes; leaves = puts tree.leaves digests }
  pub rooted : leaves_with_root tree.hashes.pair (puts tree.leaves digests) ≡ Ok (puts tree.leaves digests)

each_made : {A : Type 0} (tree : HashedTree A) (cs : List (ℕ × A)) (made : HashedTree A) → leaves_with_root
    tree.hashes.pair tree.leaves ≡ Ok tree.leaves → with_each_leaf tree cs ≡ Ok made → EachMade tree cs made
each_made tree [] made rooted is = record {
  digests = [];
  hashed = refl;
  made_is = sym (done_injective tree made is);
  rooted = rooted;
}
each_made {A} tree (c ∷ cs) made rooted is =
    let h = tree.hashes.pair in
    let one = bind_ok (with_leaf tree c.0 c.1) (λ t. with_each_leaf t cs) made is in
    let leaves = bind_ok (tree.hashes.leaf c.1 >>= λ d. leaves_with_root h (set tree.leaves c.0 d))
    (λ ds. Ok (record { hashes = tree.hashes; leaves = ds })) one.0 one.1 in
    let hashed = bind_ok (tree.hashes.leaf c.1) (λ d. leaves_with_root h (set tree.leaves c.0 d)) leaves.0 leaves.1 in
    let new = set tree.leaves c.0 hashed.0 in
    let root = bind_ok (root h new) (λ _. Ok new) leaves.0 hashed.2 in
    let same : new ≡ leaves.0 = done_injective new leaves.0 root.2 in
    let there = ap (λ (o : Outcome Digest). o >>= λ _. Ok new) root.1 in
    let changed : HashedTree A = record { hashes = tree.hashes; leaves = new } in
    let changed_is : changed ≡ one.0 = ap (λ (ds : List Digest). record { hashes = tree.hashes; leaves = ds }) same
    ∙ done_injective _ one.0 leaves.2 in
    let more = each_made changed cs made there (rw changed_is one.2) in
    record {
      digests = (c.0, hashed.0) ∷ more.digests;
      hashed = hashed-first tree.hashes.leaf c hashed.0 cs more.digests hashed.1 more.hashed;
      made_is = more.made_is;
      rooted = more.rooted;
    }

-- Where changes one after the other succeed, they give the tree of the last changes.
pub with_leaves-each : {A : Type 0} (tree : HashedTree A) (cs : List (ℕ × A)) (made : HashedTree A) → leaves_with_root
    tree.hashes.pair tree.leaves ≡ Ok tree.leaves → with_each_leaf tree cs ≡ Ok made → with_leaves tree cs ≡ Ok made
with_leaves-each tree cs made rooted is =
    let e = each_made tree cs made rooted is in
    rw (hashed-last tree.hashes.leaf cs e.digests e.hashed, puts-last tree.leaves e.digests, e.rooted)
    (ap Ok (sym e.made_is))
