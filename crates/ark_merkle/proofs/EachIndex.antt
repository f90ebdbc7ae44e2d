-- What a batch of changes leaves at each index.
use Rattle.std.proofs.Common.{◌≡◌, ◌≢◌, ◌⊎◌, ℕ, ◌<◌, Bool, true, false, eqb, List, [], ◌∷◌, length, get_or, set, Option, None, Some, Ok, inl, inr, refl, ap, sym, ◌∙◌, subst, arith}
use Rattle.std.specs.Option.{option_or}
use Rattle.std.specs.Prelude.{MatchOption, unwrap_or, if◌then◌else◌}
use Rattle.std.proofs.lemmas.Bool.{eqb-true}
use Rattle.std.proofs.lemmas.Bool.Decides.{eqb_tells}
use Rattle.std.proofs.lemmas.List.{length-set, get_or-set_same, get_or-set_other}
use Rattle.ark_base.specs.Outcome.{Outcome, ◌>>=◌}
use Rattle.ark_base.specs.Laws.Steps.{bind_ok, done_injective}
use Rattle.ark_paths.specs.Pair.{Digest}
use Rattle.ark_paths.specs.Root.{root, leaves_with_root}
use Rattle.ark_paths.specs.Tree.{HashedTree}
use Rattle.ark_paths.proofs.MultiIndexes.{trichotomy}
use Rattle.ark_merkle.specs.Batch.{with_change, last_changes, last_leaf, hashed_changes, new_digests, puts, with_leaves, HasLastLeaves}
use Rattle.ark_merkle.proofs.Batches.{placed_change-below, placed_change-same, placed_change-past, hashed-cons}

-- a value, or the one behind it, if a test passes
abbrev or_if : {A : Type 0} → Option A → Bool → A → Option A
or_if o here x = option_or o (if here then Some x else None)

or_if-none : {A : Type 0} (o : Option A) (x : A) → or_if o false x ≡ o
or_if-none None x = refl
or_if-none (Some y) x = refl

or_if-again : {A : Type 0} (o : Option A) (x y : A) (here : Bool) → or_if o here x ≡ or_if (or_if o here x) here y
or_if-again None x y true = refl
or_if-again None x y false = refl
or_if-again (Some z) x y here = refl

or_if-commute : {A : Type 0} (o : Option A) (x y : A) (a b : Bool) → (a ≡ true → b ≡ true → ⊥)
    → or_if (or_if o a x) b y ≡ or_if (or_if o b y) a x
or_if-commute None x y true true apart = absurd (apart refl refl)
or_if-commute None x y true false apart = refl
or_if-commute None x y false true apart = refl
or_if-commute None x y false false apart = refl
or_if-commute (Some z) x y a b apart = refl

module _ {A : Type 0} (index : ℕ) where
  last-placed : (c : ℕ × A) (cs : List (ℕ × A)) → last_leaf index (with_change c cs)
      ≡ or_if (last_leaf index cs) (eqb c.0 index) c.1
  last-placed c [] = refl
  last-placed c (d ∷ cs) =
      elim (trichotomy c.0 d.0) [
        | inl lt ↦ rw (placed_change-below c d cs lt) refl
        | inr (inl same) ↦ rw (placed_change-same c d cs same, same)
            (or_if-again (last_leaf index cs) d.1 c.1 (eqb d.0 index))
        | inr (inr gt) ↦ rw (placed_change-past c d cs gt, last-placed c cs) (or_if-commute (last_leaf index cs) c.1 d.1
            (eqb c.0 index) (eqb d.0 index) (λ one other.
            let here : c.0 ≡ index = eqb-true c.0 index one in
            let there : d.0 ≡ index = eqb-true d.0 index other in
            omega arith))
      ]

  -- the last change of an index is that of the changes by rising index
  last-changes : (cs : List (ℕ × A)) → last_leaf index (last_changes cs) ≡ last_leaf index cs
  last-changes [] = refl
  last-changes (c ∷ cs) = last-placed c (last_changes cs)
      ∙ ap (λ (o : Option A). or_if o (eqb c.0 index) c.1) (last-changes cs)

-- a leaf and its digest, or neither
abbrev IsHashed : {A : Type 0} → (A → Outcome Digest) → Option A → Option Digest → Type 0
IsHashed hash leaf digest = MatchOption leaf (digest ≡ None) (λ x. (d : Digest) × (digest ≡ Some d) × (hash x ≡ Ok d))

IsHashed-if : {A : Type 0} (hash : A → Outcome Digest) (leaf : Option A) (digest : Option Digest) (here : Bool) (x : A)
    (d : Digest) → IsHashed hash leaf digest → hash x ≡ Ok d → IsHashed hash (or_if leaf here x) (or_if digest here d)
IsHashed-if hash (Some y) digest here x d (e, is, hashed) one = (e, rw is refl, hashed)
IsHashed-if hash None digest true x d none one = (d, rw none refl, one)
IsHashed-if hash None digest false x d none one = rw none refl

-- the last digest of an index is that of its last leaf
IsHashed-last : {A : Type 0} (hash : A → Outcome Digest) (index : ℕ) (cs : List (ℕ × A)) (hs : List (ℕ × Digest))
    → hashed_changes hash cs ≡ Ok hs → IsHashed hash (last_leaf index cs) (last_leaf index hs)
IsHashed-last hash index [] hs is = rw (← done_injective [] hs is) refl
IsHashed-last hash index (c ∷ cs) hs is =
    let f = hashed-cons hash c cs hs is in
    subst (λ (ds : List (ℕ × Digest)). IsHashed hash (last_leaf index (c ∷ cs)) (last_leaf index ds)) f.whole
    (IsHashed-if hash (last_leaf index cs) (last_leaf index f.others) (eqb c.0 index) c.1 f.digest
    (IsHashed-last hash index cs f.others f.others_are) f.digest_is)

-- what is put at an index last stands there
get_or-puts : (index : ℕ) (digests : List Digest) (hs : List (ℕ × Digest)) → index < length digests
    → get_or (puts digests hs) index [] ≡ unwrap_or (last_leaf index hs) (get_or digests index [])
get_or-puts index digests [] below = refl
get_or-puts index digests (h ∷ hs) below =
    get_or-puts index (set digests h.0 h.1) hs (omega (arith, length-set digests h.0 h.1))
    ∙ by_place (last_leaf index hs) (eqb_tells h.0 index)
  where
    by_place : (o : Option Digest)
        → ((eqb h.0 index ≡ true) × (h.0 ≡ index)) ⊎ ((eqb h.0 index ≡ false) × (h.0 ≢ index))
        → unwrap_or o (get_or (set digests h.0 h.1) index []) ≡ unwrap_or (or_if o (eqb h.0 index) h.1)
        (get_or digests index [])
    by_place (Some d) place = refl
    by_place None (inl (is, same)) = rw (is, same) (get_or-set_same digests index h.1 [] below)
    by_place None (inr (is, other)) = rw is (get_or-set_other digests h.0 index h.1 [] (λ e. other (sym e)))

module _ {A : Type 0} (hash : A → Outcome Digest) (index : ℕ) (digests : List Digest) (hs : List (ℕ × Digest))
    (below : index < length digests) where
  put-changed : (leaf : A) → IsHashed hash (Some leaf) (last_leaf index hs)
      → hash leaf ≡ Ok (get_or (puts digests hs) index [])
  put-changed leaf (d, is, one) = one ∙ ap Ok (sym (get_or-puts index digests hs below ∙ rw is refl))

  put-other : IsHashed hash None (last_leaf index hs) → get_or (puts digests hs) index [] ≡ get_or digests index []
  put-other none = get_or-puts index digests hs below ∙ rw none refl

-- the digests of a batch, index by index
pub with_leaves-last : {A : Type 0} (tree : HashedTree A) (cs : List (ℕ × A)) (made : HashedTree A)
    → with_leaves tree cs ≡ Ok made → HasLastLeaves tree cs made
with_leaves-last {A} tree cs made is =
    let hash = tree.hashes.leaf in
    let h = tree.hashes.pair in
    let leaves = bind_ok (new_digests hash cs tree.leaves >>= λ ds. leaves_with_root h ds)
    (λ ds. Ok (record { hashes = tree.hashes; leaves = ds })) made is in
    let digests = bind_ok (new_digests hash cs tree.leaves) (λ ds. leaves_with_root h ds) leaves.0 leaves.1 in
    let root = bind_ok (root h digests.0) (λ _. Ok digests.0) leaves.0 digests.2 in
    let hashed = bind_ok (hashed_changes hash (last_changes cs)) (λ hs. Ok (puts tree.leaves hs)) digests.0 digests.1 in
    let put : puts tree.leaves hashed.0 ≡ leaves.0 = done_injective _ digests.0 hashed.2
    ∙ done_injective digests.0 leaves.0 root.2 in
    let new : HashedTree A = record { hashes = tree.hashes; leaves = puts tree.leaves hashed.0 } in
    let new_is : new ≡ made = ap (λ (ds : List Digest). record { hashes = tree.hashes; leaves = ds }) put
    ∙ done_injective _ made leaves.2 in
    let last_is : (index : ℕ) (leaf : Option A) → last_leaf index cs ≡ leaf
    → IsHashed hash leaf (last_leaf index hashed.0) =
    λ index leaf last. subst (λ (o : Option A). IsHashed hash o (last_leaf index hashed.0))
    (last-changes index cs ∙ last) (IsHashed-last hash index (last_changes cs) hashed.0 hashed.1) in
    subst (HasLastLeaves tree cs) new_is (record {
      changed = λ index leaf below last. put-changed hash index tree.leaves hashed.0 below leaf
          (last_is index (Some leaf) last);
      others = λ index below last. put-other hash index tree.leaves hashed.0 below (last_is index None last);
    })
