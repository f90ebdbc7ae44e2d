-- New trees.
use Rattle.std.proofs.Common.{◌≡◌, ◌⊎◌, ℕ, List, [], ◌∷◌, length, map, true, Option, Result, Ok, Err, refl, sym, ap, ◌∙◌, inl, inr}
use Rattle.std.specs.Prelude.{IfOk, OnErr}
use Rattle.std.proofs.lemmas.List.{length-map}
use Rattle.ark_base.specs.declared.error.Error.{Error}
use Rattle.ark_base.specs.declared.error.Error.TheVariants.{OutOfMemory}
use Rattle.ark_base.specs.Outcome.{Outcome, AnswersBy}
use Rattle.ark_paths.specs.Index.{is_tree_size}
use Rattle.ark_paths.specs.Pair.{Digest, HashPair, Hashes}
use Rattle.ark_paths.specs.Root.{all_hashes, leaves_with_root, tree_leaves}
use Rattle.ark_paths.specs.Tree.{Tree, HashedTree, with_hashes}
use Rattle.acp_run.specs.Replies.{Reply, Refused, Built, MayLackMemory, text}
use Rattle.acp_run.specs.Steps.{State, state_of, Turn, Takes, Settles, HasHashes, settled, tree_turn, digests_turn}

all_hashes-map : {A : Type 0} (hash : A → Outcome Digest) (xs : List A) → all_hashes (λ digest. digest) (map hash xs)
    ≡ all_hashes hash xs
all_hashes-map hash [] = refl
all_hashes-map hash (x ∷ xs) = rw (all_hashes-map hash xs) refl

-- the turn of leaves that fit, by the hash of each
pub tree_turn-built : {A : Type 0} (h : HashPair) (before : State) (hash : A → Outcome Digest) (leaves : List A)
    → is_tree_size (length leaves) ≡ true
    → tree_turn h before (map hash leaves) ≡ settled (λ new. Built (length new)) before (tree_leaves h hash leaves)
tree_turn-built h before hash leaves fits = rw (length-map leaves hash, fits, all_hashes-map hash leaves) refl

pub digests_turn-built : {A : Type 0} (h : HashPair) (before : State) (numbers : A → Digest) (digests : List A)
    → is_tree_size (length digests) ≡ true → digests_turn h before (map numbers digests)
    ≡ settled (λ new. Built (length new)) before (leaves_with_root h (map numbers digests))
digests_turn-built h before numbers digests fits = rw (length-map digests numbers, fits) refl

-- a refusal of new leaf digests, as it is told
pub refused_settled : (reply : List Digest → Reply) → ((new : List Digest) → MayLackMemory (reply new))
    → (before after : State) (o : Outcome (List Digest)) (e : Error) (bytes : List ℕ)
    → (e ≡ OutOfMemory) ⊎ (o ≡ Err e) → after ≡ before → bytes ≡ text (Refused e)
    → Takes before (settled reply before o) after bytes
refused_settled reply may before after (Ok new) e bytes (inl memory) kept told =
    inr (told ∙ ap (λ e. text (Refused e)) memory, kept, may new)
refused_settled reply may before after (Err error) e bytes (inl memory) kept told =
    inr (told ∙ ap (λ e. text (Refused e)) memory, kept, tt)
refused_settled reply may before after o e bytes (inr refused) kept told = rw refused (inl (told, kept))

-- a tree that takes the place of the one before, or its refusal, as it is told
pub takes_settled : {L T : Type 0} (before after : Option (Tree L T)) (exact : Turn) (o : Outcome (List Digest))
    (made : Outcome (Tree L T)) (bytes : List ℕ) → exact ≡ settled (λ new. Built (length new)) (state_of before) o
    → AnswersBy (λ tree. tree.leaves) o made → Settles before made after bytes
    → Takes (state_of before) exact (state_of after) bytes
takes_settled before after exact o (Ok new) bytes same is told = rw (same, is) (inl (told.1, ap state_of told.0))
takes_settled before after exact o (Err error) bytes same refused told = rw same (refused_settled
    (λ new. Built (length new)) (λ _. tt) (state_of before) (state_of after) o error bytes refused
    (ap state_of told.0) told.1)

-- ---- a tree that was made, as callers see it

with_hashes-ok : {X : Type 0} (hashes : Hashes X) (o : Outcome (List Digest)) (tree : HashedTree X) → with_hashes hashes
    o ≡ Ok tree → (o ≡ Ok tree.leaves) × (hashes ≡ tree.hashes)
with_hashes-ok hashes (Ok digests) tree is =
    let same : ◌≡◌ {A = HashedTree _} (record { hashes = hashes; leaves = digests }) tree = cc in
    (ap (λ (t : HashedTree _). Ok t.leaves) same, ap (λ (t : HashedTree _). t.hashes) same)
with_hashes-ok hashes (Err e) tree is = absurd cc

pub with_hashes-err : {X : Type 0} (hashes : Hashes X) (o : Outcome (List Digest)) (e : Error) → with_hashes hashes o
    ≡ Err e → o ≡ Err e
with_hashes-err hashes (Ok digests) e is = absurd cc
with_hashes-err hashes (Err d) e is = let same : d ≡ e = cc in ap Err same

module _ {L T X : Type 0} (meaning : L → X → Outcome Digest) (pair : T → HashPair) where
  abbrev pub view_of : Tree L T → HashedTree X
  view_of t = record {
    hashes = record { leaf = meaning t.leaf_parameters; pair = pair t.pair_parameters };
    leaves = t.leaves;
  }

  module _ (p : L) (q : T) (o : Outcome (List Digest)) where
    abbrev hashes_at : Hashes X
    hashes_at = record { leaf = meaning p; pair = pair q }

    pub made-leaves : (made : Outcome (Tree L T)) → AnswersBy view_of (with_hashes hashes_at o) made
        → AnswersBy (λ tree. tree.leaves) o made
    made-leaves (Ok t) is = (with_hashes-ok hashes_at o (view_of t) is).0
    made-leaves (Err e) (inl memory) = inl memory
    made-leaves (Err e) (inr refused) = inr (with_hashes-err hashes_at o e refused)

    pub made-hashes : (t : Tree L T) → with_hashes hashes_at o ≡ Ok (view_of t) → (meaning t.leaf_parameters
        ≡ meaning p) × (pair t.pair_parameters ≡ pair q)
    made-hashes t is =
        let same = (with_hashes-ok hashes_at o (view_of t) is).1 in
        (ap (λ (h : Hashes X). h.leaf) (sym same), ap (λ (h : Hashes X). h.pair) (sym same))

-- the tree afterwards hashes as the one before, where the one that was made does
pub hashes_settled : {L T X A E : Type 0} (meaning : L → X → Outcome Digest) (pair : T → HashPair) (p : L) (q : T)
    (items : A → List ℕ) (before after : Option (Tree L T)) (made : Outcome (Tree L T)) (result : Result A E)
    → HasHashes meaning pair p q before → ((t : Tree L T) → made ≡ Ok t → (meaning t.leaf_parameters ≡ meaning p)
    × (pair t.pair_parameters ≡ pair q))
    → IfOk result (λ reply. Settles before made after (items reply)) → OnErr result (after ≡ before) → HasHashes meaning
    pair p q after
hashes_settled meaning pair p q items before after (Ok t) (Ok reply) has new told kept = rw told.0 (new t refl)
hashes_settled meaning pair p q items before after (Err e) (Ok reply) has new told kept = rw told.0 has
hashes_settled meaning pair p q items before after made (Err e) has new told kept = rw kept has
