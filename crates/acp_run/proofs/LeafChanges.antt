-- Several changed leaves, each seen by what the leaf hash answers for it.
use Rattle.std.proofs.Common.{◌≡◌, ◌⊎◌, ℕ, List, [], ◌∷◌, length, map, Bool, true, false, cond, ltb, eqb, Some, Ok, Err, refl, ap, ◌∙◌, inl}
use Rattle.std.specs.List.{list_all}
use Rattle.std.specs.Prelude.{nat_lt}
use Rattle.std.proofs.lemmas.List.Folds.{list_all-map}
use Rattle.ark_base.specs.declared.error.Error.{Error}
use Rattle.ark_base.specs.declared.error.Error.TheVariants.{OutOfMemory}
use Rattle.ark_base.specs.Outcome.{Outcome, ◌>>=◌}
use Rattle.ark_paths.specs.Pair.{Digest, HashPair}
use Rattle.ark_paths.specs.Root.{leaves_with_root}
use Rattle.ark_paths.specs.Tree.{Tree}
use Rattle.ark_merkle.specs.Batch.{with_change, last_changes, hashed_changes, new_digests, with_leaves}
use Rattle.acp_run.specs.Replies.{Changed, Refused, NoIndex, text}
use Rattle.acp_run.specs.Steps.{Turn, Takes, settled, set_many_turn}
use Rattle.acp_run.proofs.Trees.{view_of, made-leaves, refused_settled}

-- ---- what is seen of changes

module _ {A : Type 0} (hash : A → Outcome Digest) where
  abbrev pub seen : ℕ × A → ℕ × Outcome Digest
  seen change = (change.0, hash change.1)

  by_tests : (c d : ℕ × A) (ds placed : List (ℕ × A)) (s : List (ℕ × Outcome Digest)) (t u : Bool) → s ≡ map seen placed
      → cond t (seen c ∷ seen d ∷ map seen ds) (cond u (seen d ∷ map seen ds) (seen d ∷ s))
      ≡ map seen (cond t (c ∷ d ∷ ds) (cond u (d ∷ ds) (d ∷ placed)))
  by_tests c d ds placed s true u same = refl
  by_tests c d ds placed s false true same = refl
  by_tests c d ds placed s false false same = ap (λ (cs : List (ℕ × Outcome Digest)). seen d ∷ cs) same

  with_change-seen : (c : ℕ × A) (ds : List (ℕ × A)) → with_change (seen c) (map seen ds) ≡ map seen (with_change c ds)
  with_change-seen c [] = refl
  with_change-seen c (d ∷ ds) = by_tests c d ds (with_change c ds) (with_change (seen c) (map seen ds)) (ltb c.0 d.0)
      (eqb c.0 d.0) (with_change-seen c ds)

  last_changes-seen : (cs : List (ℕ × A)) → last_changes (map seen cs) ≡ map seen (last_changes cs)
  last_changes-seen [] = refl
  last_changes-seen (c ∷ cs) = ap (with_change (seen c)) (last_changes-seen cs) ∙ with_change-seen c (last_changes cs)

  hashed_changes-seen : (cs : List (ℕ × A)) → hashed_changes (λ digest. digest) (map seen cs) ≡ hashed_changes hash cs
  hashed_changes-seen [] = refl
  hashed_changes-seen (c ∷ cs) = rw (hashed_changes-seen cs) refl

  -- what becomes of the leaf digests
  abbrev changed_by : HashPair → List (ℕ × A) → List Digest → Outcome (List Digest)
  changed_by h changes digests = new_digests hash changes digests >>= leaves_with_root h

  -- the turn of changes whose indexes are below the length, by the hash of each leaf
  set_many_turn-inside : (h : HashPair) (digests : List Digest) (changes : List (ℕ × A))
      → list_all (λ change. nat_lt change.0 (length digests)) changes ≡ true
      → set_many_turn h digests (map seen changes)
      ≡ settled (λ _. Changed) (Some digests) (changed_by h changes digests)
  set_many_turn-inside h digests changes below = rw (
    list_all-map (λ change. nat_lt change.0 (length digests)) seen changes,
    below,
    last_changes-seen changes,
    hashed_changes-seen (last_changes changes),
  ) refl

  pub set_many_turn-outside : (h : HashPair) (digests : List Digest) (changes : List (ℕ × A)) (size : ℕ)
      → size ≡ length digests → list_all (λ change. nat_lt change.0 size) changes ≡ false
      → set_many_turn h digests (map seen changes) ≡ (NoIndex, Some digests)
  set_many_turn-outside h digests changes size is outside =
      rw (list_all-map (λ change. nat_lt change.0 (length digests)) seen changes, ← is, outside) refl

-- ---- the tree before a line and behind it

module _ {L T A : Type 0} (meaning : L → A → Outcome Digest) (pair : T → HashPair) (tree after : Tree L T)
    (changes : List (ℕ × A)) (size : ℕ) (size_is : size ≡ length tree.leaves)
    (below : list_all (λ change. nat_lt change.0 size) changes ≡ true) where
  abbrev pairs : HashPair
  pairs = pair tree.pair_parameters

  abbrev made : Outcome (List Digest)
  made = changed_by (meaning tree.leaf_parameters) pairs changes tree.leaves

  abbrev exact : Turn
  exact = set_many_turn pairs tree.leaves (map (seen (meaning tree.leaf_parameters)) changes)

  exact_is : exact ≡ settled (λ _. Changed) (Some tree.leaves) made
  exact_is = set_many_turn-inside (meaning tree.leaf_parameters) pairs tree.leaves changes (rw (← size_is) below)

  -- new leaf digests, as they are told
  pub takes_changed : (bytes : List ℕ) → with_leaves (view_of meaning pair tree) changes
      ≡ Ok (view_of meaning pair after) → bytes ≡ text Changed
      → Takes (Some tree.leaves) exact (Some after.leaves) bytes
  takes_changed bytes is told = rw (
    exact_is,
    made-leaves meaning pair tree.leaf_parameters tree.pair_parameters made (Ok after) is,
  ) (inl (told, refl))

  -- their refusal, as it is told
  pub takes_refused : (e : Error) (bytes : List ℕ)
      → (e ≡ OutOfMemory) ⊎ (with_leaves (view_of meaning pair tree) changes ≡ Err e) → after ≡ tree
      → bytes ≡ text (Refused e) → Takes (Some tree.leaves) exact (Some after.leaves) bytes
  takes_refused e bytes refused kept told = rw exact_is (refused_settled (λ _. Changed) (λ _. tt) (Some tree.leaves)
      (Some after.leaves) made e bytes
      (made-leaves meaning pair tree.leaf_parameters tree.pair_parameters made (Err e) refused)
      (ap (λ (t : Tree L T). Some t.leaves) kept) told)
