-- What an accepted path says to whoever has a root alone.
use Rattle.std.proofs.Common.{◌≡◌, ℕ, suc, ◌%◌, Bool, true, false, if◌then◌else◌, ◌==◌, Option, Some, None, List, [], ◌∷◌, length, map, Ok, Err, refl, ap, sym, ◌∙◌, inl, inr}
use Rattle.std.specs.Result.{IfOk}
use Rattle.std.proofs.lemmas.List.{append-nil}
use Rattle.ark_base.specs.declared.error.Error.TheVariants.{GenericError}
use Rattle.ark_base.specs.declared.error.Refusal.TheVariants.{NoIndex}
use Rattle.ark_base.specs.Outcome.{Outcome, Answers, ◌>>=◌}
use Rattle.ark_base.specs.Laws.Steps.{bind_ok, done_injective}
use Rattle.ark_paths.specs.Bind.{difference, StandsOrCollides, BindsLeaf, BindsLeaves, BindsGiven}
use Rattle.ark_paths.specs.Index.{IsTreeSize}
use Rattle.ark_paths.specs.Leaves.{AnswersOver}
use Rattle.ark_paths.specs.MultiPath.{MultiWay, decoded_paths, multi_verdict_from, multi_verdict}
use Rattle.ark_paths.specs.Pair.{Digest, HashPair, Hashes, digest_eq}
use Rattle.ark_paths.specs.Path.{Way, path_root, verdict}
use Rattle.ark_paths.specs.Root.{root, upper_levels}
use Rattle.ark_paths.specs.Rows.{IsTree, rows_of}
use Rattle.ark_paths.proofs.Collisions.{digest_eq-true, agreed-leaf, differing-collides}
use Rattle.ark_paths.proofs.Levels.{root_of-rows, top_digest}
use Rattle.ark_paths.proofs.TreeLemmas.{is_tree, upper_levels-size}

-- leaf digests that have a root have rows
pub rooted-tree : (h : HashPair) (digests : List Digest) (r : Digest) → IsTreeSize (length digests) → root h digests
    ≡ Ok r → (rows : List (List Digest)) × IsTree h digests rows
rooted-tree h digests r size rooted =
    let m = upper_levels digests in
    let made = bind_ok (rows_of h m digests) (λ rows. Ok (top_digest rows)) r
    (sym (root_of-rows h m digests (upper_levels-size digests size)) ∙ rooted) in
    (made.0, is_tree h digests made.0 size made.1)

module _ {A : Type 0} (hashes : Hashes A) (r : Digest) where
  accepted-bound : (leaf : A) (way : Way) → verdict hashes.pair (hashes.leaf leaf) way r ≡ Ok true
      → BindsLeaf hashes r leaf way
  accepted-bound leaf way accepted digests size long rooted =
      let tree = rooted-tree hashes.pair digests r size rooted in
      let hashed = bind_ok (hashes.leaf leaf) (λ digest. path_root hashes.pair way digest >>= λ given.
      Ok (digest_eq given r)) true accepted in
      let climbed = bind_ok (path_root hashes.pair way hashed.0) (λ given. Ok (digest_eq given r)) true hashed.2 in
      let whole = climbed.1 ∙ ap Ok (digest_eq-true climbed.0 r (done_injective _ _ climbed.2)) ∙ sym rooted in
      by_level tree.0 tree.1 hashed.0 hashed.1 whole (difference hashes.pair digests way hashed.0) refl
    where
      by_level : (rows : List (List Digest)) → IsTree hashes.pair digests rows → (digest : Digest) → hashes.leaf leaf
          ≡ Ok digest → path_root hashes.pair way digest ≡ root hashes.pair digests
          → (found : Option ℕ) → difference hashes.pair digests way digest ≡ found → StandsOrCollides
          (record { hashes = hashes; leaves = digests }) (way.index % length digests) leaf way
      by_level rows tree digest is whole None none =
          inl (is ∙ ap Ok (agreed-leaf hashes.pair digests rows tree way digest long none))
      by_level rows tree digest is whole (Some level) found =
          inr (level, (digest, is, differing-collides hashes.pair digests rows tree way digest long level found whole))

  pub answered-bound : (leaf : A) (way : Way) (result : Outcome Bool) → Answers (verdict hashes.pair (hashes.leaf leaf)
      way r) result → IfOk result (λ accepted. accepted ≡ true → BindsLeaf hashes r leaf way)
  answered-bound leaf way (Ok accepted) answer = λ is. accepted-bound leaf way (answer ∙ ap Ok is)
  answered-bound leaf way (Err e) answer = tt

  all-bound : (i : ℕ) (ways : List (Option Way)) (leaves : List A) → multi_verdict_from hashes.pair r i ways
      (map hashes.leaf leaves) ≡ Ok true → BindsLeaves hashes r leaves ways
  all-bound i [] leaves accepted = tt
  all-bound i (None ∷ ways) leaves accepted = absurd cc
  all-bound i (Some way ∷ ways) [] accepted = absurd cc
  all-bound i (Some way ∷ ways) (leaf ∷ leaves) accepted =
      let first = bind_ok (verdict hashes.pair (hashes.leaf leaf) way r) (λ holds. if holds then multi_verdict_from
      hashes.pair r (suc i) ways (map hashes.leaf leaves) else Ok false) true accepted in
      by_first first.0 first.1 first.2 (all-bound (suc i) ways leaves)
    where
      by_first : (holds : Bool) → verdict hashes.pair (hashes.leaf leaf) way r ≡ Ok holds
          → (if holds then multi_verdict_from hashes.pair r (suc i) ways (map hashes.leaf leaves) else Ok false)
          ≡ Ok true
          → (multi_verdict_from hashes.pair r (suc i) ways (map hashes.leaf leaves) ≡ Ok true → BindsLeaves hashes r
          leaves ways) → BindsLeaves hashes r (leaf ∷ leaves) (Some way ∷ ways)
      by_first true is rest next = (accepted-bound leaf way is, next rest)
      by_first false is rest next = absurd cc

  listed-bound : (m : MultiWay) (leaves : List A) → multi_verdict hashes.pair (map hashes.leaf leaves) m r ≡ Ok true
      → BindsLeaves hashes r leaves (decoded_paths m)
  listed-bound m leaves accepted = by_count (length m.indexes == 0) accepted
    where
      by_count : (none : Bool) → (if none then Err (GenericError NoIndex) else multi_verdict_from hashes.pair r 0
          (decoded_paths m) (map hashes.leaf leaves)) ≡ Ok true → BindsLeaves hashes r leaves (decoded_paths m)
      by_count true accepted = absurd cc
      by_count false accepted = all-bound 0 (decoded_paths m) leaves accepted

  pub listed-answer : (m : MultiWay) (leaves : List A) (result : Outcome Bool) → Answers (multi_verdict hashes.pair
      (map hashes.leaf leaves) m r) result → IfOk result (λ accepted. accepted ≡ true → BindsLeaves hashes r leaves
      (decoded_paths m))
  listed-answer m leaves (Ok accepted) answer = λ is. listed-bound m leaves (answer ∙ ap Ok is)
  listed-answer m leaves (Err e) answer = tt

  module _ {S B : Type 0} (steps : S → Option B → S → Type 0) (view : B → A) (m : MultiWay) (start behind : S) where
    hashed_views : (taken : List B) → map (λ x. hashes.leaf (view x)) taken ≡ map hashes.leaf (map view taken)
    hashed_views [] = refl
    hashed_views (x ∷ taken) = ap (λ (digests : List (Outcome Digest)). hashes.leaf (view x) ∷ digests)
        (hashed_views taken)

    taken-bound : (taken : List B) → multi_verdict hashes.pair (map (λ x. hashes.leaf (view x)) taken) m r ≡ Ok true
        → BindsLeaves hashes r (map view taken) (decoded_paths m)
    taken-bound taken accepted = listed-bound m (map view taken) (ap (λ (digests : List (Outcome Digest)). multi_verdict
        hashes.pair digests m r) (sym (hashed_views taken)) ∙ accepted)

    -- the leaves that were taken are bound
    pub given-bound : (result : Outcome Bool) → AnswersOver steps (λ x. hashes.leaf (view x)) start behind
        (λ digests. multi_verdict hashes.pair digests m r) result → IfOk result (λ accepted. accepted ≡ true
        → BindsGiven steps view start hashes r (decoded_paths m))
    given-bound (Err e) over = tt
    given-bound (Ok accepted) over = λ is. elim over.answered [
      | inl (last, gave, none, said) ↦ record {
        taken = over.taken;
        after = last;
        gave = gave;
        bound = taken-bound over.taken (said ∙ ap Ok is);
      }
      | inr (gave, said) ↦ record {
        taken = over.taken;
        after = behind;
        gave = gave;
        bound = taken-bound over.taken (rw append-nil at (said [] ∙ ap Ok is));
      }
    ]
