-- A place of a multi-proof, as the plain function takes it.
use Rattle.std.proofs.Common.{◌≡◌, ◌∙◌, ℕ, ◌+◌, List, ◌∷◌, true, Some, Ok, Err, refl, add-one}
use Rattle.ark_base.specs.declared.error.Error.{Error}
use Rattle.ark_base.specs.Outcome.{Outcome}
use Rattle.ark_paths.specs.MultiPath.{MultiWay, decoded_path, decoded_paths_from, multi_verdict_from}
use Rattle.ark_paths.specs.Pair.{Digest, HashPair}
use Rattle.ark_paths.specs.Path.{Way, verdict}

module _ (h : HashPair) (root : Digest) (m : MultiWay) (i : ℕ) (before : List Digest) (index : ℕ) (way : Way)
    (decodes : decoded_path m i before index ≡ Some way) (leaf : Outcome Digest) (indexes : List ℕ)
    (leaves : List (Outcome Digest)) where
  pub place-refused : (error : Error) → verdict h leaf way root ≡ Err error → multi_verdict_from h root i
      (decoded_paths_from m i before (index ∷ indexes)) (leaf ∷ leaves) ≡ Err error
  place-refused error refused = rw (decodes, refused) refl

  pub place-accepted : verdict h leaf way root ≡ Ok true → multi_verdict_from h root i (decoded_paths_from m i before
      (index ∷ indexes)) (leaf ∷ leaves) ≡ multi_verdict_from h root (i + 1) (decoded_paths_from m (i + 1) way.above
      indexes) leaves
  place-accepted accepted = rw (decodes, accepted, add-one) refl

-- a decoded path by a sibling and digests that are the same
pub decoded_path-alike : (m : MultiWay) (place : ℕ) (before : List Digest) (index : ℕ) {s s' : Digest}
    {a a' : List Digest}
    → decoded_path m place before index ≡ Some (record { sibling = s; above = a; index = index }) → s ≡ s' → a ≡ a'
    → decoded_path m place before index ≡ Some (record { sibling = s'; above = a'; index = index })
decoded_path-alike m place before index decodes same_sibling same_above =
    decodes ∙ (λ i. Some (record { sibling = same_sibling i; above = same_above i; index = index }))
