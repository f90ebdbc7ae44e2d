-- The couples that changed digests of a row reach, hashed one after the other.
use Rattle.std.proofs.Common.{◌≡◌, ℕ, ◌≤◌, List, ◌++◌, length, map, drop, Ok, Err}
use Rattle.std.proofs.lemmas.List.{drop_all}
use Rattle.std.specs.List.{zip}
use Rattle.ark_base.specs.declared.error.Error.{Error}
use Rattle.ark_base.specs.Outcome.{Outcome}
use Rattle.ark_crh.specs.Ahead.{of_couple}
use Rattle.ark_paths.specs.Pair.{Digest}
use Rattle.ark_paths.specs.Root.{all_hashes}
use Rattle.ark_merkle.specs.Batch.{hashed_changes}
use Rattle.ark_merkle.specs.Changed.{seen_changes, couples_reached}
use Rattle.ark_merkle.proofs.Batches.{AreHashedSoFar, hashed_so_far-all}
use Rattle.ark_merkle.proofs.ChangeRuns.{hashed_so_far-run, hashed_so_far-run_refused}

-- the couples that the changes from one on reach
abbrev pub reached_from : {A : Type 0} → (A → Digest) → List A → List (ℕ × A) → ℕ → List (ℕ × (Digest × Digest))
reached_from below row changes n = couples_reached (map below row) (seen_changes below (drop n changes))

-- The couples that the changes before the next one reach are hashed.
pub record AreCouplesHashed {A B : Type 0} (hash : Digest → Digest → Outcome Digest) (below : A → Digest)
    (above : B → Digest) (row : List A) (changes : List (ℕ × A)) (next : ℕ) (made : List (ℕ × B)) : Type 0 where
  pub within : next ≤ length changes
  pub so_far : AreHashedSoFar (of_couple hash) (reached_from below row changes 0) (seen_changes above made)
      (reached_from below row changes next)

module _ {A B : Type 0} {hash : Digest → Digest → Outcome Digest} {below : A → Digest} {above : B → Digest}
    {row : List A} {changes : List (ℕ × A)} {next : ℕ} {made : List (ℕ × B)}
    (so : AreCouplesHashed hash below above row changes next made) where
  -- the outcome of all
  abbrev pub all_couples : Outcome (List (ℕ × Digest))
  all_couples = hashed_changes (of_couple hash) (reached_from below row changes 0)

  module _ (behind : ℕ) (places : List ℕ) (couples : List (Digest × Digest))
      (reached : reached_from below row changes next ≡ zip places couples ++ reached_from below row changes behind)
      (same : length places ≡ length couples) where
    pub couples-run : (digests : List Digest) (more : List (ℕ × B)) → behind ≤ length changes
        → all_hashes (of_couple hash) couples ≡ Ok digests
        → seen_changes above more ≡ seen_changes above made ++ zip places digests
        → AreCouplesHashed hash below above row changes behind more
    couples-run digests more inside is pushed = record {
      within = inside;
      so_far = rw pushed (hashed_so_far-run (of_couple hash) _ _ places couples _ same (rw reached at so.so_far)
          digests is);
    }

    pub couples-run_refused : (e : Error) → all_hashes (of_couple hash) couples ≡ Err e → all_couples ≡ Err e
    couples-run_refused =
        hashed_so_far-run_refused (of_couple hash) _ _ places couples _ same (rw reached at so.so_far)

  pub couples-all : length changes ≤ next → all_couples ≡ Ok (seen_changes above made)
  couples-all past = hashed_so_far-all (of_couple hash) _ _ (rw (drop_all next changes past) at so.so_far)
