-- Parts of a list of couples that are hashed run by run.
use Rattle.std.proofs.Common.{◌≡◌, ℕ, List, map, take, drop, Ok, Err, ap, sym, ◌∙◌, ◌+◌, ◌++◌}
use Rattle.std.proofs.lemmas.List.{take-map, drop-map}
use Rattle.ark_base.specs.declared.error.Error.{Error}
use Rattle.ark_base.specs.Outcome.{Outcome}
use Rattle.ark_paths.specs.Pair.{Digest}
use Rattle.ark_paths.specs.Root.{all_hashes}
use Rattle.ark_paths.proofs.Ahead.{so_far-run, so_far-run_refused}
use Rattle.ark_paths.proofs.ListOutcomes.{IsSoFar}

module _ {R A : Type 0} (hash : A → Outcome Digest) (view : R → A) (run : List R) (i n : ℕ) (part : List R)
    (part_is : part ≡ take n (drop i run)) (done : List Digest) (so : IsSoFar hash (map view run) i done) where
  seen : map view part ≡ take n (drop i (map view run))
  seen =
      ap (map view) part_is
      ∙ sym (ap (take n) (drop-map view i run) ∙ take-map view n (drop i run))

  -- the next run is hashed
  pub seen-run : (made : List Digest) → all_hashes hash (map view part) ≡ Ok made
      → IsSoFar hash (map view run) (i + n) (done ++ made)
  seen-run made is = so_far-run hash (map view run) i n done so made (ap (all_hashes hash) (sym seen) ∙ is)

  -- or refused
  pub seen-run_refused : (e : Error) → all_hashes hash (map view part) ≡ Err e → all_hashes hash (map view run) ≡ Err e
  seen-run_refused e is =
      so_far-run_refused hash (map view run) i n done so e (ap (all_hashes hash) (sym seen) ∙ is)
