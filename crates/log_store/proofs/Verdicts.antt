-- A log's own proofs are accepted, so that one that is not shows a damage.
use Rattle.std.proofs.Common.{◌≡◌, ℕ, ◌<◌, ◌≤◌, ◌==◌, Bool, true, false, List, [], length, take, Ok, Err, arith, refl, ap, sym, ◌∙◌, inl, inr}
use Rattle.std.proofs.lemmas.Bool.{cases_lt, le-ltb, ne_eqb}
use Rattle.std.proofs.lemmas.Bool.Decides.{nat_tests}
use Rattle.std.proofs.lemmas.List.{length-take-le, take-take}
use Rattle.std.proofs.lemmas.Slice.Eq.{bytes_eq-Decides}
use Rattle.sha2.specs.Sha256.{sha256}
use Rattle.ark_base.specs.Laws.Steps.{done_injective}
use Rattle.ark_base.specs.Outcome.{Outcome}
use Rattle.ark_base.specs.declared.error.Error.{Error}
use Rattle.ark_paths.specs.Pair.{Digest}
use Rattle.ark_trees.specs.Rfc6962.{node_of}
use Rattle.merkle_log.specs.Edge.{all_of}
use Rattle.merkle_log.specs.Log.{consistency_path, merkle_tree_hash}
use Rattle.merkle_log.specs.Verdict.{consistency_verdict}
use Rattle.merkle_log.proofs.Accepted.{consistency-accepted}
use Rattle.log_store.proofs.Growths.{roots-same}
use Rattle.log_store.proofs.Reading.{path-whole}

-- no verdict is both
pub not_both : (verdict : Outcome Bool) {holds : Bool} → verdict ≡ Ok true → verdict ≡ Ok holds → holds ≡ false → ⊥
not_both verdict shown told is = let both = ap truth_in (sym shown ∙ told) ∙ is in absurd (cc)
  where
    truth_in : Outcome Bool → Bool
    truth_in (Ok b) = b
    truth_in (Err error) = true

abbrev digests-done : List Digest → Outcome (List Digest)
digests-done digests = Ok digests

-- a log continues itself
same-accepted : (size : ℕ) (root : Digest) → 0 < size → consistency_verdict node_of size root size root [] ≡ Ok true
same-accepted size root some = rw (
  ne_eqb size 0 (λ e. omega arith),
  le-ltb size size (omega arith),
  same_test size,
  (bytes_eq-Decides root root).1 refl,
) refl
  where
    same_test : (n : ℕ) → (n == n) ≡ true
    same_test n = grind (arith, nat_tests)

module _ (leaves : List Digest) (old_size size : ℕ) (path : List Digest) (old root : Digest) (some : 0 < old_size)
    (older : old_size ≤ size) (le : size ≤ length leaves)
    (is : all_of (consistency_path node_of (sha256 []) old_size (take size leaves)) ≡ digests-done path)
    (old_is : merkle_tree_hash node_of (sha256 []) (take old_size leaves) ≡ Ok old)
    (new_is : merkle_tree_hash node_of (sha256 []) (take size leaves) ≡ Ok root) where
  pub continued : consistency_verdict node_of old_size old size root path ≡ Ok true
  continued = elim (cases_lt old_size size) [
    | inl less ↦ consistency-accepted node_of (sha256 []) leaves old_size size path old root some less le is
        (ap (merkle_tree_hash node_of (sha256 [])) (take-take old_size size leaves older) ∙ old_is) new_is
    | inr ge ↦
        let e : old_size ≡ size = omega (arith, older) in
        let long : length (take size leaves) ≡ size = length-take-le size leaves le in
        let none : [] ≡ path = done_injective {E = Error} [] path
        (ap all_of (sym (path-whole node_of (sha256 []) (take size leaves) old_size (omega (arith, e, long)))) ∙ is) in
        let tops : old ≡ root = roots-same old root (ap (λ n. merkle_tree_hash node_of (sha256 []) (take n leaves))
        (sym e)
        ∙ old_is) new_is in
        rw (e, tops, ← none) (same-accepted size root (omega (arith, some, e)))
  ]
