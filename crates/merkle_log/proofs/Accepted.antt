-- A log's own proofs are accepted.
use Rattle.std.proofs.Common.{◌≡◌, ℕ, ◌<◌, ◌≤◌, List, [], ◌∷◌, length, map, take, get_or, true, Ok, refl, ap, ◌∙◌}
use Rattle.std.proofs.lemmas.List.{length-take-le}
use Rattle.ark_base.specs.declared.error.Error.{Error}
use Rattle.ark_base.specs.Outcome.{Outcome, ◌>>=◌}
use Rattle.ark_base.specs.Laws.Steps.{bind_ok, done_injective}
use Rattle.ark_paths.specs.Pair.{Digest}
use Rattle.merkle_log.specs.Log.{NodeHash}
use Rattle.merkle_log.specs.Log.{merkle_tree_hash, inclusion_path, consistency_path}
use Rattle.merkle_log.specs.Verdict.{inclusion_verdict, consistency_verdict}
use Rattle.merkle_log.specs.Edge.{all_of}
use Rattle.merkle_log.proofs.Verdicts.{inclusion-own, consistency-own}

-- All of these are there.
pub all_of-there : (xs : List (Outcome Digest)) (ds : List Digest) → all_of xs ≡ Ok ds → xs ≡ map Ok ds
all_of-there [] ds is = ap (map Ok) (done_injective {E = Error} [] ds is)
all_of-there (x ∷ xs) ds is =
    let first = bind_ok x (λ digest. all_of xs >>= λ digests. Ok (digest ∷ digests)) ds is in
    let rest = bind_ok (all_of xs) (λ digests. Ok (first.0 ∷ digests)) ds first.2 in
    heads x (Ok first.0) xs (map Ok rest.0) first.1 (all_of-there xs rest.0 rest.1)
    ∙ ap (map Ok) (done_injective {E = Error} (first.0 ∷ rest.0) ds rest.2)
  where
    heads : (x y : Outcome Digest) (xs ys : List (Outcome Digest)) → x ≡ y → xs ≡ ys → x ∷ xs ≡ y ∷ ys
    heads x y xs ys p q = cc

pub inclusion-accepted : (hash : NodeHash) (empty : Digest) (digests : List Digest) (size index : ℕ)
    (path : List Digest) (root : Digest) → index < size → size ≤ length digests
    → all_of (inclusion_path hash empty index (take size digests)) ≡ Ok path → merkle_tree_hash hash empty
    (take size digests) ≡ Ok root
    → inclusion_verdict hash root size index (get_or (take size digests) index []) path ≡ Ok true
inclusion-accepted hash empty digests size index path root inside within is tree =
    inclusion-own hash root size index (get_or (take size digests) index []) path (record {
      empty = empty;
      digests = take size digests;
      size_is = length-take-le size digests within;
      inside = inside;
      root_is = tree;
      digest_is = refl;
      path_is = all_of-there (inclusion_path hash empty index (take size digests)) path is;
    })

pub consistency-accepted : (hash : NodeHash) (empty : Digest) (digests : List Digest) (old_size size : ℕ)
    (path : List Digest) (old root : Digest) → 0 < old_size → old_size < size → size ≤ length digests
    → all_of (consistency_path hash empty old_size (take size digests)) ≡ Ok path → merkle_tree_hash hash empty
    (take old_size (take size digests)) ≡ Ok old → merkle_tree_hash hash empty (take size digests) ≡ Ok root
    → consistency_verdict hash old_size old size root path ≡ Ok true
consistency-accepted hash empty digests old_size size path old root some inside within is old_tree tree =
    consistency-own hash old_size old size root path (record {
      empty = empty;
      digests = take size digests;
      size_is = length-take-le size digests within;
      some = some;
      inside = inside;
      old_is = old_tree;
      new_is = tree;
      path_is = all_of-there (consistency_path hash empty old_size (take size digests)) path is;
    })
