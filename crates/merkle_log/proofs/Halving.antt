-- The root of a power of two of digests, by repeated halving.
use Rattle.std.proofs.Common.{zero, suc, ◌≡◌, ℕ, ◌<◌, ◌^◌, List, [], ◌∷◌, length, map, take, drop, Ok, arith, ap, sym, ◌∙◌, pow_pos}
use Rattle.std.proofs.lemmas.Bool.{lt-ltb}
use Rattle.std.proofs.lemmas.List.{length-map, length-take-le, length-drop, take-map, drop-map}
use Rattle.ark_base.specs.Outcome.{Outcome}
use Rattle.ark_paths.specs.Pair.{Digest}
use Rattle.ark_paths.specs.Root.{Root, place, place_at, outcome_of, root_of}
use Rattle.merkle_log.specs.Log.{NodeHash, merkle_tree_hash, both_levels}
use Rattle.merkle_log.specs.Trees.{tree_hash}
use Rattle.merkle_log.specs.Walk.{joined}
use Rattle.merkle_log.proofs.Tests.{twice}
use Rattle.merkle_log.proofs.Above.{there, joined-ok}
use Rattle.merkle_log.proofs.Verdicts.{pow_above, tree_hash-levels}

pub halved : (hash : NodeHash) (none : Outcome Digest) (m : ℕ) (xs : List Digest) (root : Digest)
    → length xs ≡ 2 ^ suc m → tree_hash (joined hash) none (suc m) (there xs) ≡ Ok root
    → place (both_levels hash) m xs ≡ Root root
halved hash none zero (a ∷ b ∷ []) root long is = ap (place_at 0) is
halved hash none (suc m) xs root long is =
    let half = 2 ^ suc m in
    let two = twice (suc m) in
    let more : half < length (map {B = Outcome Digest} Ok xs) = omega
    (arith, length-map {B = Outcome Digest} xs Ok, pow_pos (suc m)) in
    let both = joined-ok hash (tree_hash (joined hash) none (suc m) (take half (there xs)))
    (tree_hash (joined hash) none (suc m) (drop half (there xs))) root
    (rw (lt-ltb half (length (map {B = Outcome Digest} Ok xs)) more) at is) in
    let front = halved hash none m (take half xs) both.0 (length-take-le half xs (omega arith))
    (ap (tree_hash (joined hash) none (suc m)) (sym (take-map Ok half xs)) ∙ both.2) in
    let back = halved hash none m (drop half xs) both.1 (omega (arith, length-drop half xs))
    (ap (tree_hash (joined hash) none (suc m)) (sym (drop-map Ok half xs)) ∙ both.3) in
    rw (front, back) (ap (place_at (suc m)) both.4)
halved hash none zero xs root long is = absurd (omega arith)

pub root-halved : (hash : NodeHash) (empty : Digest) (digests : List Digest) (m : ℕ) (root : Digest)
    → length digests ≡ 2 ^ suc m → merkle_tree_hash hash empty digests ≡ Ok root
    → root_of (both_levels hash) m digests ≡ Ok root
root-halved hash empty digests m root long is =
    ap outcome_of (halved hash (Ok empty) m digests root long (sym (tree_hash-levels (joined hash) (Ok empty) (suc m)
    (length digests) (there digests) (omega (arith, length-map {B = Outcome Digest} digests Ok))
    (omega (arith, pow_above (suc m)))) ∙ is))
