-- Lists of elements, and the log of none.
use Rattle.std.proofs.Common.{◌≡◌, ℕ, ◌&&◌, List, [], ◌∷◌, ◌++◌, length, take, Bool, true, false, refl, sym, ap, ◌∙◌, arith}
use Rattle.std.proofs.lemmas.List.{take-append-le}
use Rattle.std.specs.List.{list_all}
use Rattle.ark_paths.specs.Pair.{Digest}
use Rattle.ark_base.specs.declared.error.Error.TheVariants.{OutOfMemory}
use Rattle.circom.specs.Nodes.{no_element_error}
use Rattle.circom.specs.declared.refusal.NoElement.{NoElement}
use Rattle.merkle_log.specs.Edge.{all_of}
use Rattle.merkle_log.specs.Kept.{KeepsBy, front}
use Rattle.merkle_log.specs.Log.{NodeHash, inclusion_path}
use Rattle.merkle_log.specs.Stored.{row_at}
use Rattle.merkle_log.proofs.Carried.{stored-none}
use Rattle.merkle_log.proofs.Positions.{no-count, no-rows}
use Rattle.circom.proofs.Closed.{Pass}

both : (a b : Bool) → (a && b) ≡ true → (a ≡ true) × (b ≡ true)
both true b is = (refl, is)
both false b is = absurd cc

pub pass-all : (test : Digest → Bool) (xs : List Digest) → list_all test xs ≡ true → Pass test xs
pass-all test [] all = tt
pass-all test (x ∷ xs) all = let p = both (test x) (list_all test xs) all in (p.0, pass-all test xs p.1)

-- the stored digests of no leaves
pub keeps-none : (hash : NodeHash) → KeepsBy hash [] []
keeps-none hash = record {
  inside = omega (arith, no-count);
  lowest = no-rows 0;
  hashed = stored-none hash (row_at (front 0 [])) no-rows;
}

-- the path of the same leaves by the same hash
pub path-same : {hash node : NodeHash} (empty : Digest) (index : ℕ) {own leaves : List Digest} → hash ≡ node
    → own ≡ leaves
    → all_of (inclusion_path node empty index leaves) ≡ all_of (inclusion_path hash empty index own)
path-same {hash} empty index {leaves = leaves} same fewer =
    ap (λ (h : NodeHash). all_of (inclusion_path h empty index leaves)) (sym same)
    ∙ ap (λ l. all_of (inclusion_path hash empty index l)) (sym fewer)

-- a digest that is no element is no lack of memory
pub never-memory : (refusal : NoElement) → no_element_error refusal ≡ OutOfMemory → ⊥
never-memory refusal is = cc

-- a buffer that was written whole
pub whole-written : (written rest : List Digest) (count made : ℕ) → length written ≡ count → made ≡ count
    → take made written ≡ take count (written ++ rest)
whole-written written rest count made long is =
    ap (λ n. take n written) is ∙ sym (take-append-le count written rest (omega arith))
