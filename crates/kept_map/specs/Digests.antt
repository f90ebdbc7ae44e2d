-- Digests that are written into the forks of a kept map.
use Rattle.std.specs.Prelude.{◌≡◌, ◌⊎◌, ◌+◌, ◌*◌, ℕ, List, length, take, replicate, Ok}
use Rattle.merkle_map.specs.KeyProof.{ProofSeen, behind_all, proof_at}
use Rattle.merkle_map.specs.Map.{Digest, Key, MapHashes}
use Rattle.merkle_map.specs.Tree.{Shape, shape_digest}
use Rattle.kept_map.specs.KeptMap.{LaidAt, kept_digest, left_at, right_at}

-- The digest is that of each tree that lies at the number, over whichever of the entries.
abbrev pub IsDigestAt : MapHashes → List (List ℕ) → List (List ℕ) → ℕ → Digest → Type 0
IsDigestAt h entries forks number digest = (first count : ℕ) (tree : Shape)
    → LaidAt h (take first entries) forks count number tree → shape_digest h tree ≡ Ok digest

-- The new forks are the old ones, but some that were not hashed have the digests of what lies there.
pub record IsRehashed (h : MapHashes) (entries old new : List (List ℕ)) : Type 0 where
  pub size : length new ≡ length old
  pub left : (k : ℕ) → left_at new k ≡ left_at old k
  pub right : (k : ℕ) → right_at new k ≡ right_at old k
  pub digests : (k : ℕ) → (kept_digest new k ≡ kept_digest old k)
      ⊎ ((kept_digest old k ≡ replicate 32 0) × IsDigestAt h entries old (2 * k + 2) (kept_digest new k))

-- The proof is that of each tree that lies at the number, over whichever of the entries, with these digests above it.
abbrev pub IsProofAt : MapHashes → List (List ℕ) → List (List ℕ) → ℕ → Key → List Digest → ProofSeen → Type 0
IsProofAt h entries forks number key above proof = (first count : ℕ) (tree : Shape)
    → LaidAt h (take first entries) forks count number tree
    → behind_all above (proof_at h (length above) key tree) ≡ Ok proof
