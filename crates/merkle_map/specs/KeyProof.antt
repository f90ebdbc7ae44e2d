-- Proofs of what a map has at one key.
use Rattle.std.specs.Prelude.{◌≡◌, ℕ, suc, Bool, true, false, if◌then◌else◌, Option, Some, None, List, [], ◌∷◌, ◌++◌, map, Ok, Err}
use Rattle.std.specs.Str.{bytes_eq}
use Rattle.ark_base.specs.Outcome.{Outcome, ◌>>=◌}
use Rattle.merkle_map.specs.Map.{Key, Digest, Entry, Node, Nothing, Leaf, MapHashes, bit_of, leaf_of}
use Rattle.merkle_map.specs.Tree.{Shape, Empty, One, Fork, Hidden, shape_digest}
use Rattle.merkle_map.specs.Changes.{known_at, hides}
use Rattle.merkle_map.specs.Way.{way_verdict, other_verdict}
use Rattle.merkle_map.specs.Binding.{BindsValue}
use Rattle.merkle_map.specs.Parts.{entry_seen}
use Rattle.merkle_map.specs.declared.proof.End.{End}
use Rattle.merkle_map.specs.declared.proof.End.TheVariants.{Nothing as NoEntry, Own as OwnEntry, Other as OtherEntry}
use Rattle.merkle_map.specs.declared.proof.KeyProof.{KeyProof}

-- where a key's way ends: at no entry, at the key's own, or at that of another key
pub data EndSeen : Type 0 where
  AtNothing : EndSeen
  AtOwn : EndSeen
  AtOther : (entry : Entry) → EndSeen

-- an end, and the digests beside the way to it, from below the root down
pub record ProofSeen : Type 0 where
  pub end : EndSeen
  pub siblings : List Digest

-- what an end is
abbrev pub end_seen : End → EndSeen
end_seen NoEntry = AtNothing
end_seen OwnEntry = AtOwn
end_seen (OtherEntry entry) = AtOther (entry_seen entry)

-- a proof, its digests by their numbers
abbrev pub proof_seen : {D : Type 0} → (D → Digest) → KeyProof D → ProofSeen
proof_seen numbers proof = record { end = end_seen proof.end; siblings = map numbers proof.siblings.items }

-- ---- how a proof is judged

-- the node at the end of a way, at which the key has this value
abbrev pub end_node : Key → Option Digest → EndSeen → Node
end_node key value (AtOther entry) = Leaf entry
end_node key None end = Nothing
end_node key (Some value) end = leaf_of key value

-- whether digests lead from this end to the root
abbrev pub end_verdict : MapHashes → Digest → Key → List Digest → EndSeen → Option Digest → Outcome Bool
end_verdict h root key siblings AtNothing None = way_verdict h root key siblings Nothing
end_verdict h root key siblings AtNothing (Some value) = Ok false
end_verdict h root key siblings AtOwn None = Ok false
end_verdict h root key siblings AtOwn (Some value) = way_verdict h root key siblings (leaf_of key value)
end_verdict h root key siblings (AtOther entry) None = other_verdict h root key siblings entry.key entry.value
end_verdict h root key siblings (AtOther entry) (Some value) = Ok false

-- whether a proof shows that a map with this root has this at the key
abbrev pub proof_verdict : MapHashes → Digest → Key → Option Digest → ProofSeen → Outcome Bool
proof_verdict h root key value proof = end_verdict h root key proof.siblings proof.end value

-- ---- a tree's own proof

-- the end of a key's way at this entry
abbrev pub end_at : Key → Entry → EndSeen
end_at key entry = if bytes_eq entry.key key then AtOwn else AtOther entry

-- the proof with a digest more above it
abbrev pub below : Digest → ProofSeen → ProofSeen
below digest proof = record { end = proof.end; siblings = digest ∷ proof.siblings }

-- The proof of what a tree some levels below the root has at a key. The error is that of the highest side whose hash
-- refuses, or that the end is hidden.
abbrev pub proof_at : MapHashes → ℕ → Key → Shape → Outcome ProofSeen
proof_at h level key Empty = Ok (record { end = AtNothing; siblings = [] })
proof_at h level key (One entry) = Ok (record { end = end_at key entry; siblings = [] })
proof_at h level key (Hidden digest) = Err hides
proof_at h level key (Fork left right) = if bit_of level key
    then (shape_digest h left >>= λ digest. proof_at h (suc level) key right >>= λ proof. Ok (below digest proof))
    else (shape_digest h right >>= λ digest. proof_at h (suc level) key left >>= λ proof. Ok (below digest proof))

-- the proof with digests more above it
abbrev pub with_digests_above : List Digest → ProofSeen → ProofSeen
with_digests_above digests proof = record { end = proof.end; siblings = digests ++ proof.siblings }

-- A proof says that each map with the root has this at the key, or nodes collide at a level that is named.
abbrev pub BindsBy : MapHashes → Digest → Key → Option Digest → ProofSeen → Type 0
BindsBy h root key value proof = BindsValue h root key value proof.siblings (end_node key value proof.end)

-- The tree's root accepts the proof of what the tree has at the key.
abbrev pub IsKeyProofAccepted : MapHashes → Key → Shape → ProofSeen → Type 0
IsKeyProofAccepted h key tree proof = (root : Digest) (value : Option Digest) → shape_digest h tree ≡ Ok root
    → known_at 0 key tree ≡ Ok value → proof_verdict h root key value proof ≡ Ok true

-- a tree's own proof with digests more above it
abbrev pub behind_all : List Digest → Outcome ProofSeen → Outcome ProofSeen
behind_all digests outcome = outcome >>= λ proof. Ok (with_digests_above digests proof)

-- the proof of an end and these digests
abbrev pub seen_with : List Digest → End → ProofSeen
seen_with siblings end = record { end = end_seen end; siblings = siblings }
