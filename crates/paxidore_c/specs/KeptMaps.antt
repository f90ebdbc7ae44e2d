-- What calls on kept maps answer, in the hashing of maps over SHA-256.
use Rattle.std.specs.Prelude.{◌≡◌, ◌⊎◌, ◌==◌, ℤ, List, ℕ, Option, Some, None, if◌then◌else◌, true, Ok, negsuc}
use Rattle.ark_base.specs.Outcome.{◌>>=◌}
use Rattle.kept_map.specs.KeptMap.{KeepsMap}
use Rattle.kept_map.specs.declared.head.Head.{Head}
use Rattle.kept_map.specs.declared.head.MapFault.{MapFault}
use Rattle.kept_map.specs.declared.head.MapFault.TheVariants.{NoMap, Room}
use Rattle.kept_map.specs.declared.prove.ProveFault.{ProveFault}
use Rattle.kept_map.specs.declared.prove.ProveFault.TheVariants.{OutOfMemory, NoMap as NoMapToProve, Order}
use Rattle.merkle_map.specs.Kept.{IsTreeOf}
use Rattle.merkle_map.specs.KeyProof.{proof_at}
use Rattle.merkle_map.specs.Map.{Digest, Entry, Key, root_of_map, value_at}
use Rattle.merkle_map.specs.ProofBytes.{proof_bytes}
use Rattle.merkle_map.specs.Sha256.{sha256_map}
use Rattle.merkle_map.specs.Tree.{Shape}
use Rattle.paxidore_calls.specs.Answer.{Hands, refusal_code}
use Rattle.paxidore_calls.specs.declared.refused.Refused.TheVariants.{Index, Memory}
use Rattle.paxidore_c.specs.Maps.{key_verdict}

-- the code of a fault: E_ROOM, E_DAMAGED
abbrev pub fault_code : MapFault → ℤ
fault_code Room = negsuc 8
fault_code NoMap = negsuc 13

-- the code of a fault of a proof: E_MEMORY, E_DAMAGED, E_INDEX
abbrev pub proof_fault_code : ProveFault → ℤ
proof_fault_code OutOfMemory = refusal_code Memory
proof_fault_code NoMapToProve = fault_code NoMap
proof_fault_code Order = refusal_code Index

-- A call hands over bytes that are so, or memory is refused.
abbrev pub HandsSome : (List ℕ → Type 0) → List ℕ → List ℕ → ℕ → ℕ → ℤ → Type 0
HandsSome is_so before after count_before count_after code = (code ≡ refusal_code Memory)
    ⊎ ((bytes : List ℕ) × is_so bytes × Hands (Ok bytes) before after count_before count_after code)

-- a value where a number says 1, else none
abbrev pub value_if : ℕ → Digest → Option Digest
value_if is_there value = if is_there == 1 then Some value else None

-- Memory keeps the map of these entries under a head.
abbrev pub KeepsSha256Map : List (List ℕ) → List (List ℕ) → Head → List Entry → Type 0
KeepsSha256Map entries forks head xs = KeepsMap sha256_map entries forks head xs

-- The map's root accepts the bytes as the proof of what the map has at the key.
abbrev pub IsShownBy : Key → List Entry → List ℕ → Type 0
IsShownBy key xs proof = (root : Digest) → root_of_map sha256_map xs ≡ Ok root
    → key_verdict root key (value_at key xs) proof ≡ Ok true

-- The bytes are those of the proof that the map's tree has for a key.
pub record IsOwnProof (key : Key) (xs : List Entry) (bytes : List ℕ) : Type 0 where
  pub tree : Shape
  pub is : IsTreeOf xs tree
  pub written : (proof_at sha256_map 0 key tree >>= proof_bytes sha256_map.nothing) ≡ Ok bytes
