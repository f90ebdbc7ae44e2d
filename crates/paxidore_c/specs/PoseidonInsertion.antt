-- Insertions of many elements into logs over circomlib's hash of two elements, by a table.
use Rattle.std.specs.Prelude.{ℕ, ℤ, pos, nat_lt, List, length, count_ones, Option, Some, None, Result, Ok, Err}
use Rattle.std.specs.List.{list_all}
use Rattle.ark_paths.specs.Pair.{Digest}
use Rattle.ark_sponge.specs.Permutation.{Parameters}
use Rattle.circom.specs.Hash.{is_element, node_outcome}
use Rattle.merkle_log.specs.Insertion.{received_insertion}
use Rattle.paxidore_calls.specs.Answer.{only_if, refusal_code, refusing}
use Rattle.paxidore_calls.specs.KeptLog.{if_kept, takes}
use Rattle.paxidore_calls.specs.LogProofs.{proof_digests}
use Rattle.paxidore_c.specs.PoseidonLog.{if_two}
use Rattle.paxidore_calls.specs.declared.refused.Refused.{Refused}
use Rattle.paxidore_calls.specs.declared.refused.Refused.TheVariants.{Invalid, Size}

-- what is given of the stored digests of a log that has an element
abbrev pub if_some_kept : {A : Type 0} → ℕ → List Digest → Result A Refused → Result A Refused
if_some_kept size kept given = if_kept size kept (only_if (nat_lt 0 size) Size given)

-- the root of a log of some size, of which no log has 0, with elements behind it; none where the bytes of a proof do
-- not make the old root
abbrev pub root_inserted : Parameters → Digest → ℕ → List Digest → List ℕ → Result (Option Digest) Refused
root_inserted c old size elements proof = only_if (nat_lt 0 size) Size (only_if (takes size (length elements)) Size
    (only_if (list_all is_element elements) Invalid (refusing (received_insertion (node_outcome c) old size
    (proof_digests (count_ones size) proof) elements))))

-- the same by a table of so many inputs
abbrev pub elements_inserted : ℕ → Parameters → Digest → ℕ → List Digest → List ℕ → Result (Option Digest) Refused
elements_inserted inputs c old size elements proof = if_two inputs (root_inserted c old size elements proof)

-- the code of a root that is given: 0, 1 where none is, or that of its refusal
abbrev pub found_code : Result (Option Digest) Refused → ℤ
found_code (Ok (Some root)) = pos 0
found_code (Ok None) = pos 1
found_code (Err refused) = refusal_code refused
