-- Logs over circomlib's hash of two elements, by a table.
use Rattle.std.specs.Prelude.{◌≡◌, ◌==◌, ◌&&◌, ◌^◌, ℕ, nat_lt, not, Bool, List, [], length, Result, Ok, IfErr}
use Rattle.std.specs.List.{list_all}
use Rattle.ark_base.specs.Outcome.{◌>>=◌}
use Rattle.ark_paths.specs.Pair.{Digest}
use Rattle.ark_sponge.specs.Permutation.{Parameters}
use Rattle.circom.specs.Hash.{is_element, node_outcome}
use Rattle.circom.specs.Nodes.{element_hashes}
use Rattle.merkle_log.specs.Edge.{all_of}
use Rattle.merkle_log.specs.Log.{inclusion_path, merkle_tree_hash}
use Rattle.merkle_log.specs.Received.{inclusion_length, received_inclusion}
use Rattle.paxidore_calls.specs.Answer.{only_if, refusing}
use Rattle.paxidore_calls.specs.KeptLog.{bytes_of_digests, if_kept, more_count, takes}
use Rattle.paxidore_calls.specs.LogProofs.{proof_digests}
use Rattle.paxidore_calls.specs.declared.refused.Refused.{Refused}
use Rattle.paxidore_calls.specs.declared.refused.Refused.TheVariants.{Count, Index, Invalid, Room, Size}

-- goes on where a table is of two inputs
abbrev pub if_two : {A : Type 0} → ℕ → Result A Refused → Result A Refused
if_two inputs given = only_if (inputs == 2) Count given

-- The only refusal is that of a digest that is no element.
abbrev pub OrInvalid : {A : Type 0} → Result A Refused → Type 0
OrInvalid outcome = IfErr outcome (λ refused. refused ≡ Invalid)

-- the root of elements, of which there is one at least: MTH(D)
abbrev pub root_of_elements : Parameters → List Digest → Result Digest Refused
root_of_elements c elements = refusing (merkle_tree_hash (node_outcome c) [] elements)

-- the bytes of PATH(index, D) of elements
abbrev pub path_of_elements : Parameters → ℕ → List Digest → Result (List ℕ) Refused
path_of_elements c index elements = bytes_of_digests (all_of (inclusion_path (node_outcome c) [] index elements))

-- whether a log has so many elements: one at least, and a size has 63 bits
abbrev pub is_log_size : ℕ → Bool
is_log_size size = nat_lt 0 size && nat_lt size (2 ^ 63)

-- ---- elements that are handed in

-- the elements, where a log has so many and each is below the modulus
abbrev pub elements_given : List Digest → Result (List Digest) Refused
elements_given elements = only_if (is_log_size (length elements)) Size
    (only_if (list_all is_element elements) Invalid (Ok elements))

-- the root of elements that are handed in, by a table of so many inputs
abbrev pub elements_root : ℕ → Parameters → List Digest → Result Digest Refused
elements_root inputs c elements = if_two inputs (elements_given elements >>= root_of_elements c)

-- the bytes of the path of an index in elements that are handed in
abbrev pub elements_path : ℕ → Parameters → List Digest → ℕ → Result (List ℕ) Refused
elements_path inputs c elements index = if_two inputs (elements_given elements >>= λ all.
    only_if (nat_lt index (length all)) Index (path_of_elements c index all))

-- whether the bytes of a path show an element at an index of a log with this root and size, of which no log has 0
abbrev pub element_verdict : Parameters → Digest → ℕ → ℕ → Digest → List ℕ → Result Bool Refused
element_verdict c root size index element path = only_if (nat_lt 0 size) Size (only_if (nat_lt index size) Index
    (refusing (received_inclusion (element_hashes (node_outcome c)) root size index element
    (proof_digests (inclusion_length size index) path))))

-- the same by a table of so many inputs
abbrev pub element_shown : ℕ → Parameters → Digest → ℕ → ℕ → Digest → List ℕ → Result Bool Refused
element_shown inputs c root size index element path = if_two inputs (element_verdict c root size index element path)

-- ---- logs in the caller's memory

-- what is given as the root of a kept log that has an element
abbrev pub kept_root_given : ℕ → ℕ → List Digest → Result Digest Refused → Result Digest Refused
kept_root_given inputs size kept given = if_two inputs (if_kept size kept (only_if (nat_lt 0 size) Size given))

-- what is given as the bytes of the path of an index in a kept log that has an element
abbrev pub kept_path_given : ℕ → ℕ → ℕ → List Digest → Result (List ℕ) Refused → Result (List ℕ) Refused
kept_path_given inputs size index kept given =
    if_two inputs (if_kept size kept (only_if (nat_lt 0 size) Size (only_if (nat_lt index size) Index given)))

-- what is given for elements that are appended to a kept log, where a buffer has room for the digests
abbrev pub appended_by : ℕ → List Digest → ℕ → List Digest → Result (List Digest) Refused → Result (List Digest) Refused
appended_by size kept room elements given = if_kept size kept (only_if (takes size (length elements)) Size
    (only_if (not (nat_lt room (more_count size (length elements)))) Room
    (only_if (list_all is_element elements) Invalid given)))

-- the same by a table of so many inputs
abbrev pub elements_appended : ℕ → ℕ → List Digest → ℕ → List Digest → Result (List Digest) Refused
    → Result (List Digest) Refused
elements_appended inputs size kept room elements given = if_two inputs (appended_by size kept room elements given)

-- what is given for an element that is put to an index of a kept log
abbrev pub changed_element : ℕ → List Digest → ℕ → Digest → Result Digest Refused → Result Digest Refused
changed_element size kept index element given =
    if_kept size kept (only_if (nat_lt index size) Index (only_if (is_element element) Invalid given))

-- the same by a table of so many inputs
abbrev pub element_changed : ℕ → ℕ → List Digest → ℕ → Digest → Result Digest Refused → Result Digest Refused
element_changed inputs size kept index element given = if_two inputs (changed_element size kept index element given)
