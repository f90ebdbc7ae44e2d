-- The bytes of a proof of one key whose digests have 32 bytes.
use Rattle.std.specs.Prelude.{◌≡◌, ℕ, zero, suc, ◌+◌, ◌*◌, ◌/◌, ◌%◌, ◌^◌, ◌==◌, ◌≤◌, nat_lt, List, [], ◌∷◌, ◌++◌, length, take, drop, map, get_or, if◌then◌else◌, Bool, not, ◌&&◌, Ok, Err}
use Rattle.std.specs.List.{flat_map}
use Rattle.std.specs.Str.{bytes_eq}
use Rattle.ark_base.specs.Outcome.{Outcome, ◌>>=◌}
use Rattle.merkle_map.specs.Map.{Digest, bit_of, key_bits}
use Rattle.merkle_map.specs.Bytes.{string_read, truncated, invalid}
use Rattle.merkle_map.specs.KeyProof.{EndSeen, AtNothing, AtOwn, AtOther, ProofSeen}

-- ---- what is written

-- whether a digest is another one than that of nothing: it is given, and that of nothing is not
abbrev pub is_given : Digest → Digest → Bool
is_given nothing digest = not (bytes_eq digest nothing)

-- The first bits, so many of them, as a number, the first the highest; bits that are not there are 0.
unfoldable pub number_of : ℕ → List Bool → ℕ
number_of zero bits = 0
number_of (suc n) [] = 0
number_of (suc n) (bit ∷ bits) = (if bit then 2 ^ n else 0) + number_of n bits

-- bits in so many bytes, the first bit the highest of the first byte; bits that are not there are 0
unfoldable pub packed : ℕ → List Bool → List ℕ
packed zero bits = []
packed (suc count) bits = number_of 8 bits ∷ packed count (drop 8 bits)

-- how many bytes so many bits have
abbrev pub mask_length : ℕ → ℕ
mask_length count = (count + 7) / 8

-- a bit for each digest, set where it is given
abbrev pub mask_of : Digest → List Digest → List ℕ
mask_of nothing siblings = packed (mask_length (length siblings)) (map (is_given nothing) siblings)

-- the digest, if it is given
abbrev pub digest_given : Digest → Digest → List ℕ
digest_given nothing digest = if is_given nothing digest then digest else []

-- the digests that are given, one behind the other
abbrev pub given_bytes : Digest → List Digest → List ℕ
given_bytes nothing siblings = flat_map (digest_given nothing) siblings

-- A byte for the end, and behind that of another key's entry key and value: 0 no entry, 1 the key's own, 2 another's.
abbrev pub end_bytes : EndSeen → List ℕ
end_bytes AtNothing = 0 ∷ []
end_bytes AtOwn = 1 ∷ []
end_bytes (AtOther entry) = 2 ∷ (entry.key ++ entry.value)

-- a count in two bytes, the lowest first
abbrev pub count_bytes : ℕ → List ℕ
count_bytes count = count % 256 ∷ count / 256 ∷ []

-- the count of digests, their bits, and those that are given
abbrev pub siblings_spelled : Digest → List Digest → List ℕ
siblings_spelled nothing siblings =
    count_bytes (length siblings) ++ (mask_of nothing siblings ++ given_bytes nothing siblings)

-- the end, and the digests beside the way to it
abbrev pub proof_spelled : Digest → ProofSeen → List ℕ
proof_spelled nothing proof = end_bytes proof.end ++ siblings_spelled nothing proof.siblings

-- a proof's bytes, if it has no more digests than a key has bits
abbrev pub proof_bytes : Digest → ProofSeen → Outcome (List ℕ)
proof_bytes nothing proof =
    if nat_lt key_bits (length proof.siblings) then Err invalid else Ok (proof_spelled nothing proof)

-- ---- reading

-- another key's entry and the bytes behind it
abbrev pub other_read : List ℕ → Outcome (EndSeen × List ℕ)
other_read bytes = string_read bytes >>= λ key. string_read key.1 >>= λ value.
    Ok (AtOther (record { key = key.0; value = value.0 }), value.1)

-- an end and the bytes behind it
abbrev pub end_read : List ℕ → Outcome (EndSeen × List ℕ)
end_read [] = Err truncated
end_read (tag ∷ rest) = if tag == 0 then Ok (AtNothing, rest) else if tag == 1 then Ok (AtOwn, rest) else
    if tag == 2 then other_read rest else Err invalid

-- the number that two bytes are
abbrev pub count_in : List ℕ → ℕ
count_in bytes = get_or bytes 0 0 + 256 * get_or bytes 1 0

-- a count of digests, at most that of a key's bits
abbrev pub count_read : List ℕ → Outcome ℕ
count_read bytes = if nat_lt (length bytes) 2 then Err truncated else
    if nat_lt key_bits (count_in bytes) then Err invalid else Ok (count_in bytes)

-- the first bytes, so many of them
abbrev pub front_read : ℕ → List ℕ → Outcome (List ℕ)
front_read count bytes = if nat_lt (length bytes) count then Err truncated else Ok (take count bytes)

-- So many digests and the bytes behind them: where a bit of the mask is set, from this level on, the next 32 bytes,
-- else that of nothing.
abbrev pub given_read : Digest → ℕ → ℕ → List ℕ → List ℕ → Outcome (List Digest × List ℕ)
given_read nothing zero level mask bytes = Ok ([], bytes)
given_read nothing (suc count) level mask bytes = if bit_of level mask
    then (string_read bytes >>= λ digest. given_read nothing count (suc level) mask digest.1 >>= λ more.
    Ok (digest.0 ∷ more.0, more.1))
    else (given_read nothing count (suc level) mask bytes >>= λ more. Ok (nothing ∷ more.0, more.1))

-- what was read, its digests behind others
abbrev pub found_behind : List Digest → Outcome (List Digest × List ℕ) → Outcome (List Digest × List ℕ)
found_behind before found = found >>= λ more. Ok (before ++ more.0, more.1)

-- digests that were read, if their mask is this one and no byte is left
abbrev pub masked : Digest → List ℕ → List Digest × List ℕ → Outcome (List Digest)
masked nothing mask found =
    if bytes_eq (mask_of nothing found.0) mask && (length found.1 == 0) then Ok found.0 else Err invalid

-- the digests that all the bytes spell, or the first fault from the left; else bits that are not the mask of the
-- digests, or bytes that are left
abbrev pub siblings_read : Digest → List ℕ → Outcome (List Digest)
siblings_read nothing bytes = count_read bytes >>= λ count. front_read (mask_length count) (drop 2 bytes) >>= λ mask.
    given_read nothing count 0 mask (drop (mask_length count) (drop 2 bytes)) >>= masked nothing mask

-- the proof that all the bytes spell
abbrev pub proof_of_bytes : Digest → List ℕ → Outcome ProofSeen
proof_of_bytes nothing bytes = end_read bytes >>= λ end. siblings_read nothing end.1 >>= λ siblings.
    Ok (record { end = end.0; siblings = siblings })

-- ---- what is read again

-- The end's key and value have 32 bytes.
abbrev pub IsEndOf32 : EndSeen → Type 0
IsEndOf32 AtNothing = Unit {0}
IsEndOf32 AtOwn = Unit {0}
IsEndOf32 (AtOther entry) = (length entry.key ≡ 32) × (length entry.value ≡ 32)

-- The digests have 32 bytes.
abbrev pub AreOf32 : List Digest → Type 0
AreOf32 [] = Unit {0}
AreOf32 (digest ∷ digests) = (length digest ≡ 32) × AreOf32 digests

-- A proof of digests of 32 bytes, no more than a key has bits.
pub record IsProofOf32 (proof : ProofSeen) : Type 0 where
  pub end : IsEndOf32 proof.end
  pub siblings : AreOf32 proof.siblings
  pub count : length proof.siblings ≤ key_bits

-- The bytes of each such proof are read as that proof.
abbrev pub ReadsProofBack : Digest → List ℕ → Type 0
ReadsProofBack nothing bytes = (proof : ProofSeen) → IsProofOf32 proof → bytes ≡ proof_spelled nothing proof
    → proof_of_bytes nothing bytes ≡ Ok proof
