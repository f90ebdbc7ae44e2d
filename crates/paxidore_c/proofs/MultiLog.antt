-- One proof of several entries: what its codes tell.
use Rattle.std.proofs.Common.{◌≡◌, ◌⊎◌, ℕ, ℤ, pos, w32, to_z, of_z, List, [], ◌∷◌, length, map, Bool, true, Result, Ok, Err, IfOk, eq-eqb, refl, ap, sym, ◌∙◌, inl, inr}
use Rattle.std.proofs.lemmas.List.{length-map}
use Rattle.ark_base.specs.Outcome.{Outcome, Answers, ◌>>=◌}
use Rattle.ark_paths.specs.Pair.{Digest}
use Rattle.ark_paths.specs.Root.{all_hashes}
use Rattle.ark_trees.specs.Rfc6962.{entry_hash, log_hashes}
use Rattle.merkle_log.specs.Kept.{has_front}
use Rattle.merkle_log.specs.Multi.{are_multi_indexes, multi_length, received_leaves}
use Rattle.merkle_log.specs.MultiBind.{ShowsLogLeaves}
use Rattle.paxidore_calls.specs.Answer.{GivesCode, Hands, leaves_in, refusal_code, refusing, results_of, verdict_code}
use Rattle.paxidore_calls.specs.Cut.{parts_by}
use Rattle.paxidore_calls.specs.KeptLog.{digest_hashes}
use Rattle.paxidore_calls.specs.LogProofs.{proof_digests}
use Rattle.paxidore_calls.specs.declared.refused.Refused.{Refused}
use Rattle.paxidore_calls.specs.declared.refused.Refused.TheVariants.{Memory}
use Rattle.paxidore_calls.proofs.Answering.{zero-says}
use Rattle.paxidore_calls.proofs.KeptLogs.{Entries}
use Rattle.paxidore_c.specs.LogMulti.{entries_at, entries_shown, if_rising}
use Rattle.paxidore_c.proofs.Codes.{answers-give, verdict-fits}

-- Digests of entries have the hashes of the entries.
hashes-held : (all : List (List ℕ)) → all_hashes Ok (map entry_hash all)
    ≡ all_hashes (λ entry. Ok (entry_hash entry)) all
hashes-held [] = refl
hashes-held (entry ∷ all) = ap (λ digests. digests >>= λ others. Ok (entry_hash entry ∷ others)) (hashes-held all)

module _ (root : Digest) (size : ℕ) (indexes : List ℕ) (all : List (List ℕ)) (digests : List Digest)
    (hashed : map entry_hash all ≡ digests) where
  are-hashed : all_hashes Ok digests ≡ all_hashes (λ entry. Ok (entry_hash entry)) all
  are-hashed = ap (all_hashes Ok) (sym hashed) ∙ hashes-held all

  as-many : length digests ≡ length all
  as-many = ap length (sym hashed) ∙ length-map all entry_hash

  verdict-held : (proof : Outcome (List Digest)) → received_leaves (log_hashes (λ bytes. bytes)) root size indexes all
      proof ≡ received_leaves digest_hashes root size indexes digests proof
  verdict-held (Ok others) = rw (as-many, are-hashed) refl
  verdict-held (Err error) = rw (as-many) refl

  shows-held : (proof : Outcome (List Digest)) → ShowsLogLeaves digest_hashes root size indexes digests proof
      → ShowsLogLeaves (log_hashes (λ bytes. bytes)) root size indexes all proof
  shows-held proof (others, read, (known, are, binds)) = (others, read, (known, sym are-hashed ∙ are, binds))

-- ---- what the check answers

module _ (root : Digest) (size : ℕ) (indexes entries lengths proof : List ℕ) (digests : List Digest)
    (e : Entries entries lengths digests) (counts : length lengths ≡ length indexes)
    (rising : are_multi_indexes size indexes ≡ true) where
  entries-known : entries_at size indexes entries lengths ≡ Ok e.all
  entries-known = rw (eq-eqb (length lengths) (length indexes) counts, rising, e.given) refl

  -- the digests of the proof
  abbrev pub others : Outcome (List Digest)
  others = proof_digests (multi_length size indexes) proof

  pub multi-shown-gives : (result : Outcome Bool)
      → Answers (received_leaves digest_hashes root size indexes digests others) result
      → (code : ℤ) → code ≡ verdict_code (refusing result)
      → GivesCode (verdict_code (entries_shown root size indexes entries lengths proof)) (to_z w32 (of_z w32 code))
  multi-shown-gives result answers code is =
      let known : entries_shown root size indexes entries lengths proof
      ≡ refusing (received_leaves digest_hashes root size indexes digests others)
      = rw (entries-known) (ap refusing (verdict-held root size indexes e.all digests e.hashed others)) in
      rw (known, is, verdict-fits (refusing result))
      (answers-give (received_leaves digest_hashes root size indexes digests others) result answers)

  pub multi-shows-zero : (result : Outcome Bool) → IfOk result (λ accepted. accepted ≡ true
      → ShowsLogLeaves digest_hashes root size indexes digests others)
      → (code : ℤ) → code ≡ verdict_code (refusing result) → to_z w32 (of_z w32 code) ≡ pos 0
      → IfOk (entries_at size indexes entries lengths)
      (λ xs. ShowsLogLeaves (log_hashes (λ bytes. bytes)) root size indexes xs others)
  multi-shows-zero result shows code is zero = rw (entries-known)
      (shows-held root size indexes e.all digests e.hashed others (zero-says result shows code is zero))

-- entries that are refused
results-refused : (given : Result (List (List ℕ)) Refused) (refused : Refused) → results_of entry_hash given
    ≡ Err refused → given ≡ Err refused
results-refused (Ok xs) refused is = absurd cc
results-refused (Err why) refused is = cc

pub no-entries-give : (root : Digest) (size : ℕ) (indexes entries lengths proof : List ℕ)
    → length lengths ≡ length indexes → are_multi_indexes size indexes ≡ true → (refused : Refused)
    → (refused ≡ Memory) ⊎ (results_of entry_hash (leaves_in (parts_by entries lengths)) ≡ Err refused)
    → (code : ℤ) → code ≡ refusal_code refused
    → GivesCode (verdict_code (entries_shown root size indexes entries lengths proof)) (to_z w32 (of_z w32 code))
no-entries-give root size indexes entries lengths proof counts rising refused (inl memory) code is =
    inr (rw (is, memory) refl)
no-entries-give root size indexes entries lengths proof counts rising refused (inr told) code is =
    let given = results-refused (leaves_in (parts_by entries lengths)) refused told in
    inl (rw (is, eq-eqb (length lengths) (length indexes) counts, rising, given) (verdict-fits (Err refused)))

-- ---- what is made

pub all-rising : (size : ℕ) (indexes : List ℕ) (kept : List Digest) (bytes : Result (List ℕ) Refused)
    → has_front size (length kept) ≡ true → are_multi_indexes size indexes ≡ true
    → if_rising size indexes kept bytes ≡ bytes
all-rising size indexes kept bytes stands rising = rw (stands, rising) refl

-- A call that lacks memory hands nothing over.
pub memory-hands : (outcome : Result (List ℕ) Refused) (before : List ℕ) (count : ℕ) (code : ℤ)
    → code ≡ refusal_code Memory → Hands outcome before before count count (to_z w32 (of_z w32 code))
memory-hands outcome before count code is = rw (is, verdict-fits (Err Memory)) (record {
  right_code = inr refl;
  written = λ zero. absurd cc;
  counted = λ zero. absurd cc;
  room_needed = λ room. absurd cc;
  kept = λ no. refl;
  uncounted = λ no more. refl;
})
