-- What calls on maps show.
use Rattle.std.proofs.Common.{◌≡◌, ◌⊎◌, inl, inr, ℕ, List, Bool, true, Option, Result, Ok, Err, IfOk, IfSome, if◌then◌else◌, false, nat_lt, length, ap, sym, ◌∙◌, subst}
use Rattle.ark_base.specs.declared.error.Error.{Error}
use Rattle.ark_base.specs.Laws.Steps.{done_injective}
use Rattle.ark_base.specs.Outcome.{Outcome, ◌>>=◌, AnswersBy}
use Rattle.merkle_map.specs.Bytes.{invalid}
use Rattle.merkle_map.specs.KeyProof.{ProofSeen, proof_verdict, IsKeyProofAccepted}
use Rattle.merkle_map.specs.Kept.{IsShownIn}
use Rattle.merkle_map.specs.Map.{Digest, Entry, Key, key_bits, value_at}
use Rattle.merkle_map.specs.ProofBytes.{proof_bytes, proof_spelled, IsProofOf32}
use Rattle.merkle_map.specs.Sha256.{sha256_map}
use Rattle.merkle_map.specs.Transition.{ChangeSeen, LeadsTo}
use Rattle.merkle_map.specs.Tree.{Shape}
use Rattle.merkle_map.proofs.ProofReading.{reads-proof-back}
use Rattle.paxidore_calls.specs.Answer.{CallGivesBy}
use Rattle.paxidore_c.specs.KeptMaps.{IsShownBy}
use Rattle.ark_base.specs.declared.error.Error.TheVariants.{OutOfMemory}
use Rattle.merkle_map.specs.Order.{next_seen}
use Rattle.paxidore_c.specs.Maps.{refusing_map, GivesNext, IsNextOf, IsProvedBy, next_code}
use Rattle.paxidore_calls.specs.declared.refused.Refused.{Refused}

-- what is shown of a proof that was read is shown of the bytes
pub shown-read : (read : Outcome ProofSeen) (proof : ProofSeen) (P : ProofSeen → Type 0) (result : Outcome Bool)
    → read ≡ Ok proof → IfOk result (λ accepted. accepted ≡ true → P proof)
    → IfOk result (λ accepted. accepted ≡ true → IfOk read P)
shown-read read proof P (Ok accepted) is known = λ yes. subst (λ o. IfOk o P) (sym is) (known yes)
shown-read read proof P (Err error) is known = tt

-- the bytes of a proof are its spelling
bytes-spelled : (proof : ProofSeen) (bytes : List ℕ) → proof_bytes sha256_map.nothing proof ≡ Ok bytes
    → bytes ≡ proof_spelled sha256_map.nothing proof
bytes-spelled proof bytes e = by_test (nat_lt key_bits (length proof.siblings)) e
  where
    by_test : (b : Bool) → (if b then Err invalid else Ok (proof_spelled sha256_map.nothing proof)) ≡ Ok bytes
        → bytes ≡ proof_spelled sha256_map.nothing proof
    by_test true e = absurd cc
    by_test false e = sym (done_injective {E = Error} (proof_spelled sha256_map.nothing proof) bytes e)

-- the bytes of a tree's own proof are accepted
pub proved-bytes : {A : Type 0} (items : A → List ℕ) (key : Key) (given : Outcome Shape) (tree : Shape)
    (proof : ProofSeen) (result : Outcome A) → given ≡ Ok tree → IsKeyProofAccepted sha256_map key tree proof
    → AnswersBy items (proof_bytes sha256_map.nothing proof) result → IfOk result (λ _. IsProofOf32 proof)
    → IfOk result (λ bytes. IfOk given (IsProvedBy key (items bytes)))
proved-bytes items key given tree proof (Err error) is accepts written sized = tt
proved-bytes items key given tree proof (Ok bytes) is accepts written sized =
    let read = reads-proof-back sha256_map.nothing (items bytes) proof sized
    (bytes-spelled proof (items bytes) written) in
    subst (λ o. IfOk o (IsProvedBy key (items bytes))) (sym is)
    (λ root value digest known. ap (λ o. o >>= proof_verdict sha256_map root key value) read
    ∙ accepts root value digest known)

-- the bytes of a proof that a map's root accepts are accepted
pub shown-bytes : (key : Key) (xs : List Entry) (proof : ProofSeen) (bytes : List ℕ) → IsShownIn sha256_map key xs proof
    → proof_bytes sha256_map.nothing proof ≡ Ok bytes → IsProofOf32 proof → IsShownBy key xs bytes
shown-bytes key xs proof bytes shown written sized = λ root is.
    let read = reads-proof-back sha256_map.nothing bytes proof sized (bytes-spelled proof bytes written) in
    ap (λ o. o >>= proof_verdict sha256_map root key (value_at key xs)) read ∙ shown root is

-- what is said of the bytes that a call gives is said of the outcome
pub given-said : {W : Type 0} (items : W → List ℕ) (outcome : Outcome (List ℕ)) (P : List ℕ → Type 0)
    (result : Result W Refused) → CallGivesBy items (refusing_map outcome) result
    → IfOk result (λ value. P (items value)) → IfOk result (λ value. IfOk outcome P)
given-said items (Ok bytes) P (Ok value) is said =
    let same : bytes ≡ items value = cc in subst P (sym same) said
given-said items (Err error) P (Ok value) is said = absurd cc
given-said items outcome P (Err refused) is said = tt

-- what changes of a tree that was read lead to is what they lead to from the bytes
pub led : {A : Type 0} (digest : A → Digest) (root : Digest) (given : Outcome Shape) (tree : Shape)
    (own wanted : List ChangeSeen) (result : Outcome (Option A)) → given ≡ Ok tree → own ≡ wanted
    → IfOk result (λ found. IfSome found (λ made. LeadsTo sha256_map root (digest made) tree own))
    → IfOk result (λ found. IfSome found (λ made. IfOk given (λ t. LeadsTo sha256_map root (digest made) t wanted)))
led digest root given tree own wanted result is same leads =
    subst (λ o. IfOk result (λ found. IfSome found (λ made.
    IfOk o (λ t. LeadsTo sha256_map root (digest made) t wanted)))) (sym is)
    (subst (λ changes. IfOk result (λ found. IfSome found (λ made. LeadsTo sha256_map root (digest made) tree changes)))
    same leads)

-- ---- the entries from one key to another

-- an entry that was found, as an outcome
abbrev gives_next : Option (Key × Digest) → Outcome (Option (Key × Digest))
gives_next found = Ok found

-- what a call found in the tree that bytes are
pub found-gives : (tree : List ℕ) (first last : Key) (field found : Option (Key × Digest)) → field ≡ found
    → (gives_next field ≡ Err OutOfMemory) ⊎ IsNextOf tree first last (next_seen (Ok field))
    → GivesNext tree first last (next_code (next_seen (Ok found)))
found-gives tree first last field found same (inl memory) = absurd cc
found-gives tree first last field found same (inr is) =
    inr (next_seen (Ok field), is, ap (λ f. next_code (next_seen (Ok f))) (sym same))
