-- What the codes of calls on kept maps tell.
use Rattle.std.proofs.Common.{◌≡◌, ◌≢◌, ◌⊎◌, ℕ, ℤ, pos, Bool, true, false, nat_lt, if◌then◌else◌, List, length, take, Result, Ok, Err, IfErr, IfOk, OnOk, refl, ap, ap₂, sym, ◌∙◌, subst, inl, inr}
use Rattle.std.proofs.Math.Seq.{take-append_seam}
use Rattle.kept_map.specs.declared.head.MapFault.{MapFault}
use Rattle.kept_map.specs.declared.head.MapFault.TheVariants.{NoMap, Room}
use Rattle.kept_map.specs.declared.prove.ProveFault.{ProveFault}
use Rattle.kept_map.specs.declared.prove.ProveFault.TheVariants.{OutOfMemory, NoMap as NoMapToProve, Order}
use Rattle.paxidore_calls.specs.Answer.{GivesCode, Hands, refusal_code, written_code}
use Rattle.paxidore_calls.specs.declared.refused.Refused.TheVariants.{Index, Memory, Room as NoRoom}
use Rattle.paxidore_c.specs.KeptMaps.{HandsSome, fault_code, proof_fault_code}

-- no fault has the code of what is done
fault-no : (fault : MapFault) → fault_code fault ≡ pos 0 → ⊥
fault-no Room zero = absurd cc
fault-no NoMap zero = absurd cc

-- 0 says that the call was done
pub on_done : {A : Type 0} (done : Result A MapFault) (code : ℤ) (P : Type 0)
    → IfErr done (λ fault. code ≡ fault_code fault) → code ≡ pos 0 → OnOk done P → P
on_done (Ok value) code P is zero on = on
on_done (Err fault) code P is zero on = absurd (fault-no fault (sym is ∙ zero))

-- what is not refused is done
pub is_done : (done : Result (Unit {0}) MapFault) (code : ℤ) → (done ≡ Ok tt → code ≡ pos 0) → (done ≢ Err Room)
    → (done ≢ Err NoMap) → code ≡ pos 0
is_done (Ok value) code ok room map = ok refl
is_done (Err Room) code ok room map = absurd (room refl)
is_done (Err NoMap) code ok room map = absurd (map refl)

-- what is handed over, or why nothing is
module _ {W : Type 0} (items : W → List ℕ) (P : List ℕ → Type 0) (made : Result W ProveFault)
    (before after : List ℕ) (count count_after : ℕ) (code : ℤ) (said : IfOk made (λ bytes. P (items bytes)))
    (hands : IfOk made (λ bytes. Hands (Ok (items bytes)) before after count count_after code))
    (faults : IfErr made (λ fault. code ≡ proof_fault_code fault)) where
  pub some-handed : IfErr made (λ fault. fault ≡ OutOfMemory) → HandsSome P before after count count_after code
  some-handed = by_made made said hands faults
    where
      by_made : (made : Result W ProveFault) → IfOk made (λ bytes. P (items bytes))
          → IfOk made (λ bytes. Hands (Ok (items bytes)) before after count count_after code)
          → IfErr made (λ fault. code ≡ proof_fault_code fault) → IfErr made (λ fault. fault ≡ OutOfMemory)
          → HandsSome P before after count count_after code
      by_made (Ok bytes) said hands is memory = inr (items bytes, said, hands)
      by_made (Err fault) said hands is memory = inl (is ∙ ap proof_fault_code memory)

  pub front-said : code ≡ pos 0 → P (take count_after after)
  front-said = by_made made said hands faults
    where
      by_made : (made : Result W ProveFault) → IfOk made (λ bytes. P (items bytes))
          → IfOk made (λ bytes. Hands (Ok (items bytes)) before after count count_after code)
          → IfErr made (λ fault. code ≡ proof_fault_code fault) → code ≡ pos 0 → P (take count_after after)
      by_made (Ok bytes) said hands is zero =
          subst P (sym (ap₂ (λ n buffer. take n buffer) (hands.counted zero) (hands.written zero)
          ∙ take-append_seam (items bytes) _)) said
      by_made (Err OutOfMemory) said hands is zero = absurd cc
      by_made (Err NoMapToProve) said hands is zero = absurd cc
      by_made (Err Order) said hands is zero = absurd cc

-- what is handed over has one of these codes
kept-codes : (bytes : List ℕ) (room : ℕ) (code : ℤ) → GivesCode (written_code (Ok bytes) room) code
    → (code ≡ pos 0) ⊎ (code ≡ fault_code Room) ⊎ (code ≡ fault_code NoMap) ⊎ (code ≡ refusal_code Memory)
kept-codes bytes room code gives = by_test (nat_lt room (length bytes)) gives
  where
    by_test : (b : Bool) → GivesCode (if b then refusal_code NoRoom else pos 0) code
        → (code ≡ pos 0) ⊎ (code ≡ fault_code Room) ⊎ (code ≡ fault_code NoMap) ⊎ (code ≡ refusal_code Memory)
    by_test true (inl is) = inr (inl is)
    by_test false (inl is) = inl is
    by_test short (inr is) = inr (inr (inr is))

-- of bytes that are handed over the code is no fault's but that of the room or of memory
pub handed-codes : (bytes before after : List ℕ) (count count_after : ℕ) (code : ℤ)
    → Hands (Ok bytes) before after count count_after code
    → (code ≡ pos 0) ⊎ (code ≡ fault_code Room) ⊎ (code ≡ fault_code NoMap) ⊎ (code ≡ refusal_code Memory)
handed-codes bytes before after count count_after code hands = kept-codes bytes _ code hands.right_code

-- one of four codes is one of five
pub or-order : (code : ℤ)
    → (code ≡ pos 0) ⊎ (code ≡ fault_code Room) ⊎ (code ≡ fault_code NoMap) ⊎ (code ≡ refusal_code Memory)
    → (code ≡ pos 0) ⊎ (code ≡ fault_code Room) ⊎ (code ≡ fault_code NoMap) ⊎ (code ≡ refusal_code Memory)
    ⊎ (code ≡ refusal_code Index)
or-order code (inl is) = inl is
or-order code (inr (inl is)) = inr (inl is)
or-order code (inr (inr (inl is))) = inr (inr (inl is))
or-order code (inr (inr (inr is))) = inr (inr (inr (inl is)))
