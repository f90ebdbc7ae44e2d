-- What codes tell of answers.
use Rattle.std.proofs.Common.{◌≡◌, ℤ, pos, w32, to_z, of_z, Bool, true, false, Ok, Err, IfOk, refl}
use Rattle.ark_base.specs.Outcome.{Outcome}
use Rattle.paxidore_calls.specs.Answer.{refusal_code, refused_of, refusing, verdict_code}
use Rattle.paxidore_calls.specs.declared.refused.Refused.{Refused}
use Rattle.paxidore_calls.specs.declared.refused.Refused.TheVariants.{Memory, Truncated, Invalid, Height, Size, Lengths, Count, Index, Room, Hidden, NoPolicy, BadSignature, Unsigned, OtherOrigin, Other}

-- no refusal says yes
pub refusal-no : (refused : Refused) → to_z w32 (of_z w32 (refusal_code refused)) ≡ pos 0 → ⊥
refusal-no Memory zero = cc
refusal-no Truncated zero = cc
refusal-no Invalid zero = cc
refusal-no Height zero = cc
refusal-no Size zero = cc
refusal-no Lengths zero = cc
refusal-no Count zero = cc
refusal-no Index zero = cc
refusal-no Room zero = cc
refusal-no Hidden zero = cc
refusal-no NoPolicy zero = cc
refusal-no BadSignature zero = cc
refusal-no Unsigned zero = cc
refusal-no OtherOrigin zero = cc
refusal-no Other zero = cc

-- what an accepting verdict says, where the answer is 0
pub zero-says : {P : Type 0} (verdict : Outcome Bool) → IfOk verdict (λ accepted. accepted ≡ true → P)
    → (code : ℤ) → code ≡ verdict_code (refusing verdict) → to_z w32 (of_z w32 code) ≡ pos 0 → P
zero-says (Ok true) says code is zero = says refl
zero-says (Ok false) says code is zero = let no = rw is at zero in absurd cc
zero-says (Err error) says code is zero = absurd (refusal-no (refused_of error) (rw is at zero))
