-- What is given of a kept log over circomlib's hash, whatever is kept.
use Rattle.std.proofs.Common.{◌≡◌, ℕ, List, ◌++◌, length, take, Result, Err, refl, sym, ap, ◌∙◌, inl, inr, arith}
use Rattle.std.proofs.lemmas.List.{take-append-le, take_all}
use Rattle.circom.specs.Nodes.{refusal_error}
use Rattle.circom.specs.declared.refusal.NodeRefusal.{NodeRefusal}
use Rattle.circom.specs.declared.refusal.NodeRefusal.TheVariants.{Element, Memory as NoMemory}
use Rattle.paxidore_c.proofs.TwoInputs.{Refuses}
use Rattle.paxidore_calls.specs.Answer.{refused_of}
use Rattle.paxidore_c.specs.PoseidonLog.{OrInvalid}
use Rattle.paxidore_calls.specs.declared.refused.Refused.{Refused}
use Rattle.paxidore_calls.specs.declared.refused.Refused.TheVariants.{Invalid}

-- a refusal of a log, where what is given is handed on
pub any-refused : {A : Type 0} (handed : Result A Refused → Result A Refused)
    → ((given : Result A Refused) → handed given ≡ given) → (refusal : NodeRefusal) (refused : Refused)
    → refused ≡ refused_of (refusal_error refusal)
    → (given : Result A Refused) × OrInvalid given × Refuses (handed given) refused
any-refused handed passes Element refused is = (Err Invalid, refl, inr (passes (Err Invalid) ∙ ap Err (sym is)))
any-refused handed passes NoMemory refused is = (Err Invalid, refl, inl is)

-- what is read of a buffer to whose front items were written
pub whole-read : {A : Type 0} (written rest items : List A) (count : ℕ) → written ≡ items → length items ≡ count
    → take count (written ++ rest) ≡ items
whole-read written rest items count is long =
    ap (λ l. take count (l ++ rest)) is ∙ take-append-le count items rest (omega arith)
    ∙ take_all count items (omega arith)
