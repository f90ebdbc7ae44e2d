-- Answers of outcomes that are equal, or go on.
use Rattle.std.proofs.Common.{◌≡◌, Ok, Err, OnOk, inl, inr, ap, sym, ◌∙◌, subst}
use Rattle.ark_base.specs.Outcome.{Outcome, ◌>>=◌, AnswersBy}
use Rattle.merkle_map.specs.Changes.{outcome_with}
use Rattle.merkle_map.specs.Tree.{Shape}

pub answers_as : {A B : Type 0} (view : A → B) (a b : Outcome B) (result : Outcome A) → a ≡ b → AnswersBy view b result
    → AnswersBy view a result
answers_as view a b result e known = subst (λ o. AnswersBy view o result) (sym e) known

-- an outcome that goes on with the value
pub answers_on : {A B C : Type 0} (before : B) (f : B → C) (a : Outcome B) (b : Outcome C) (result : Outcome A)
    → b ≡ (a >>= λ value. Ok (f value)) → AnswersBy (λ _. before) a result → AnswersBy (λ _. f before) b result
answers_on before f a b (Ok x) e known = e ∙ ap (λ o. o >>= λ value. Ok (f value)) known
answers_on before f a b (Err error) e (inl memory) = inl memory
answers_on before f a b (Err error) e (inr is) = inr (e ∙ ap (λ o. o >>= λ value. Ok (f value)) is)

-- a value as an outcome
abbrev pub gives : {A : Type 0} → A → Outcome A
gives value = Ok value

-- what holds anyway holds of a value
pub ok_anyway : {A : Type 0} (result : Outcome A) (P : Type 0) → P → OnOk result P
ok_anyway (Ok value) P known = known
ok_anyway (Err error) P known = tt

-- an answer that is never a lack of memory
pub answers_exactly : {A : Type 0} (new : Shape) (o : Outcome Shape) (result : Outcome A) → o ≡ outcome_with new result
    → AnswersBy (λ _. new) o result
answers_exactly new o (Ok x) e = e
answers_exactly new o (Err error) e = inr e
