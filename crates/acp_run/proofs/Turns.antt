-- What a line does, by what it asks.
use Rattle.std.proofs.Common.{◌≡◌, ◌⊎◌, ℕ, nat_lt, length, Bool, true, false, List, Option, Some, Ok, Err, refl, sym, ap, ◌∙◌, subst, inl, inr}
use Rattle.std.specs.List.{list_all}
use Rattle.std.specs.Option.{option_map}
use Rattle.ark_base.specs.declared.error.Error.{Error}
use Rattle.ark_base.specs.declared.error.Error.TheVariants.{OutOfMemory}
use Rattle.ark_base.specs.Outcome.{Outcome}
use Rattle.ark_paths.specs.Pair.{Digest}
use Rattle.acp_run.specs.declared.session.request.Request.{Request}
use Rattle.acp_run.specs.Language.{Language}
use Rattle.acp_run.specs.Lines.{tokens_of}
use Rattle.acp_run.specs.Replies.{Reply, MultiProof, NoIndex, Refused, Tells, text}
use Rattle.acp_run.specs.Requests.{asked, request_of}
use Rattle.acp_run.specs.Steps.{State, LineStep, Takes, TakesAny, TakesTurn, multi_reply}

-- what is asked decides the step, also as a language that is the same has it
module _ {P Q L D : Type 0} (hash : P → L → Outcome Digest) (numbers : D → Digest) (o : Option (Request L D)) (r s :
    Request L D) (some : o ≡ Some r) (is : r ≡ s) (l k : P → Q → Language) where
  pub steps : ((p : P) (q : Q) → l p q ≡ k p q) → (line : List ℕ) → ((p : P) (q : Q) → option_map (asked (hash p)
      numbers) o ≡ request_of (l p q) (tokens_of line)) → (p : P) (q : Q) (before after : State) (bytes : List ℕ) →
      TakesTurn (k p q) before (asked (hash p) numbers s) after bytes → LineStep (l p q) before line after bytes
  steps same line read p q before after bytes turn =
      subst (λ request. TakesAny (l p q) before request after bytes)
      (sym (ap (option_map (asked (hash p) numbers)) (some ∙ ap (λ r. Some r) is)) ∙ read p q)
      (subst (λ m. TakesTurn m before (asked (hash p) numbers s) after bytes) (sym (same p q)) turn)

-- a reply that is told is a turn that leaves the tree
pub takes_told : (before : State) (reply : Reply) (bytes : List ℕ) → Tells reply bytes
    → Takes before (reply, before) before bytes
takes_told before reply bytes (inl told) = inl (told, refl)
takes_told before reply bytes (inr lacks) = inr (lacks.0, refl, lacks.1)

-- the reply to `multi`, by the test of its indexes
module _ (spelled : List ℕ) (digests : List Digest) (indexes : List ℕ) (size : ℕ) (below : Bool)
    (size_is : size ≡ length digests) (test : below ≡ list_all (λ index. nat_lt index size) indexes)
    (bytes : List ℕ) where
  pub multi_outside : below ≡ false → bytes ≡ text NoIndex → Tells (multi_reply spelled digests indexes) bytes
  multi_outside is told = rw (← size_is, ← test, is) (inl told)

  pub multi_told : below ≡ true → (made shown : List ℕ) → ◌≡◌ {A = Outcome (List ℕ)} (Ok spelled) (Ok made)
      → shown ≡ made → bytes ≡ text (MultiProof shown) → Tells (multi_reply spelled digests indexes) bytes
  multi_told is made shown answer same told =
      let spelled_is : spelled ≡ made = cc in
      rw (← size_is, ← test, is) (inl (told ∙ ap (λ bs. text (MultiProof bs)) (same ∙ sym spelled_is)))

  pub multi_refused : below ≡ true → (e : Error)
      → (e ≡ OutOfMemory) ⊎ ◌≡◌ {A = Outcome (List ℕ)} (Ok spelled) (Err e)
      → bytes ≡ text (Refused e) → Tells (multi_reply spelled digests indexes) bytes
  multi_refused is e (inl memory) told =
      rw (← size_is, ← test, is) (inr (told ∙ ap (λ e. text (Refused e)) memory, tt))
  multi_refused is e (inr refused) told = absurd cc
