-- Drawing numbers until one has a challenge.
use Rattle.std.proofs.Common.{◌≡◌, ◌⊎◌, inl, inr, ℕ, zero, suc, ◌+◌, ◌-◌, ◌<◌, ◌≤◌, Option, Some, None, Ok, Err, refl, sym, ◌∙◌, ap, arith}
use Rattle.std.specs.Option.{option_map_or}
use Rattle.rand_core.specs.Stream.{Stream}
use Rattle.ark_base.specs.Outcome.{Outcome, ◌>>=◌}
use Rattle.ark_base.specs.declared.error.Error.{Error}
use Rattle.ark_base.specs.declared.error.Error.TheVariants.{GenericError}
use Rattle.ark_base.specs.declared.error.Refusal.TheVariants.{DrawsExhausted}
use Rattle.ark_signatures.specs.Schnorr.{Nonce, first_nonce}

module _ {F : Type 0} (draw : Stream → F × Stream) (value : F → ℕ) (challenge : ℕ → Outcome (Option ℕ)) where
  -- what is found of a draw with this challenge
  pub found_or : ℕ → F × Stream → Outcome (Option ℕ) → Outcome Nonce
  found_or draws drawn outcome =
      outcome >>= λ found.
      option_map_or (λ e. Ok (record { number = value drawn.0; challenge = e; left = drawn.1 })) found
      (first_nonce draw value challenge draws drawn.1)

  pub first_nonce-step : (count done : ℕ) (stream : Stream) (drawn : F × Stream) (outcome : Outcome (Option ℕ))
      → done < count → drawn ≡ draw stream
      → challenge (value drawn.0) ≡ outcome → first_nonce draw value challenge (count - done) stream
      ≡ found_or (count - (done + 1)) drawn outcome
  unfolding first_nonce found_or
  first_nonce-step count done stream drawn outcome more is_drawn is_outcome =
      let one : count - done ≡ suc (count - (done + 1)) = omega (arith, more) in
      let at_next : F × Stream → Outcome Nonce =
      λ d. found_or (count - (done + 1)) d (challenge (value d.0)) in
      ap (λ (n : ℕ). first_nonce draw value challenge n stream) one ∙ ap at_next (sym is_drawn)
      ∙ ap (found_or (count - (done + 1)) drawn) is_outcome

  pub first_nonce-found : (count done : ℕ) (stream : Stream) (drawn : F × Stream) (e : ℕ) → done < count → drawn
      ≡ draw stream
      → challenge (value drawn.0) ≡ Ok (Some e) → first_nonce draw value challenge (count - done) stream
      ≡ Ok (record { number = value drawn.0; challenge = e; left = drawn.1 })
  unfolding found_or
  first_nonce-found count done stream drawn e more is_drawn is =
      first_nonce-step count done stream drawn (Ok (Some e)) more is_drawn is

  pub first_nonce-none : (count done : ℕ) (stream : Stream) (drawn : F × Stream) → done < count → drawn ≡ draw stream
      → challenge (value drawn.0) ≡ Ok None → first_nonce draw value challenge (count - done) stream ≡ first_nonce draw
      value challenge (count - (done + 1)) drawn.1
  unfolding found_or
  first_nonce-none count done stream drawn more is_drawn is =
      first_nonce-step count done stream drawn (Ok None) more is_drawn is

  pub first_nonce-refused : (count done : ℕ) (stream : Stream) (drawn : F × Stream) (error : Error) → done < count
      → drawn ≡ draw stream
      → challenge (value drawn.0) ≡ Err error → first_nonce draw value challenge (count - done) stream ≡ Err error
  unfolding found_or
  first_nonce-refused count done stream drawn error more is_drawn is =
      first_nonce-step count done stream drawn (Err error) more is_drawn is

  pub first_nonce-exhausted : (count done : ℕ) (stream : Stream) → count ≤ done → first_nonce draw value challenge
      (count - done) stream ≡ Err (GenericError DrawsExhausted)
  unfolding first_nonce
  first_nonce-exhausted count done stream all =
      let none : count - done ≡ 0 = omega (arith, all) in
      ap (λ (n : ℕ). first_nonce draw value challenge n stream) none

  -- what is found has that challenge
  number_in : Outcome Nonce → ℕ × ℕ
  number_in (Ok found) = (found.number, found.challenge)
  number_in (Err error) = (0, 0)

  has_challenge : (draws : ℕ) (k e : ℕ) (left : Stream) (drawn : F × Stream)
      → ((stream : Stream) → first_nonce draw value challenge draws stream
      ≡ Ok (record { number = k; challenge = e; left = left }) → challenge k ≡ Ok (Some e))
      → (outcome : Outcome (Option ℕ)) → challenge (value drawn.0) ≡ outcome → found_or draws drawn outcome
      ≡ Ok (record { number = k; challenge = e; left = left }) → challenge k ≡ Ok (Some e)
  unfolding found_or number_in
  has_challenge draws k e left drawn others (Ok (Some f)) is found =
      ap (λ (p : ℕ × ℕ). challenge p.0) (sym (ap number_in found)) ∙ is ∙ ap (λ (p : ℕ × ℕ). let o : Outcome
      (Option ℕ) = Ok (Some p.1) in o) (ap number_in found)
  has_challenge draws k e left drawn others (Ok None) is found = others drawn.1 found
  has_challenge draws k e left drawn others (Err error) is found = cc

  pub first_nonce-has : (draws : ℕ) (stream : Stream) (k e : ℕ) (left : Stream) → first_nonce draw value challenge draws
      stream ≡ Ok (record { number = k; challenge = e; left = left }) → challenge k ≡ Ok (Some e)
  unfolding first_nonce found_or
  first_nonce-has zero stream k e left found = cc
  first_nonce-has (suc draws) stream k e left found =
      has_challenge draws k e left (draw stream) (λ s. first_nonce-has draws s k e left)
      (challenge (value (draw stream).0)) refl found

pub or_else : {A B C : Type 0} → (B → C) → A ⊎ B → A ⊎ C
or_else f (inl a) = inl a
or_else f (inr b) = inr (f b)
