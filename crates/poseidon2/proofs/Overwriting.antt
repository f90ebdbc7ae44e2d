-- Blocks that take the place of the front of a state.
use Rattle.std.proofs.Common.{◌≡◌, ℕ, ◌<◌, min, List, [], ◌∷◌, length, take, drop, fold, sym, ap, ◌∙◌, arith}
use Rattle.std.proofs.lemmas.List.{take_min, drop_min}
use Rattle.ark_sponge.proofs.Blocks.{blocks_of_rate-cons, blocks_of_rate-nil}
use Rattle.poseidon2.specs.Modes.{overwritten, state_overwriting}

module _ (permute : List ℕ → List ℕ) (r : ℕ) where
  pub overwriting-nil : (s xs : List ℕ) → length xs ≡ 0 → state_overwriting permute r s xs ≡ s
  unfolding state_overwriting
  overwriting-nil s [] none = ap (λ bs. fold (λ t block. permute (overwritten t block)) s bs) (blocks_of_rate-nil r)
  overwriting-nil s (x ∷ xs) none = absurd (omega (arith, none))

  -- a block of at most the rate is put in and permuted; the others follow
  pub overwriting-next : (s t : List ℕ) (k : ℕ) (rest block behind : List ℕ) → 0 < r → 0 < length rest
      → k ≡ min r (length rest) → block ≡ take k rest → behind ≡ drop k rest → t ≡ permute (overwritten s block)
      → state_overwriting permute r t behind ≡ state_overwriting permute r s rest
  unfolding state_overwriting
  overwriting-next s t k rest block behind pos some k-is block-is behind-is t-is =
      let first : block ≡ take r rest = block-is ∙ ap (λ j. take j rest) k-is ∙ take_min r rest in
      let others : behind ≡ drop r rest = behind-is ∙ ap (λ j. drop j rest) k-is ∙ drop_min r rest in
      let step = λ (u : List ℕ) (b : List ℕ). permute (overwritten u b) in
      rw (t-is, first, others) (sym (ap (λ bs. fold step s bs) (blocks_of_rate-cons r rest pos some)))
