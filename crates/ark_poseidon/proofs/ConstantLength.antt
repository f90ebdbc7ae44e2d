-- The state that a hash of constant length begins with, and the blocks that are added to it.
use Rattle.std.proofs.Common.{◌≡◌, ℕ, zero, suc, ◌*◌, ◌%◌, ◌^◌, ◌<◌, min, List, [], ◌∷◌, ◌++◌, length, take, drop, map, fold, replicate, refl, sym, ap, ◌∙◌, arith}
use Rattle.std.proofs.lemmas.List.{take_min, drop_min}
use Rattle.std.proofs.lemmas.Nat.{mul-mod_first, mul-mod_second}
use Rattle.ark_sponge.specs.Permutation.{sums}
use Rattle.ark_sponge.specs.Duplex.{blocks_of_rate}
use Rattle.ark_sponge.proofs.Blocks.{blocks_of_rate-cons, blocks_of_rate-nil}
use Rattle.ark_poseidon.specs.ConstantLength.{state_adding}

-- a count times the square of 2^32
pub mark-is : (p n a h s r : ℕ) → a ≡ n % p → h ≡ 4294967296 % p → s ≡ h * h % p → r ≡ a * s % p → r ≡ n * 2 ^ 64 % p
mark-is p n a h s r first half square last =
    let whole : s ≡ 18446744073709551616 % p = square ∙ ap (λ t. t * t % p) half
    ∙ mul-mod_first 4294967296 (4294967296 % p) p ∙ mul-mod_second 4294967296 4294967296 p in
    last ∙ ap (λ t. t * s % p) first ∙ mul-mod_first n s p ∙ ap (λ t. n * t % p) whole
    ∙ mul-mod_second n 18446744073709551616 p

-- zeros, and a mark behind them
pub start-numbers : {F : Type 0} (f : F → ℕ) (z m : F) (n k : ℕ) → f z ≡ 0 → f m ≡ k
    → map f (replicate n z ++ (m ∷ [])) ≡ replicate n 0 ++ (k ∷ [])
start-numbers f z m zero k none mark = ap (λ x. x ∷ []) mark
start-numbers f z m (suc n) k none mark =
    ap (λ x. x ∷ map f (replicate n z ++ (m ∷ []))) none ∙ ap (λ l. 0 ∷ l) (start-numbers f z m n k none mark)

module _ (p : ℕ) (permute : List ℕ → List ℕ) (r : ℕ) where
  pub adding-nil : (s xs : List ℕ) → length xs ≡ 0 → state_adding p permute r s xs ≡ s
  unfolding state_adding
  adding-nil s [] none = ap (λ bs. fold (λ t block. permute (sums p t block)) s bs) (blocks_of_rate-nil r)
  adding-nil s (x ∷ xs) none = absurd (omega (arith, none))

  -- a block of at most the rate is added and permuted; the others follow
  pub adding-next : (s t : List ℕ) (k : ℕ) (rest block behind : List ℕ) → 0 < r → 0 < length rest
      → k ≡ min r (length rest) → block ≡ take k rest → behind ≡ drop k rest → t ≡ permute (sums p s block)
      → state_adding p permute r t behind ≡ state_adding p permute r s rest
  unfolding state_adding
  adding-next s t k rest block behind pos some k-is block-is behind-is t-is =
      let first : block ≡ take r rest = block-is ∙ ap (λ j. take j rest) k-is ∙ take_min r rest in
      let others : behind ≡ drop r rest = behind-is ∙ ap (λ j. drop j rest) k-is ∙ drop_min r rest in
      let step = λ (u : List ℕ) (b : List ℕ). permute (sums p u b) in
      rw (t-is, first, others) (sym (ap (λ bs. fold step s bs) (blocks_of_rate-cons r rest pos some)))
