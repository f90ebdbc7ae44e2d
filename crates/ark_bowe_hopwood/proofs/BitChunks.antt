-- Chunks of bits from a place on.
use Rattle.std.proofs.Common.{◌≡◌, ℕ, zero, suc, ◌+◌, ◌*◌, ◌<◌, ◌≤◌, Bool, false, List, [], ◌∷◌, length, drop, get_or, refl, sym, ap, ◌∙◌, arith}
use Rattle.std.proofs.Common.{drop-cons}
use Rattle.std.proofs.lemmas.List.{drop_all}
use Rattle.ark_groups.specs.Group.{Group, IsCommutativeGroup}
use Rattle.ark_groups.proofs.Multiples.{right_identity}
use Rattle.ark_bowe_hopwood.specs.BoweHopwood.{Chunk, chunks_of, digit, signed_times, digits_sum}
use Rattle.ark_bowe_hopwood.proofs.Chunks.{digits_sum-none}

-- the chunk at a place, and those behind it
pub chunk_at : (bits : List Bool) (i : ℕ) → i < length bits
    → chunks_of (drop i bits) ≡ (get_or bits i false, get_or bits (i + 1) false, get_or bits (i + 2) false)
    ∷ chunks_of (drop (i + 3) bits)
unfolding chunks_of
chunk_at [] i l = absurd (omega (arith, l))
chunk_at (a ∷ []) zero l = refl
chunk_at (a ∷ b ∷ []) zero l = refl
chunk_at (a ∷ b ∷ c ∷ bits) zero l = refl
chunk_at (a ∷ bits) (suc i) l =
    let all : List Bool = a ∷ bits in
    let tail : ℕ → ℕ → ℕ → List Chunk = λ m n k. (get_or bits i false, get_or all m false, get_or all n false)
    ∷ chunks_of (drop k all) in
    let one : suc (i + 1) ≡ suc i + 1 = omega arith in
    let two : suc (i + 2) ≡ suc i + 2 = omega arith in
    let three : suc (i + 3) ≡ suc i + 3 = omega arith in
    chunk_at bits i (omega (arith, l)) ∙ ap (λ m. tail m (suc (i + 2)) (suc (i + 3))) one
    ∙ ap (λ n. tail (suc i + 1) n (suc (i + 3))) two ∙ ap (λ k. tail (suc i + 1) (suc i + 2) k) three

module _ {G : Type 0} {g : Group G} (laws : IsCommutativeGroup g) (all : List G) (bits : List Bool) where
  -- one more chunk
  pub one_chunk : (sum new x : G) (place : ℕ) (whole : G) → 3 * place < length bits → place < length all
      → get_or all place x ≡ x
      → new ≡ g.plus sum (signed_times g (digit (
        get_or bits (3 * place) false,
        get_or bits (3 * place + 1) false,
        get_or bits (3 * place + 2) false,
      )) x)
      → g.plus sum (digits_sum g (drop place all) (chunks_of (drop (3 * place) bits))) ≡ whole
      → g.plus new (digits_sum g (drop (place + 1) all) (chunks_of (drop (3 * (place + 1)) bits))) ≡ whole
  unfolding digits_sum
  one_chunk sum new x place whole before within same added so_far =
      let next : suc place ≡ place + 1 = omega arith in
      let third : 3 * place + 3 ≡ 3 * (place + 1) = omega arith in
      let here : drop place all ≡ x ∷ drop (place + 1) all = drop-cons all place x (omega (arith, within))
      ∙ ap (λ (y : G). y ∷ drop (suc place) all) same ∙ ap (λ (n : ℕ). x ∷ drop n all) next in
      ap (λ (s : G). g.plus s (digits_sum g (drop (place + 1) all) (chunks_of (drop (3 * (place + 1)) bits)))) added
      ∙ laws.assoc _ _ _
      ∙ ap (g.plus sum) (ap (λ (k : ℕ). digits_sum g (x ∷ drop (place + 1) all) ((
        get_or bits (3 * place) false,
        get_or bits (3 * place + 1) false,
        get_or bits (3 * place + 2) false,
      ) ∷ chunks_of (drop k bits))) (sym third)
      ∙ ap (λ (t : List G). digits_sum g t ((
        get_or bits (3 * place) false,
        get_or bits (3 * place + 1) false,
        get_or bits (3 * place + 2) false,
      ) ∷ chunks_of (drop (3 * place + 3) bits))) (sym here)
      ∙ ap (digits_sum g (drop place all)) (sym (chunk_at bits (3 * place) before)))
      ∙ so_far

  -- none is left
  pub no_chunk : (sum whole : G) (place : ℕ) → length bits ≤ 3 * place
      → g.plus sum (digits_sum g (drop place all) (chunks_of (drop (3 * place) bits))) ≡ whole → sum ≡ whole
  unfolding chunks_of
  no_chunk sum whole place past so_far =
      sym (right_identity laws sum) ∙ ap (g.plus sum) (sym (ap (λ (t : List Bool). digits_sum g (drop place all)
      (chunks_of t)) (drop_all (3 * place) bits past) ∙ digits_sum-none laws (drop place all))) ∙ so_far
