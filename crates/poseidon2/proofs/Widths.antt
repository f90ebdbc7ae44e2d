-- The widths of states, and the external matrix of each.
use Rattle.std.proofs.Common.{◌≡◌, ℕ, zero, suc, ◌/◌, ◌<◌, ◌≤◌, true, false, eqb, ltb, List, replicate, refl, ap, arith}
use Rattle.std.proofs.lemmas.Bool.{ne_eqb, lt-ltb, le-ltb}
use Rattle.poseidon2.specs.Matrices.{internal_matrix, four_rows, block_circulant, external_matrix}
use Rattle.poseidon2.specs.Permutation.{is_width}

-- a state has two elements
pub width-two : (n : ℕ) → is_width n ≡ true → 2 ≤ n
width-two zero is = absurd cc
width-two (suc zero) is = absurd cc
width-two (suc (suc n)) is = omega arith

module _ (row : ℕ → List ℕ) (n : ℕ) where
  pub external-few : n < 4 → external_matrix row n ≡ internal_matrix (replicate n 1)
  unfolding external_matrix
  external-few few =
      let is : ltb n 4 ≡ true = lt-ltb n 4 few in
      rw is refl

  pub external-four : n ≡ 4 → external_matrix row n ≡ four_rows row
  unfolding external_matrix
  external-four four = ap (external_matrix row) four

  pub external-more : 4 < n → external_matrix row n ≡ block_circulant row (n / 4)
  unfolding external_matrix
  external-more more =
      let many : ltb n 4 ≡ false = le-ltb n 4 (omega (arith, more)) in
      let other : eqb n 4 ≡ false = ne_eqb n 4 (λ e. omega (arith, e, more)) in
      rw (many, other) refl
