-- The laws of what implements a trait.
use Rattle.std.proofs.Common.{◌≡◌, ℕ, zero, suc, length, refl}
use Rattle.ark_base.specs.Outcome.{IsDecided}
use Rattle.poseidon2.specs.Matrices.{paper_row, circulant_row}
use Rattle.poseidon2.specs.Compression.{setup_refused}

-- ---- the rows of the matrices of four by four have four numbers

pub length-paper_row : (c : ℕ) → length (paper_row c) ≡ 4
length-paper_row zero = refl
length-paper_row (suc zero) = refl
length-paper_row (suc (suc zero)) = refl
length-paper_row (suc (suc (suc c))) = refl

pub length-circulant_row : (c : ℕ) → length (circulant_row c) ≡ 4
length-circulant_row zero = refl
length-circulant_row (suc zero) = refl
length-circulant_row (suc (suc zero)) = refl
length-circulant_row (suc (suc (suc c))) = refl

-- ---- a setup that is always refused

pub setup_refused-decided : IsDecided setup_refused
setup_refused-decided = λ same. cc
