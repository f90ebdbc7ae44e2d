-- A pair hash with two weights.
use Rattle.std.specs.Prelude.{ℕ, ◌+◌, ◌*◌, ◌%◌, [], ◌∷◌, Ok}
use Rattle.ark_paths.specs.Pair.{HashPair}
use Rattle.ark_trees.specs.Toy.{toy_number}

-- the sum of two numbers, each times its weight, modulo 257
abbrev pub weighted_sum : ℕ → ℕ → ℕ → ℕ → ℕ
weighted_sum x y a b = (x * a % 257 + y * b % 257) % 257

-- the same of two digests, at the leaves and above
abbrev pub weighted : ℕ → ℕ → HashPair
weighted x y = record {
  bottom = λ a b. Ok (weighted_sum x y (toy_number a) (toy_number b) ∷ []);
  upper = λ a b. Ok (weighted_sum x y (toy_number a) (toy_number b) ∷ []);
}
