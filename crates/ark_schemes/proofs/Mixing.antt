-- Steps of the compression function as the code takes them.
use Rattle.std.proofs.Common.{◌≡◌, ℕ, List, ◌+◌, ◌%◌, ◌^◌, length, map, slice_index, refl, sym, arith}
use Rattle.std.specs.List.{range_with_len}
use Rattle.std.proofs.lemmas.List.FromFn.{fill_by_all}
use Rattle.ark_schemes.specs.Blake2s.{round}

-- two sums that wrap are one
pub wrapped_twice : (a b x : ℕ) → ((a + b) % 2 ^ 32 + x) % 2 ^ 32 ≡ (a + b + x) % 2 ^ 32
wrapped_twice a b x = omega arith

-- a round on a vector that is known is that round on what it is
pub round_of : (u v w s : List ℕ) → w ≡ round v s → v ≡ u → w ≡ round u s
round_of u v w s e known = rw (← known) e

-- a vector of sixteen words, word by word
pub vector_words : (v : List ℕ) → length v ≡ 16 → map (slice_index v) (range_with_len 0 16) ≡ v
vector_words v len = sym (fill_by_all (slice_index v) v 16 0 len (λ k lt. refl))
