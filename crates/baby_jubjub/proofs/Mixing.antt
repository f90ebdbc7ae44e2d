-- Steps of BLAKE-512's compression as the code takes them.
use Rattle.std.proofs.Common.{◌≡◌, ℕ, List, ◌+◌, ◌%◌, ◌^◌, length, map, slice_index, refl, sym, arith}
use Rattle.std.specs.List.{range_with_len}
use Rattle.std.proofs.lemmas.List.FromFn.{fill_by_all}
use Rattle.baby_jubjub.specs.Blake512.{blake_round}

-- two sums that wrap are one
pub wrapped_twice : (a b x : ℕ) → ((a + b) % 2 ^ 64 + x) % 2 ^ 64 ≡ (a + b + x) % 2 ^ 64
wrapped_twice a b x = omega arith

-- a round on a vector that is known is that round on what it is
pub round_of : (u v w s t : List ℕ) → w ≡ blake_round v s → v ≡ u → s ≡ t → w ≡ blake_round u t
round_of u v w s t e known words = rw (← known, ← words) e

-- a vector of sixteen words, word by word
pub vector_words : (v : List ℕ) → length v ≡ 16 → map (slice_index v) (range_with_len 0 16) ≡ v
vector_words v len = sym (fill_by_all (slice_index v) v 16 0 len (λ k lt. refl))
