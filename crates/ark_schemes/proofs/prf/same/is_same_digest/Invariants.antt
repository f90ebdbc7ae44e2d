use Rattle.std.proofs.Common.{◌≡◌, ℕ, ◌<◌, slice_index_or}
use Rattle.std.specs.Bool.{Decides}
use Rattle.ark_schemes.proofs.prf.same.is_same_digest.Given as goal

-- the places so far have equal bytes
abbrev pub invariant-loop-i : goal.invariant-loop-i
invariant-loop-i l =
    Decides l.same ((j : ℕ) → j < l.i → slice_index_or l.a j 0 ≡ slice_index_or l.b j 0)
