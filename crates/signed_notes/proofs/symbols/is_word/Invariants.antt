use Rattle.std.proofs.Common.{◌≡◌, ℕ, ◌<◌, true, slice_index}
use Rattle.signed_notes.proofs.symbols.is_word.Given as goal

abbrev pub invariant-loop-i : goal.invariant-loop-i
invariant-loop-i l = l.same ≡ true → (j : ℕ) → j < l.i → slice_index l.word j ≡ slice_index l.other j
