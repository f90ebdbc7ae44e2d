use Rattle.std.proofs.Common.{◌≡◌, List, ℕ, drop, length}
use Rattle.paxidore_calls.specs.Plan.{IsReadOf}
use Rattle.paxidore_calls.proofs.file_calls.replay.copy_piece.Given as goal

abbrev pub invariant-loop-piece : goal.invariant-loop-piece
invariant-loop-piece l =
    ((file : List ℕ) → IsReadOf l.fn.places l.fn.pieces file → IsReadOf (drop l.piece-index l.places) l.rest file)
    × (length l.into ≡ length l.fn.into)
