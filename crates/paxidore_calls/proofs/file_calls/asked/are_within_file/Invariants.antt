use Rattle.std.proofs.Common.{◌≡◌, drop}
use Rattle.std.specs.List.{list_all}
use Rattle.paxidore_calls.specs.LogFiles.{lies_within}
use Rattle.paxidore_calls.proofs.file_calls.asked.are_within_file.Given as goal

abbrev pub invariant-loop-piece : goal.invariant-loop-piece
invariant-loop-piece l =
    list_all (lies_within l.file_len) l.places ≡ list_all (lies_within l.file_len) (drop l.piece-index l.places)
