use Rattle.paxidore_c.proofs.file_calls.append_in.Given as goal

abbrev pub ghosts-size_of : goal.ghosts-size_of
ghosts-size_of g a = record { file = g.file; places = a.places.now; pieces = a.pieces.now; size = a.file_len }

abbrev pub ghosts-hand_over_growth : goal.ghosts-hand_over_growth
ghosts-hand_over_growth g a = record { file = g.file; places = a.places.now; pieces = a.pieces.now; size = a.file_len }
