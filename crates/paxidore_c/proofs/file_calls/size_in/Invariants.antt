use Rattle.paxidore_c.proofs.file_calls.size_in.Given as goal

abbrev pub ghosts-size_of : goal.ghosts-size_of
ghosts-size_of g a = record { file = g.file; places = a.places.now; pieces = a.pieces.now; size = a.file_len }
