use Rattle.paxidore_c.proofs.file_calls.proving.inclusion_in.Given as goal

abbrev pub ghosts-path_of : goal.ghosts-path_of
ghosts-path_of g a = record { file = g.file; places = a.places.now; pieces = a.pieces.now; size = a.file_len }
