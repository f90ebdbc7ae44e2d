use Rattle.paxidore_c.proofs.file_calls.root_in.Given as goal

abbrev pub ghosts-root_of : goal.ghosts-root_of
ghosts-root_of g a = record { file = g.file; places = a.places.now; pieces = a.pieces.now; size = a.file_len }
