use Rattle.paxidore_c.proofs.file_calls.making.made_in.Given as goal

abbrev pub ghosts-made_of : goal.ghosts-made_of
ghosts-made_of g a = record { file = g.file; places = a.places.now; pieces = a.pieces.now; size = a.file_len }
