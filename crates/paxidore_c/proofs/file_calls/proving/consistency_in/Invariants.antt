use Rattle.paxidore_c.proofs.file_calls.proving.consistency_in.Given as goal

abbrev pub ghosts-proof_of : goal.ghosts-proof_of
ghosts-proof_of g a = record { file = g.file; places = a.places.now; pieces = a.pieces.now; size = a.file_len }
