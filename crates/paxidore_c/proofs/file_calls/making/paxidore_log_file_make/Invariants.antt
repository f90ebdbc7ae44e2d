use Rattle.paxidore_c.proofs.file_calls.making.paxidore_log_file_make.Given as goal

abbrev pub ghost-made_in : goal.ghost-made_in
ghost-made_in g a = g.file
