use Rattle.paxidore_c.proofs.file_calls.paxidore_log_file_size.Given as goal

abbrev pub ghost-size_in : goal.ghost-size_in
ghost-size_in g a = g.file
