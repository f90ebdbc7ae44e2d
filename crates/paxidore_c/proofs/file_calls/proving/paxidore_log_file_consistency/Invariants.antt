use Rattle.paxidore_c.proofs.file_calls.proving.paxidore_log_file_consistency.Given as goal

abbrev pub ghost-consistency_in : goal.ghost-consistency_in
ghost-consistency_in g a = g.file
