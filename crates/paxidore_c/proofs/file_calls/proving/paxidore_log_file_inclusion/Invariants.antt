use Rattle.paxidore_c.proofs.file_calls.proving.paxidore_log_file_inclusion.Given as goal

abbrev pub ghost-inclusion_in : goal.ghost-inclusion_in
ghost-inclusion_in g a = g.file
