use Rattle.paxidore_c.proofs.file_calls.paxidore_log_file_append.Given as goal

abbrev pub ghost-append_in : goal.ghost-append_in
ghost-append_in g a = g.file
