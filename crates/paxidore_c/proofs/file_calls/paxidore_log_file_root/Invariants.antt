use Rattle.paxidore_c.proofs.file_calls.paxidore_log_file_root.Given as goal

abbrev pub ghost-root_in : goal.ghost-root_in
ghost-root_in g a = g.file
