use Rattle.log_store.proofs.edge.root_at.Goals as goal

pub returns : goal.returns
returns g c = λ obeys leaves le inside keeps. c.root_with.ensures leaves le keeps
    (c.in_ok-peaks.ensures obeys inside)
