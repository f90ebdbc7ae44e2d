use Rattle.log_tiles.proofs.Followed.{any-two}
use Rattle.log_tiles.proofs.laws.quorums_meet.Goals as goal

pub returns : goal.returns
returns c = λ signed honest p q a b honests meet first second.
    let w = meet first.0 second.0 first.1 second.1 in
    any-two (signed w.0) a b (honests w.0 w.1) (first.2 w.0 w.2) (second.2 w.0 w.3)
