use Rattle.log_tiles.proofs.Followed.{follows}
use Rattle.log_tiles.proofs.laws.accepted_are_of_one_log.Goals as goal

pub returns : goal.returns
returns g c = λ events now is.
    (follows g.F.HeadFile.holds g.F.HeadFile.may_leave g.F.HeadFile.moment g.F.HeadFile.left_since events now is).one
