use Rattle.log_tiles.proofs.Followed.{follows}
use Rattle.log_tiles.proofs.Sized.{smaller-first}
use Rattle.log_tiles.specs.Histories.{accepted_in}
use Rattle.log_tiles.proofs.laws.smaller_begins_larger.Goals as goal

pub returns : goal.returns
returns g c = λ events now is a b one two less.
    smaller-first (accepted_in events) a b
    (follows g.F.HeadFile.holds g.F.HeadFile.may_leave g.F.HeadFile.moment g.F.HeadFile.left_since events now is).one
    one two less
