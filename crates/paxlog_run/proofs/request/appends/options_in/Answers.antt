use Rattle.std.proofs.Common.{arith}
use Rattle.paxlog_run.proofs.request.appends.options_in.Goals as goal

pub returns-clause-near : goal.returns-clause-near
returns-clause-near c =
    omega (
      arith,
      c.in_ok-one.ensures.near,
      c.in_ok-two.ensures.near,
      c.in_ok-three.ensures.near,
      c.in_ok-four.ensures.near,
      c.in_ok-five.ensures.near,
      c.in_ok-six.ensures.near,
      c.in_ok-seven.ensures.near,
      c.in_ok-options.ensures.near,
      c.in_ok-options.place-is,
      c.files_at.ensures.near,
    )
