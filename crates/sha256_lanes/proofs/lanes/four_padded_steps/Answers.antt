use Rattle.std.proofs.Common.{ap, ◌∙◌, arith}
use Rattle.sha2.specs.Sha256.{rounds}
use Rattle.sha256_lanes.specs.Lanes.{pad_schedule}
use Rattle.sha256_lanes.proofs.lanes.four_padded_steps.Goals as goal

pub returns : goal.returns
returns c = λ h held.
    let after = rounds h pad_schedule in
    let s1 = c.padded_step-v.ensures h held in
    let s2 = c.padded_step-v-2.ensures h s1 in
    let s3 = c.padded_step-v-3.ensures h (s2 ∙ ap after (omega arith)) in
    c.padded_step.ensures h (s3 ∙ ap after (omega arith)) ∙ ap after (omega arith)
