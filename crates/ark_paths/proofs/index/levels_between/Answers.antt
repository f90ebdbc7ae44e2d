use Rattle.std.proofs.Common.{ℕ, ◌-◌, ap, sym}
use Rattle.ark_paths.proofs.Logs.{log2-between}
use Rattle.ark_paths.proofs.index.levels_between.Goals as goal

pub returns : goal.returns
returns c = ap (λ (k : ℕ). k - 1) (sym (log2-between c.ilog2.result c.args.size c.ilog2.ensures.power_le
    c.ilog2.ensures.next_power_gt))
