use Rattle.std.proofs.Common.{◌∙◌, ◌-◌, sym, arith}
use Rattle.ark_paths.proofs.StrictIndexes.{rising-end}
use Rattle.ark_paths.proofs.multi_path.strict.are_rising.Goals as goal

pub returns : goal.returns
returns c = sym (c.loop-place.invariant ∙ rising-end c.args.numbers.now (c.loop-place.place - 1)
    (omega (arith, c.loop-place.auto.place)))
