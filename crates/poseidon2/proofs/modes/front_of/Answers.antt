use Rattle.std.proofs.Common.{◌∙◌, ap, sym, map}
use Rattle.std.proofs.lemmas.List.{take-map}
use Rattle.poseidon2.proofs.modes.front_of.Goals as goal

pub returns : goal.returns
returns g c =
    ap (map g.F.Valued.value) c.truncate.ensures.items ∙ sym (take-map g.F.Valued.value c.args.count c.args.state.items)
