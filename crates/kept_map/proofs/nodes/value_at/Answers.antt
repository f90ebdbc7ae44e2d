use Rattle.std.proofs.Common.{[], get_or, ◌∙◌}
use Rattle.std.proofs.lemmas.List.{take_rest}
use Rattle.kept_map.proofs.nodes.value_at.Goals as goal

pub returns : goal.returns
returns c = c.copy_from_slice.ensures.after ∙ take_rest (get_or c.args.entries.now c.args.place []) 32
