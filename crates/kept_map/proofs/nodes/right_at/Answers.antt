use Rattle.std.proofs.Common.{[], get_or, ap, ◌∙◌}
use Rattle.std.proofs.lemmas.List.{take_rest}
use Rattle.ark_base.specs.Digits.{number_of_bytes}
use Rattle.kept_map.proofs.nodes.right_at.Goals as goal

pub returns : goal.returns
returns c = c.read_number.ensures ∙ ap number_of_bytes (take_rest (get_or c.args.forks.now c.args.place []) 40)
