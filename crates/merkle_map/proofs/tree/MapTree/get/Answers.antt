use Rattle.std.proofs.Common.{ap, sym, ◌∙◌}
use Rattle.merkle_map.specs.Changes.{known_at}
use Rattle.merkle_map.proofs.Calls.{found-has}
use Rattle.merkle_map.proofs.tree.MapTree.get.Goals as goal

pub returns-clause-maps : goal.returns-clause-maps
returns-clause-maps g c =
    found-has (λ value. value.now) c.args.self.now c.args.key.now c.find_top.result
    (ap (known_at 0 c.args.key.now) (sym c.self.view_is) ∙ c.find_top.ensures)
