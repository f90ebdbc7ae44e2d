use Rattle.std.proofs.Common.{ap, sym, ◌∙◌, subst}
use Rattle.merkle_map.specs.Kept.{changed_key, giving, Undoes}
use Rattle.merkle_map.specs.Map.{Key, value_at}
use Rattle.merkle_map.specs.Transition.{change_seen}
use Rattle.merkle_map.proofs.Back.{takes-back}
use Rattle.merkle_map.proofs.kept.KeptMap.apply.Goals as goal

pub returns-clause-back : goal.returns-clause-back
returns-clause-back g c =
    let old = c.args.self.now.entries in
    let new = c.make.new.self.entries in
    let change = change_seen c.args.change.now in
    let own = giving (changed_key change) (value_at (changed_key change) old) in
    subst (Undoes old new)
    (ap (λ (key : Key). giving key (value_at key old)) (sym c.key_of.ensures)
    ∙ sym c.change_back-back.ensures)
    (takes-back change old new c.in_ok-make.ensures.changed)
