use Rattle.std.proofs.Common.{[], ap, ◌∙◌, subst}
use Rattle.ark_base.specs.declared.error.Error.{Error}
use Rattle.ark_base.specs.Laws.Steps.{done_injective}
use Rattle.merkle_map.specs.Map.{IsMap, value_at}
use Rattle.merkle_map.specs.Parts.{shape}
use Rattle.merkle_map.specs.Whole.{entries_of}
use Rattle.merkle_map.proofs.Keeping.{store-found}
use Rattle.merkle_map.proofs.Wholes.{whole-map}
use Rattle.merkle_map.proofs.kept.KeptMap.get.Goals as goal

pub returns-in-Ok-clause-found : goal.returns-in-Ok-clause-found
returns-in-Ok-clause-found g c =
    let own = shape g.H.Output.Numbered.numbers c.self.inside.top in
    let key = c.args.key.now in
    let is = store-found (g.H.MapViews.hashes c.self.inside.hasher) own key c.self.invariant.stands
    c.self.invariant.whole _ c.in-Ok.ensures in
    done_injective {E = Error} _ (value_at key (entries_of own)) is ∙ ap (λ map. value_at key map.entries)
    c.self.view_is

pub returns-in-Err-clause-found : goal.returns-in-Err-clause-found
returns-in-Err-clause-found g c =
    let own = shape g.H.Output.Numbered.numbers c.self.inside.top in
    let is = store-found (g.H.MapViews.hashes c.self.inside.hasher) own c.args.key.now
    c.self.invariant.stands c.self.invariant.whole _ c.in-Err.ensures in
    absurd cc

pub returns-in-Ok-clause-once : goal.returns-in-Ok-clause-once
returns-in-Ok-clause-once g c =
    subst (λ map. IsMap map.entries) c.self.view_is
    (whole-map [] (shape g.H.Output.Numbered.numbers c.self.inside.top) c.self.invariant.stands)

pub returns-in-Err-clause-once : goal.returns-in-Err-clause-once
returns-in-Err-clause-once g c =
    subst (λ map. IsMap map.entries) c.self.view_is
    (whole-map [] (shape g.H.Output.Numbered.numbers c.self.inside.top) c.self.invariant.stands)
