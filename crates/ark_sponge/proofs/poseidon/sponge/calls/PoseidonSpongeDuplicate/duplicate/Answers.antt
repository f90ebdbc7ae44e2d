use Rattle.std.proofs.Common.{◌≡◌, ℕ, List, map, Ok, sym, ap, ◌∙◌}
use Rattle.std.proofs.lemmas.List.Elements.{same_from_all_zip}
use Rattle.ark_base.specs.Laws.Steps.{done_injective}
use Rattle.ark_base.specs.Outcome.{Outcome}
use Rattle.ark_sponge.specs.Permutation.{Parameters}
use Rattle.ark_sponge.specs.Sponge.{Sponge}
use Rattle.ark_sponge.proofs.poseidon.sponge.calls.PoseidonSpongeDuplicate.duplicate.Goals as goal

pub returns : goal.returns
returns g c =
    let f = g.F.Valued.value in
    let clones = g.met.F.Field.clones in
    let i = c.self.inside in
    let items = same_from_all_zip g.F.Clone.is_clone i.state.items c.in_ok-state.state.items
    c.in_ok-state.ensures.cases.0 (λ x y clone. sym (clones x y clone)) in
    let make : List ℕ → Outcome Sponge = λ t. Ok (record { parameters = i.parameters; state = t; mode = i.mode }) in
    let over : Parameters → Outcome Sponge =
    λ p. Ok (record { parameters = p; state = map f c.in_ok-state.state.items; mode = i.mode }) in
    let parameters : i.parameters ≡ c.in_ok-parameters.parameters =
    done_injective i.parameters c.in_ok-parameters.parameters c.in_ok-parameters.ensures in
    rw (← c.self.view_is) (ap make (ap (map f) (sym items)) ∙ ap over parameters)
