use Rattle.std.proofs.Common.{ℕ, List, map, Ok, sym, ap}
use Rattle.std.proofs.lemmas.List.Elements.{same_from_all_zip}
use Rattle.ark_base.specs.Outcome.{Outcome}
use Rattle.ark_sponge.specs.Sponge.{SpongeState}
use Rattle.ark_sponge.proofs.poseidon.sponge.state.PoseidonSpongeStateDuplicate.duplicate.Goals as goal

pub returns : goal.returns
returns g c =
    let f = g.F.Valued.value in
    let clones = g.met.F.Field.clones in
    let i = c.self.inside in
    let items = same_from_all_zip g.F.Clone.is_clone i.state.items c.in_ok-state.state.items
    c.in_ok-state.ensures.cases.0 (λ x y clone. sym (clones x y clone)) in
    let make : List ℕ → Outcome SpongeState = λ t. Ok (record { state = t; mode = i.mode }) in
    rw (← c.self.view_is) (ap make (ap (map f) (sym items)))
