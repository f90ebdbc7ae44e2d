use Rattle.std.proofs.Common.{ℕ, ◌+◌, ◌/◌, List, Vec, Global, map, slice_range, subst}
use Rattle.std.proofs.lemmas.Option.{IfSome_then}
use Rattle.ark_sponge.specs.Recurrence.{AreRounds}
use Rattle.ark_sponge.proofs.poseidon.config.PoseidonConfig.prepared.Goals as goal

pub invariant_of-self : goal.invariant_of-self
invariant_of-self g c =
    let i = c.self.inside in
    let k = c.self.invariant in
    let numbers : Vec g.row.F.Denot Global → List ℕ = λ row. map g.F.Valued.value row.items in
    let made = IfSome_then c.recurrence_between.result c.recurrence_between.ensures (λ found are p field.
    subst (λ ark. AreRounds p (map numbers i.mds.items)
    (map numbers (slice_range ark (i.full_rounds / 2) (i.full_rounds / 2 + i.partial_rounds))) found)
    c.deref.ensures.value (are p field)) in
    (k.0, k.1, k.2, k.3, k.4, k.5, k.6, k.7, made)
