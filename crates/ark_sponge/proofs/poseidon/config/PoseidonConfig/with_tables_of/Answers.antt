use Rattle.std.proofs.Common.{ℕ, ◌+◌, ◌/◌, List, Vec, Global, map, slice_range, refl, sym, ◌∙◌}
use Rattle.std.proofs.lemmas.Option.{IfSome_then}
use Rattle.ark_groups.specs.Field.{IsField}
use Rattle.ark_sponge.specs.Recurrence.{ShortRounds, AreRounds}
use Rattle.ark_sponge.proofs.Tables.{of_copy, rounds_alike}
use Rattle.ark_sponge.proofs.poseidon.config.PoseidonConfig.with_tables_of.Goals as goal

pub invariant_of-self : goal.invariant_of-self
invariant_of-self g c =
    let f = g.F.Valued.value in
    let i = c.self.inside in
    let j = c.other.inside in
    let k = c.self.invariant in
    let numbers : Vec g.row.F.Denot Global → List ℕ = λ row. map f row.items in
    let rounds : ShortRounds → Type 0 = λ r. (p : ℕ) → IsField p f → AreRounds p (map numbers i.mds.items)
    (map numbers (slice_range i.ark.items (i.full_rounds / 2) (i.full_rounds / 2 + i.partial_rounds))) r in
    let made = of_copy rounds c.copy_of_recurrence.result j.recurrence c.copy_of_recurrence.ensures
    (IfSome_then j.recurrence c.other.invariant.8 (λ found are. rounds_alike f numbers _ _ i.mds.items i.ark.items
    j.mds.items j.ark.items (c.self.view_is ∙ c.requires ∙ sym c.other.view_is) refl refl refl refl found are)) in
    (k.0, k.1, k.2, k.3, k.4, k.5, k.6, k.7, made)
