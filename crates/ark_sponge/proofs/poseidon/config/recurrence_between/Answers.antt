use Rattle.std.proofs.Common.{map, slice_range, subst}
use Rattle.std.proofs.lemmas.Option.{IfSome_then}
use Rattle.ark_sponge.specs.Recurrence.{AreRounds}
use Rattle.ark_sponge.proofs.Recurrences.{one_modulus}
use Rattle.ark_sponge.proofs.poseidon.config.recurrence_between.Goals as goal

pub returns : goal.returns
returns g c =
    let f = g.F.Valued.value in
    let p = g.F.Field.MODULUS in
    let mds = map (λ row. map f row.items) c.args.mds.now.items in
    let rows = map (λ row. map f row.items) (slice_range c.args.ark.now c.args.start c.args.end) in
    IfSome_then c.recurrence_of.result c.recurrence_of.ensures (λ found are q field.
    subst (λ m. AreRounds m mds rows found) (one_modulus f p q g.met.F.Field.laws field)
    (subst (λ m. AreRounds p (map (λ row. map f row.items) m) rows found) c.deref.ensures.value are))
