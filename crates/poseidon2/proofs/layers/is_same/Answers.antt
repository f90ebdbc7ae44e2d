use Rattle.std.proofs.lemmas.Bool.Decides.{Decides-eqb, same_from_decides}
use Rattle.poseidon2.proofs.layers.is_same.Goals as goal

pub returns : goal.returns
returns g c =
    let value = g.F.Valued.value in
    rw c.eq.ensures
    (same_from_decides _ _ (g.met.F.Field.equal_if_same c.args.x c.args.y)
    (Decides-eqb (value c.args.x) (value c.args.y)))
