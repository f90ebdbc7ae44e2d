use Rattle.std.proofs.Common.{map}
use Rattle.ark_sponge.proofs.TableRows.{short_runs}
use Rattle.ark_sponge.proofs.poseidon.table.ShortPermutation.permute.Goals as goal

pub returns : goal.returns
returns g c =
    let i = c.self.inside in
    rw (← c.self.view_is) (short_runs (λ row. map g.F.Valued.value row.items) g.F.Field.MODULUS g.S.SBox.image i.alpha
    i.mds.items i.first.items i.last.items i.partial _ _ _ _ _ _ _ c.as_slice-mds.ensures.value c.deref.ensures.value
    c.deref-2.ensures.value c.apply_rounds.ensures c.apply.ensures c.apply_rounds-2.ensures)
