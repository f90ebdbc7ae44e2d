use Rattle.ark_sponge.proofs.RowAt.{sums-put_mid}
use Rattle.ark_sponge.proofs.poseidon.duplex.add_row_at.Goals as goal

pub returns-clause-sums : goal.returns-clause-sums
returns-clause-sums g c =
    sums-put_mid g.F.Valued.value g.F.Field.MODULUS c.args.state.now c.add_row.new.state c.args.row.now c.args.place
    c.add_row.ensures
