use Rattle.std.proofs.Common.{length, arith}
use Rattle.ark_merkle.proofs.LevelOrder.{count-fits, rows-put}
use Rattle.ark_merkle.proofs.tree.levels.Levels.of_rows.Goals as goal

pub put_in_order-requires : goal.put_in_order-requires
put_in_order-requires g c = record {
  fits = count-fits _ (length c.args.digests.items) c.requires (omega (arith, c.args.digests.ok.0));
  whole = rw c.deref_mut.ensures.value c.requires;
}

pub invariant_of-result : goal.invariant_of-result
invariant_of-result g c = (rows-put g.D.Numbered.numbers c.args.count c.args.digests _ _ c.deref_mut.ensures.value
    c.put_in_order.ensures c.requires).1

pub returns : goal.returns
returns g c = (rows-put g.D.Numbered.numbers c.args.count c.args.digests _ _ c.deref_mut.ensures.value
    c.put_in_order.ensures c.requires).0
