use Rattle.std.proofs.Common.{arith}
use Rattle.std.proofs.lemmas.List.{length-map, map-set}
use Rattle.ark_merkle.proofs.Batches.{AreChanges-inside, put_so_far-more, put_so_far-inside}
use Rattle.ark_merkle.proofs.tree.changes.put_changes.Goals as goal

pub exchange-requires : goal.exchange-requires
exchange-requires g c = rw length-map at (put_so_far-inside g.D.Numbered.numbers _ _ _ _ _ c.loop-n.invariant
    c.index_mut.result.now (omega (arith, c.loop-n.invariant.count, c.args.changes.ok.0)) c.index_mut.ensures.value
    (AreChanges-inside g.D.Numbered.numbers c.args.digests.now c.args.changes.items c.requires))

pub loop-n-preserved : goal.loop-n-preserved
loop-n-preserved g c = rw (c.exchange.ensures, map-set) (put_so_far-more g.D.Numbered.numbers _ _ _ _ _
    c.loop-n.invariant c.index_mut.result.now (omega (arith, c.loop-n.invariant.count, c.args.changes.ok.0))
    c.index_mut.ensures.value _)
