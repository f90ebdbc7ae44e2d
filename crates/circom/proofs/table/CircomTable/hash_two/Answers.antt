use Rattle.std.proofs.Common.{ap, arith}
use Rattle.circom.proofs.Hashing.{by_table_is, node_is}
use Rattle.circom.proofs.table.CircomTable.hash_two.Goals as goal

pub returns-clause-hash : goal.returns-clause-hash
returns-clause-hash c = rw (← c.self.view_is) (λ parameters of.
    node_is parameters c.args.left.now c.args.right.now c.element_bytes.result _ _ _ c.in-Ok.ensures
    c.in-Ok-element_of.ensures (c.hash_state-digest.ensures.hash parameters of.short of.capacity)
    c.element_bytes.ensures)

pub returns-clause-table : goal.returns-clause-table
returns-clause-table c = rw (← c.self.view_is) (by_table_is _ c.args.left.now c.args.right.now
    c.element_bytes.result _ _
    _ c.in-Ok.ensures c.in-Ok-element_of.ensures (omega (
      arith,
      c.inputs.ensures.count,
      c.if-inputs-ne2.false,
      ap (λ table. table.inputs) c.self.view_is,
    ))
    c.hash_state-digest.ensures.first c.element_bytes.ensures)
