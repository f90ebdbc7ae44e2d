use Rattle.std.proofs.Common.{Ok, ap, sym, ◌∙◌, arith}
use Rattle.circom.proofs.Hashing.{hashed_is}
use Rattle.circom.proofs.table.CircomTable.hash.Goals as goal

pub returns-in-Ok : goal.returns-in-Ok
returns-in-Ok c = λ parameters of.
    let short = rw (← c.self.view_is) at of.short in
    hashed_is c.args.order parameters c.args.inputs.now _ (omega (arith, c.if-inputs-ne0.false))
    (omega (arith, c.if-count-inputs.false, c.inputs.ensures.count, of.rate))
    (c.in-Ok.ensures parameters short of.capacity)
    ∙ ap Ok (sym c.element_bytes.ensures)

pub returns-in-Err : goal.returns-in-Err
returns-in-Err c = λ parameters of.
    let short = rw (← c.self.view_is) at of.short in
    hashed_is c.args.order parameters c.args.inputs.now _ (omega (arith, c.if-inputs-ne0.false))
    (omega (arith, c.if-count-inputs.false, c.inputs.ensures.count, of.rate))
    (c.in-Err.ensures parameters short of.capacity)
