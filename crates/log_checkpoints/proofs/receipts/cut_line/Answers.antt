use Rattle.std.proofs.Common.{◌+◌, arith, add-one}
use Rattle.std.proofs.lemmas.List.{take_rest}
use Rattle.signed_notes.proofs.Cuts.{cut-at, cut-none}
use Rattle.log_checkpoints.proofs.receipts.cut_line.Goals as goal

pub returns-in-Some : goal.returns-in-Some
returns-in-Some c =
    let found = c.in-Some.ensures in
    let is = cut-at 10 c.args.bytes.now c.in-Some.end found.0.high found.1
    (λ k lt here. found.0.before k (omega arith) lt here) in
    rw (take_rest c.args.bytes.now (c.in-Some.end + 1)) (rw add-one is)

pub returns-in-None : goal.returns-in-None
returns-in-None c = cut-none 10 c.args.bytes.now (λ k lt here. c.in-None.ensures k (omega arith) lt here)
