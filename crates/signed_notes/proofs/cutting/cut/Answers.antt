use Rattle.std.proofs.Common.{◌+◌, arith, add-one}
use Rattle.std.proofs.lemmas.List.{take_rest}
use Rattle.signed_notes.proofs.Cuts.{cut-at, cut-none}
use Rattle.signed_notes.proofs.cutting.cut.Goals as goal

pub returns-in-Some-clause-parts : goal.returns-in-Some-clause-parts
returns-in-Some-clause-parts c =
    let found = c.in-Some.ensures in
    let is = cut-at c.args.mark c.args.bytes.now c.in-Some.end found.0.high found.1
    (λ k lt here. found.0.before k (omega arith) lt here) in
    rw (take_rest c.args.bytes.now (c.in-Some.end + 1)) (rw add-one is)

pub returns-in-None-clause-parts : goal.returns-in-None-clause-parts
returns-in-None-clause-parts c =
    cut-none c.args.mark c.args.bytes.now (λ k lt here. c.in-None.ensures k (omega arith) lt here)
