use Rattle.std.proofs.Common.{◌<◌, length, drop, length-drop, arith}
use Rattle.acp_run.proofs.Findings.{alone_of-more}
use Rattle.acp_run.proofs.session.proofs.whole_proof.Goals as goal

pub returns-then-used-bytes : goal.returns-then-used-bytes
returns-then-used-bytes g c =
    let rest = drop c.in_ok-proof.used c.args.bytes.now in
    let some : 0 < length rest = rw length-drop (omega (arith, c.if-used-bytes.true)) in
    alone_of-more _ _ _ _ rest (λ read. g.met.T.Proof.numbers_are c.args.bytes.now rest c.in_ok-proof.proof read)
    c.in_ok-proof.ensures.exact some
