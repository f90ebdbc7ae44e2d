use Rattle.std.proofs.Common.{◌<◌, ◌∙◌, length, drop, length-drop, ap, sym, arith}
use Rattle.std.specs.Option.{option_map}
use Rattle.acp_run.proofs.ToyLemmas.{toy_digest-more}
use Rattle.acp_run.proofs.session.toy.ToyShell.read_digest.Goals as goal

pub returns-then-used-len : goal.returns-then-used-len
returns-then-used-len c = λ p q.
    let bytes = c.in-Some.bytes.items in
    let said = sym (ap (option_map (λ bytes. bytes.items)) c.in-Some.is) ∙ c.in_ok-bytes.ensures in
    let some : 0 < length (drop c.in-Ok.used bytes) =
    rw length-drop (omega (arith, c.if-used-len.true, c.len.ensures, c.in-Some.bytes.ok.0)) in
    toy_digest-more _ bytes _ (drop c.in-Ok.used bytes) said (rw (c.deref.ensures.value) at c.in-Ok.ensures.exact) some
