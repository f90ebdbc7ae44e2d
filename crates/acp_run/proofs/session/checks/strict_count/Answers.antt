use Rattle.std.proofs.Common.{◌≡◌, ◌∙◌, length, drop, length-drop, Ok, ap, arith}
use Rattle.ark_base.proofs.Refusals.{passed_on}
use Rattle.acp_run.specs.declared.session.replies.Finding.TheVariants.{Strict}
use Rattle.acp_run.specs.Steps.{count_of}
use Rattle.acp_run.proofs.Findings.{about-refused, about-more, about-said}
use Rattle.acp_run.proofs.session.checks.strict_count.Goals as goal

pub returns-in_err-proof : goal.returns-in_err-proof
returns-in_err-proof g c = passed_on _ _ c.from_residual.result c.in_err-proof.field-0.0 c.from_residual.ensures.1
    c.in_err-proof.ensures.exact (about-refused count_of _ _)

pub returns-then-used-bytes : goal.returns-then-used-bytes
returns-then-used-bytes g c =
    about-more count_of _ _ (drop c.in_ok-proof.used c.args.bytes.now) c.in_ok-proof.ensures.exact
    (rw length-drop (omega (arith, c.if-used-bytes.true)))

pub returns : goal.returns
returns g c =
    let indexes = c.in_ok-proof.proof.leaf_indexes in
    let count : length indexes.items ≡ c.len.result = omega (arith, c.len.ensures, indexes.ok.0) in
    about-said count_of _ _ (drop c.in_ok-proof.used c.args.bytes.now) c.in_ok-proof.ensures.exact
    (rw length-drop (omega (arith, c.if-used-bytes.false))) ∙ ap (λ n. Ok (Strict n)) count
