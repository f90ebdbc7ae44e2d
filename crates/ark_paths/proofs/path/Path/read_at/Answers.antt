use Rattle.std.proofs.Common.{◌∙◌, inr, sym, arith}
use Rattle.ark_base.proofs.Refusals.{passed_on}
use Rattle.ark_paths.proofs.ReceivedProofs.{refused_alike, received-fault, received-read}
use Rattle.ark_paths.proofs.StrictReadings.{read_of}
use Rattle.ark_paths.proofs.path.Path.read_at.Goals as goal

pub returns-in_err-path : goal.returns-in_err-path
returns-in_err-path g c =
    let reading = g.P.Views.path_reading c.args.bytes.now in
    let error = c.in_err-path.field-0.0 in
    passed_on _ _ c.from_residual.result error c.from_residual.ensures.1 c.in_err-path.ensures.exact
    (λ refused. received-fault c.args.size c.args.index reading (sym c.is_tree_size.ensures.test
    ∙ c.if-not-is_tree_size.false) error (refused_alike _ reading (g.met.P.Values.path_fault_is c.args.bytes.now)
    error refused))

pub returns-in_err-is_fit : goal.returns-in_err-is_fit
returns-in_err-is_fit g c =
    passed_on _ _ c.from_residual-in_err-is_fit.result c.in_err-is_fit.field-0.0
    c.from_residual-in_err-is_fit.ensures.1
    (inr (received-read c.args.size c.args.index (g.P.Views.path_reading c.args.bytes.now)
    (sym c.is_tree_size.ensures.test ∙ c.if-not-is_tree_size.false) g.P.InnerDigest.Numbered.numbers
    c.in_ok-path.path.auth_path.items
    (g.met.P.Values.path_is_read c.args.bytes.now _ c.in_ok-path.path (read_of _ _ c.in_ok-path.ensures.exact))
    (λ i. g.met.P.Views.way_is i c.in_ok-path.path) (omega (arith, c.in_ok-path.path.auth_path.ok.0, c.len.ensures))
    c.is_asked-is_asked.ensures (sym c.in_err-is_fit.was ∙ (rw c.rest_of.ensures at c.is_fit.ensures)))) (λ is. is)

pub returns : goal.returns
returns g c =
    received-read c.args.size c.args.index (g.P.Views.path_reading c.args.bytes.now)
    (sym c.is_tree_size.ensures.test ∙ c.if-not-is_tree_size.false) g.P.InnerDigest.Numbered.numbers
    c.in_ok-path.path.auth_path.items
    (g.met.P.Values.path_is_read c.args.bytes.now _ c.in_ok-path.path (read_of _ _ c.in_ok-path.ensures.exact))
    (λ i. g.met.P.Views.way_is i c.in_ok-path.path) (omega (arith, c.in_ok-path.path.auth_path.ok.0, c.len.ensures))
    c.is_asked-is_asked.ensures (sym c.in_ok-is_fit.was ∙ (rw c.rest_of.ensures at c.is_fit.ensures))
