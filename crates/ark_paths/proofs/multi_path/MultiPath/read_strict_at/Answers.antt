use Rattle.std.proofs.Common.{◌∙◌, inr, sym, refl}
use Rattle.ark_base.proofs.Refusals.{passed_on}
use Rattle.ark_paths.proofs.ReceivedProofs.{received-multi-fault, received-multi-read}
use Rattle.ark_paths.proofs.multi_path.MultiPath.read_strict_at.Goals as goal

pub returns-in_err-proof : goal.returns-in_err-proof
returns-in_err-proof g c =
    let error = c.in_err-proof.field-0.0 in
    passed_on _ _ c.from_residual.result error c.from_residual.ensures.1 c.in_err-proof.ensures.exact
    (received-multi-fault c.args.size c.args.indexes.now (g.P.Views.multi_path_reading c.args.bytes.now)
    (sym c.is_tree_size.ensures.test ∙ c.if-not-is_tree_size.false) error)

pub returns-in_err-is_fit_for : goal.returns-in_err-is_fit_for
returns-in_err-is_fit_for g c =
    passed_on _ _ c.from_residual-in_err-is_fit_for.result c.in_err-is_fit_for.field-0.0
    c.from_residual-in_err-is_fit_for.ensures.1
    (inr (received-multi-read c.args.size c.args.indexes.now (g.P.Views.multi_path_reading c.args.bytes.now)
    (sym c.is_tree_size.ensures.test ∙ c.if-not-is_tree_size.false) g.P.LeafDigest.Numbered.numbers
    g.P.InnerDigest.Numbered.numbers c.in_ok-proof.proof.leaf_siblings_hashes.items
    c.in_ok-proof.proof.auth_paths_suffixes.items c.in_ok-proof.ensures.exact
    (λ i. g.met.P.Views.multi_way_is i c.in_ok-proof.proof) refl (sym c.in_err-is_fit_for.was
    ∙ (rw (c.rest_of.ensures, c.deref.ensures.value, c.deref-2.ensures.value) at c.is_fit_for.ensures)))) (λ is. is)

pub returns : goal.returns
returns g c =
    received-multi-read c.args.size c.args.indexes.now (g.P.Views.multi_path_reading c.args.bytes.now)
    (sym c.is_tree_size.ensures.test ∙ c.if-not-is_tree_size.false) g.P.LeafDigest.Numbered.numbers
    g.P.InnerDigest.Numbered.numbers c.in_ok-proof.proof.leaf_siblings_hashes.items
    c.in_ok-proof.proof.auth_paths_suffixes.items c.in_ok-proof.ensures.exact
    (λ i. g.met.P.Views.multi_way_is i c.in_ok-proof.proof) refl (sym c.in_ok-is_fit_for.was
    ∙ (rw (c.rest_of.ensures, c.deref.ensures.value, c.deref-2.ensures.value) at c.is_fit_for.ensures))
