use Rattle.std.proofs.Common.{◌≡◌, ◌∙◌, ap}
use Rattle.ark_base.proofs.Refusals.{passed_on}
use Rattle.ark_paths.specs.MultiPathBytes.{multi_way_of}
use Rattle.ark_paths.specs.MultiPathStrict.{is_strict}
use Rattle.ark_paths.proofs.ReceivedProofs.{provided-true}
use Rattle.ark_paths.proofs.StrictLaws.{one_spelling, each_has_one}
use Rattle.ark_paths.proofs.StrictReadings.{read_of, strict-read, strict-refused, strict-memory, refused_alike, memory_passed}
use Rattle.ark_paths.proofs.multi_path.MultiPath.read_strict.Goals as goal

pub returns-in_err-proof-clause-exact : goal.returns-in_err-proof-clause-exact
returns-in_err-proof-clause-exact g c =
    refused_alike _ _ (g.met.P.Values.multi_path_fault_is c.args.bytes.now) _ c.from_residual.result
    c.in_err-proof.field-0.0 c.from_residual.ensures.1 c.in_err-proof.ensures.exact

pub returns-in_err-check_strict-clause-exact : goal.returns-in_err-check_strict-clause-exact
returns-in_err-check_strict-clause-exact g c =
    passed_on _ _ c.from_residual-in_err-check_strict.result c.in_err-check_strict.field-0.0
    c.from_residual-in_err-check_strict.ensures.1 c.in_err-check_strict.ensures
    (strict-refused _ _ _ (g.met.P.Values.multi_path_is_read c.args.bytes.now _ c.in_ok-proof.proof
    (read_of _ _ c.in_ok-proof.ensures.exact)) c.in_err-check_strict.field-0.0)

pub returns-clause-exact : goal.returns-clause-exact
returns-clause-exact g c =
    strict-read _ _ _ (g.met.P.Values.multi_path_is_read c.args.bytes.now _ c.in_ok-proof.proof
    (read_of _ _ c.in_ok-proof.ensures.exact)) (provided-true _ _ c.in_ok-check_strict.ensures)

pub returns-clause-within : goal.returns-clause-within
returns-clause-within g c = c.in_ok-proof.ensures.within

pub returns-clause-strict : goal.returns-clause-strict
returns-clause-strict g c = provided-true _ _ c.in_ok-check_strict.ensures

pub returns-clause-spelled : goal.returns-clause-spelled
returns-clause-spelled g c = c.in_ok-proof.ensures.found.1 ∙ g.met.P.Values.multi_path_bytes_are c.in_ok-proof.proof

-- each strict multi-proof that a front of the bytes spells

pub returns-in_err-proof-clause-only : goal.returns-in_err-proof-clause-only
returns-in_err-proof-clause-only g c = λ proof n holds within spelled.
    memory_passed _ _ c.from_residual.result c.in_err-proof.field-0.0 c.from_residual.ensures.1
    (c.in_err-proof.ensures.only _ n within spelled)

pub returns-in_err-check_strict-clause-only : goal.returns-in_err-check_strict-clause-only
returns-in_err-check_strict-clause-only g c = λ proof n holds within spelled.
    let same : g.P.Views.multi_way c.in_ok-proof.proof ≡ g.P.Views.multi_way proof =
    rw g.met.P.Values.multi_path_value_is
    (ap (multi_way_of _ _) (c.in_ok-proof.ensures.only _ n within spelled).0) in
    memory_passed _ _ c.from_residual-in_err-check_strict.result c.in_err-check_strict.field-0.0
    c.from_residual-in_err-check_strict.ensures.1 (strict-memory (g.P.Views.multi_way c.in_ok-proof.proof)
    c.in_err-check_strict.field-0.0 (ap is_strict same ∙ holds) c.in_err-check_strict.ensures)

pub returns-clause-only : goal.returns-clause-only
returns-clause-only g c = λ proof n holds within spelled.
    let only = c.in_ok-proof.ensures.only _ n within spelled in
    (rw g.met.P.Values.multi_path_value_is (ap (multi_way_of _ _) only.0), only.1)

-- the laws, at each exit

pub returns-in_err-proof-clause-one_spelling : goal.returns-in_err-proof-clause-one_spelling
returns-in_err-proof-clause-one_spelling g c = one_spelling g.P.Views.multi_path_bytes

pub returns-in_err-proof-clause-each_has_one : goal.returns-in_err-proof-clause-each_has_one
returns-in_err-proof-clause-each_has_one g c = each_has_one

pub returns-in_err-check_strict-clause-one_spelling : goal.returns-in_err-check_strict-clause-one_spelling
returns-in_err-check_strict-clause-one_spelling g c = one_spelling g.P.Views.multi_path_bytes

pub returns-in_err-check_strict-clause-each_has_one : goal.returns-in_err-check_strict-clause-each_has_one
returns-in_err-check_strict-clause-each_has_one g c = each_has_one

pub returns-clause-one_spelling : goal.returns-clause-one_spelling
returns-clause-one_spelling g c = one_spelling g.P.Views.multi_path_bytes

pub returns-clause-each_has_one : goal.returns-clause-each_has_one
returns-clause-each_has_one g c = each_has_one
