use Rattle.std.proofs.Common.{List, [], length, inl, refl, sym, ap, subst, arith}
use Rattle.std.proofs.lemmas.List.{take_all}
use Rattle.ark_paths.specs.Pair.{Digest}
use Rattle.circom.specs.Hash.{node_outcome}
use Rattle.merkle_log.specs.Given.{GivesBy}
use Rattle.merkle_log.specs.Kept.{KeepsBy}
use Rattle.merkle_log.specs.Edge.{all_of}
use Rattle.merkle_log.specs.Log.{inclusion_path}
use Rattle.merkle_log.proofs.Givens.{given_on}
use Rattle.circom.specs.Nodes.{refusal_error}
use Rattle.circom.proofs.Lists.{keeps-none}
use Rattle.circom.proofs.list.path_of_elements.Goals as goal

pub returns-in_err-kept-clause-path : goal.returns-in_err-kept-clause-path
returns-in_err-kept-clause-path c = λ parameters of elements_are empty.
    given_on {P = ⊥} _ _ _ c.from_residual.result c.in_err-kept.field-0.0 c.from_residual.ensures.1
    (inl (ap refusal_error ((rw (c.new.ensures) at c.in_err-kept.ensures.refused) parameters of [] refl
    (keeps-none (node_outcome parameters)) refl elements_are))) (λ none. absurd none)

pub returns-clause-path : goal.returns-clause-path
unfolding lib.Count.ones
returns-clause-path c = λ parameters of elements_are empty.
    let elements = c.args.elements.now in
    let keeps : KeepsBy (node_outcome parameters) elements c.in_ok-kept.kept.items =
    (rw (c.new.ensures) at c.in_ok-kept.ensures.grows) parameters of [] refl (keeps-none (node_outcome parameters)) in
    let kept = subst (KeepsBy (node_outcome parameters) elements) (sym c.deref.ensures.value) keeps in
    let given = (rw (c.new-2.ensures) at c.inclusion_path.ensures) parameters of elements (omega arith) kept empty in
    subst (λ (list : List Digest). GivesBy refusal_error (λ path. path.items)
    (all_of (inclusion_path (node_outcome parameters) empty c.args.index list)) c.inclusion_path.result)
    (take_all (length elements) elements (omega arith)) given
