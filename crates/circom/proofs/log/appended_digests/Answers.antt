use Rattle.std.proofs.Common.{◌≡◌, List, ◌++◌, take, subst, sym, ◌∙◌, inl, inr, arith}
use Rattle.ark_paths.specs.Pair.{Digest}
use Rattle.circom.specs.Hash.{node_outcome}
use Rattle.merkle_log.specs.Kept.{KeepsBy, RefusesAppend}
use Rattle.merkle_log.specs.Log.{NodeHash}
use Rattle.merkle_log.specs.Stored.{stored_count}
use Rattle.merkle_log.proofs.Givens.{refused_on}
use Rattle.merkle_log.proofs.Positions.{count-rises}
use Rattle.circom.specs.Nodes.{no_element_error}
use Rattle.circom.specs.declared.refusal.NodeRefusal.TheVariants.{Element, Memory}
use Rattle.circom.proofs.Closed.{no-refusal}
use Rattle.circom.proofs.Lists.{never-memory, pass-all, whole-written}
use Rattle.circom.proofs.Outcomes.{node-closed, table-node}
use Rattle.circom.proofs.log.appended_digests.Goals as goal

pub overflow_sub-count : goal.overflow_sub-count
overflow_sub-count c =
    rw (c.stored_count.ensures, c.stored_count-2.ensures) (count-rises c.size-size.result _ (omega arith))

pub returns-in_err-append_by-clause-refused : goal.returns-in_err-append_by-clause-refused
returns-in_err-append_by-clause-refused c = λ parameters of leaves count keeps leaves_are elements_are.
    let elements = c.args.elements.now in
    let same = c.new.ensures.hash ∙ table-node of in
    let error = no_element_error c.in_err-append_by.field-0.0 in
    refused_on (λ refusal. refusal ≡ Memory) c.from_residual-in_err-append_by.result Element
    c.from_residual-in_err-append_by.ensures.1 (elim c.in_err-append_by.ensures.refused [
      | inl memory ↦ absurd (never-memory c.in_err-append_by.field-0.0 memory)
      | inr refuses ↦ absurd (no-refusal (node-closed of c.requires.two) leaves elements error
          (pass-all _ leaves leaves_are) (pass-all _ elements elements_are)
          (subst (λ (hash : NodeHash). RefusesAppend hash leaves elements error) same
          (refuses leaves (count ∙ sym c.size-size.ensures.size)
          (subst (λ (hash : NodeHash). KeepsBy hash leaves c.args.kept.now.digests) (sym same) keeps))))
    ])

pub returns-clause-grows : goal.returns-clause-grows
returns-clause-grows c = λ parameters of leaves count keeps.
    let same = c.new.ensures.hash ∙ table-node of in
    let front = take (stored_count c.args.kept.now.size) c.args.kept.now.digests in
    let grown = c.in_ok-append_by.ensures.grows leaves (count ∙ sym c.size-size.ensures.size)
    (subst (λ (hash : NodeHash). KeepsBy hash leaves c.args.kept.now.digests) (sym same) keeps) in
    let long = c.append_by.ensures.length ∙ c.deref_mut.ensures.len in
    let made : c.in_ok-append_by.field-0 ≡ c.in_ok-more.more.len = omega (
      arith,
      c.in_ok-append_by.ensures.count,
      c.in_ok-more.ensures.len,
      c.stored_count.ensures,
      c.stored_count-2.ensures,
    ) in
    let Keeps : NodeHash → List Digest → Type 0 = λ hash list.
    KeepsBy hash (leaves ++ c.args.elements.now) (front ++ list) in
    subst (Keeps (node_outcome parameters))
    (whole-written c.append_by.new.more _ c.in_ok-more.more.len c.in_ok-append_by.field-0 long made)
    (subst (λ (hash : NodeHash). Keeps hash (take c.in_ok-append_by.field-0 c.append_by.new.more)) same grown)
