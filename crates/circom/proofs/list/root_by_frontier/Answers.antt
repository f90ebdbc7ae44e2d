use Rattle.std.proofs.Common.{◌≡◌, ◌++◌, ◌∷◌, List, [], take, Ok, get_or, inl, inr, refl, ap, sym, subst, ◌∙◌, arith}
use Rattle.std.proofs.lemmas.List.{length-take-le, take_all, take_more}
use Rattle.ark_base.specs.declared.error.Error.TheVariants.{OutOfMemory}
use Rattle.ark_paths.specs.Pair.{Digest}
use Rattle.circom.specs.Hash.{is_element, node_outcome, table_outcome}
use Rattle.merkle_log.specs.Frontier.{IsFrontier, RefusesPeak}
use Rattle.merkle_log.specs.Log.{NodeHash, merkle_tree_hash}
use Rattle.merkle_log.proofs.Givens.{given-each, refused_on}
use Rattle.circom.proofs.Closed.{pass-at, pass-take}
use Rattle.circom.proofs.Fronts.{frontier-none, no-peak, no-root-refusal, only-memory, root-any_empty}
use Rattle.circom.proofs.Lists.{pass-all}
use Rattle.circom.proofs.Outcomes.{node-closed, table-node}
use Rattle.circom.proofs.list.root_by_frontier.Goals as goal

pub elements-init : goal.elements-init
elements-init c = record {
  hasher = refl;
  frontier = rw (c.new-frontier.ensures) (frontier-none (table_outcome c.args.table.now));
}

pub append-requires : goal.append-requires
append-requires c =
    let i = c.elements.element-index in
    omega (
      arith,
      c.elements.invariant.frontier.size_is,
      length-take-le i c.args.elements.now c.elements.auto.element-index-end,
      c.elements-test.true,
      c.requires.fits,
    )

pub returns-in_err-append-clause-memory : goal.returns-in_err-append-clause-memory
returns-in_err-append-clause-memory c = λ parameters of.
    let elements = c.args.elements.now in
    let i = c.elements.element-index in
    let own = c.elements.frontier in
    let error = c.in_err-append.field-0.0 in
    let all = pass-all is_element elements c.requires.all in
    let same : table_outcome own.hasher.table.now ≡ table_outcome c.args.table.now =
    ap (λ h. table_outcome h.table.now) (c.elements.invariant.hasher ∙ ap (λ f. f.hasher) c.new-frontier.ensures)
    ∙ c.new.ensures.hash in
    let front = subst (λ (hash : NodeHash). IsFrontier hash (take i elements) own.size own.peaks) (table-node of)
    c.elements.invariant.frontier in
    refused_on (λ error. error ≡ OutOfMemory) c.from_residual.result error c.from_residual.ensures.1
    (elim c.in_err-append.ensures.refused [
      | inl memory ↦ memory
      | inr refuses ↦ absurd (no-peak (node-closed of c.requires.two) (take i elements) own.peaks own.size
          (get_or elements i []) error (pass-take is_element i elements all)
          (pass-at is_element elements i all c.elements-test.true) front
          (subst (λ (hash : NodeHash). RefusesPeak hash own.size own.peaks (get_or elements i []) error)
          (same ∙ table-node of) refuses))
    ])

pub elements-preserved : goal.elements-preserved
elements-preserved c =
    let elements = c.args.elements.now in
    let i = c.elements.element-index in
    let own = c.elements.frontier in
    let new = c.append.new.self in
    let same : table_outcome own.hasher.table.now ≡ table_outcome c.args.table.now =
    ap (λ h. table_outcome h.table.now) (c.elements.invariant.hasher ∙ ap (λ f. f.hasher) c.new-frontier.ensures)
    ∙ c.new.ensures.hash in
    let grown = c.in_ok-append.ensures.appended (take i elements)
    (subst (λ (hash : NodeHash). IsFrontier hash (take i elements) own.size own.peaks) (sym same)
    c.elements.invariant.frontier) in
    record {
      hasher = c.in_ok-append.ensures.hasher ∙ c.elements.invariant.hasher;
      frontier = subst (λ (list : List Digest). IsFrontier (table_outcome c.args.table.now) list new.size new.peaks)
          (sym (take_more elements i [] c.elements-test.true))
          (subst (λ (hash : NodeHash). IsFrontier hash (take i elements ++ (get_or elements i [] ∷ [])) new.size
          new.peaks) same grown);
    }

pub returns-clause-root : goal.returns-clause-root
returns-clause-root c = λ parameters of empty.
    let elements = c.args.elements.now in
    let own = c.elements.frontier in
    let same : table_outcome own.hasher.table.now ≡ table_outcome c.args.table.now =
    ap (λ h. table_outcome h.table.now) (c.elements.invariant.hasher ∙ ap (λ f. f.hasher) c.new-frontier.ensures)
    ∙ c.new.ensures.hash in
    let front = subst (λ (list : List Digest). IsFrontier (table_outcome own.hasher.table.now) list own.size own.peaks)
    (take_all c.elements.element-index elements c.elements-test.false)
    (subst (λ (hash : NodeHash). IsFrontier hash (take c.elements.element-index elements) own.size own.peaks)
    (sym same) c.elements.invariant.frontier) in
    given-each (λ error. error) (λ digest. digest) (merkle_tree_hash (table_outcome own.hasher.table.now) own.empty
    elements) c.root.result (λ root. merkle_tree_hash (node_outcome parameters) empty elements ≡ Ok root)
    (c.root.ensures elements front) (λ value is.
    ap (λ (hash : NodeHash). merkle_tree_hash hash empty elements) (sym (same ∙ table-node of))
    ∙ root-any_empty (table_outcome own.hasher.table.now) empty own.empty elements c.requires.some ∙ is)

pub returns-clause-memory : goal.returns-clause-memory
returns-clause-memory c = λ parameters of.
    let elements = c.args.elements.now in
    let own = c.elements.frontier in
    let hash = table_outcome own.hasher.table.now in
    let same : hash ≡ table_outcome c.args.table.now =
    ap (λ h. table_outcome h.table.now) (c.elements.invariant.hasher ∙ ap (λ f. f.hasher) c.new-frontier.ensures)
    ∙ c.new.ensures.hash in
    let front = subst (λ (list : List Digest). IsFrontier hash list own.size own.peaks)
    (take_all c.elements.element-index elements c.elements-test.false)
    (subst (λ (hash : NodeHash). IsFrontier hash (take c.elements.element-index elements) own.size own.peaks)
    (sym same) c.elements.invariant.frontier) in
    only-memory (λ digest. digest) (merkle_tree_hash hash own.empty elements) c.root.result
    (c.root.ensures elements front) (λ error refused.
    no-root-refusal (node-closed of c.requires.two) own.empty elements error c.requires.some
    (pass-all is_element elements c.requires.all)
    (ap (λ (hash : NodeHash). merkle_tree_hash hash own.empty elements) (sym (same ∙ table-node of)) ∙ refused))
