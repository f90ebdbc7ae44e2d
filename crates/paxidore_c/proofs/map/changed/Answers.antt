use Rattle.std.proofs.Common.{IfOk, IfSome, ap, map, subst, sym, ◌∙◌}
use Rattle.ark_base.specs.declared.error.Error.{Error}
use Rattle.ark_base.specs.Laws.Steps.{done_injective}
use Rattle.ark_base.specs.Outcome.{◌>>=◌, AnswersBy}
use Rattle.merkle_map.specs.Bytes.{tree_of_bytes}
use Rattle.merkle_map.specs.Sha256.{sha256_map}
use Rattle.merkle_map.specs.Transition.{change_seen, changed_rows, rows_found, LeadsTo}
use Rattle.paxidore_c.specs.Maps.{changes_of}
use Rattle.paxidore_c.proofs.MapLemmas.{led}
use Rattle.paxidore_c.proofs.map.changed.Goals as goal

pub returns-clause-answer : goal.returns-clause-answer
returns-clause-answer c =
    let own = map change_seen c.deref.result.now in
    let wanted = changes_of c.args.keys.now c.args.values.now in
    let root = c.args.root.now in
    let tree = c.in_ok-tree.tree in
    subst (λ o. AnswersBy (rows_found (λ rows. rows.items)) o c.rows_after.result)
    (ap (λ h. changed_rows h root own tree) c.new-hasher.ensures.hashes
    ∙ ap (λ changes. changed_rows sha256_map root changes tree) (ap (map change_seen) c.deref.ensures.value
    ∙ sym (done_injective {E = Error} wanted (map change_seen c.in_ok-changes.changes.items) c.in_ok-changes.ensures))
    ∙ sym (ap (λ o. o >>= changed_rows sha256_map root wanted) c.in_ok-tree.ensures.answer))
    c.rows_after.ensures.answer

pub returns-clause-leads : goal.returns-clause-leads
returns-clause-leads c =
    let own = map change_seen c.deref.result.now in
    let wanted = changes_of c.args.keys.now c.args.values.now in
    let root = c.args.root.now in
    led (λ made. made.0) root (tree_of_bytes c.args.tree.now) c.in_ok-tree.tree own wanted c.rows_after.result
    c.in_ok-tree.ensures.answer
    (ap (map change_seen) c.deref.ensures.value
    ∙ sym (done_injective {E = Error} wanted (map change_seen c.in_ok-changes.changes.items) c.in_ok-changes.ensures))
    (subst (λ h. IfOk c.rows_after.result (λ found. IfSome found (λ made. LeadsTo h root made.0 c.in_ok-tree.tree own)))
    c.new-hasher.ensures.hashes c.rows_after.ensures.bound)
