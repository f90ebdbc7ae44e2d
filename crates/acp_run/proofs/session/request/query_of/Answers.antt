use Rattle.std.proofs.Common.{◌∙◌, Some, ap, sym}
use Rattle.std.specs.Option.{option_copied}
use Rattle.std.proofs.lemmas.List.{map-id}
use Rattle.acp_run.specs.Arguments.{none_left}
use Rattle.acp_run.specs.Lines.{tokens_left}
use Rattle.acp_run.specs.Requests.{ShowRoot, ShowProof, ShowMultiProof}
use Rattle.acp_run.proofs.Values.{is_word, made-some, made-none, none_left-more}
use Rattle.acp_run.proofs.session.request.query_of.Goals as goal

pub returns-in-Some : goal.returns-in-Some
returns-in-Some g c = λ p q. rw (is_word c.args.word.now _ _ c.if-eq.ensures c.as_slice.ensures)
    (none_left-more ShowRoot
    c.in-Some.field-0.now ∙ ap (λ o. none_left ShowRoot (tokens_left (option_copied o))) (sym c.in-Some.is))

pub returns-in-None : goal.returns-in-None
returns-in-None g c = λ p q. rw (is_word c.args.word.now _ _ c.if-eq.ensures c.as_slice.ensures)
    (ap (λ o. none_left ShowRoot (tokens_left (option_copied o))) (sym c.in-None.is))

pub returns-in-Some-2 : goal.returns-in-Some-2
returns-in-Some-2 g c = λ p q. rw (is_word c.args.word.now _ _ c.if-eq-2.ensures c.as_slice-else-eq.ensures)
    (made-some _ ShowProof _
    _ _ c.in-Some-2.is (c.in_ok-index.ensures tt))

pub returns-in-None-2 : goal.returns-in-None-2
returns-in-None-2 g c = λ p q. rw (is_word c.args.word.now _ _ c.if-eq-2.ensures c.as_slice-else-eq.ensures)
    (made-none _ ShowProof _
    _ c.in-None-2.is (c.in_ok-index.ensures tt))

pub returns-in-Some-3 : goal.returns-in-Some-3
returns-in-Some-3 g c = λ p q. rw (is_word c.args.word.now _ _ c.if-eq-3.ensures c.as_slice-else-eq-2.ensures)
    (ap (λ xs. Some (ShowMultiProof xs)) (sym (map-id c.in-Some-3.indexes.items)) ∙ made-some _ ShowMultiProof _ _ _
    c.in-Some-3.is (c.in_ok-indexes.ensures tt))

pub returns-in-None-3 : goal.returns-in-None-3
returns-in-None-3 g c = λ p q. rw (is_word c.args.word.now _ _ c.if-eq-3.ensures c.as_slice-else-eq-2.ensures)
    (made-none _
    ShowMultiProof _ _ c.in-None-3.is (c.in_ok-indexes.ensures tt))
