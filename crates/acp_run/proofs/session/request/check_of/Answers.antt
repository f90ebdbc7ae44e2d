use Rattle.acp_run.specs.Requests.{CheckPath, BindPath, CheckMultiProof, CountMultiProof, ReadStrictly}
use Rattle.acp_run.proofs.Values.{is_word, made-some, made-none}
use Rattle.acp_run.proofs.session.request.check_of.Goals as goal

pub returns-in-Some : goal.returns-in-Some
returns-in-Some g c = λ p q. rw (is_word c.args.word.now _ _ c.if-eq.ensures c.as_slice.ensures)
    (made-some _ (λ two. CheckPath two.0 two.1) _ _ _
    c.in-Some.is (c.in_ok-path.ensures (p, q) (p, q)))

pub returns-in-None : goal.returns-in-None
returns-in-None g c = λ p q. rw (is_word c.args.word.now _ _ c.if-eq.ensures c.as_slice.ensures)
    (made-none _ (λ two. CheckPath two.0 two.1) _ _
    c.in-None.is (c.in_ok-path.ensures (p, q) (p, q)))

pub returns-in-Some-2 : goal.returns-in-Some-2
returns-in-Some-2 g c = λ p q. rw (is_word c.args.word.now _ _ c.if-eq-2.ensures c.as_slice-else-eq.ensures)
    (made-some _ (λ two. BindPath two.0 two.1) _ _ _
    c.in-Some-2.is (c.in_ok-path-2.ensures (p, q) (p, q)))

pub returns-in-None-2 : goal.returns-in-None-2
returns-in-None-2 g c = λ p q. rw (is_word c.args.word.now _ _ c.if-eq-2.ensures c.as_slice-else-eq.ensures)
    (made-none _ (λ two. BindPath two.0 two.1) _ _
    c.in-None-2.is (c.in_ok-path-2.ensures (p, q) (p, q)))

pub returns-in-Some-3 : goal.returns-in-Some-3
returns-in-Some-3 g c = λ p q. rw (is_word c.args.word.now _ _ c.if-eq-3.ensures c.as_slice-else-eq-2.ensures)
    (made-some _ (λ two. CheckMultiProof two.0 two.1) _ _ _
    c.in-Some-3.is (c.in_ok-proof.ensures (p, q) (p, q)))

pub returns-in-None-3 : goal.returns-in-None-3
returns-in-None-3 g c = λ p q. rw (is_word c.args.word.now _ _ c.if-eq-3.ensures c.as_slice-else-eq-2.ensures)
    (made-none _ (λ two. CheckMultiProof two.0 two.1) _ _
    c.in-None-3.is (c.in_ok-proof.ensures (p, q) (p, q)))

pub returns-in-Some-4 : goal.returns-in-Some-4
returns-in-Some-4 g c = λ p q. rw (is_word c.args.word.now _ _ c.if-eq-4.ensures c.as_slice-else-eq-3.ensures)
    (made-some _ (λ two. CountMultiProof two.0 two.1) _ _ _
    c.in-Some-4.is (c.in_ok-proof-2.ensures (p, q) (p, q)))

pub returns-in-None-4 : goal.returns-in-None-4
returns-in-None-4 g c = λ p q. rw (is_word c.args.word.now _ _ c.if-eq-4.ensures c.as_slice-else-eq-3.ensures)
    (made-none _ (λ two. CountMultiProof two.0 two.1) _ _
    c.in-None-4.is (c.in_ok-proof-2.ensures (p, q) (p, q)))

pub returns-in-Some-5 : goal.returns-in-Some-5
returns-in-Some-5 g c = λ p q. rw (is_word c.args.word.now _ _ c.if-eq-5.ensures c.as_slice-else-eq-4.ensures)
    (made-some _ ReadStrictly _ _ _
    c.in-Some-5.is (c.in_ok-proof-3.ensures (p, q)))

pub returns-in-None-5 : goal.returns-in-None-5
returns-in-None-5 g c = λ p q. rw (is_word c.args.word.now _ _ c.if-eq-5.ensures c.as_slice-else-eq-4.ensures)
    (made-none _ ReadStrictly _ _
    c.in-None-5.is (c.in_ok-proof-3.ensures (p, q)))
