use Rattle.acp_run.specs.Requests.{NewTree, NewTreeOfDigests, NewLeaf, NewLeaves}
use Rattle.acp_run.proofs.Values.{is_word, made-some, made-none, some_left}
use Rattle.acp_run.proofs.session.request.request_of.Goals as goal

pub returns-in-Some : goal.returns-in-Some
returns-in-Some g c = λ p q. rw (
  c.first_token.ensures.tokens,
  is_word c.first_token.result.0.now _ _ c.if-eq.ensures c.as_slice.ensures,
) (made-some _ NewTree _ _ _ c.in-Some.is (some_left _ c.first_token.result.1 _ _ _ c.and.ensures
    (c.in_ok-values.ensures (p, q))))

pub returns-in-None : goal.returns-in-None
returns-in-None g c = λ p q. rw (
  c.first_token.ensures.tokens,
  is_word c.first_token.result.0.now _ _ c.if-eq.ensures c.as_slice.ensures,
) (made-none _ NewTree _ _ c.in-None.is (some_left _ c.first_token.result.1 _ _ _ c.and.ensures
    (c.in_ok-values.ensures (p, q))))

pub returns-in-Some-and : goal.returns-in-Some-and
returns-in-Some-and g c = λ p q. rw (
  c.first_token.ensures.tokens,
  is_word c.first_token.result.0.now _ _ c.if-eq-2.ensures c.as_slice-else-eq.ensures,
) (made-some _ NewTreeOfDigests _ _ _ c.in-Some-and.is (some_left _ c.first_token.result.1 _ _ _
    c.and-then-eq-2.ensures (c.in_ok-values-2.ensures (p, q))))

pub returns-in-None-and : goal.returns-in-None-and
returns-in-None-and g c = λ p q. rw (
  c.first_token.ensures.tokens,
  is_word c.first_token.result.0.now _ _ c.if-eq-2.ensures c.as_slice-else-eq.ensures,
) (made-none _ NewTreeOfDigests _ _ c.in-None-and.is (some_left _ c.first_token.result.1 _ _ _
    c.and-then-eq-2.ensures (c.in_ok-values-2.ensures (p, q))))

pub returns-in-Some-2 : goal.returns-in-Some-2
returns-in-Some-2 g c = λ p q. rw (
  c.first_token.ensures.tokens,
  is_word c.first_token.result.0.now _ _ c.if-eq-3.ensures c.as_slice-else-eq-2.ensures,
) (made-some _ (λ two. NewLeaf two.0 two.1) _ _ _ c.in-Some-2.is (c.in_ok-index.ensures tt (p, q)))

pub returns-in-None-2 : goal.returns-in-None-2
returns-in-None-2 g c = λ p q. rw (
  c.first_token.ensures.tokens,
  is_word c.first_token.result.0.now _ _ c.if-eq-3.ensures c.as_slice-else-eq-2.ensures,
) (made-none _ (λ two. NewLeaf two.0 two.1) _ _ c.in-None-2.is (c.in_ok-index.ensures tt (p, q)))

pub returns-in-Some-and-2 : goal.returns-in-Some-and-2
returns-in-Some-and-2 g c = λ p q. rw (
  c.first_token.ensures.tokens,
  is_word c.first_token.result.0.now _ _ c.if-eq-4.ensures c.as_slice-else-eq-3.ensures,
) (made-some _ NewLeaves _ _ _ c.in-Some-and-2.is (some_left _ c.first_token.result.1 _ _ _ c.and-then-eq-4.ensures
    (c.in_ok-pairs.ensures tt (p, q))))

pub returns-in-None-and-2 : goal.returns-in-None-and-2
returns-in-None-and-2 g c = λ p q. rw (
  c.first_token.ensures.tokens,
  is_word c.first_token.result.0.now _ _ c.if-eq-4.ensures c.as_slice-else-eq-3.ensures,
) (made-none _ NewLeaves _ _ c.in-None-and-2.is (some_left _ c.first_token.result.1 _ _ _ c.and-then-eq-4.ensures
    (c.in_ok-pairs.ensures tt (p, q))))
