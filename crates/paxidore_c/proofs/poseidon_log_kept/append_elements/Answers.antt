use Rattle.std.proofs.Common.{◌≡◌, List, [], ◌++◌, length, take, subst, true, false, nat_lt, Ok, inl, inr, refl, sym, ◌∙◌, arith}
use Rattle.std.specs.List.{list_all}
use Rattle.std.proofs.lemmas.Bool.{le-ltb, lt-ltb}
use Rattle.ark_paths.specs.Pair.{Digest}
use Rattle.circom.specs.Hash.{is_element, node_outcome}
use Rattle.merkle_log.specs.Kept.{KeepsBy}
use Rattle.merkle_log.specs.Stored.{stored_count}
use Rattle.paxidore_calls.specs.KeptLog.{more_count}
use Rattle.paxidore_c.specs.PoseidonLog.{appended_by}
use Rattle.paxidore_calls.specs.declared.refused.Refused.TheVariants.{Invalid, Room, Size}
use Rattle.paxidore_c.proofs.Hashed.{refused-gives}
use Rattle.paxidore_c.proofs.KeptGiven.{any-refused, whole-read}
use Rattle.paxidore_c.proofs.poseidon_log_kept.append_elements.Goals as goal

pub returns-in-None-clause-given : goal.returns-in-None-clause-given
returns-in-None-clause-given c =
    (Ok [], tt, refused-gives _ Size c.code.result (inr (rw (c.in-None.ensures) refl)) c.code.ensures)

pub returns-then-more-count-clause-answer : goal.returns-then-more-count-clause-answer
returns-then-more-count-clause-answer c = λ parameters of leaves count keeps all.
    let short : nat_lt (length c.args.more.now) (more_count c.args.size (length c.args.elements.now)) ≡ true =
    lt-ltb _ _ (omega (arith, c.if-more-count.true, c.in-Some-more_count.ensures.1)) in
    refused-gives _ Room c.code-then-more-count.result
    (inr (rw (c.in-Some.ensures.0, c.in-Some-more_count.ensures.0, short) refl)) c.code-then-more-count.ensures

pub returns-then-more-count-clause-given : goal.returns-then-more-count-clause-given
returns-then-more-count-clause-given c =
    let short : nat_lt (length c.args.more.now) (more_count c.args.size (length c.args.elements.now)) ≡ true =
    lt-ltb _ _ (omega (arith, c.if-more-count.true, c.in-Some-more_count.ensures.1)) in (
      Ok [],
      tt,
      refused-gives _ Room c.code-then-more-count.result
          (inr (rw (c.in-Some.ensures.0, c.in-Some-more_count.ensures.0, short) refl)) c.code-then-more-count.ensures,
    )

pub returns-then-not-are_elements-clause-answer : goal.returns-then-not-are_elements-clause-answer
returns-then-not-are_elements-clause-answer c = λ parameters of leaves count keeps all.
    let roomy : nat_lt (length c.args.more.now) (more_count c.args.size (length c.args.elements.now)) ≡ false =
    le-ltb _ _ (omega (arith, c.if-more-count.false, c.in-Some-more_count.ensures.1)) in
    let none : list_all is_element c.args.elements.now ≡ false =
    sym c.are_elements.ensures ∙ c.if-not-are_elements.true in
    refused-gives _ Invalid c.code-then-not-are_elements.result
    (inr (rw (c.in-Some.ensures.0, c.in-Some-more_count.ensures.0, roomy, none) refl))
    c.code-then-not-are_elements.ensures

pub returns-then-not-are_elements-clause-given : goal.returns-then-not-are_elements-clause-given
returns-then-not-are_elements-clause-given c =
    let roomy : nat_lt (length c.args.more.now) (more_count c.args.size (length c.args.elements.now)) ≡ false =
    le-ltb _ _ (omega (arith, c.if-more-count.false, c.in-Some-more_count.ensures.1)) in
    let none : list_all is_element c.args.elements.now ≡ false =
    sym c.are_elements.ensures ∙ c.if-not-are_elements.true in (
      Ok [],
      tt,
      refused-gives _ Invalid c.code-then-not-are_elements.result
          (inr (rw (c.in-Some.ensures.0, c.in-Some-more_count.ensures.0, roomy, none) refl))
          c.code-then-not-are_elements.ensures,
    )

pub returns-in-Ok-clause-answer : goal.returns-in-Ok-clause-answer
returns-in-Ok-clause-answer c = λ parameters of leaves count keeps leaves_are.
    let roomy : nat_lt (length c.args.more.now) (more_count c.args.size (length c.args.elements.now)) ≡ false =
    le-ltb _ _ (omega (arith, c.if-more-count.false, c.in-Some-more_count.ensures.1)) in
    let all : list_all is_element c.args.elements.now ≡ true =
    sym c.are_elements.ensures ∙ c.if-not-are_elements.false in
    inl (rw (c.in-Some.ensures.0, c.in-Some-more_count.ensures.0, roomy, all) refl)

pub returns-in-Ok-clause-given : goal.returns-in-Ok-clause-given
returns-in-Ok-clause-given c =
    let roomy : nat_lt (length c.args.more.now) (more_count c.args.size (length c.args.elements.now)) ≡ false =
    le-ltb _ _ (omega (arith, c.if-more-count.false, c.in-Some-more_count.ensures.1)) in
    let all : list_all is_element c.args.elements.now ≡ true =
    sym c.are_elements.ensures ∙ c.if-not-are_elements.false in
    (Ok [], tt, inl (rw (c.in-Some.ensures.0, c.in-Some-more_count.ensures.0, roomy, all) refl))

pub returns-in-Ok-clause-grows : goal.returns-in-Ok-clause-grows
returns-in-Ok-clause-grows c = λ parameters of zero leaves count keeps.
    let grown = (rw (c.in-Some.ensures.1) at c.in-Ok.ensures.grows) parameters of leaves count keeps in
    let long : length c.in-Ok.digests.items ≡ c.len.result = omega (arith, c.len.ensures, c.in-Ok.digests.ok.0) in
    subst (λ (list : List Digest). KeepsBy (node_outcome parameters) (leaves ++ c.args.elements.now)
    (take (stored_count c.args.size) c.args.kept.now ++ list))
    (sym (whole-read c.copy_from_slice.new.self _ c.in-Ok.digests.items c.len.result
    (c.copy_from_slice.ensures.after ∙ c.deref.ensures.value) long)) grown

pub returns-in-Err-clause-given : goal.returns-in-Err-clause-given
returns-in-Err-clause-given c =
    let roomy : nat_lt (length c.args.more.now) (more_count c.args.size (length c.args.elements.now)) ≡ false =
    le-ltb _ _ (omega (arith, c.if-more-count.false, c.in-Some-more_count.ensures.1)) in
    let all : list_all is_element c.args.elements.now ≡ true =
    sym c.are_elements.ensures ∙ c.if-not-are_elements.false in
    let any = any-refused (appended_by c.args.size c.args.kept.now (length c.args.more.now) c.args.elements.now)
    (λ given. rw (c.in-Some.ensures.0, c.in-Some-more_count.ensures.0, roomy, all) refl) c.in-Err.refusal c.from.result
    c.from.ensures in
    (any.0, any.1, refused-gives _ c.from.result c.code-in-Err.result any.2 c.code-in-Err.ensures)
