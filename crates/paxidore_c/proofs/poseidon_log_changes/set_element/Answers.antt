use Rattle.std.proofs.Common.{◌≡◌, [], length, Bool, true, false, nat_lt, Result, Ok, Err, refl, sym, ap, ◌∙◌, arith}
use Rattle.std.proofs.lemmas.Bool.{le-ltb, lt-ltb}
use Rattle.ark_paths.specs.Pair.{Digest}
use Rattle.circom.specs.Hash.{is_element}
use Rattle.merkle_log.specs.Kept.{has_front}
use Rattle.paxidore_calls.specs.Answer.{done_code, only_if}
use Rattle.paxidore_calls.specs.declared.refused.Refused.{Refused}
use Rattle.paxidore_calls.specs.declared.refused.Refused.TheVariants.{Index, Invalid, Size}
use Rattle.paxidore_c.proofs.Codes.{verdict-fits}
use Rattle.paxidore_c.proofs.poseidon_log_changes.set_element.Goals as goal

abbrev invalid : Result Digest Refused
invalid = Err Invalid

either : (is : Bool) → invalid ≡ only_if is Invalid invalid
either true = refl
either false = refl

pub returns-then-not-has_stored-clause-given : goal.returns-then-not-has_stored-clause-given
returns-then-not-has_stored-clause-given c =
    let none : has_front c.args.size (length c.args.kept.now) ≡ false =
    sym c.has_stored.ensures ∙ c.if-not-has_stored.true in
    (Ok [], tt, rw (c.code.ensures, verdict-fits (Err Size), none) refl)

pub returns-then-index-size-clause-given : goal.returns-then-index-size-clause-given
returns-then-index-size-clause-given c =
    let some : has_front c.args.size (length c.args.kept.now) ≡ true =
    sym c.has_stored.ensures ∙ c.if-not-has_stored.false in
    let past : nat_lt c.args.index c.args.size ≡ false = le-ltb _ _ (omega (arith, c.if-index-size.true)) in
    (Ok [], tt, rw (c.code-then-index-size.ensures, verdict-fits (Err Index), some, past) refl)

pub returns-in-Ok-clause-given : goal.returns-in-Ok-clause-given
returns-in-Ok-clause-given c =
    let some : has_front c.args.size (length c.args.kept.now) ≡ true =
    sym c.has_stored.ensures ∙ c.if-not-has_stored.false in
    let below : nat_lt c.args.index c.args.size ≡ true = lt-ltb _ _ (omega (arith, c.if-index-size.false)) in
    (Ok c.args.element.now, tt, rw (some, below, c.in-Ok.ensures.element) refl)

pub returns-in-Err-clause-given : goal.returns-in-Err-clause-given
returns-in-Err-clause-given c =
    let some : has_front c.args.size (length c.args.kept.now) ≡ true =
    sym c.has_stored.ensures ∙ c.if-not-has_stored.false in
    let below : nat_lt c.args.index c.args.size ≡ true = lt-ltb _ _ (omega (arith, c.if-index-size.false)) in
    let told = ap done_code (either (is_element c.args.element.now)) in
    (invalid, refl, rw (c.code-in-Err.ensures, verdict-fits (Err Invalid), some, below) told)
