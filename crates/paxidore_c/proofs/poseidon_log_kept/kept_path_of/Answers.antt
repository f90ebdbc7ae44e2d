use Rattle.std.proofs.Common.{◌≡◌, [], true, false, nat_lt, take, Ok, inr, refl, arith}
use Rattle.std.proofs.lemmas.Bool.{le-ltb, lt-ltb}
use Rattle.std.specs.List.{flat_map}
use Rattle.ark_base.specs.Digits.{itself}
use Rattle.circom.specs.Hash.{node_outcome}
use Rattle.circom.specs.Nodes.{refusal_error}
use Rattle.merkle_log.specs.Edge.{all_of}
use Rattle.merkle_log.specs.Log.{inclusion_path}
use Rattle.paxidore_c.specs.PoseidonLog.{kept_path_given}
use Rattle.paxidore_calls.specs.declared.refused.Refused.TheVariants.{Index, Size}
use Rattle.paxidore_c.proofs.KeptGiven.{any-refused}
use Rattle.paxidore_c.proofs.TwoInputs.{bytes-given, digests-refused, table-refused, two-given, two-gives, two-refused}
use Rattle.paxidore_c.proofs.poseidon_log_kept.kept_path_of.Goals as goal

pub returns-in-Err-clause-given : goal.returns-in-Err-clause-given
returns-in-Err-clause-given c = λ inputs parameters spells.
    (Ok [], tt, table-refused inputs _ c.in-Err.refused (c.in-Err.ensures.read inputs parameters spells))

pub returns-in-Err-clause-path : goal.returns-in-Err-clause-path
returns-in-Err-clause-path c = λ inputs parameters spells leaves le keeps.
    table-refused inputs _ c.in-Err.refused (c.in-Err.ensures.read inputs parameters spells)

pub returns-in-None-clause-given : goal.returns-in-None-clause-given
returns-in-None-clause-given c = λ inputs parameters spells.
    let table = c.in-Ok.ensures.read inputs parameters spells in
    (Ok [], tt, two-refused inputs _ Size table.0 (inr (rw (c.in-None.ensures) refl)))

pub returns-in-None-clause-path : goal.returns-in-None-clause-path
returns-in-None-clause-path c = λ inputs parameters spells leaves le keeps.
    let table = c.in-Ok.ensures.read inputs parameters spells in
    two-refused inputs _ Size table.0 (inr (rw (c.in-None.ensures) refl))

pub returns-then-size-eq0-clause-given : goal.returns-then-size-eq0-clause-given
returns-then-size-eq0-clause-given c = λ inputs parameters spells.
    let table = c.in-Ok.ensures.read inputs parameters spells in
    let none : nat_lt 0 c.args.size ≡ false = le-ltb 0 c.args.size (omega arith) in
    (Ok [], tt, two-refused inputs _ Size table.0 (inr (rw (c.in-Some.ensures.0, none) refl)))

pub returns-then-size-eq0-clause-path : goal.returns-then-size-eq0-clause-path
returns-then-size-eq0-clause-path c = λ inputs parameters spells leaves le keeps.
    let table = c.in-Ok.ensures.read inputs parameters spells in
    let none : nat_lt 0 c.args.size ≡ false = le-ltb 0 c.args.size (omega arith) in
    two-refused inputs _ Size table.0 (inr (rw (c.in-Some.ensures.0, none) refl))

pub returns-then-index-size-clause-given : goal.returns-then-index-size-clause-given
returns-then-index-size-clause-given c = λ inputs parameters spells.
    let table = c.in-Ok.ensures.read inputs parameters spells in
    let some : nat_lt 0 c.args.size ≡ true = lt-ltb 0 c.args.size (omega arith) in
    let none : nat_lt c.args.index c.args.size ≡ false = le-ltb c.args.index c.args.size c.if-index-size.true in
    (Ok [], tt, two-refused inputs _ Index table.0 (inr (rw (c.in-Some.ensures.0, some, none) refl)))

pub returns-then-index-size-clause-path : goal.returns-then-index-size-clause-path
returns-then-index-size-clause-path c = λ inputs parameters spells leaves le keeps.
    let table = c.in-Ok.ensures.read inputs parameters spells in
    let some : nat_lt 0 c.args.size ≡ true = lt-ltb 0 c.args.size (omega arith) in
    let none : nat_lt c.args.index c.args.size ≡ false = le-ltb c.args.index c.args.size c.if-index-size.true in
    two-refused inputs _ Index table.0 (inr (rw (c.in-Some.ensures.0, some, none) refl))

pub returns-in-Err-inclusion_path-clause-given : goal.returns-in-Err-inclusion_path-clause-given
returns-in-Err-inclusion_path-clause-given c = λ inputs parameters spells.
    let table = c.in-Ok.ensures.read inputs parameters spells in
    let some : nat_lt 0 c.args.size ≡ true = lt-ltb 0 c.args.size (omega (arith, c.if-index-size.false)) in
    let inside : nat_lt c.args.index c.args.size ≡ true = lt-ltb c.args.index c.args.size c.if-index-size.false in
    any-refused (kept_path_given inputs c.args.size c.args.index c.args.kept.now)
    (λ given. two-given inputs _ _ table.0 (rw (c.in-Some.ensures.0, some, inside) refl))
    c.in-Err-inclusion_path.refusal
    c.from.result c.from.ensures

pub returns-in-Err-inclusion_path-clause-path : goal.returns-in-Err-inclusion_path-clause-path
returns-in-Err-inclusion_path-clause-path c = λ inputs parameters spells leaves le keeps.
    let table = c.in-Ok.ensures.read inputs parameters spells in
    let some : nat_lt 0 c.args.size ≡ true = lt-ltb 0 c.args.size (omega (arith, c.if-index-size.false)) in
    let inside : nat_lt c.args.index c.args.size ≡ true = lt-ltb c.args.index c.args.size c.if-index-size.false in
    let outcome = all_of (inclusion_path (node_outcome parameters) [] c.args.index (take c.args.size leaves)) in
    two-refused inputs _ c.from.result table.0 (rw (c.in-Some.ensures.0, some, inside) (digests-refused outcome
    (refusal_error c.in-Err-inclusion_path.refusal) c.from.result
    ((rw (c.in-Some.ensures.1) at c.in-Err-inclusion_path.ensures) parameters table.1 leaves le keeps [])
    c.from.ensures))

pub returns-clause-given : goal.returns-clause-given
returns-clause-given c = λ inputs parameters spells.
    let table = c.in-Ok.ensures.read inputs parameters spells in
    let some : nat_lt 0 c.args.size ≡ true = lt-ltb 0 c.args.size (omega (arith, c.if-index-size.false)) in
    let inside : nat_lt c.args.index c.args.size ≡ true = lt-ltb c.args.index c.args.size c.if-index-size.false in (
      Ok (flat_map itself c.deref.result.now),
      tt,
      two-gives (λ bytes. bytes.items) inputs _ c.bytes_of_path.result table.0
          (rw (c.in-Some.ensures.0, some, inside) c.bytes_of_path.ensures),
    )

pub returns-clause-path : goal.returns-clause-path
returns-clause-path c = λ inputs parameters spells leaves le keeps.
    let table = c.in-Ok.ensures.read inputs parameters spells in
    let some : nat_lt 0 c.args.size ≡ true = lt-ltb 0 c.args.size (omega (arith, c.if-index-size.false)) in
    let inside : nat_lt c.args.index c.args.size ≡ true = lt-ltb c.args.index c.args.size c.if-index-size.false in
    let outcome = all_of (inclusion_path (node_outcome parameters) [] c.args.index (take c.args.size leaves)) in
    two-gives (λ bytes. bytes.items) inputs _ c.bytes_of_path.result table.0 (rw (c.in-Some.ensures.0, some, inside)
    (bytes-given outcome c.in-Ok-inclusion_path.path.items
    ((rw (c.in-Some.ensures.1) at c.in-Ok-inclusion_path.ensures) parameters table.1 leaves le keeps [])
    (λ bytes. bytes.items) c.bytes_of_path.result (rw (c.deref.ensures.value) at c.bytes_of_path.ensures)))
