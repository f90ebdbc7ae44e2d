use Rattle.std.proofs.Common.{Some, None, IfOk, subst}
use Rattle.merkle_map.specs.Bytes.{tree_of_bytes}
use Rattle.merkle_map.specs.Order.{HasNext, pair_seen}
use Rattle.paxidore_c.proofs.MapLemmas.{found-gives}
use Rattle.paxidore_c.proofs.map.paxidore_map_next.Goals as goal

pub returns-in-Ok-Some-clause-answer : goal.returns-in-Ok-Some-clause-answer
returns-in-Ok-Some-clause-answer c =
    found-gives c.args.tree.now c.args.first.now c.args.last.now c.in-Ok-Some.field-0 (Some c.in-Ok-Some.found)
    c.in-Ok-Some.field-0-is c.in-Ok-Some.ensures.answer

pub returns-in-Ok-Some-clause-found : goal.returns-in-Ok-Some-clause-found
returns-in-Ok-Some-clause-found c = λ zero.
    subst (λ found. IfOk (tree_of_bytes c.args.tree.now) (λ t. HasNext t c.args.first.now c.args.last.now
    (pair_seen found))) c.in-Ok-Some.field-0-is c.in-Ok-Some.ensures.maps

pub returns-in-Ok-None-clause-answer : goal.returns-in-Ok-None-clause-answer
returns-in-Ok-None-clause-answer c =
    found-gives c.args.tree.now c.args.first.now c.args.last.now c.in-Ok-None.field-0 None c.in-Ok-None.field-0-is
    c.in-Ok-None.ensures.answer

pub returns-in-Ok-None-clause-none : goal.returns-in-Ok-None-clause-none
returns-in-Ok-None-clause-none c = λ one.
    subst (λ found. IfOk (tree_of_bytes c.args.tree.now) (λ t. HasNext t c.args.first.now c.args.last.now
    (pair_seen found))) c.in-Ok-None.field-0-is c.in-Ok-None.ensures.maps
