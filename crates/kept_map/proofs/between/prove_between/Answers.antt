use Rattle.std.proofs.Common.{[], true, false, refl, subst}
use Rattle.kept_map.specs.Between.{between}
use Rattle.kept_map.specs.KeptMap.{kept_hashes}
use Rattle.kept_map.specs.Many.{IsWrittenAt}
use Rattle.kept_map.specs.declared.prove.ProveFault.TheVariants.{OutOfMemory}
use Rattle.kept_map.proofs.Climbing.{as-before}
use Rattle.kept_map.proofs.Betweens.{shown-between, tree-between}
use Rattle.kept_map.proofs.UnderHeads.{lies-under}
use Rattle.kept_map.proofs.between.prove_between.Goals as goal

pub returns-in_err-write_between-clause-found : goal.returns-in_err-write_between-clause-found
returns-in_err-write_between-clause-found g c = λ xs keeps.
    let h = kept_hashes g.H.ArrayHash.leaf_hash g.H.ArrayHash.node_hash g.H.KeptHash.nothing_hash in
    as-before c.from_residual.result c.in_err-write_between.field-0.0 OutOfMemory c.from_residual.ensures.1
    (c.in_err-write_between.ensures.found c.args.head.now.entries keeps.tree []
    (lies-under h c.args.entries.now c.args.forks.now c.args.head.now xs keeps) keeps.is.stands refl keeps.count)

pub returns-clause-answer : goal.returns-clause-answer
returns-clause-answer g c =
    let h = kept_hashes g.H.ArrayHash.leaf_hash g.H.ArrayHash.node_hash g.H.KeptHash.nothing_hash in
    tree-between h c.args.entries.now c.args.forks.now c.args.head.now c.args.first.now c.args.last.now
    c.write_between.new.bytes.items
    (subst (λ old. IsWrittenAt h c.args.entries.now c.args.forks.now c.args.head.now.top
    (between h false true true 0 c.args.first.now c.args.last.now) old c.write_between.new.bytes.items)
    c.new-bytes.ensures.items
    c.in_ok-write_between.ensures.written)

pub returns-clause-accepted : goal.returns-clause-accepted
returns-clause-accepted g c =
    let h = kept_hashes g.H.ArrayHash.leaf_hash g.H.ArrayHash.node_hash g.H.KeptHash.nothing_hash in
    shown-between h c.args.entries.now c.args.forks.now c.args.head.now c.args.first.now c.args.last.now
    c.write_between.new.bytes.items
    (subst (λ old. IsWrittenAt h c.args.entries.now c.args.forks.now c.args.head.now.top
    (between h false true true 0 c.args.first.now c.args.last.now) old c.write_between.new.bytes.items)
    c.new-bytes.ensures.items
    c.in_ok-write_between.ensures.written)
