use Rattle.std.proofs.Common.{[], false, refl, subst}
use Rattle.merkle_map.specs.Pruned.{pruned}
use Rattle.kept_map.specs.KeptMap.{kept_hashes}
use Rattle.kept_map.specs.Many.{IsWrittenAt}
use Rattle.kept_map.specs.declared.prove.ProveFault.TheVariants.{OutOfMemory}
use Rattle.kept_map.proofs.Climbing.{as-before}
use Rattle.kept_map.proofs.Rising.{sorted-whole}
use Rattle.kept_map.proofs.UnderHeads.{lies-under}
use Rattle.kept_map.proofs.Written.{shown-at, tree-for}
use Rattle.kept_map.proofs.many.prove_many.Goals as goal

pub write_shown-requires-clause-sorted : goal.write_shown-requires-clause-sorted
write_shown-requires-clause-sorted g c =
    sorted-whole c.args.keys.now (c.are_rising.ensures.yes c.if-not-are_rising.false)

pub returns-in_err-write_shown-clause-found : goal.returns-in_err-write_shown-clause-found
returns-in_err-write_shown-clause-found g c = λ xs keeps rising.
    let h = kept_hashes g.H.ArrayHash.leaf_hash g.H.ArrayHash.node_hash g.H.KeptHash.nothing_hash in
    as-before c.from_residual.result c.in_err-write_shown.field-0.0 OutOfMemory c.from_residual.ensures.1
    (c.in_err-write_shown.ensures.found c.args.head.now.entries keeps.tree []
    (lies-under h c.args.entries.now c.args.forks.now c.args.head.now xs keeps) keeps.is.stands refl keeps.count)

pub returns-clause-answer : goal.returns-clause-answer
returns-clause-answer g c =
    let h = kept_hashes g.H.ArrayHash.leaf_hash g.H.ArrayHash.node_hash g.H.KeptHash.nothing_hash in
    tree-for h c.args.entries.now c.args.forks.now c.args.head.now c.args.keys.now c.write_shown.new.bytes.items
    (subst (λ old. IsWrittenAt h c.args.entries.now c.args.forks.now c.args.head.now.top
    (pruned h false false 0 c.args.keys.now) old c.write_shown.new.bytes.items) c.new-bytes.ensures.items
    c.in_ok-write_shown.ensures.written)

pub returns-clause-accepted : goal.returns-clause-accepted
returns-clause-accepted g c =
    let h = kept_hashes g.H.ArrayHash.leaf_hash g.H.ArrayHash.node_hash g.H.KeptHash.nothing_hash in
    shown-at h c.args.entries.now c.args.forks.now c.args.head.now c.args.keys.now c.write_shown.new.bytes.items
    (subst (λ old. IsWrittenAt h c.args.entries.now c.args.forks.now c.args.head.now.top
    (pruned h false false 0 c.args.keys.now) old c.write_shown.new.bytes.items) c.new-bytes.ensures.items
    c.in_ok-write_shown.ensures.written)
