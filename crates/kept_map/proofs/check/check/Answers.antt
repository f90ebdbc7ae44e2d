use Rattle.kept_map.specs.KeptMap.{kept_hashes}
use Rattle.kept_map.proofs.Checks.{map-found}
use Rattle.kept_map.proofs.check.check.Goals as goal

pub returns-clause-map : goal.returns-clause-map
returns-clause-map g c =
    let h = kept_hashes g.H.ArrayHash.leaf_hash g.H.ArrayHash.node_hash g.H.KeptHash.nothing_hash in
    map-found h c.args.entries.now c.args.forks.now c.args.head.now c.check_in.new.budget c.check_in.result
    c.if-head-entries.false c.if-head-forks.false c.check_in.ensures.tree c.check_in.ensures.digest
