use Rattle.std.proofs.Common.{[], refl}
use Rattle.kept_map.specs.KeptMap.{kept_hashes}
use Rattle.kept_map.proofs.UnderHeads.{lies-under, root-found, still-under}
use Rattle.kept_map.proofs.root.root.Goals as goal

pub returns-clause-root : goal.returns-clause-root
returns-clause-root g c =
    let h = kept_hashes g.H.ArrayHash.leaf_hash g.H.ArrayHash.node_hash g.H.KeptHash.nothing_hash in
    root-found h c.args.entries.now c.args.forks.now c.args.head.now c.hash_at.result c.hash_at.ensures.digest

pub returns-clause-found : goal.returns-clause-found
returns-clause-found g c = λ xs keeps.
    let h = kept_hashes g.H.ArrayHash.leaf_hash g.H.ArrayHash.node_hash g.H.KeptHash.nothing_hash in
    c.hash_at.ensures.found c.args.head.now.entries keeps.tree []
    (lies-under h c.args.entries.now c.args.forks.now c.args.head.now xs keeps) keeps.is.stands refl

pub returns-clause-kept : goal.returns-clause-kept
returns-clause-kept g c = λ other xs keeps.
    let h = kept_hashes g.H.ArrayHash.leaf_hash g.H.ArrayHash.node_hash g.H.KeptHash.nothing_hash in
    still-under h c.args.entries.now c.args.forks.now other xs keeps c.hash_at.new.forks c.hash_at.ensures.forks
