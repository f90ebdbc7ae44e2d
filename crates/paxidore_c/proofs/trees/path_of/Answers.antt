use Rattle.std.proofs.Common.{◌≡◌, length, nat_lt, true, false, arith, inr, refl}
use Rattle.std.proofs.lemmas.Bool.{le-ltb, lt-ltb}
use Rattle.paxidore_calls.specs.Hashing.{hashing_by}
use Rattle.paxidore_calls.proofs.TreeLemmas.{path-made, path-refused}
use Rattle.paxidore_c.proofs.trees.path_of.Goals as goal

pub returns-then-index-size : goal.returns-then-index-size
returns-then-index-size g c =
    let leaves = c.in_ok-tree.tree.leaves in
    let past : nat_lt c.args.index (length leaves) ≡ false =
    le-ltb c.args.index (length leaves) (omega (arith, c.if-index-size.true, c.size.ensures.size)) in
    inr (path-refused (hashing_by g.H.ArrayHash.leaf_hash g.H.ArrayHash.node_hash) c.args.leaves.now
    c.args.lengths.now c.args.index leaves
    c.in_ok-tree.ensures past)

pub returns : goal.returns
returns g c =
    let leaves = c.in_ok-tree.tree.leaves in
    let below : nat_lt c.args.index (length leaves) ≡ true =
    lt-ltb c.args.index (length leaves) (omega (arith, c.if-index-size.false, c.size.ensures.size)) in
    path-made (hashing_by g.H.ArrayHash.leaf_hash g.H.ArrayHash.node_hash) c.args.leaves.now c.args.lengths.now
    c.args.index leaves c.in_ok-tree.ensures
    below _ refl _ c.in_ok-path.ensures.proof
    c.in_ok-canonical_bytes.field-0.items c.in_ok-canonical_bytes.ensures.spelled.1
