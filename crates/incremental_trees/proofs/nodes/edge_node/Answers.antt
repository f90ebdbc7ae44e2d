use Rattle.std.proofs.Common.{◌≡◌, ◌*◌, ◌/◌, ◌^◌, ap, sym, ◌∙◌, arith}
use Rattle.std.proofs.lemmas.Nat.{shl-shr}
use Rattle.incremental_trees.proofs.Halves.{halved-whole}
use Rattle.incremental_trees.proofs.Edges.{edge-empty}
use Rattle.incremental_trees.proofs.nodes.edge_node.Goals as goal

pub empty-preserved : goal.empty-preserved
empty-preserved g c = record {
  within = omega arith;
  whole = halved-whole c.args.size c.empty.count c.empty.level c.empty.invariant.whole (omega arith);
}

pub returns : goal.returns
returns g c = λ empty leaves depth long le empties filled.
    let level = c.empty.level in
    let count_is : c.args.size / 2 ^ level ≡ c.empty.count =
    ap (λ n. n / 2 ^ level) c.empty.invariant.whole ∙ shl-shr c.empty.count level in
    let whole : c.args.size ≡ c.args.size / 2 ^ level * 2 ^ level =
    c.empty.invariant.whole ∙ ap (λ n. n * 2 ^ level) (sym count_is) in
    c.edge_from.ensures empty leaves depth long le empties filled
    (edge-empty (record { long = long; empties_are = empties; filled_are = filled }) level
    (omega (arith, c.empty.invariant.within)) whole ∙ c.in_ok-node.ensures)
