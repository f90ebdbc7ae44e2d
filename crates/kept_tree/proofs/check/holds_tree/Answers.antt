use Rattle.std.proofs.Common.{length, refl, arith}
use Rattle.kept_tree.proofs.Lengths.{holds-here, tree_length}
use Rattle.kept_tree.proofs.check.holds_tree.Goals as goal

pub are_hashed-requires : goal.are_hashed-requires
are_hashed-requires g c = let size = tree_length (length c.args.memory.now) c.requires in omega (arith, size.1)

pub returns : goal.returns
returns g c = (
  λ _. holds-here g.H.ArrayHash.node_hash c.args.memory.now c.requires (λ i below. c.runs.invariant i (omega arith)),
  λ _. refl,
)
