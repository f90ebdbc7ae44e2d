use Rattle.merkle_map.proofs.Nodes.{same_node}
use Rattle.merkle_map.proofs.sha256.nodes_are_apart.Goals as goal

pub returns-clause-apart : goal.returns-clause-apart
returns-clause-apart c = same_node
