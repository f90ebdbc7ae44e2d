use Rattle.std.proofs.Common.{◌≡◌, take}
use Rattle.circom.specs.Hash.{table_outcome}
use Rattle.merkle_log.specs.Frontier.{IsFrontier}
use Rattle.circom.proofs.list.root_by_frontier.Given as goal

abbrev pub invariant-elements : goal.invariant-elements
invariant-elements l = record {
  hasher : l.frontier.hasher ≡ l.initial.frontier.hasher;
  frontier : IsFrontier (table_outcome l.table) (take l.element-index l.elements) l.frontier.size l.frontier.peaks;
}
