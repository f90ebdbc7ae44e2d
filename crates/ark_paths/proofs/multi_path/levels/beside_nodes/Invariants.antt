use Rattle.std.proofs.Common.{◌≡◌, length, map}
use Rattle.ark_paths.specs.Rows.{digests_of}
use Rattle.ark_paths.proofs.NodeBeside.{AreFound}
use Rattle.ark_paths.proofs.multi_path.levels.beside_nodes.Given as goal

abbrev pub invariant-nodes : goal.invariant-nodes
invariant-nodes g l = record {
  many : length l.beside.items ≡ l.node;
  found : AreFound l.prefixes (map (digests_of g.D.Numbered.numbers) l.suffixes) l.depth l.firsts l.node
      (map (λ x. g.D.Numbered.numbers x.now) l.beside.items);
}
