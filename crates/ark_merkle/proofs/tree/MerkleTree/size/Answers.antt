use Rattle.std.proofs.Common.{◌∙◌, sym}
use Rattle.std.proofs.lemmas.List.{length-map}
use Rattle.ark_paths.specs.Root.{upper_levels}
use Rattle.ark_paths.specs.Rows.{digests_of}
use Rattle.ark_merkle.proofs.tree.MerkleTree.size.Goals as goal

pub returns-clause-power : goal.returns-clause-power
returns-clause-power g c =
    let leaves = c.self.inside.leaves in
    let long = c.len.ensures ∙ leaves.ok.0 ∙ sym (length-map leaves.items g.P.LeafDigest.Numbered.numbers) in
    (upper_levels (digests_of g.P.LeafDigest.Numbered.numbers leaves), long ∙ c.self.invariant.size)
