use Rattle.std.proofs.Common.{ℕ, List, [], ◌∷◌, ◌++◌, arith, lit<}
use Rattle.std.specs.Prelude.{replicate}
use Rattle.ark_schemes.specs.GroupHash.{group_digest, beacon}
use Rattle.ark_schemes.proofs.from_label.group_digest.Goals as goal

pub returns : goal.returns
unfolding group_digest
returns c =
    let zeros : List ℕ = replicate 8 0 in
    let label = c.args.label.now in
    let text = c.args.text.now in
    c.finalize.ensures zeros label ((beacon ++ text) ++ c.args.last ∷ [])
    (c.update-3.ensures zeros label (beacon ++ text) (omega arith)
    (c.update-2.ensures zeros label beacon (omega arith)
    (c.update.ensures zeros label [] (lit< tt) c.new-hasher.ensures)))
