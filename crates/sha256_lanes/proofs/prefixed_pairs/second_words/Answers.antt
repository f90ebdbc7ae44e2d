use Rattle.std.proofs.Common.{replicate, ◌≡◌, [], ◌∷◌, ◌++◌, ◌*◌, refl, slice_index}
use Rattle.sha2.specs.Sha256.{padding, word_at}
use Rattle.sha256_lanes.proofs.LaneLemmas.{below_sixteen}
use Rattle.sha256_lanes.proofs.prefixed_pairs.second_words.Goals as goal

pub returns : goal.returns
returns c =
    let w = c.load_last.result ∷ replicate 14 0 ++ 520 ∷ [] in
    below_sixteen (λ k. slice_index w k ≡ word_at (slice_index c.args.right.now 31 ∷ padding 65) (4 * k))
    c.load_last.ensures refl refl refl refl refl refl refl refl refl refl refl refl refl refl refl
