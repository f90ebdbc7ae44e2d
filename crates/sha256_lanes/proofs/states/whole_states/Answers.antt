use Rattle.std.proofs.Common.{[]}
use Rattle.std.proofs.lemmas.Simd.{get_or-replicate}
use Rattle.sha2.specs.Sha256.{initial_hash_256}
use Rattle.sha256_lanes.proofs.PairLemmas.{sha256_whole}
use Rattle.sha256_lanes.proofs.states.whole_states.Goals as goal

pub returns : goal.returns
returns g c = λ j lt m is.
    sha256_whole m _ _ _ is.0 (get_or-replicate g.row.LANES j initial_hash_256 [] lt)
    (c.compress_blocks-middle.ensures j lt m is.1) (c.compress_padding.ensures j lt)
