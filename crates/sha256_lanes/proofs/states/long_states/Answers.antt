use Rattle.std.proofs.Common.{[], drop, take}
use Rattle.std.proofs.lemmas.Simd.{get_or-replicate}
use Rattle.sha2.specs.Sha256.{initial_hash_256, padded_message}
use Rattle.sha256_lanes.proofs.LongTextLemmas.{sha256_long}
use Rattle.sha256_lanes.proofs.states.long_states.Goals as goal

pub returns : goal.returns
returns g c = λ j lt m is.
    sha256_long m _ _ _ is.0 (get_or-replicate g.row.LANES j initial_hash_256 [] lt)
    (c.compress_blocks-middle.ensures j lt (take 64 (padded_message m)) is.1.0)
    (c.compress_blocks.ensures j lt (drop 64 (padded_message m)) is.1.1)
