use Rattle.std.proofs.Common.{[]}
use Rattle.std.proofs.lemmas.Simd.{get_or-replicate}
use Rattle.sha2.specs.Sha256.{initial_hash_256, padded_message}
use Rattle.sha256_lanes.proofs.TextLemmas.{sha256_short}
use Rattle.sha256_lanes.proofs.states.short_states.Goals as goal

pub returns : goal.returns
returns g c = λ j lt m is.
    sha256_short m _ _ is.0 (get_or-replicate g.row.LANES j initial_hash_256 [] lt)
    (c.compress_blocks.ensures j lt (padded_message m) is.1)
