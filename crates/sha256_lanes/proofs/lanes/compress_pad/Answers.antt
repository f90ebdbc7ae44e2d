use Rattle.std.proofs.Common.{◌∙◌, ap, refl}
use Rattle.sha2.specs.Sha256.{add_state, compress, rounds}
use Rattle.sha256_lanes.proofs.lanes.compress_pad.Goals as goal

pub returns : goal.returns
unfolding compress rounds
returns g c =
    let h = c.args.h in
    let s1 = c.padded_turn-v.ensures h refl in
    let s2 = c.padded_turn-v-2.ensures h s1 in
    let s3 = c.padded_turn-v-3.ensures h s2 in
    c.add_state.ensures ∙ ap (add_state h) (c.padded_turn-v-4.ensures h s3)
