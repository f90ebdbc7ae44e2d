use Rattle.std.proofs.Common.{◌≡◌, ◌∙◌, ap, map, Ok}
use Rattle.ark_sponge.specs.Mode.{mode_index}
use Rattle.paxidore_calls.proofs.Written.{state-written}
use Rattle.paxidore_calls.specs.Transcript.{elements_bytes, field_size, is_squeezing}
use Rattle.paxidore_calls.proofs.transcript.writing.sponge_state_bytes.Goals as goal

pub returns : goal.returns
returns g c =
    let f = field_size g.F.Field.MODULUS g.F.Field.MODULUS_BIT_SIZE in
    let written : elements_bytes f (map g.F.Valued.value c.state.result.now) ≡ c.in_ok-bytes.bytes.items =
    cc c.in_ok-bytes.ensures in
    ap Ok (state-written f c.args.sponge.now (map g.F.Valued.value c.state.result.now) c.in_ok-bytes.bytes.items
    c.serialize.new.dest.items c.index_and_squeezing.result c.state.ensures written
    (c.index_and_squeezing.ensures.index ∙ ap mode_index c.mode.ensures)
    (c.index_and_squeezing.ensures.squeezes ∙ ap is_squeezing c.mode.ensures) c.in_ok-serialize.ensures.appended)
