use Rattle.std.proofs.Common.{ap, w32}
use Rattle.std.proofs.lemmas.Int.{to_z-of_z}
use Rattle.paxidore_calls.specs.Transcript.{left_by}
use Rattle.paxidore_c.proofs.transcript.paxidore_transcript_squeeze_bytes.Goals as goal

pub returns-in-Ok-clause-state : goal.returns-in-Ok-clause-state
returns-in-Ok-clause-state c =
    let fits = to_z-of_z w32 c.write_given.result (record { sfits = c.write_given.type_inv }) in
    rw fits (c.write_given.ensures.state _ (ap left_by c.in-Ok.ensures.given))
