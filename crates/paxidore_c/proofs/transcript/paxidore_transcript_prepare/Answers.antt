use Rattle.std.proofs.Common.{w32}
use Rattle.std.proofs.lemmas.Int.{to_z-of_z}
use Rattle.paxidore_calls.proofs.Written.{gives-itself, handed, seen}
use Rattle.paxidore_calls.specs.Transcript.{ServeAs}
use Rattle.paxidore_c.proofs.transcript.paxidore_transcript_prepare.Goals as goal

pub returns-clause-serve : goal.returns-clause-serve
returns-clause-serve c =
    let hands = c.hand_over.ensures (seen (λ bytes. bytes.items) c.prepared_over.result)
    (gives-itself (λ bytes. bytes.items) c.prepared_over.result) in
    let fits = to_z-of_z w32 c.hand_over.result (record { sfits = c.hand_over.type_inv }) in
    rw fits (handed (λ bytes. bytes.items) (ServeAs c.args.field c.args.parameters.now)
    c.prepared_over.result _ _ _ _ c.hand_over.result c.prepared_over.ensures.serve hands)
