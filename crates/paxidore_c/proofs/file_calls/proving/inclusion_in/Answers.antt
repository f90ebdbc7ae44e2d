use Rattle.std.proofs.Common.{◌∙◌, Ok, ap, sym}
use Rattle.std.specs.List.{flat_map}
use Rattle.ark_base.specs.Digits.{itself}
use Rattle.paxidore_calls.specs.KeptLog.{bytes_of_digests, inclusion_bytes}
use Rattle.paxidore_calls.proofs.LogCalls.{as-read, needs-by, stands-by}
use Rattle.paxidore_c.proofs.file_calls.proving.inclusion_in.Goals as goal

pub returns-clause-path : goal.returns-clause-path
returns-clause-path g c = λ read leaves log.
    let own = as-read g.file c.args.file_len c.args.places_len.now c.ask.new.places_len c.args.places.now
    c.ask.new.places c.args.pieces.now c.in_ok-ask.ensures.uncounted c.in_ok-ask.ensures.kept read in
    stands-by c.hand_over_digests.result (inclusion_bytes c.args.size c.args.index leaves)
    (flat_map itself c.deref.result.now) _ _ _ _ c.hand_over_digests.ensures.handed
    (ap bytes_of_digests (c.in_ok-proof.ensures.path own.0 own.1 leaves log ∙ ap Ok (sym c.deref.ensures.value)))

pub returns-clause-room_needed : goal.returns-clause-room_needed
returns-clause-room_needed g c = λ read leaves log some room.
    let own = as-read g.file c.args.file_len c.args.places_len.now c.ask.new.places_len c.args.places.now
    c.ask.new.places c.args.pieces.now c.in_ok-ask.ensures.uncounted c.in_ok-ask.ensures.kept read in
    needs-by c.hand_over_digests.result (inclusion_bytes c.args.size c.args.index leaves)
    (flat_map itself c.deref.result.now) _ _ _ _ c.hand_over_digests.ensures.handed
    (ap bytes_of_digests (c.in_ok-proof.ensures.path own.0 own.1 leaves log ∙ ap Ok (sym c.deref.ensures.value))) room
