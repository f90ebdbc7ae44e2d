use Rattle.std.proofs.Common.{◌∙◌, [], length, take, drop, get_or, ap, arith}
use Rattle.paxidore_calls.proofs.Plans.{piece-of, piece-read}
use Rattle.paxidore_calls.proofs.file_calls.replay.copy_piece.Goals as goal

pub returns-then-into-count : goal.returns-then-into-count
returns-then-into-count c = λ yes file read.
    let piece = get_or c.args.places.now c.loop-piece.piece-index [] in
    let place = get_or piece 0 0 in
    let count = get_or piece 1 0 in
    let same = c.loop-piece.invariant.1 in
    c.copy_part.ensures ∙ piece-of c.args.at place count (length c.loop-piece.into) c.loop-piece.rest.now file
    (omega (arith, c.if-place-at.true))
    (omega (arith, c.if-place-at.true, c.if-at-place.true, c.if-into-count.true))
    (piece-read c.loop-piece.piece-index c.args.places.now c.loop-piece.rest.now file
    (omega (arith, c.loop-piece-test.true)) (c.loop-piece.invariant.0 file read))
    ∙ ap (λ n. take n (drop c.args.at file)) same
