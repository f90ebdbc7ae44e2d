use Rattle.std.proofs.Common.{◌≡◌, ◌+◌, ◌∙◌, length, take, drop, ap, sym, arith}
use Rattle.std.proofs.lemmas.List.{drop-drop, length-drop}
use Rattle.merkle_log.proofs.Givens.{known_if_ok}
use Rattle.log_store.proofs.sectors.read_behind.Goals as goal

pub returns-in-Some : goal.returns-in-Some
returns-in-Some g c = λ obeys inside.
    let file = g.D.Disk.seen c.args.disk.now in
    let is : c.in-Some.place ≡ 8192 + c.args.behind = omega (arith, c.in-Some.ensures) in
    known_if_ok c.read_piece.result (λ read. read
    ∙ ap (λ p. take (length c.args.into.now) (drop p file)) is
    ∙ ap (take (length c.args.into.now)) (sym (drop-drop c.args.behind 8192 file)))
    (c.read_piece.ensures obeys (omega (arith, is, inside, length-drop 8192 file)))
