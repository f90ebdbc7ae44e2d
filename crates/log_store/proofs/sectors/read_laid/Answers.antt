use Rattle.std.proofs.Common.{◌≡◌, ◌≤◌, ◌+◌, ◌-◌, ◌∙◌, length, take, drop, ap, sym, arith}
use Rattle.std.proofs.lemmas.List.{length-drop}
use Rattle.merkle_log.proofs.Givens.{known_if_ok}
use Rattle.log_store.specs.Sectors.{laid}
use Rattle.log_store.proofs.Laid.{laid-behind, laid-front, laid-long}
use Rattle.log_store.proofs.sectors.read_laid.Goals as goal

pub returns-then-at-ge-START : goal.returns-then-at-ge-START
returns-then-at-ge-START g c = λ obeys inside.
    let file = g.D.Disk.seen c.args.disk.now in
    let n = length c.args.into.now in
    let spread = c.is_dense.ensures.spread c.if-is_dense.false in
    let two : 96 + (c.args.at - 96) ≡ c.args.at = omega (arith, c.if-at-ge-START.true) in
    known_if_ok c.read_behind.result (λ read. read
    ∙ ap (take n) (sym (laid-behind c.args.layout file (c.args.at - 96) spread))
    ∙ ap (λ p. take n (drop p (laid c.args.layout file))) two)
    (c.read_behind.ensures obeys (omega (
      arith,
      inside,
      two,
      laid-long c.args.layout file spread,
      length-drop 8192 file,
    )))

pub returns : goal.returns
returns g c = λ obeys inside.
    let file = g.D.Disk.seen c.args.disk.now in
    let n = length c.args.into.now in
    let spread = c.is_dense.ensures.spread c.if-is_dense.false in
    let low : c.args.at + n ≤ 96 = omega (arith, c.if-at-ge-START.false, c.if-into-at.false) in
    c.copy_head.ensures
    ∙ ap (λ h. take n (drop c.args.at h)) (c.in_ok-head.ensures obeys (c.in_default.ensures obeys))
    ∙ sym (laid-front c.args.layout file c.args.at n spread low)
