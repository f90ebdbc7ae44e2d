use Rattle.std.proofs.Common.{◌≡◌, ◌+◌, ◌-◌, ◌*◌, take, drop, ap, ◌∙◌, arith}
use Rattle.log_store.proofs.Sounding.{ahead-at}
use Rattle.log_store.proofs.ahead.digest_in.Goals as goal

pub returns : goal.returns
returns g c = λ obeys ahead inside.
    let file = g.D.Disk.seen c.args.disk.now in
    let start = c.args.ahead.now.start in
    let place = c.args.position - start in
    let there : start + place ≡ c.args.position = omega (arith, c.if-position-ahead.false) in
    c.digest_of.ensures
    ∙ ahead-at start c.args.ahead.now.count place c.args.ahead.now.bytes file ahead
    (omega (arith, c.if-place-ahead.false))
    ∙ ap (λ n. take 32 (drop (96 + 32 * n) file)) there
