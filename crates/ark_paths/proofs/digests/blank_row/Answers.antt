use Rattle.std.proofs.Common.{◌≡◌, ◌-◌, ◌*◌, ◌%◌, ◌^◌, suc, length, arith, ap}
use Rattle.std.proofs.lemmas.List.{length-map, length-replicate}
use Rattle.std.proofs.lemmas.Nat.{one_shl}
use Rattle.ark_paths.proofs.digests.blank_row.Goals as goal

pub returns-clause-size : goal.returns-clause-size
returns-clause-size g c =
    let digests = c.loop.digests.items in
    let blank = g.D.DigestItem.blank_numbers in
    let size : 1 * 2 ^ (c.args.height - 1) % 2 ^ 64 ≡ 2 ^ (c.args.height - 1) =
    one_shl (c.args.height - 1) 64 (omega (arith, c.requires.high)) in
    let above : c.args.height - 1 ≡ suc (c.args.height - 2) = omega (arith, c.requires.low) in (
      c.args.height - 2,
      omega (
        arith,
        length-map digests g.D.Numbered.numbers,
        ap length c.loop.invariant,
        length-replicate c.loop.counter blank,
        c.loop-test.false,
        c.loop.auto.counter-end,
        size,
        ap (λ n. 2 ^ n) above,
      ),
    )
