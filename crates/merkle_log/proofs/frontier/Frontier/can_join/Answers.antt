use Rattle.std.proofs.Common.{◌≡◌, ◌*◌, ◌%◌, ◌^◌, arith}
use Rattle.std.proofs.lemmas.Bool.Decides.{nat_tests}
use Rattle.merkle_log.proofs.Joined.{joins, joins-none, there-where}
use Rattle.merkle_log.proofs.Subtrees.{power-fits}
use Rattle.merkle_log.proofs.frontier.Frontier.can_join.Goals as goal
use Rattle.merkle_log.proofs.frontier.Frontier.can_join.Goals.{then-other-eq0, else-other-eq0}

pub returns-then-is_aligned : goal.returns-then-is_aligned
returns-then-is_aligned g c =
    let size = c.self.inside.size in
    let more = c.other.inside.size in
    let tests = there-where c.checked_add.result _ c.checked_add.ensures in
    rw (← c.self.view_is, ← c.other.view_is, c.is_some.ensures) (
      λ some. elim c.if-other-eq0.branch [
        | then-other-eq0 w ↦ joins-none size more w.if-other-eq0.true (tests.0 some)
        | else-other-eq0 w ↦
            let level = w.ilog2.result in
            let fits = tests.0 some in
            let shift : 1 * 2 ^ level % 18446744073709551616 ≡ 2 ^ level = omega (
              arith,
              power-fits level 0 (omega
                  (arith, w.ilog2.ensures.power_le, fits)),
            ) in
            let aligned : size % (1 * 2 ^ level % 18446744073709551616) ≡ 0 = grind
            (arith, nat_tests, w.is_aligned-is, c.if-is_aligned.true) in
            joins size more level w.ilog2.ensures.power_le w.ilog2.ensures.next_power_gt (rw (← shift) aligned) fits
      ],
      λ join. tests.1 join.fits,
    )
