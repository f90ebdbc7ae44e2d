use Rattle.std.proofs.Common.{◌≡◌, ◌+◌, ◌-◌, ◌*◌, replicate, refl, ◌∙◌, arith, subst}
use Rattle.std.proofs.lemmas.List.{length-set}
use Rattle.ark_groups.specs.Group.{times}
use Rattle.ark_groups.specs.Words.{number}
use Rattle.edwards.specs.Laws.Points.{Point, points}
use Rattle.edwards.specs.Cached.{IsCached}
use Rattle.edwards.specs.Extended.{Stands}
use Rattle.edwards.proofs.OddMultiples.{once, two_more, first_odd, next_odd}
use Rattle.edwards.proofs.public.odd_multiples.Goals as goal

pub loop-i-init : goal.loop-i-init
loop-i-init g c = (
  refl,
  λ d k is_twice s of_a.
      let p = number g.M.WideModulus.P in
      let e = c.to_cached-table.result in (
        subst (λ (q : Point p d k). Stands c.args.a q.at) (once p d k s) of_a,
        first_odd d k s e (replicate 7 e) (c.to_cached-table.ensures d is_twice s.at of_a),
      ),
)

pub loop-i-preserved : goal.loop-i-preserved
loop-i-preserved g c =
    let before = c.loop-i in
    let i = before.i in (
      length-set before.table i c.to_cached.result ∙ before.invariant.0,
      λ d k is_twice s of_a.
          let p = number g.M.WideModulus.P in
          let so_far = before.invariant.1 d k is_twice s of_a in
          let last : Point p d k = times (points p d k) (2 * i - 1) s in
          let double : Point p d k = (points p d k).plus s s in
          let next : Point p d k = times (points p d k) (2 * (i + 1) - 1) s in
          let of_next : Stands c.plus_cached-last.result next.at =
          subst (λ (q : Point p d k). Stands c.plus_cached-last.result q.at)
          (two_more p d k i s (omega (arith, before.auto.i)))
          (c.plus_cached-last.ensures d k last.at double.at last.on double.on so_far.0
          (c.to_cached-by.ensures d is_twice double.at (c.doubled.ensures d k s.at s.on of_a))) in
          let same : 2 * (i + 1) - 1 ≡ 2 * i + 1 = omega arith in (
            of_next,
            next_odd d k s before.table i c.to_cached.result
                (omega (arith, before.invariant.0, c.loop-i-test.true)) so_far.1
                (subst (λ n. IsCached d c.to_cached.result (times (points p d k) n s).at) same
                (c.to_cached.ensures d is_twice next.at of_next)),
          ),
    )

pub returns : goal.returns
returns g c d k is_twice s of_a i e below =
    (c.loop-i.invariant.1 d k is_twice s of_a).1 i e (omega (arith, below, c.loop-i-test.false))
