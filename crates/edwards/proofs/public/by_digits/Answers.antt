use Rattle.std.proofs.Common.{◌≡◌, ◌+◌, ◌-◌, get_or, arith, subst}
use Rattle.ark_groups.specs.Words.{number}
use Rattle.edwards.specs.Laws.Points.{Point, points, points_laws}
use Rattle.edwards.specs.Cached.{signed_multiple}
use Rattle.edwards.specs.Extended.{Stands}
use Rattle.edwards.proofs.Balance.{Reached, none_reached, next_reached, all_reached, by_digit}
use Rattle.edwards.proofs.public.by_digits.Goals as goal

pub loop-i-init : goal.loop-i-init
loop-i-init g c = (
  c.highest-i.ensures.within,
  λ d k s t first second.
      let p = number g.M.WideModulus.P in
      let zero = c.zero-sum.ensures in
      record {
        point = (points p d k).identity;
        stands = record { some = zero.some; first = zero.first; second = zero.second };
        reached = none_reached (points p d k) (points_laws p d k) s t c.args.m.now c.args.n.now c.highest-i.result
            c.highest-i.ensures.first c.highest-i.ensures.second;
      },
)

pub loop-i-preserved : goal.loop-i-preserved
loop-i-preserved g c = (
  omega arith,
  λ d k s t first second.
      let p = number g.M.WideModulus.P in
      let m = c.args.m.now in
      let n = c.args.n.now in
      let before = c.loop-i.invariant.1 d k s t first second in
      let i = c.loop-i.i - 1 in
      let e : Point p d k = signed_multiple p d k (get_or m i 0) s in
      let f : Point p d k = signed_multiple p d k (get_or n i 0) t in
      let next : c.loop-i.i ≡ i + 1 = omega arith in
      let q = before.point in
      record {
        point = (points p d k).plus ((points p d k).plus ((points p d k).plus q q) e) f;
        stands = c.add_digits.ensures d k s t q first second before.stands;
        reached = next_reached (points p d k) (points_laws p d k) s t m n i q e f (omega arith) (omega arith)
            (subst (λ j. Reached (points p d k) (points_laws p d k) s t m n j q) next before.reached)
            (by_digit p d k (get_or m i 0) s) (by_digit p d k (get_or n i 0) t);
      },
)

pub returns : goal.returns
returns g c d k s t first second x y of_m of_n =
    let p = number g.M.WideModulus.P in
    let after = c.loop-i.invariant.1 d k s t first second in
    let q = after.point in
    subst (λ (q : Point p d k). Stands c.whole.result q.at)
    (all_reached (points p d k) (points_laws p d k) s t c.args.m.now c.args.n.now c.loop-i.i x y q
    (omega (arith, c.loop-i-test.false)) of_m of_n after.reached)
    (c.whole.ensures d k q.at q.on after.stands)
