use Rattle.std.proofs.Common.{◌-◌, arith, map}
use Rattle.ark_base.proofs.Refusals.{passed_on}
use Rattle.merkle_map.proofs.Climb.{climbed, refused, verdict-refused}
use Rattle.merkle_map.proofs.verify.leads_to_root.Goals as goal

pub returns-in_err-own : goal.returns-in_err-own
returns-in_err-own g c =
    let h = g.H.MapViews.hashes c.args.hasher.now in
    let numbers = g.D.Numbered.numbers in
    passed_on _ _ c.from_residual.result c.in_err-own.field-0.0 c.from_residual.ensures.1 c.in_err-own.ensures
    (λ why. verdict-refused h c.args.key.now (numbers c.args.root.now) (map numbers c.args.siblings.now)
    (numbers c.args.own) c.in_err-own.field-0.0
    (refused h c.args.key.now numbers c.args.siblings.now
    (c.levels.level - 1) c.levels.level c.index-siblings-level.result (numbers c.levels.own) c.bit_of.result _
    c.levels.invariant.whole (omega arith) (omega (arith, c.levels.invariant.inside)) c.index-siblings-level.is
    c.bit_of.ensures c.in_err-own.field-0.0 why))

pub levels-preserved : goal.levels-preserved
levels-preserved g c = record {
  inside = omega (arith, c.levels.invariant.inside);
  whole = climbed (g.H.MapViews.hashes c.args.hasher.now) c.args.key.now g.D.Numbered.numbers c.args.siblings.now
      (c.levels.level - 1) c.levels.level c.index-siblings-level.result
      (g.D.Numbered.numbers c.levels.own) c.bit_of.result _
      c.levels.invariant.whole (omega arith) (omega (arith, c.levels.invariant.inside)) c.index-siblings-level.is
      c.bit_of.ensures _ c.in_ok-own.ensures;
}
