use Rattle.std.proofs.Common.{[], subst}
use Rattle.merkle_map.specs.Map.{HaveSame, without}
use Rattle.merkle_map.specs.Parts.{shape}
use Rattle.merkle_map.specs.Whole.{entries_of}
use Rattle.merkle_map.proofs.Calls.{returned, without-stands}
use Rattle.merkle_map.proofs.Keeping.{now-whole, without-same, without-whole}
use Rattle.merkle_map.proofs.kept.KeptMap.remove.Goals as goal

pub invariant_of-self : goal.invariant_of-self
invariant_of-self g c =
    let numbers = g.H.Output.Numbered.numbers in
    let key = c.args.key.now in
    let old = shape numbers c.self.inside.top in
    let new = shape numbers c.remove_shown.new.part in
    let is = without-whole old new c.self.invariant.whole key c.remove_shown.ensures.changed in
    record {
      stands = without-stands [] key old new returned is tt c.self.invariant.stands;
      whole = now-whole old new c.self.invariant.whole key is;
      kept = c.remove_shown.ensures.digests (g.H.MapViews.hashes c.self.inside.hasher) c.self.invariant.kept;
    }

pub returns-clause-removed : goal.returns-clause-removed
returns-clause-removed g c =
    let numbers = g.H.Output.Numbered.numbers in
    let key = c.args.key.now in
    let old = shape numbers c.self.inside.top in
    let new = shape numbers c.remove_shown.new.part in
    subst (λ map. HaveSame (entries_of new) (without key map.entries)) c.self.view_is
    (without-same old new c.self.invariant.whole key c.self.invariant.stands (invariant_of-self g c).stands
    (without-whole old new c.self.invariant.whole key c.remove_shown.ensures.changed))
