use Rattle.std.proofs.Common.{sym, ◌∙◌, subst}
use Rattle.merkle_map.specs.Kept.{SidesAreKept}
use Rattle.merkle_map.proofs.remove.collapse.Goals as goal

pub returns-in-Fork-clause-digests : goal.returns-in-Fork-clause-digests
returns-in-Fork-clause-digests g c = λ h kept.
    let sides = subst (SidesAreKept g.D.Numbered.numbers h) (sym c.replace.ensures.value ∙ c.in-Fork.is) kept in
    c.join.ensures.digests h sides.0 sides.1
