use Rattle.std.proofs.Common.{[], OnOk, subst, sym}
use Rattle.merkle_map.specs.Changes.{entry_of}
use Rattle.merkle_map.specs.Kept.{IsTopKept}
use Rattle.merkle_map.specs.Map.{put}
use Rattle.merkle_map.specs.Parts.{shape, top_shape}
use Rattle.merkle_map.specs.Shown.{Follows}
use Rattle.merkle_map.specs.Tree.{StandsAt}
use Rattle.merkle_map.proofs.Calls.{put-stands, put-follows}
use Rattle.merkle_map.proofs.top.put_top.Goals as goal

pub returns-in-Shown-clause-stands : goal.returns-in-Shown-clause-stands
returns-in-Shown-clause-stands g c =
    let numbers = g.D.Numbered.numbers in
    put-stands (entry_of c.args.key.now c.args.value) (c.told-key, c.fits-key) (shape numbers c.in-Shown.part)
    (shape numbers c.put_in.new.part) (subst (λ t. StandsAt [] (top_shape numbers t)) c.in-Shown.is c.requires)
    c.put_in.result c.put_in.ensures.changed c.put_in.ensures.kept

pub returns-in-Shown-clause-maps : goal.returns-in-Shown-clause-maps
returns-in-Shown-clause-maps g c =
    let numbers = g.D.Numbered.numbers in
    let new = shape numbers c.put_in.new.part in
    subst (λ t. OnOk c.put_in.result (Follows (put c.args.key.now c.args.value) (top_shape numbers t) new))
    (sym c.in-Shown.is)
    (put-follows (entry_of c.args.key.now c.args.value) (c.told-key, c.fits-key) (shape numbers c.in-Shown.part) new
    (subst (λ t. StandsAt [] (top_shape numbers t)) c.in-Shown.is c.requires) c.put_in.result c.put_in.ensures.changed)

pub returns-in-Shown-clause-digests : goal.returns-in-Shown-clause-digests
returns-in-Shown-clause-digests g c = λ h kept.
    c.put_in.ensures.digests h (subst (IsTopKept g.D.Numbered.numbers h) c.in-Shown.is kept)
