use Rattle.std.proofs.Common.{◌∙◌, ap}
use Rattle.ark_schemes.proofs.GroupHashes.{found_here, found_later, found_nowhere}
use Rattle.ark_schemes.proofs.from_label.group_hash.Goals as goal

pub returns-in-Some : goal.returns-in-Some
returns-in-Some g c =
    let find = g.C.FromDigest.found_in in
    found_here find c.args.label.now c.args.text.now c.loop-last.last _ c.in-Some.element c.loop-last-test.true
    (c.from_digest.ensures ∙ ap find c.group_digest.ensures) c.in-Some.is c.loop-last.invariant

pub loop-last-preserved : goal.loop-last-preserved
loop-last-preserved g c =
    let find = g.C.FromDigest.found_in in
    found_later find c.args.label.now c.args.text.now c.loop-last.last _ c.loop-last-test.true
    (c.from_digest.ensures ∙ ap find c.group_digest.ensures) c.in_default.is c.loop-last.invariant

pub returns : goal.returns
returns g c =
    found_nowhere g.C.FromDigest.found_in c.args.label.now c.args.text.now c.loop-last.last c.loop-last-test.false
    c.loop-last.invariant
