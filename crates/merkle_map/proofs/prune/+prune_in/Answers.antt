use Rattle.std.proofs.Common.{ap, sym, ◌∙◌}
use Rattle.merkle_map.specs.Parts.{shape}
use Rattle.merkle_map.proofs.Answered.{answers_as}
use Rattle.merkle_map.proofs.Keeping.{kept-above}
use Rattle.merkle_map.proofs.Pruning.{fork-made}
use Rattle.merkle_map.proofs.prune.+prune_in.Goals as goal

pub returns-in_ok-r-in-Fork-clause-digests : goal.returns-in_ok-r-in-Fork-clause-digests
returns-in_ok-r-in-Fork-clause-digests g t c =
    kept-above g.D.Numbered.numbers c.fork.result c.in_ok-l-in-Fork.l c.in_ok-r-in-Fork.r c.fork.ensures.kept
    c.in_ok-l-in-Fork.ensures.digests c.in_ok-r-in-Fork.ensures.digests

pub returns-in_ok-r-in-Fork-clause-pruned : goal.returns-in_ok-r-in-Fork-clause-pruned
returns-in_ok-r-in-Fork-clause-pruned g t c =
    let seen = shape g.D.Numbered.numbers in
    let sides = c.in-Fork.sides.value in
    let is_left = rw (c.deref-in-Fork.ensures.value, c.deref-in-Fork-2.ensures, c.deref-in-Fork-3.ensures.value)
    at c.in_ok-is_left-in-Fork.ensures in
    let is_right = rw (c.deref-in-Fork-6.ensures.value, c.deref-in-Fork-7.ensures, c.deref-in-Fork-8.ensures.value)
    at c.in_ok-is_right-in-Fork.ensures in
    let l = rw (c.deref-in-Fork-4.ensures, c.deref-in-Fork-5.ensures.value) at c.in_ok-l-in-Fork.ensures.pruned in
    let r = rw (c.deref-in-Fork-9.ensures, c.deref-in-Fork-10.ensures.value) at c.in_ok-r-in-Fork.ensures.pruned in
    answers_as seen _ _ c.fork.result
    (fork-made (g.H.MapViews.hashes c.args.hasher.now) c.args.tops c.args.is_shown c.args.level c.args.keys.now
    c.in_ok-on_left-in-Fork.on_left.items c.in_ok-on_right-in-Fork.on_right.items (seen c.args.part.now)
    (seen sides.left) (seen sides.right) (seen c.in_ok-l-in-Fork.l) (seen c.in_ok-r-in-Fork.r)
    c.in_ok-is_left-in-Fork.is_left c.in_ok-is_right-in-Fork.is_right (sym c.is_empty.ensures ∙ c.if-is_empty.false)
    (ap seen c.in-Fork.is) c.in_ok-on_left-in-Fork.ensures c.in_ok-on_right-in-Fork.ensures is_left is_right l r)
    c.fork.ensures.made
