use Rattle.std.proofs.Common.{subst, sym}
use Rattle.merkle_map.specs.Kept.{IsFor, IsKept}
use Rattle.merkle_map.specs.Parts.{shape}
use Rattle.merkle_map.specs.Tree.{Fork, shape_digest}
use Rattle.merkle_map.proofs.Hashing.{fork-known, put-known}
use Rattle.merkle_map.proofs.together.scattered.+scatter.Goals as goal

pub returns-in_ok-own-in-Fork-clause-kept : goal.returns-in_ok-own-in-Fork-clause-kept
returns-in_ok-own-in-Fork-clause-kept g t c =
    let numbers = g.D.Numbered.numbers in
    let h = g.H.MapViews.hashes c.args.hasher.now in
    let sides = c.deref_mut.result.now in
    let on-left = c.in_ok-on_left-in-Fork.ensures in
    let on-right = c.in_ok-on_right-in-Fork.ensures in
    let kept = subst (IsKept numbers h) c.in-Fork.is c.requires.kept in
    let was = subst (λ s. IsFor numbers (shape_digest h (Fork (shape numbers s.left) (shape numbers s.right))) s.digest)
    (sym c.deref_mut.ensures.value) kept.0 in
    let l-is = subst (IsFor numbers _) c.in-Some-Some.is-0 on-left.digest in
    let r-is = subst (IsFor numbers _) c.in-Some-Some.is-1 on-right.digest in
    let known = fork-known h (shape numbers sides.left) (shape numbers sides.right) _ _ l-is r-is in
    let put = put-known numbers _ _ _ _ _ _ (λ i. shape_digest h (Fork (on-left.same i) (on-right.same i))) known was
    (c.in_ok-own-in-Fork.ensures h c.requires.forks) c.keep_known.ensures.kept in (put, on-left.kept, on-right.kept)
