use Rattle.std.proofs.Common.{◌+◌, ◌∷◌, [], true, false, map, ap, sym, ◌∙◌, arith}
use Rattle.std.proofs.lemmas.List.{map-append}
use Rattle.merkle_map.specs.KeyProof.{proof_at, behind_all}
use Rattle.merkle_map.specs.Parts.{shape}
use Rattle.merkle_map.specs.Tree.{shape_digest}
use Rattle.merkle_map.proofs.Answered.{answers_as}
use Rattle.merkle_map.proofs.OwnProof.{down-on}
use Rattle.merkle_map.proofs.Places.{fork_within}
use Rattle.merkle_map.proofs.proof.+climb_down.Goals as goal

pub bit_of-requires : goal.bit_of-requires
bit_of-requires g t c = fork_within _ (ap (shape g.D.Numbered.numbers) c.in-Fork.is) _ c.requires.stands

pub overflow_add-level-else-bit_of : goal.overflow_add-level-else-bit_of
overflow_add-level-else-bit_of g t c =
    let inside = fork_within _ (ap (shape g.D.Numbered.numbers) c.in-Fork.is) _ c.requires.stands in
    omega (arith, inside)

pub returns-in_ok-push-in-Fork : goal.returns-in_ok-push-in-Fork
returns-in_ok-push-in-Fork g t c =
    let numbers = g.D.Numbered.numbers in
    let h = g.H.MapViews.hashes c.args.hasher.now in
    let proof = proof_at h (c.args.level + 1) c.args.key.now in
    answers_as _ _ _ c.climb_down.result
    (down-on h c.args.level c.args.key.now (ap (shape numbers) c.in-Fork.is) true
    (map numbers c.args.siblings.now.items) (numbers c.in_ok-digest-in-Fork.digest)
    (sym c.bit_of.ensures ∙ c.if-bit_of.true)
    (ap (λ s. shape_digest h (shape numbers s.left)) (sym c.deref-in-Fork.ensures) ∙ c.in_ok-digest-in-Fork.ensures)
    ∙ ap (λ l. behind_all l (proof (shape numbers c.in-Fork.sides.value.right)))
    (sym (map-append numbers c.args.siblings.now.items (c.in_ok-digest-in-Fork.digest ∷ []))
    ∙ ap (map numbers) (sym c.in_ok-push-in-Fork.ensures.items))
    ∙ ap (λ s. behind_all (map numbers c.push.new.self.items) (proof (shape numbers s.right)))
    (sym c.deref-in-Fork.ensures))
    c.climb_down.ensures

pub returns-in_ok-push-in-Fork-2 : goal.returns-in_ok-push-in-Fork-2
returns-in_ok-push-in-Fork-2 g t c =
    let numbers = g.D.Numbered.numbers in
    let h = g.H.MapViews.hashes c.args.hasher.now in
    let proof = proof_at h (c.args.level + 1) c.args.key.now in
    answers_as _ _ _ c.climb_down-else-bit_of.result
    (down-on h c.args.level c.args.key.now (ap (shape numbers) c.in-Fork.is) false
    (map numbers c.args.siblings.now.items) (numbers c.in_ok-digest-in-Fork-2.digest)
    (sym c.bit_of.ensures ∙ c.if-bit_of.false)
    (ap (λ s. shape_digest h (shape numbers s.right)) (sym c.deref-in-Fork.ensures) ∙ c.in_ok-digest-in-Fork-2.ensures)
    ∙ ap (λ l. behind_all l (proof (shape numbers c.in-Fork.sides.value.left)))
    (sym (map-append numbers c.args.siblings.now.items (c.in_ok-digest-in-Fork-2.digest ∷ []))
    ∙ ap (map numbers) (sym c.in_ok-push-in-Fork-2.ensures.items))
    ∙ ap (λ s. behind_all (map numbers c.push-else-bit_of.new.self.items) (proof (shape numbers s.left)))
    (sym c.deref-in-Fork.ensures))
    c.climb_down-else-bit_of.ensures
