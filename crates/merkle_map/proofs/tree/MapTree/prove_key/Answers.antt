use Rattle.std.proofs.Common.{ap, sym, ◌∙◌, subst, map}
use Rattle.merkle_map.specs.KeyProof.{proof_at, behind_all, proof_seen, IsKeyProofAccepted}
use Rattle.merkle_map.specs.Parts.{top_shape}
use Rattle.merkle_map.proofs.OwnProof.{accepts, behind_none}
use Rattle.merkle_map.proofs.tree.MapTree.prove_key.Goals as goal

pub climb_top-requires-clause-kept : goal.climb_top-requires-clause-kept
climb_top-requires-clause-kept g c = c.self.invariant.1 (g.H.MapViews.hashes c.args.hasher.now)

pub returns-clause-accepted : goal.returns-clause-accepted
returns-clause-accepted g c =
    let numbers = g.D.Numbered.numbers in
    let h = g.H.MapViews.hashes c.args.hasher.now in
    let key = c.args.key.now in
    let old = top_shape numbers c.self.inside.top in
    subst (λ s. IsKeyProofAccepted h key s (proof_seen numbers
    (record { end = c.in_ok-end.end; siblings = c.climb_top.new.siblings })))
    c.self.view_is
    (accepts h key old (proof_seen numbers
    (record { end = c.in_ok-end.end; siblings = c.climb_top.new.siblings })) c.self.invariant.0
    (sym (behind_none (proof_at h 0 key old))
    ∙ ap (λ l. behind_all (map numbers l) (proof_at h 0 key old)) (sym c.new-siblings.ensures.items)
    ∙ c.in_ok-end.ensures))
