use Rattle.std.specs.Prelude.{◌≡◌, Ok}
use Rattle.std.proofs.Common.{refl, ap, sym, ◌∙◌, subst, map}
use Rattle.merkle_map.specs.Changes.{known_at}
use Rattle.merkle_map.specs.Kept.{IsShownIn, IsTreeOf}
use Rattle.merkle_map.specs.KeyProof.{proof_at, behind_all, proof_seen}
use Rattle.merkle_map.specs.Map.{value_at}
use Rattle.merkle_map.specs.Parts.{shape}
use Rattle.merkle_map.specs.Tree.{Shape}
use Rattle.merkle_map.specs.Whole.{entries_of}
use Rattle.merkle_map.proofs.Keeping.{store-found}
use Rattle.merkle_map.proofs.OwnProof.{accepts, behind_none}
use Rattle.merkle_map.proofs.Wholes.{root-of-store}
use Rattle.merkle_map.proofs.kept.KeptMap.prove_key.Goals as goal

pub returns : goal.returns
returns g c =
    let numbers = g.H.Output.Numbered.numbers in
    let hashes = g.H.MapViews.hashes in
    let h = hashes c.self.inside.hasher in
    let key = c.args.key.now in
    let own = shape numbers c.self.inside.top in
    let stands = c.self.invariant.stands in
    let whole = c.self.invariant.whole in
    let proof = proof_seen numbers (record { end = c.in_ok-end.end; siblings = c.climb_down.new.siblings }) in
    let given = sym (behind_none (proof_at h 0 key own))
    ∙ ap (λ l. behind_all (map numbers l) (proof_at h 0 key own)) (sym c.new-siblings.ensures.items)
    ∙ c.in_ok-end.ensures in
    record {
      answer = subst (λ map. (tree : Shape) × IsTreeOf map.entries tree
          × (proof_at (hashes map.hasher) 0 key tree ≡ Ok proof)) c.self.view_is
          (own, record { stands = stands; whole = whole; has = refl }, given);
      accepted = subst (λ map. IsShownIn (hashes map.hasher) key map.entries proof) c.self.view_is
          (λ root is. accepts h key own proof stands given root (value_at key (entries_of own))
          (sym (root-of-store h own stands whole) ∙ is)
          (store-found h own key stands whole (known_at 0 key own) refl));
    }
