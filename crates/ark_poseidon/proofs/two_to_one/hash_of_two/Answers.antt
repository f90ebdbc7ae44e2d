use Rattle.std.proofs.Common.{◌≡◌, ap, sym, ◌∙◌, ◌∷◌, [], map}
use Rattle.ark_sponge.specs.Sponge.{Sponge, squeezed_numbers, poseidon_digest}
use Rattle.ark_poseidon.proofs.Digests.{same_digest}
use Rattle.ark_poseidon.proofs.two_to_one.hash_of_two.Goals as goal

pub returns-clause-in_turn : goal.returns-clause-in_turn
returns-clause-in_turn g c =
    let f = g.F.Field in
    let image = g.S.SBox.image in
    let cut = c.digest.ensures.cut (g.F.Valued.value c.args.left ∷ []) (g.F.Valued.value c.args.right ∷ []) in
    let list : c.deref.result.now ≡ c.args.left ∷ c.args.right ∷ [] =
    c.deref.ensures.value ∙ c.in_ok-both.ensures.items in
    same_digest (λ x. g.F.Valued.value x ∷ []) _ _
    (ap (λ (s : Sponge). squeezed_numbers f.MODULUS image s 1) cut
    ∙ sym (ap (λ xs. poseidon_digest f.MODULUS image c.args.parameters.now (map g.F.Valued.value xs)) list))
    c.digest.result c.digest.ensures.digest
