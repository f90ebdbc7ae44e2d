use Rattle.std.proofs.Common.{◌≡◌, ℕ, List, ◌∙◌, rules}
use Rattle.ark_pedersen.specs.Pedersen.{lists_in, of_halves, seen_by}
use Rattle.ark_bowe_hopwood.specs.BoweHopwood.{bowe_hopwood_hash}
use Rattle.ark_bowe_hopwood.proofs.Segments.{bowe_hopwood_hash-segments}
use Rattle.ark_bowe_hopwood.proofs.two_to_one.TwoToOneCRHTwoToOneCRHScheme.evaluate.Goals as goal

pub returns-clause-segments : goal.returns-clause-segments
returns-clause-segments g c elements are =
    let group = g.G.AdditiveGroup.group in
    let x = g.G.TECoordinates.x in
    let windows = g.W.Window in
    let lists = lists_in c.args.parameters.now.generators.items in
    let left = c.args.left.now.items in
    let right = c.args.right.now.items in
    let exact : seen_by g.G.BaseField.Valued.value c.hash_halves.result ≡ of_halves windows (bowe_hopwood_hash group x
    windows lists) left right = search rules in
    exact ∙ (λ i. of_halves windows (λ (input : List ℕ). bowe_hopwood_hash-segments g.met.G.AdditiveGroup.laws x windows
    elements lists input are i) left right)
