use Rattle.std.proofs.Common.{◌≡◌, ◌∙◌, rules}
use Rattle.ark_pedersen.specs.Pedersen.{lists_in, seen_by}
use Rattle.ark_bowe_hopwood.specs.BoweHopwood.{bowe_hopwood_hash}
use Rattle.ark_bowe_hopwood.proofs.Segments.{bowe_hopwood_hash-segments}
use Rattle.ark_bowe_hopwood.proofs.crh.CRHCRHScheme.evaluate.Goals as goal

pub returns-clause-segments : goal.returns-clause-segments
returns-clause-segments g c elements are =
    let lists = lists_in c.args.parameters.now.generators.items in
    let input = c.args.input.now.items in
    let exact : seen_by g.G.BaseField.Valued.value c.hash_bytes.result ≡ bowe_hopwood_hash g.G.AdditiveGroup.group
    g.G.TECoordinates.x g.W.Window lists input = search rules in
    exact ∙ bowe_hopwood_hash-segments g.met.G.AdditiveGroup.laws g.G.TECoordinates.x g.W.Window elements lists input
    are
