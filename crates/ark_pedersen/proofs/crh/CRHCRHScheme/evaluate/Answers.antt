use Rattle.std.proofs.Common.{◌≡◌, ◌∙◌, rules}
use Rattle.ark_pedersen.specs.Pedersen.{generators_in, pedersen_hash}
use Rattle.ark_pedersen.proofs.Windows.{pedersen_hash-windows}
use Rattle.ark_pedersen.proofs.crh.CRHCRHScheme.evaluate.Goals as goal

pub returns-clause-windows : goal.returns-clause-windows
returns-clause-windows g c elements are =
    let group = g.C.AdditiveGroup.group in
    let windows = g.W.Window in
    let lists = generators_in c.args.parameters.now in
    let input = c.args.input.now.items in
    let exact : c.hash_bytes.result ≡ pedersen_hash group windows lists input = search rules in
    exact ∙ pedersen_hash-windows group windows elements lists input g.met.C.AdditiveGroup.laws are
