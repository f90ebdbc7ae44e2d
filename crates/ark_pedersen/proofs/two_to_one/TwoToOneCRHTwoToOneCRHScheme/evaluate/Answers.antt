use Rattle.std.proofs.Common.{◌≡◌, ℕ, List, ◌∙◌, rules}
use Rattle.ark_pedersen.specs.Pedersen.{generators_in, pedersen_hash, of_halves}
use Rattle.ark_pedersen.proofs.Windows.{pedersen_hash-windows}
use Rattle.ark_pedersen.proofs.two_to_one.TwoToOneCRHTwoToOneCRHScheme.evaluate.Goals as goal

pub returns-clause-windows : goal.returns-clause-windows
returns-clause-windows g c elements are =
    let group = g.C.AdditiveGroup.group in
    let windows = g.W.Window in
    let lists = generators_in c.args.parameters.now in
    let left = c.args.left.now.items in
    let right = c.args.right.now.items in
    let exact : c.hash_halves.result ≡ of_halves windows (pedersen_hash group windows lists) left right =
    search rules in
    exact ∙ (λ i. of_halves windows (λ (input : List ℕ). pedersen_hash-windows group windows elements lists input
    g.met.C.AdditiveGroup.laws are i) left right)
