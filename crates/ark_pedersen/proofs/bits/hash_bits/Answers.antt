use Rattle.std.proofs.Common.{◌∙◌}
use Rattle.ark_pedersen.specs.Pedersen.{lists_in}
use Rattle.ark_pedersen.proofs.Windows.{bits_hash-windows}
use Rattle.ark_pedersen.proofs.bits.hash_bits.Goals as goal

pub returns-clause-windows : goal.returns-clause-windows
returns-clause-windows g c elements are =
    c.summed_bits.ensures
    ∙ bits_hash-windows g.C.AdditiveGroup.group g.W.Window elements (lists_in c.args.generators.now) c.args.bits.now
    g.met.C.AdditiveGroup.laws are
