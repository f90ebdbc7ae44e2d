use Rattle.std.proofs.Common.{length, arith}
use Rattle.ark_schemes.proofs.WordSums.{words_below, pedersen_sum-four}
use Rattle.ark_schemes.proofs.commitment.pedersen.add_number.Goals as goal

pub add_set_bits-sum-requires : goal.add_set_bits-sum-requires
add_set_bits-sum-requires g c =
    let n = c.args.added in
    (words_below n.w0 n.w1 n.w2 n.w3 (length c.args.elements.now) c.requires).0

pub add_set_bits-sum-requires-2 : goal.add_set_bits-sum-requires-2
add_set_bits-sum-requires-2 g c =
    let n = c.args.added in
    (words_below n.w0 n.w1 n.w2 n.w3 (length c.args.elements.now) c.requires).1

pub add_set_bits-sum-requires-3 : goal.add_set_bits-sum-requires-3
add_set_bits-sum-requires-3 g c =
    let n = c.args.added in
    (words_below n.w0 n.w1 n.w2 n.w3 (length c.args.elements.now) c.requires).2

pub add_set_bits-requires : goal.add_set_bits-requires
add_set_bits-requires g c =
    let n = c.args.added in
    (words_below n.w0 n.w1 n.w2 n.w3 (length c.args.elements.now) c.requires).3

pub returns : goal.returns
returns g c =
    let n = c.args.added in
    let total = g.C.AdditiveGroup.total in
    pedersen_sum-four g.met.C.AdditiveGroup.laws c.args.elements.now n.w0 n.w1 n.w2 n.w3 (total c.args.sum)
    (total c.add_set_bits-sum.result) (total c.add_set_bits-sum-2.result) (total c.add_set_bits-sum-3.result)
    (total c.add_set_bits.result) (omega arith) (omega arith) (omega arith) c.add_set_bits-sum.ensures
    c.add_set_bits-sum-2.ensures c.add_set_bits-sum-3.ensures c.add_set_bits.ensures
