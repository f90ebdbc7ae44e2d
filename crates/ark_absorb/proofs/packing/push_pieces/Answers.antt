use Rattle.std.proofs.Common.{◌∙◌, ap, take, drop, arith}
use Rattle.std.proofs.lemmas.List.{take_min, drop_min}
use Rattle.ark_absorb.proofs.Pieces.{Packed-suc, Packed-all}
use Rattle.ark_absorb.proofs.packing.push_pieces.Goals as goal

pub loop-preserved : goal.loop-preserved
loop-preserved g c =
    let size = c.args.size in
    let rest = c.loop.rest.now in
    Packed-suc g.F.Valued.value g.F.Field.MODULUS size c.div_ceil-end.result c.loop.counter c.args.bytes.now rest
    c.split_at.result.0.now c.split_at.result.1.now
    c.from_le_bytes_mod_order.result c.args.dest.now.items c.loop.dest.items c.push.new.self.items c.loop-test.true
    (c.split_at.ensures.front ∙ (ap (λ n. take n rest) c.min.ensures ∙ take_min size rest)) (c.split_at.ensures.back
    ∙ (ap (λ n. drop n rest) c.min.ensures ∙ drop_min size rest))
    c.from_le_bytes_mod_order.ensures c.in-Ok.ensures.items c.loop.invariant

pub returns : goal.returns
returns g c =
    Packed-all g.F.Valued.value g.F.Field.MODULUS c.args.size c.div_ceil-end.result c.loop.counter c.args.bytes.now
    c.loop.rest.now c.args.dest.now.items
    c.loop.dest.items c.div_ceil-end.ensures (omega (arith, c.loop-test.false)) c.loop.invariant
