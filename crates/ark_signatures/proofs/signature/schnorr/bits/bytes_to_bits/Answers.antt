use Rattle.std.proofs.Common.{◌++◌, Bool, List, get_or, reverse, ap, ◌∙◌, arith}
use Rattle.ark_groups.specs.Bits.{bits_of_number}
use Rattle.ark_signatures.proofs.Highest.{highest-step, highest-all, highest_first-more}
use Rattle.ark_signatures.proofs.signature.schnorr.bits.bytes_to_bits.Goals as goal

pub loop-place-preserved : goal.loop-place-preserved
loop-place-preserved c =
    highest-step c.loop-place.bits.items c.push.new.self.items _ c.loop-place.place (get_or c.args.bytes.now
    c.loop-byte.byte-index 0) (omega arith) c.in_ok-push.ensures.items c.loop-place.invariant

pub loop-byte-preserved : goal.loop-byte-preserved
loop-byte-preserved c =
    let bytes = c.args.bytes.now in
    let i = c.loop-byte.byte-index in
    highest-all c.loop-place.bits.items _ c.loop-place.place (get_or bytes i 0) (omega arith) c.loop-place.invariant
    ∙ ap (λ (t : List Bool). t ++ reverse (bits_of_number 8 (get_or bytes i 0))) c.loop-byte.invariant
    ∙ highest_first-more bytes i (omega arith)
