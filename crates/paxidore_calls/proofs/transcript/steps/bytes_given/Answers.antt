use Rattle.std.proofs.Common.{◌≡◌}
use Rattle.ark_sponge.specs.Squeezing.{bytes_squeezed}
use Rattle.paxidore_calls.proofs.Written.{length-given}
use Rattle.paxidore_calls.proofs.transcript.steps.bytes_given.Goals as goal

pub returns-clause-len : goal.returns-clause-len
returns-clause-len g c =
    let f = g.F.Field in
    let sponge = c.in_ok-sponge.sponge in
    let is : bytes_squeezed f.MODULUS f.MODULUS_BIT_SIZE g.S.SBox.image sponge c.args.count
    ≡ (c.in_ok-bytes.bytes.items, c.squeeze_bytes.new.self) = cc c.in_ok-bytes.ensures.given in
    length-given f.MODULUS f.MODULUS_BIT_SIZE g.S.SBox.image sponge c.squeeze_bytes.new.self c.args.count
    c.in_ok-bytes.bytes.items c.rate-known.ensures.wide is
