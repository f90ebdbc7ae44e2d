use Rattle.std.proofs.Common.{◌≡◌, ◌+◌, ◌-◌, ◌%◌, ◌<◌, drop, sym, ap, ◌∙◌, arith, get_or}
use Rattle.std.specs.Int.{w8, reverse_bits}
use Rattle.ark_signatures.specs.Schnorr.{multiplier}
use Rattle.ark_signatures.proofs.Highest.{multiplier-none, multiplier-mod, drop-before}
use Rattle.ark_signatures.proofs.signature.schnorr.bits.multiplier.Goals as goal

pub loop-rest-init : goal.loop-rest-init
loop-rest-init g c =
    record {
      number = c.zero-number.ensures ∙ multiplier-none c.args.bytes.now g.F.Field.MODULUS;
      within =
          omega arith;
    }

pub loop-rest-preserved : goal.loop-rest-preserved
loop-rest-preserved g c =
    let p = g.F.Field.MODULUS in
    let value = g.F.Valued.value in
    let bytes = c.args.bytes.now in
    let i = c.loop-rest.rest in
    let byte = get_or bytes (i - 1) 0 in
    let some : 0 < i = c.loop-rest-test.true in
    let turned : value c.from_u64-in-loop-rest.result ≡ reverse_bits w8 byte % p =
    c.from_u64-in-loop-rest.ensures ∙ ap (λ n. n % p) c.reverse_bits.ensures in
    let sum = c.add-number.ensures ∙ ap (λ n. (value c.mul-number.result + n) % p) turned in
    record {
      number =
          multiplier-mod p byte (value c.loop-rest.number) (value c.mul-number.result) (value c.add-number.result)
          (value c.from_u64.result) (drop i bytes)
          c.loop-rest.invariant.number c.from_u64.ensures c.mul-number.ensures sum
          ∙ sym (ap (λ t. multiplier t % p) (drop-before bytes i some c.loop-rest.invariant.within));
      within = omega (arith, c.loop-rest.invariant.within);
    }
