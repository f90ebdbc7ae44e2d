use Rattle.std.proofs.Common.{◌≡◌, ◌∙◌, refl, ℕ, ◌-◌, ◌*◌, ◌/◌, ◌<◌, ◌≤◌, length, ap, arith}
use Rattle.std.proofs.lemmas.List.{with_items_is}
use Rattle.std.specs.Int.{div_ceil}
use Rattle.std.proofs.lemmas.Grind.{div_ceil_times}
use Rattle.ark_sponge.proofs.poseidon.sponge.calls.PoseidonSpongeCryptographicSponge.squeeze_bytes.Goals as goal

pub spread_bytes-requires : goal.spread_bytes-requires
spread_bytes-requires g c =
    let size = (c.MODULUS_BIT_SIZE.result - 1) / 8 in
    let some : 0 < size = omega (arith, c.rate-known.ensures.wide, c.MODULUS_BIT_SIZE.ensures) in
    let long : length c.deref.result.now ≡ div_ceil c.args.count size =
    omega (arith, c.deref.ensures.len, c.in_ok-elements.ensures.len, c.div_ceil.ensures) in
    let product : length c.deref.result.now * size ≡ div_ceil c.args.count size * size =
    ap (λ (k : ℕ). k * size) long in
    let room : length c.deref_mut-2.result.now ≤ length c.deref.result.now * size =
    omega (
      arith,
      product,
      (div_ceil_times c.args.count size some).0,
      c.deref_mut-2.ensures.len,
      c.in_ok-bytes.ensures.len,
    ) in
    record { enough = room }

pub returns-clause-given : goal.returns-clause-given
returns-clause-given g c =
    let bytes = c.in_ok-bytes.bytes in
    let new = c.spread_bytes.new.out in
    let wanted : length c.deref_mut-2.result.now ≡ c.args.count =
    omega (arith, c.deref_mut-2.ensures.len, c.in_ok-bytes.ensures.len) in
    let count : length c.deref_mut.result.now ≡ c.div_ceil.result =
    omega (arith, c.deref_mut.ensures.len, c.in_ok-elements.ensures.len) in
    let elements = with_items_is c.in_ok-elements.elements c.squeeze_into.new.out (c.squeeze_into.ensures.length
    ∙ c.deref_mut.ensures.len) in
    let items = with_items_is bytes new (c.spread_bytes.auto.out ∙ c.deref_mut-2.ensures.len) in
    rw (items, c.spread_bytes.ensures, wanted, c.deref.ensures.value, elements)
    (rw (
      c.squeeze_into.ensures.numbers,
      c.squeeze_into.ensures.sponge,
      count,
      c.div_ceil.ensures,
      c.MODULUS_BIT_SIZE.ensures,
    ) refl)
