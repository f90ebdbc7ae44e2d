use Rattle.std.proofs.Common.{◌≡◌, ℕ, ◌*◌, ◌<◌, ◌≤◌, Bool, length, sym, ap, ◌∙◌, arith}
use Rattle.std.specs.Int.{div_ceil}
use Rattle.ark_groups.specs.Group.{Group}
use Rattle.ark_pedersen.specs.Pedersen.{lists_in, concatenation}
use Rattle.ark_bowe_hopwood.specs.BoweHopwood.{digit, signed_times}
use Rattle.ark_bowe_hopwood.proofs.BitChunks.{one_chunk, no_chunk}
use Rattle.ark_bowe_hopwood.proofs.bits.sum_of_bits.Goals as goal

-- a place of a chunk is one of an element, and of a bit
in_all : (place chunks n all : ℕ) → place < chunks → chunks ≡ div_ceil n 3 → n ≤ 3 * all → place < all
in_all place chunks n all l e h = omega (arith, l, e, h)

in_bits : (place chunks n : ℕ) → place < chunks → chunks ≡ div_ceil n 3 → 3 * place < n
in_bits place chunks n l e = omega (arith, l, e)

past_bits : (place chunks n : ℕ) → chunks ≤ place → chunks ≡ div_ceil n 3 → n ≤ 3 * place
past_bits place chunks n l e = omega (arith, l, e)

by_bits : {G : Type 0} (g : Group G) (sum new x : G) (a b c a' b' c' : Bool) → a ≡ a' → b ≡ b' → c ≡ c'
    → new ≡ g.plus sum (signed_times g (digit (a, b, c)) x) → new ≡ g.plus sum (signed_times g (digit (a', b', c')) x)
by_bits g sum new x a b c a' b' c' is_a is_b is_c e =
    e ∙ ap (λ k. g.plus sum (signed_times g (digit (k, b, c)) x)) is_a
    ∙ ap (λ k. g.plus sum (signed_times g (digit (a', k, c)) x)) is_b
    ∙ ap (λ k. g.plus sum (signed_times g (digit (a', b', k)) x)) is_c

pub generator_at-x-requires-clause-within : goal.generator_at-x-requires-clause-within
generator_at-x-requires-clause-within g c =
    in_all c.loop-place.place c.div_ceil-place-end.result (length c.args.bits.now) _ c.loop-place-test.true
    c.div_ceil-place-end.ensures c.requires.within

pub loop-place-preserved : goal.loop-place-preserved
loop-place-preserved g c =
    let all = concatenation (lists_in c.args.generators.now) in
    let x = c.generator_at-x.result in
    let total = g.G.AdditiveGroup.total in
    one_chunk g.met.G.AdditiveGroup.laws all c.args.bits.now (total c.loop-place.sum) (total c.add_digit-sum.result) x
    c.loop-place.place _
    (in_bits c.loop-place.place c.div_ceil-place-end.result (length c.args.bits.now) c.loop-place-test.true
    c.div_ceil-place-end.ensures) c.generator_at-x.ensures.within (sym c.generator_at-x.ensures.is)
    (by_bits g.G.AdditiveGroup.group (total c.loop-place.sum) (total c.add_digit-sum.result) x c.bit_at-a.result
    c.bit_at-b.result c.bit_at-is_negative.result _ _ _ c.bit_at-a.ensures c.bit_at-b.ensures
    c.bit_at-is_negative.ensures c.add_digit-sum.ensures) c.loop-place.invariant

pub returns : goal.returns
returns g c =
    no_chunk g.met.G.AdditiveGroup.laws (concatenation (lists_in c.args.generators.now)) c.args.bits.now
    (g.G.AdditiveGroup.total c.loop-place.sum) _ c.loop-place.place
    (past_bits c.loop-place.place c.div_ceil-place-end.result (length c.args.bits.now) c.loop-place-test.false
    c.div_ceil-place-end.ensures) c.loop-place.invariant
