use Rattle.std.proofs.Common.{◌≡◌, ℕ, suc, ◌+◌, ◌-◌, ◌*◌, ◌/◌, ◌<◌, List, ◌∷◌, length, drop, get_or, sym, ap, ◌∙◌, arith, drop-cons}
use Rattle.ark_groups.specs.Group.{Group, IsCommutativeGroup}
use Rattle.ark_groups.specs.Bits.{bits_of_number}
use Rattle.ark_pedersen.specs.Pedersen.{lists_in, concatenation}
use Rattle.ark_bowe_hopwood.specs.BoweHopwood.{Chunk, chunks_of, digit, signed_times, digits_sum}
use Rattle.ark_bowe_hopwood.proofs.Chunks.{lowest, chunks_of-first, digits_sum-done}
use Rattle.ark_bowe_hopwood.proofs.sums.add_chunks.Goals as goal

-- the element at a place is added as often as the lowest chunk says
step : {G : Type 0} {g : Group G} (laws : IsCommutativeGroup g) (all : List G) (sum new x : G) (place end number : ℕ)
    → place < end → place < length all → get_or all place x ≡ x
    → new ≡ g.plus sum (signed_times g (digit (lowest number)) x)
    → g.plus new (digits_sum g (drop (place + 1) all) (chunks_of (bits_of_number (3 * (end - (place + 1)))
    (number / 8)))) ≡ g.plus sum (digits_sum g (drop place all)
    (chunks_of (bits_of_number (3 * (end - place)) number)))
unfolding digits_sum
step {G} {g} laws all sum new x place end number before within same added =
    let one : end - place ≡ suc (end - (place + 1)) = omega arith in
    let next : suc place ≡ place + 1 = omega arith in
    let rest : List Chunk = chunks_of (bits_of_number (3 * (end - (place + 1))) (number / 8)) in
    let here : drop place all ≡ x ∷ drop (place + 1) all = drop-cons all place x (omega arith)
    ∙ ap (λ (y : G). y ∷ drop (suc place) all) same ∙ ap (λ (n : ℕ). x ∷ drop n all) next in
    ap (λ (s : G). g.plus s (digits_sum g (drop (place + 1) all) rest)) added
    ∙ laws.assoc _ _ _
    ∙ ap (g.plus sum) (sym (ap (λ (k : ℕ). digits_sum g (drop place all) (chunks_of (bits_of_number (3 * k) number)))
    one
    ∙ ap (digits_sum g (drop place all)) (chunks_of-first (end - (place + 1)) number)
    ∙ ap (λ (t : List G). digits_sum g t (lowest number ∷ rest)) here))

pub generator_at-x-requires-clause-within : goal.generator_at-x-requires-clause-within
generator_at-x-requires-clause-within g c = omega (arith, c.loop-place-test.true, c.requires.within)

pub loop-place-preserved : goal.loop-place-preserved
loop-place-preserved g c =
    let total = g.G.AdditiveGroup.total in
    step g.met.G.AdditiveGroup.laws (concatenation (lists_in c.args.generators.now)) (total c.loop-place.sum)
    (total c.add_digit-sum.result) c.generator_at-x.result c.loop-place.place c.args.end c.loop-place.number
    (omega (arith, c.loop-place-test.true)) c.generator_at-x.ensures.within (sym c.generator_at-x.ensures.is)
    c.add_digit-sum.ensures
    ∙ c.loop-place.invariant

pub returns : goal.returns
returns g c =
    digits_sum-done g.met.G.AdditiveGroup.laws _ (g.G.AdditiveGroup.total c.loop-place.sum) _ (3 *
    (c.args.end - c.loop-place.place))
    c.loop-place.number (omega (arith, c.loop-place-test.false)) c.loop-place.invariant
