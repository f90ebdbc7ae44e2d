use Rattle.std.proofs.Common.{◌≡◌, ◌<◌, min, false, List, [], ◌∷◌, length, drop, get_or, refl, ◌∙◌, arith, rules, w64}
use Rattle.std.proofs.lemmas.Int.{to_z-of_z}
use mir.Val.{SFits}
use Rattle.ark_groups.specs.Group.{Group}
use Rattle.ark_bowe_hopwood.specs.BoweHopwood.{Chunk, digit, signed_times, digits_sum}
use Rattle.test_support.proofs.bowe_hopwood.+digits_sum.Goals as goal

none : {G : Type 0} (g : Group G) (xs : List G) (chunks : List Chunk) → min (length xs) (length chunks) ≡ 0 → g.identity
    ≡ digits_sum g xs chunks
unfolding digits_sum
none g [] chunks empty = refl
none g (x ∷ xs) [] empty = refl
none g (x ∷ xs) (chunk ∷ chunks) empty = absurd (omega arith)

first : {G : Type 0} (g : Group G) (xs : List G) (chunks : List Chunk) (x : G) → 0 < min (length xs) (length chunks) → x
    ≡ get_or xs 0 x
    → g.plus (signed_times g (digit (get_or chunks 0 (false, false, false))) x) (digits_sum g (drop 1 xs)
    (drop 1 chunks)) ≡ digits_sum g xs chunks
unfolding digits_sum
first g [] chunks x some same = absurd (omega arith)
first g (y ∷ xs) [] x some same = absurd (omega arith)
first g (y ∷ xs) (chunk ∷ chunks) x some same = rw same refl

pub returns-then-min-eq0 : goal.returns-then-min-eq0
returns-then-min-eq0 g t c = c.zero.ensures ∙ none _ c.args.elements.now c.args.chunks.now (omega arith)

pub returns : goal.returns
returns g t c =
    let fits : SFits w64 c.digit_of_bits.result = search rules in
    c.add.ensures ∙ rw (
      c.signed_times.ensures,
      to_z-of_z,
      c.digits_sum.ensures,
      c.items_behind.ensures,
      c.items_behind-2.ensures,
      c.digit_of_bits.ensures,
    ) (first g.G.AdditiveGroup.group c.args.elements.now c.args.chunks.now c.index-elements-0.result
    (omega arith) c.index-elements-0.is)
