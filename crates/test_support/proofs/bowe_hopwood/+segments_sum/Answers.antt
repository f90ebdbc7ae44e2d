use Rattle.std.proofs.Common.{◌≡◌, ◌<◌, ℕ, List, [], ◌∷◌, length, take, drop, get_or, refl, sym, ◌∙◌, arith, rules, w64}
use Rattle.std.proofs.lemmas.Bool.{eqb-true, eqb-false}
use Rattle.std.proofs.lemmas.Int.{to_z-of_z}
use mir.Val.{SFits}
use Rattle.ark_groups.specs.Group.{Group}
use Rattle.ark_bowe_hopwood.specs.BoweHopwood.{Chunk, segment_scalar, signed_times, segments_sum}
use Rattle.test_support.proofs.bowe_hopwood.+segments_sum.Goals as goal

none : {G : Type 0} (g : Group G) (size : ℕ) (xs : List G) (chunks : List Chunk) → length xs ≡ 0 → g.identity
    ≡ segments_sum g size xs chunks
unfolding segments_sum
none g size [] chunks empty = refl
none g size (x ∷ xs) chunks empty = absurd (omega arith)

first : {G : Type 0} (g : Group G) (size : ℕ) (xs : List G) (chunks : List Chunk) (x : G) → 0 < length xs → x
    ≡ get_or xs 0 x
    → g.plus (signed_times g (segment_scalar (take size chunks)) x) (segments_sum g size (drop 1 xs) (drop size chunks))
    ≡ segments_sum g size xs chunks
unfolding segments_sum
first g size [] chunks x some same = absurd (omega arith)
first g size (y ∷ xs) chunks x some same = rw same refl

pub returns-then-is_empty : goal.returns-then-is_empty
returns-then-is_empty g t c = c.zero.ensures ∙ none _ c.args.size c.args.elements.now _
    (eqb-true _ 0 (sym c.is_empty.ensures ∙ c.if-is_empty.true))

pub returns : goal.returns
returns g t c =
    let fits : SFits w64 c.segment_scalar-scalar.result = search rules in
    let some = eqb-false _ 0 (sym c.is_empty.ensures ∙ c.if-is_empty.false) in
    c.add.ensures
    ∙ rw (
      c.signed_times.ensures,
      to_z-of_z,
      c.segments_sum.ensures,
      c.items_behind.ensures,
      c.items_behind-2.ensures,
      c.segment_scalar-scalar.ensures,
      c.front.ensures,
    ) (first g.G.AdditiveGroup.group c.args.size c.args.elements.now
    c.args.chunks.now c.index-elements-0.result (omega (arith, some)) c.index-elements-0.is)
