use Rattle.std.proofs.Common.{true, false, not, Ok, ap, sym, ◌∙◌}
use Rattle.ark_base.specs.Outcome.{◌>>=◌}
use Rattle.merkle_map.specs.Tree.{Empty, Fork}
use Rattle.merkle_map.proofs.Keys.{bits_left}
use Rattle.merkle_map.proofs.Two.{two-next}
use Rattle.merkle_map.proofs.Answered.{answers_as}
use Rattle.merkle_map.specs.declared.part.Part.{Empty as NoEntry}
use Rattle.merkle_map.proofs.Keeping.{kept-above}
use Rattle.merkle_map.proofs.put.+apart.Goals as goal

pub have_same_bit-requires : goal.have_same_bit-requires
have_same_bit-requires g t c = record {
  within =
      bits_left c.args.level c.args.own.key c.args.other.key c.requires.own_key c.requires.other_key c.requires.within
      c.requires.together c.requires.differ;
  together = c.requires.together;
}

pub returns-then-bit_of-clause-made : goal.returns-then-bit_of-clause-made
returns-then-bit_of-clause-made g t c =
    let own = sym c.bit_of.ensures ∙ c.if-bit_of.true in
    answers_as _ _ _ _ (ap Ok (two-next c.args.level _ _ c.have_same_bit.ensures.within true false own
    (c.have_same_bit.ensures.other c.if-have_same_bit.false ∙ ap not own))) c.two.ensures.made

pub returns-else-bit_of-clause-made : goal.returns-else-bit_of-clause-made
returns-else-bit_of-clause-made g t c =
    let own = sym c.bit_of.ensures ∙ c.if-bit_of.false in
    answers_as _ _ _ _ (ap Ok (two-next c.args.level _ _ c.have_same_bit.ensures.within false true own
    (c.have_same_bit.ensures.other c.if-have_same_bit.false ∙ ap not own))) c.two-else-have_same_bit.ensures.made

pub returns-then-is_right-clause-made : goal.returns-then-is_right-clause-made
returns-then-is_right-clause-made g t c =
    let own = sym c.bit_of-is_right.ensures ∙ c.if-is_right.true in
    answers_as _ _ _ _ (ap Ok (two-next c.args.level _ _ c.have_same_bit.ensures.within true true own
    (c.have_same_bit.ensures.same c.if-have_same_bit.true ∙ own))
    ∙ ap (λ o. o >>= λ s. Ok (Fork Empty s)) c.in_ok-below.ensures.made) c.fork.ensures.made

pub returns-else-is_right-clause-made : goal.returns-else-is_right-clause-made
returns-else-is_right-clause-made g t c =
    let own = sym c.bit_of-is_right.ensures ∙ c.if-is_right.false in
    answers_as _ _ _ _ (ap Ok (two-next c.args.level _ _ c.have_same_bit.ensures.within false false own
    (c.have_same_bit.ensures.same c.if-have_same_bit.true ∙ own))
    ∙ ap (λ o. o >>= λ s. Ok (Fork s Empty)) c.in_ok-below.ensures.made) c.fork-else-is_right.ensures.made

pub returns-then-is_right-clause-kept : goal.returns-then-is_right-clause-kept
returns-then-is_right-clause-kept g t c =
    kept-above g.D.Numbered.numbers c.fork.result NoEntry c.in_ok-below.below c.fork.ensures.kept (λ h. tt)
    c.in_ok-below.ensures.kept

pub returns-else-is_right-clause-kept : goal.returns-else-is_right-clause-kept
returns-else-is_right-clause-kept g t c =
    kept-above g.D.Numbered.numbers c.fork-else-is_right.result c.in_ok-below.below NoEntry
    c.fork-else-is_right.ensures.kept c.in_ok-below.ensures.kept (λ h. tt)
