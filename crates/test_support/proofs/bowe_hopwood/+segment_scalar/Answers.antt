use Rattle.std.proofs.Common.{◌≡◌, ◌≤◌, false, List, [], ◌∷◌, length, drop, get_or, ℤ, pos, ◌+ℤ◌, ◌*ℤ◌, refl, sym, ◌∙◌, nat_eq, arith, rules, w64}
use Rattle.std.proofs.lemmas.Bool.{eqb-true, eqb-false}
use Rattle.std.proofs.lemmas.Int.{ints}
use mir.Val.{SFits, to_z, of_z}
use Rattle.ark_bowe_hopwood.specs.BoweHopwood.{Chunk, digit, segment_scalar, greatest_scalar}
use Rattle.ark_bowe_hopwood.proofs.Scalars.{IsWithin, scalar-within}
use Rattle.test_support.proofs.bowe_hopwood.+segment_scalar.Goals as goal

-- a digit and the scalar behind it make the whole, and no part passes the greatest scalar of fifteen chunks
record AreParts (whole digit rest : ℤ) : Type 0 where
  first : SFits w64 digit
  others : SFits w64 rest
  rest_within : IsWithin 307445734561825860 rest
  whole_within : IsWithin 307445734561825860 whole
  sum : digit +ℤ pos 16 *ℤ rest ≡ whole

none : (chunks : List Chunk) → length chunks ≡ 0 → pos 0 ≡ segment_scalar chunks
unfolding segment_scalar
none [] empty = refl
none (chunk ∷ chunks) empty = absurd (omega arith)

within : (chunks : List Chunk) → length chunks ≤ 15 → IsWithin 307445734561825860 (segment_scalar chunks)
unfolding greatest_scalar
within chunks few = scalar-within chunks 15 few

parts : (chunks behind : List Chunk) (d rest : ℤ) → nat_eq (length chunks) 0 ≡ false → length chunks ≤ 15 → behind
    ≡ drop 1 chunks → SFits w64 d → SFits w64 rest → d ≡ digit (get_or chunks 0 (false, false, false)) → rest
    ≡ segment_scalar behind
    → AreParts (segment_scalar chunks) d rest
unfolding segment_scalar
parts [] behind d rest some few is first others is_first is_rest = absurd (omega (arith, eqb-false 0 0 some))
parts (chunk ∷ chunks) behind d rest some few is first others is_first is_rest = record {
  first = first;
  others = others;
  rest_within = rw (is_rest, is) (within chunks (omega arith));
  whole_within = within (chunk ∷ chunks) few;
  sum = rw (is_first, is_rest, is) refl;
}

product-fits : (whole d rest : ℤ) → AreParts whole d rest → SFits w64 (pos 16 *ℤ to_z w64 (of_z w64 rest))
product-fits whole d rest are = omega (arith, ints)

sum-fits : (whole d rest : ℤ) → AreParts whole d rest → SFits w64 (to_z w64 (of_z w64 d) +ℤ to_z w64
    (of_z w64 (pos 16 *ℤ to_z w64 (of_z w64 rest))))
sum-fits whole d rest are = omega (arith, ints)

sum-is : (whole d rest : ℤ) → AreParts whole d rest
    → to_z w64 (of_z w64 (to_z w64 (of_z w64 d) +ℤ to_z w64 (of_z w64 (pos 16 *ℤ to_z w64 (of_z w64 rest))))) ≡ whole
sum-is whole d rest are = omega (arith, ints)

pub returns-then-is_empty : goal.returns-then-is_empty
returns-then-is_empty t c = none c.args.chunks.now (eqb-true _ 0 (sym c.is_empty.ensures ∙ c.if-is_empty.true))

pub overflow_mul-result : goal.overflow_mul-result
overflow_mul-result t c =
    product-fits _ _ _ (parts c.args.chunks.now c.items_behind.result.now c.digit_of_bits.result c.segment_scalar.result
    (sym c.is_empty.ensures ∙ c.if-is_empty.false) c.requires c.items_behind.ensures (search rules) (search rules)
    c.digit_of_bits.ensures c.segment_scalar.ensures)

pub overflow_add-result : goal.overflow_add-result
overflow_add-result t c =
    sum-fits _ _ _ (parts c.args.chunks.now c.items_behind.result.now c.digit_of_bits.result c.segment_scalar.result
    (sym c.is_empty.ensures ∙ c.if-is_empty.false) c.requires c.items_behind.ensures (search rules) (search rules)
    c.digit_of_bits.ensures c.segment_scalar.ensures)

pub returns : goal.returns
returns t c =
    sum-is _ _ _ (parts c.args.chunks.now c.items_behind.result.now c.digit_of_bits.result c.segment_scalar.result
    (sym c.is_empty.ensures ∙ c.if-is_empty.false) c.requires c.items_behind.ensures (search rules) (search rules)
    c.digit_of_bits.ensures c.segment_scalar.ensures)
