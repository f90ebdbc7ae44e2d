-- The laws of the moduli.
use Rattle.std.specs.Prelude.{◌*◌, T, ltb, leb}
use Rattle.std.proofs.Common.{ℕ, zero, suc, ◌≤◌, ◌^◌, arith, lit≤, lit<, inl, inr}
use Rattle.std.proofs.Math.Nat.{pow-le-pow_right}
use Rattle.std.proofs.lemmas.Bool.{cases_lt}
use Rattle.ark_groups.specs.Field.{IsModulus, IsFieldModulus}

-- a modulus that is written out: its bounds are computed
pub written_modulus : {p bits : ℕ} → T (leb 2 p) → T (ltb p (2 ^ 64)) → T (ltb p (2 ^ bits))
    → T (leb (2 ^ bits) (2 * p))
    → IsModulus p bits
written_modulus two word more fewer =
    record {
      at_least_two = lit≤ two;
      in_word = lit< word;
      digits = record {
        no_more = lit< more;
        no_fewer =
            lit≤ fewer;
      };
    }

-- a modulus of one word is one of a field
pub field_modulus : (p bits : ℕ) → IsModulus p bits → IsFieldModulus p bits
field_modulus p bits laws =
    record { at_least_two = laws.at_least_two; in_words = omega (arith, laws.in_word); digits = laws.digits }

pub at_least_two_bits : (p bits : ℕ) → IsFieldModulus p bits → 2 ≤ bits
at_least_two_bits p zero laws = absurd (omega (arith, laws.digits.no_more, laws.at_least_two))
at_least_two_bits p (suc zero) laws = absurd (omega (arith, laws.digits.no_more, laws.at_least_two))
at_least_two_bits p (suc (suc bits)) laws = omega arith

pub at_most_256_bits : (p bits : ℕ) → IsFieldModulus p bits → bits ≤ 256
at_most_256_bits p bits laws =
    elim (cases_lt 256 bits) [
      | inl over ↦
          let grown : 2 ^ 257 ≤ 2 ^ bits = pow-le-pow_right (lit< tt) over in
          absurd (omega (arith, laws.digits.no_fewer, laws.in_words, grown))
      | inr within ↦ within
    ]

pub at_most_64_bits : (p bits : ℕ) → IsModulus p bits → bits ≤ 64
at_most_64_bits p bits laws =
    elim (cases_lt 64 bits) [
      | inl over ↦
          let grown : 2 ^ 65 ≤ 2 ^ bits = pow-le-pow_right (lit< tt) over in
          absurd (omega (arith, laws.digits.no_fewer, laws.in_word))
      | inr within ↦ within
    ]
