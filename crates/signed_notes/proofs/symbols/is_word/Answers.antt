use Rattle.std.proofs.Common.{◌≡◌, ℕ, slice_index, inl, inr, subst, arith, ◌∙◌, sym}
use Rattle.std.proofs.lemmas.Bool.{cases_lt, and_parts, eqb-true}
use Rattle.std.proofs.lemmas.List.{ext_get_or}
use Rattle.signed_notes.proofs.symbols.is_word.Goals as goal

pub loop-i-preserved : goal.loop-i-preserved
loop-i-preserved c both j below =
    let same = λ (k : ℕ). slice_index c.args.word.now k ≡ slice_index c.args.other.now k in
    elim (cases_lt j c.loop-i.i) [
      | inl less ↦ c.loop-i.invariant (and_parts _ _ both).0 j less
      | inr more ↦
          let here : c.loop-i.i ≡ j = omega (arith, below, more) in
          let last = eqb-true (slice_index c.args.word.now c.loop-i.i) (slice_index c.args.other.now c.loop-i.i)
          (and_parts _ _ both).1 in
          subst same here last
    ]

pub returns : goal.returns
returns c = λ is. ext_get_or 0 c.args.word.now c.args.other.now (c.told-word ∙ sym c.told-other)
    (λ j below. c.loop-i.invariant is j (omega (arith, below, c.told-word, c.loop-i-test.false)))
