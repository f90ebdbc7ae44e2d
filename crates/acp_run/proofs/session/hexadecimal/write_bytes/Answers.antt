use Rattle.std.proofs.Common.{◌≡◌, ◌+◌, ◌*◌, ◌<◌, ◌≤◌, length, get_or, set, sym, ◌∙◌, ap, subst, arith}
use Rattle.acp_run.specs.Tokens.{digit_number}
use Rattle.acp_run.proofs.Hexadecimal.{IsWritten, high_is_none, low_is_none, written-all, written-more}
use Rattle.acp_run.proofs.session.hexadecimal.write_bytes.Goals as goal
use Rattle.acp_run.proofs.session.hexadecimal.write_bytes.Goals.{then-high-gt15-via-then-high-gt15, then-high-gt15-via-else-high-gt15+then-low-gt15}

pub returns-then-high-gt15-clause-none : goal.returns-then-high-gt15-clause-none
returns-then-high-gt15-clause-none c =
    let i = c.loop-i.i in
    let fits : length c.args.digits.now ≡ 2 * length c.loop-i.bytes = omega arith in
    let below : i < length c.loop-i.bytes = omega arith in
    λ _. elim c.then-high-gt15.branch [
      | then-high-gt15-via-then-high-gt15 w ↦
          high_is_none c.args.digits.now c.loop-i.bytes i fits below c.loop-i.invariant
          (subst (λ n. 15 < n) c.digit_number-high.ensures w.if-high-gt15.true)
      | then-high-gt15-via-else-high-gt15+then-low-gt15 w ↦
          low_is_none c.args.digits.now c.loop-i.bytes i fits below c.loop-i.invariant
          (subst (λ n. 15 < n) c.digit_number-low.ensures w.if-low-gt15.true)
    ]

pub loop-i-preserved : goal.loop-i-preserved
loop-i-preserved c =
    let i = c.loop-i.i in
    let fits : length c.args.digits.now ≡ 2 * length c.loop-i.bytes = omega arith in
    let below : i < length c.loop-i.bytes = omega arith in
    let high = c.digit_number-high.ensures in
    let low = c.digit_number-low.ensures in
    subst (λ b. IsWritten c.args.digits.now (set c.loop-i.bytes i b) (i + 1))
    (ap (λ h. h * 16 + digit_number (get_or c.args.digits.now (2 * i + 1) 0)) (sym high)
    ∙ ap (λ l. c.digit_number-high.result * 16 + l) (sym low))
    (written-more c.args.digits.now c.loop-i.bytes i fits below c.loop-i.invariant
    (subst (λ n. n ≤ 15) high c.if-high-gt15.false) (subst (λ n. n ≤ 15) low c.if-low-gt15.false))

pub returns-clause-all : goal.returns-clause-all
returns-clause-all c = λ _.
    written-all c.args.digits.now c.loop-i.bytes c.loop-i.i (omega arith) (omega arith) c.loop-i.invariant
