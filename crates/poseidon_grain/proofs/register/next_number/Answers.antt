use Rattle.std.proofs.Common.{min, ap, ◌∙◌}
use Rattle.poseidon_grain.proofs.Bits.{four_words}
use Rattle.poseidon_grain.proofs.register.next_number.Goals as goal

pub returns-clause-drawn : goal.returns-clause-drawn
returns-clause-drawn c =
    four_words c.args.count c.args.register.now c.next_word-w3.result c.next_word-w2.result c.next_word-w1.result
    c.next_word-w0.result c.next_word-w0.new.register (record {
      a = _;
      b = _;
      c = _;
      d = _;
      r3 = c.next_word-w3.new.register;
      r2 = c.next_word-w2.new.register;
      r1 = c.next_word-w1.new.register;
      is_a = c.saturating_sub.ensures;
      is_b = c.min.ensures ∙ ap (λ n. min n 64) c.saturating_sub-2.ensures;
      is_c = c.min-2.ensures ∙ ap (λ n. min n 64) c.saturating_sub-3.ensures;
      is_d = c.min-3.ensures;
      top = c.next_word-w3.ensures;
      upper = c.next_word-w2.ensures;
      lower = c.next_word-w1.ensures;
      lowest = c.next_word-w0.ensures;
    }) c.requires
