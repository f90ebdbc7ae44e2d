use Rattle.std.proofs.Common.{arith, sym, ◌∙◌}
use Rattle.kept_map.proofs.Rising.{behind-one}
use Rattle.kept_map.proofs.many.zeros_of.Goals as goal

pub returns-then-bit_of : goal.returns-then-bit_of
returns-then-bit_of c =
    let inside = c.keys-test.true in
    record {
      within = omega (arith, inside);
      low = c.keys.invariant;
      high = behind-one c.args.level c.requires.within c.args.keys.now c.requires.sorted c.keys.n
          (sym c.bit_of.ensures ∙ c.if-bit_of.true);
    }
