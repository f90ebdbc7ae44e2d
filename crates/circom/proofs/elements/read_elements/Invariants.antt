use Rattle.std.proofs.Common.{◌≡◌, ℕ, ◌+◌, ◌*◌, ◌≤◌, length, map, take}
use Rattle.circom.specs.Elements.{elements_of_bytes}
use Rattle.circom.proofs.Reading.{behind}
use Rattle.circom.proofs.elements.read_elements.Given as goal

abbrev pub invariant-loop-i : goal.invariant-loop-i
invariant-loop-i g l = record {
  same : (k : ℕ) → l.i + k ≡ length l.initial.out
      → elements_of_bytes g.F.Field.MODULUS l.order (length l.initial.out) l.bytes
      ≡ behind (map g.F.Valued.value (take l.i l.out)) (elements_of_bytes g.F.Field.MODULUS l.order k l.rest);
  room : (k : ℕ) → l.i + k ≡ length l.initial.out → 32 * k ≤ length l.rest;
}
