use Rattle.std.proofs.Common.{◌≡◌, ◌<◌, ◌+◌, ◌*◌, ◌≤◌, ◌++◌, ℕ, List, length, map, take, drop, All}
use Rattle.ark_groups.specs.Words.{number}
use Rattle.ark_wide_fields.specs.Moduli.{value_of}
use Rattle.circom.specs.Elements.{form_bytes}
use Rattle.circom.proofs.forms.read_forms.Given as goal

abbrev pub invariant-loop : goal.invariant-loop
invariant-loop g l =
    let m = g.M.WideModulus in
    record {
      read : (xs : List ℕ) → All (λ x. x < number m.P) xs → l.bytes ≡ form_bytes (number m.P) xs
          → (l.rest ≡ form_bytes (number m.P) (drop l.counter xs))
          × (map (λ x. value_of m.P m.INVERSE x.form) l.elements.items ≡ take l.counter xs);
      front : l.bytes ≡ form_bytes (number m.P) (map (λ x. value_of m.P m.INVERSE x.form) l.elements.items) ++ l.rest;
      left : length l.rest + 32 * l.counter ≡ length l.bytes;
      room : (k : ℕ) → l.counter + k ≡ l.count → 32 * k ≤ length l.rest;
      whole : 32 * l.count ≡ length l.bytes;
    }
