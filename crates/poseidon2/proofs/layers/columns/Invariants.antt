use Rattle.std.proofs.Common.{◌≡◌, ℕ, ◌%◌, map}
use Rattle.poseidon2.specs.Blocks.{column}
use Rattle.poseidon2.proofs.layers.columns.Given as goal

abbrev pub invariant-loop-b : goal.invariant-loop-b
invariant-loop-b g l =
    let f = g.F.Valued.value in
    let so_far = λ (c : ℕ). column c l.b (map f l.state) % g.F.Field.MODULUS in
    (f l.all.w0 ≡ so_far 0) × (f l.all.w1 ≡ so_far 1) × (f l.all.w2 ≡ so_far 2) × (f l.all.w3 ≡ so_far 3)
