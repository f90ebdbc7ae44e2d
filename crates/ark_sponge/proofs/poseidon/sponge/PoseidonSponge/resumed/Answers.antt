use Rattle.std.proofs.Common.{◌≡◌, ◌≢◌, ◌<◌, ◌≤◌, ℕ, ◌+◌, map, length, Ok, inr, refl, arith}
use Rattle.std.specs.Vec.{vec_len}
use Rattle.std.proofs.lemmas.Bool.{eq-eqb, ne_eqb, le-ltb, lt-ltb}
use Rattle.std.proofs.lemmas.List.{length-map}
use Rattle.ark_base.specs.Outcome.{Outcome}
use Rattle.ark_sponge.specs.Mode.{mode_index, IsWithin}
use Rattle.ark_sponge.specs.Permutation.{Parameters}
use Rattle.ark_sponge.specs.Sponge.{Sponge}
use Rattle.ark_sponge.specs.declared.mode.DuplexSpongeMode.{DuplexSpongeMode}
use Rattle.ark_sponge.specs.declared.mode.DuplexSpongeMode.TheVariants.{Absorbing, Squeezing}
use Rattle.ark_sponge.proofs.poseidon.sponge.PoseidonSponge.resumed.Goals.{then-len-width-via-then-len-width, then-len-width-via-else-len-width+then-mode_index-rate}
use Rattle.ark_sponge.proofs.poseidon.sponge.PoseidonSponge.resumed.Goals as goal

within_by_index : (rate : ℕ) (mode : DuplexSpongeMode) → mode_index mode ≤ rate → IsWithin rate mode
within_by_index rate (Absorbing i) h = h
within_by_index rate (Squeezing i) h = h

long : (g : _) (c : goal.In_ok-scratch g) → vec_len c.state.inside.state ≡ c.args.parameters.rate
    + c.args.parameters.capacity
long g c = omega (arith, c.len.ensures, c.if-len-width.false, c.rate.ensures.value, c.capacity.ensures)

below : (g : _) (c : goal.In_ok-scratch g) → mode_index c.state.inside.mode ≤ c.args.parameters.rate
below g c = omega (arith, c.mode_index.ensures, c.if-mode_index-rate.false, c.rate-else-len-width.ensures.value)

pub invariant_of-result : goal.invariant_of-result
invariant_of-result g c = (
  long g c,
  omega (
    arith,
    c.in_ok-scratch.ensures.len,
    c.rate.ensures.value,
    c.capacity.ensures,
    long g c,
  ),
  within_by_index _ _ (below g c),
)

pub returns : goal.returns
returns g c =
    let f = g.F.Valued.value in
    let i = c.state.inside in
    let q = c.args.parameters in
    let count : length (map f i.state.items) ≡ q.rate + q.capacity =
    omega (arith, length-map i.state.items f, i.state.ok.0, long g c) in
    let over : Parameters → Outcome Sponge =
    λ p. Ok (record { parameters = p; state = map f i.state.items; mode = i.mode }) in
    rw (← c.state.view_is, eq-eqb _ _ count, le-ltb _ _ (below g c)) refl

pub returns-then-len-width : goal.returns-then-len-width
returns-then-len-width g c =
    let f = g.F.Valued.value in
    let i = c.state.inside in
    let q = c.args.parameters in
    let len : length (map f i.state.items) ≡ c.len.result =
    omega (arith, length-map i.state.items f, i.state.ok.0, c.len.ensures) in
    elim c.then-len-width.branch [
      | then-len-width-via-then-len-width w ↦
          let other : length (map f i.state.items) ≢ q.rate + q.capacity =
          omega (arith, len, w.if-len-width.true, c.rate.ensures.value, c.capacity.ensures) in
          inr (rw (← c.state.view_is, ne_eqb _ _ other) refl)
      | then-len-width-via-else-len-width+then-mode_index-rate w ↦
          let count : length (map f i.state.items) ≡ q.rate + q.capacity =
          omega (arith, len, w.if-len-width.false, c.rate.ensures.value, c.capacity.ensures) in
          let past : q.rate < mode_index i.mode =
          omega (arith, w.mode_index.ensures, w.if-mode_index-rate.true, w.rate-else-len-width.ensures.value) in
          inr (rw (← c.state.view_is, eq-eqb _ _ count, lt-ltb _ _ past) refl)
    ]
