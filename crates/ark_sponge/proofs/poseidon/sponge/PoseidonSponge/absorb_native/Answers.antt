use Rattle.std.proofs.Common.{◌≡◌, ◌<◌, [], refl, sym, arith, length, map}
use Rattle.std.proofs.lemmas.Bool.{eqb-true}
use Rattle.std.proofs.lemmas.List.{nil_from_length}
use Rattle.ark_sponge.specs.Permutation.{permutation}
use Rattle.ark_sponge.proofs.Cuts.{after_absorbing-cut, within_start}
use Rattle.ark_sponge.proofs.Permuting.{numbers-state}
use Rattle.ark_sponge.proofs.poseidon.sponge.PoseidonSponge.absorb_native.Goals as goal

pub returns-then-not-is_empty-clause-cut : goal.returns-then-not-is_empty-clause-cut
returns-then-not-is_empty-clause-cut g c =
    let f = g.F.Field in
    let laws = g.met.F.Field in
    let i = c.self.inside in
    let q = i.parameters in
    let r = c.rate-known.ensures in
    let pos : 0 < q.rate = omega arith in
    let p_pos : 0 < f.MODULUS = omega (arith, f.modulus_laws.at_least_two) in
    let pi = permutation f.MODULUS g.S.SBox.image q in
    rw (← c.self.view_is)
    (after_absorbing-cut f.MODULUS g.S.SBox.image (record {
      parameters = q;
      state = map g.F.Valued.value i.state.items;
      mode = i.mode;
    }) pos p_pos r.rows
    (numbers-state g.F.Valued.value f.MODULUS q.rate q.capacity pi pos p_pos i.state.items laws.laws.below
    (omega (arith, i.state.ok.0, c.self.invariant.0))) (within_start q.rate i.mode c.self.invariant.2)
    (map g.F.Valued.value c.args.elements.now))

pub absorb_blocks-index-requires-clause-width : goal.absorb_blocks-index-requires-clause-width
absorb_blocks-index-requires-clause-width g c = omega (arith, c.deref_mut.ensures.len, c.self.invariant.0)

pub absorb_blocks-index-requires-clause-scratch : goal.absorb_blocks-index-requires-clause-scratch
absorb_blocks-index-requires-clause-scratch g c =
    omega (arith, c.deref_mut.ensures.len, c.deref_mut-then-not-is_empty.ensures.len, c.self.invariant.1)

pub absorb_blocks-index-requires-clause-start : goal.absorb_blocks-index-requires-clause-start
absorb_blocks-index-requires-clause-start g c =
    rw c.absorb_index-start.ensures (within_start c.self.inside.parameters.rate c.self.inside.mode c.self.invariant.2)

pub invariant_of-self : goal.invariant_of-self
invariant_of-self g c = (c.self.invariant.0, c.self.invariant.1, c.absorb_blocks-index.ensures.within)

pub returns-else-not-is_empty-clause-sponge : goal.returns-else-not-is_empty-clause-sponge
returns-else-not-is_empty-clause-sponge g c =
    let none : c.args.elements.now ≡ [] = nil_from_length c.args.elements.now (eqb-true (length c.args.elements.now) 0
    (sym c.if-not-is_empty.ensures)) in
    rw none refl

pub returns-else-not-is_empty-clause-cut : goal.returns-else-not-is_empty-clause-cut
returns-else-not-is_empty-clause-cut g c = λ more.
    let none : c.args.elements.now ≡ [] = nil_from_length c.args.elements.now (eqb-true (length c.args.elements.now) 0
    (sym c.if-not-is_empty.ensures)) in
    rw none refl
