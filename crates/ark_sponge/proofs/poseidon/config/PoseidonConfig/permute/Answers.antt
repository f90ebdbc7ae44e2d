use Rattle.std.proofs.Common.{◌≡◌, ℕ, ◌+◌, ◌/◌, ◌∙◌, List, Vec, Global, length, take, drop, map, slice_range, All, ap, sym, subst, arith}
use Rattle.std.specs.Vec.{vec_len}
use Rattle.std.proofs.lemmas.List.Elements.{All-take, All-drop}
use Rattle.std.proofs.lemmas.Option.{IfSome_then}
use Rattle.ark_sponge.specs.Permutation.{width}
use Rattle.ark_sponge.specs.Recurrence.{AreRounds}
use Rattle.ark_sponge.proofs.Rows.{permutation-parts}
use Rattle.ark_sponge.proofs.poseidon.config.PoseidonConfig.permute.Goals as goal

module _ {R : Type 0} (len : R → ℕ) (xs ys : List R) (n w : ℕ) (same : xs ≡ ys) (count : n ≡ w)
    (all : All (λ r. len r ≡ w) ys) where
  fits : All (λ r. len r ≡ n) xs
  fits = rw (same, count) all

  fits-run : (i j : ℕ) → All (λ r. len r ≡ n) (take j (drop i xs))
  fits-run i j = rw (same, count) (All-take (λ r. len r ≡ w) j (drop i ys) (All-drop (λ r. len r ≡ w) i ys all))

  fits-first : (j : ℕ) → All (λ r. len r ≡ n) (take j xs)
  fits-first j = rw (same, count) (All-take (λ r. len r ≡ w) j ys all)

pub returns : goal.returns
returns g c =
    let f = g.F.Field in
    let i = c.self.inside in
    rw (← c.self.view_is) (permutation-parts (λ row. map g.F.Valued.value row.items) f.MODULUS g.S.SBox.image
    i.full_rounds i.partial_rounds i.alpha i.mds.items i.ark.items _ _ i.rate i.capacity _ _ _ _
    c.as_slice-mds.ensures.value c.as_slice-ark.ensures.value c.apply_rounds.ensures c.run_partial_rounds.ensures
    c.apply_rounds-2.ensures)

pub apply_rounds-requires : goal.apply_rounds-requires
apply_rounds-requires g c =
    let i = c.self.inside in
    let wide : length c.args.state.now ≡ i.rate + i.capacity = c.requires.width ∙ ap width (sym c.self.view_is) in
    record {
      columns = fits vec_len _ _ _ _ c.as_slice-mds.ensures.value wide c.self.invariant.4;
      constants = fits-first vec_len _ _ _ _ c.as_slice-ark.ensures.value wide c.self.invariant.6 _;
      count = omega (arith, wide);
      rows = omega (arith, c.as_slice-mds.ensures.len, c.self.invariant.3, wide);
      width = c.requires.scratch;
    }

pub run_partial_rounds-requires : goal.run_partial_rounds-requires
run_partial_rounds-requires g c =
    let i = c.self.inside in
    let p = g.F.Field.MODULUS in
    let numbers : Vec g.row.F.Denot Global → List ℕ = λ row. map g.F.Valued.value row.items in
    let wide : length c.apply_rounds.new.state ≡ i.rate + i.capacity =
    c.apply_rounds.auto.state ∙ c.requires.width ∙ ap width (sym c.self.view_is) in
    record {
      columns = fits vec_len _ _ _ _ c.as_slice-mds.ensures.value wide c.self.invariant.4;
      mds = omega (arith, c.as_slice-mds.ensures.len, c.self.invariant.3, wide);
      recurrence = IfSome_then i.recurrence c.self.invariant.8 (λ found are.
          subst (λ ark. AreRounds p (map numbers c.as_slice-mds.result.now)
          (map numbers (slice_range ark (i.full_rounds / 2) (i.full_rounds / 2 + i.partial_rounds))) found)
          (sym c.as_slice-ark.ensures.value)
          (subst (λ mds. AreRounds p (map numbers mds)
          (map numbers (slice_range i.ark.items (i.full_rounds / 2) (i.full_rounds / 2 + i.partial_rounds))) found)
          (sym c.as_slice-mds.ensures.value) (are p g.met.F.Field.laws)));
      rows = fits-run vec_len _ _ _ _ c.as_slice-ark.ensures.value wide c.self.invariant.6 _ _;
      some = omega (arith, wide, c.self.invariant.0);
      width = c.apply_rounds.auto.scratch ∙ c.requires.scratch ∙ sym c.apply_rounds.auto.state;
    }

pub apply_rounds-requires-2 : goal.apply_rounds-requires-2
apply_rounds-requires-2 g c =
    let i = c.self.inside in
    let state = c.run_partial_rounds.auto.state ∙ c.apply_rounds.auto.state in
    let wide : length c.run_partial_rounds.new.state ≡ i.rate + i.capacity =
    state ∙ c.requires.width ∙ ap width (sym c.self.view_is) in
    record {
      columns = fits vec_len _ _ _ _ c.as_slice-mds.ensures.value wide c.self.invariant.4;
      constants = fits-run vec_len _ _ _ _ c.as_slice-ark.ensures.value wide c.self.invariant.6 _ _;
      count = omega (arith, wide);
      rows = omega (arith, c.as_slice-mds.ensures.len, c.self.invariant.3, wide);
      width = c.run_partial_rounds.auto.scratch ∙ c.apply_rounds.auto.scratch ∙ c.requires.scratch ∙ sym state;
    }
