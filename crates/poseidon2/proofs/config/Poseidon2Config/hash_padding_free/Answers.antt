use Rattle.std.proofs.Common.{◌≡◌, ◌∙◌, sym, ap, map, take, length, replicate, List, ℕ, arith}
use Rattle.std.proofs.lemmas.List.{take_at}
use Rattle.ark_sponge.proofs.Zeros.{all_zero}
use Rattle.poseidon2.specs.Modes.{state_overwriting}
use Rattle.poseidon2.specs.Permutation.{poseidon2_permutation}
use Rattle.poseidon2.proofs.ModeStates.{padding_free-answer}
use Rattle.poseidon2.proofs.config.Poseidon2Config.hash_padding_free.Goals as goal

pub returns : goal.returns
returns g c =
    let v = g.F.Valued.value in
    let p = g.F.Field.MODULUS in
    let a = c.args in
    let s = g.S.SBox.image in
    let row = g.B.BlockMatrix.matrix in
    let width : c.width-width.result ≡ length a.self.now.diagonal = c.width-width.ensures.value in
    let items = c.in_ok-state.ensures.items_if_clones_equal (λ y k. sym (g.met.F.Field.clones _ _ k)) in
    let zeros : map v c.in_ok-state.state.items ≡ replicate (length a.self.now.diagonal) 0 =
    ap (map v) items ∙ all_zero v c.width-width.result c.zero.result c.zero.ensures ∙ ap (λ n. replicate n 0) width in
    let absorbed = λ (t : List ℕ). take a.count (state_overwriting (poseidon2_permutation p s row a.self.now) a.rate t
    (map v a.elements.now)) in
    let back = take_at c.overwrite_blocks.new.state _ _ (omega (
      arith,
      c.overwrite_blocks.ensures.length,
      ap length c.deref_mut.ensures.value,
      c.in_ok-state.state.ok.0,
    )) in
    padding_free-answer p s row a.self.now a.rate a.count (map v a.elements.now) (map v c.front_of.result.items)
    (omega (arith, c.if-rate-eq0.false)) (omega (arith, c.if-rate-width.false, width))
    (omega (arith, c.if-count-width.false, width))
    (c.front_of.ensures ∙ ap (λ l. take a.count (map v l)) back ∙ ap (take a.count) c.overwrite_blocks.ensures.state
    ∙ ap absorbed (ap (map v) c.deref_mut.ensures.value ∙ zeros))
