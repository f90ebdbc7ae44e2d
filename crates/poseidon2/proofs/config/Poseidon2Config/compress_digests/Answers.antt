use Rattle.std.proofs.Common.{◌≡◌, ◌+◌, ◌≤◌, ◌∙◌, sym, ap, map, take, length, arith, List, ℕ}
use Rattle.std.proofs.lemmas.List.{take_at}
use Rattle.std.proofs.Math.ListN.{length-map}
use Rattle.ark_base.specs.Laws.Steps.{done_injective}
use Rattle.ark_base.specs.declared.error.Error.{Error}
use Rattle.poseidon2.specs.Modes.{both_and_zeros}
use Rattle.poseidon2.specs.Permutation.{poseidon2_permutation}
use Rattle.poseidon2.proofs.ModeStates.{compressed-answer}
use Rattle.poseidon2.proofs.config.Poseidon2Config.compress_digests.Goals as goal

pub returns : goal.returns
returns g c =
    let v = g.F.Valued.value in
    let a = c.args in
    let left = map v a.left.now in
    let right = map v a.right.now in
    let permute = poseidon2_permutation g.F.Field.MODULUS g.S.SBox.image g.B.BlockMatrix.matrix a.self.now in
    let width : c.width-width.result ≡ length a.self.now.diagonal = c.width-width.ensures.value in
    let same : length left ≡ length right =
    rw (length-map a.left.now v, length-map a.right.now v) (omega (arith, c.if-count-right.false)) in
    let fits : length left + length right ≤ length a.self.now.diagonal =
    rw (length-map a.left.now v, length-map a.right.now v)
    (omega (arith, c.if-count-right.false, c.if-count-width.false, width)) in
    let made = done_injective {A = List ℕ} {E = Error} _ _ c.in_ok-state.ensures.numbers in
    let back = take_at c.permute.new.state _ _ (omega (
      arith,
      c.permute.auto.state,
      ap length c.deref_mut.ensures.value,
      c.in_ok-state.state.ok.0,
    )) in
    let count = length a.left.now in
    let start : map v c.deref_mut.result.now ≡ both_and_zeros (length a.self.now.diagonal) left right =
    ap (map v) c.deref_mut.ensures.value ∙ sym made ∙ ap (λ n. both_and_zeros n left right) width in
    compressed-answer _ _ _ a.self.now left right (map v c.front_of.result.items) same fits
    (c.front_of.ensures ∙ ap (λ l. take count (map v l)) back ∙ ap (take count) (c.permute.ensures ∙ ap permute start)
    ∙ ap (λ n. take n (permute (both_and_zeros (length a.self.now.diagonal) left right)))
    (sym (length-map a.left.now v)))
