use Rattle.std.proofs.Common.{◌≡◌, ◌++◌, Bool, List, length, replicate, take, drop, sym, ◌∙◌, ap, arith, false}
use Rattle.std.proofs.lemmas.List.{append_assoc, take_all}
use Rattle.std.proofs.Math.Seq.{take-append_seam}
use Rattle.ark_groups.specs.Bits.{bits_of_number}
use Rattle.ark_pedersen.proofs.BitSums.{length-bits_of_number}
use Rattle.ark_bowe_hopwood.specs.Nodes.{node_bits}
use Rattle.ark_bowe_hopwood.proofs.node.node_bits.Goals as goal

-- three lists that are written one behind the other
joined : (a b c : List Bool) (f rest s t : List Bool) → length a ≡ 6 → length t ≡ 516 → f ≡ a ++ rest
    → take 261 s ≡ take 6 f ++ b → take 516 t ≡ take 261 s ++ c → t ≡ a ++ (b ++ c)
joined a b c f rest s t long all is_f is_s is_t =
    let front : take 6 f ≡ a =
    ap (take 6) is_f ∙ ap (λ n. take n (a ++ rest)) (sym long) ∙ take-append_seam a rest in
    sym (take_all 516 t (omega (arith, all))) ∙ is_t ∙ ap (λ x. x ++ c) (is_s ∙ ap (λ x. x ++ b) front)
    ∙ append_assoc a b c

pub returns : goal.returns
unfolding node_bits
returns g c =
    let value = g.F.Valued.value in
    let level = bits_of_number 6 c.args.level in
    joined level (bits_of_number 255 (value c.args.left)) (bits_of_number 255 (value c.args.right)) _
    (drop 6 (replicate 516 false)) c.write_bits_at.new.out c.write_bits_at-2.new.out
    (length-bits_of_number 6 c.args.level) (omega (arith, c.write_bits_at-2.ensures.length))
    (ap (λ (x : List Bool). x ++ drop 6 (replicate 516 false)) (c.copy_from_slice.ensures.after ∙ c.level_bits.ensures))
    c.write_bits_at.ensures.front c.write_bits_at-2.ensures.front
