use Rattle.std.proofs.Common.{◌≡◌, List, ◌++◌, ℕ, refl, ◌∙◌, ap, ap₂, length, replicate}
use Rattle.ark_base.specs.Digits.{bytes_of_number}
use Rattle.ark_base.specs.Laws.Digits.{length-bytes_of_number}
use Rattle.jubjub.specs.Values.{value}
use Rattle.jubjub.proofs.Spelled.{both_halves, second_long}
use Rattle.jubjub.proofs.bytes.bytes_of_point.Goals as goal

pub returns : goal.returns
returns c =
    let a = c.write_low_bytes.new.out in
    let b = c.write_low_bytes-2.new.out in
    let rest = replicate 32 0 in
    let long_a : length a ≡ 32 =
    ap (λ (s : List ℕ). length s) c.write_low_bytes.ensures ∙ length-bytes_of_number 32 (value c.args.x) in
    let is_b : b ≡ bytes_of_number 32 (value c.args.y) =
    c.write_low_bytes-2.ensures ∙ ap (λ n. bytes_of_number n (value c.args.y)) (second_long a rest long_a refl) in
    both_halves a b rest long_a (ap (λ (s : List ℕ). length s) is_b ∙ length-bytes_of_number 32 (value c.args.y)) refl
    ∙ ap₂ (λ (s t : List ℕ). s ++ t) c.write_low_bytes.ensures is_b
