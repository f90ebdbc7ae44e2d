use Rattle.std.proofs.Common.{◌≡◌, List, ◌++◌, ℕ, refl, ◌∙◌, ap, ap₂, length, replicate}
use Rattle.ark_base.specs.Digits.{bytes_of_number}
use Rattle.ark_base.specs.Laws.Digits.{length-bytes_of_number}
use Rattle.ed25519.specs.Values.{scalar}
use Rattle.ed25519.proofs.Comparing.{both_halves, second_long}
use Rattle.ed25519.proofs.signing.both.Goals as goal

pub returns : goal.returns
returns c =
    let a = c.copy_from_slice.new.self in
    let b = c.write_low_bytes.new.out in
    let rest = replicate 32 0 in
    let long_a : length a ≡ 32 = c.copy_from_slice.ensures.len in
    let is_b : b ≡ bytes_of_number 32 (scalar c.args.s) =
    c.write_low_bytes.ensures ∙ ap (λ n. bytes_of_number n (scalar c.args.s)) (second_long a rest long_a refl) in
    both_halves a b rest long_a (ap (λ (s : List ℕ). length s) is_b ∙ length-bytes_of_number 32 (scalar c.args.s)) refl
    ∙ ap₂ (λ (s t : List ℕ). s ++ t) (c.copy_from_slice.ensures.after ∙ c.as_slice.ensures) is_b
