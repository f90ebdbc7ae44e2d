use Rattle.std.proofs.Common.{◌≡◌, ◌*◌, ◌%◌, ◌^◌, ◌<◌, sym, ap, ◌∙◌, arith}
use Rattle.std.proofs.lemmas.Nat.{mod_below}
use Rattle.ark_base.specs.Digits.{bytes_of_number, number_of_bytes}
use Rattle.ark_base.specs.Laws.Digits.{bytes_of_number-number_of_bytes, number_of_bytes-bytes_of_number}
use Rattle.ark_base.specs.Reading.{IsBytes}
use Rattle.ark_groups.specs.Words.{number}
use Rattle.ark_wide_fields.specs.Laws.Moduli.{at_least_two}
use Rattle.ark_wide_fields.specs.Laws.Montgomery.{form_below}
use Rattle.ark_wide_fields.specs.Moduli.{from_form}
use Rattle.circom.proofs.Reading.{form_again}
use Rattle.circom.proofs.forms.form_of.Goals as goal

pub returns-then-is_below-clause-form : goal.returns-then-is_below-clause-form
returns-then-is_below-clause-form g c = λ n below is.
    let m = g.M.WideModulus in
    let form = n * 2 ^ 256 % number m.P in
    let fits : form < number m.P = mod_below (n * 2 ^ 256) (number m.P) (omega (arith, at_least_two m.laws)) in
    c.of_form_words.ensures n below (c.words_of-words.ensures ∙ ap number_of_bytes is
    ∙ number_of_bytes-bytes_of_number 32 form (omega (arith, fits, m.laws.bound)))

pub returns-else-is_below-clause-form : goal.returns-else-is_below-clause-form
returns-else-is_below-clause-form g c = λ n below is.
    let m = g.M.WideModulus in
    let form = n * 2 ^ 256 % number m.P in
    let fits : form < number m.P = mod_below (n * 2 ^ 256) (number m.P) (omega (arith, at_least_two m.laws)) in
    let same = c.words_of-words.ensures ∙ ap number_of_bytes is
    ∙ number_of_bytes-bytes_of_number 32 form (omega (arith, fits, m.laws.bound)) in
    let no = c.if-is_below.ensures.1 (rw (same, c.P.ensures) fits) in cc

pub returns-then-is_below-clause-found : goal.returns-then-is_below-clause-found
returns-then-is_below-clause-found g c =
    let m = g.M.WideModulus in
    let p = number m.P in
    let two = at_least_two m.laws in
    let words = number c.words_of-words.result in
    let bytes = c.args.bytes.now in
    let small : IsBytes bytes = λ i. omega (arith, c.type_inv.bytes i) in
    let below : words < p = rw c.P.ensures at (c.is_below.ensures.0 c.if-is_below.true) in
    let again = form_again p m.INVERSE two m.laws.turned words below in
    let value = c.of_form_words.ensures (from_form p m.INVERSE words)
    (form_below p m.INVERSE two m.laws.turned words) (sym again) in
    let spelled : bytes_of_number 32 (number_of_bytes bytes) ≡ bytes =
    ap (λ n. bytes_of_number n (number_of_bytes bytes)) (sym c.requires)
    ∙ bytes_of_number-number_of_bytes bytes small in
    sym (ap (bytes_of_number 32) (ap (λ n. n * 2 ^ 256 % p) value ∙ again ∙ c.words_of-words.ensures) ∙ spelled)
