use Rattle.std.proofs.Common.{sym}
use Rattle.ark_groups.specs.Words.{number}
use Rattle.ark_wide_fields.specs.Laws.Moduli.{at_least_two}
use Rattle.paxidore_calls.specs.Forms.{divided}
use Rattle.paxidore_calls.specs.Laws.Forms.{divided_below, scaled_divided, odd_modulus}
use Rattle.paxidore_calls.proofs.transcript.forms.scaled_element.Goals as goal

pub returns : goal.returns
returns g c =
    let laws = g.M.WideModulus.laws in
    let p = number g.M.WideModulus.P in
    let n = number c.args.words in
    c.of_form_words.ensures (divided p n) (divided_below p (at_least_two laws) (odd_modulus laws) n)
    (sym (scaled_divided p (at_least_two laws) (odd_modulus laws) n c.requires))
