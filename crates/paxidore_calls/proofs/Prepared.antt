-- Parameters that were written are read again.
use Rattle.std.proofs.Common.{◌≡◌, ℕ, List, [], ◌++◌, Ok, refl, sym, ◌∙◌, append-nil}
use Rattle.ark_base.specs.Digits.{IsBelow}
use Rattle.ark_sponge.specs.ConfigBytes.{HaveSpelling, fields_of, fields_spelling}
use Rattle.ark_sponge.specs.Laws.ConfigBytes.{parameters_by_laws}
use Rattle.ark_sponge.specs.Permutation.{Parameters, lawful_parameters}
use Rattle.paxidore_calls.specs.Forms.{Form, HasForm}
use Rattle.paxidore_calls.specs.Transcript.{formed, parameters_in}

pub read-again : (p bits : ℕ) (form : Form) (c : Parameters) (bytes : List ℕ) → HasForm p form
    → HaveSpelling (IsBelow p) (fields_of c) → lawful_parameters bits c ≡ Ok c
    → bytes ≡ fields_spelling form.spells (fields_of c) → parameters_in (formed p bits form) bytes ≡ Ok c
read-again p bits form c bytes laws below lawful is =
    let again = (parameters_by_laws bits (IsBelow p) form.spells form.reads laws).again c [] (below, lawful) in
    let whole : bytes ≡ fields_spelling form.spells (fields_of c) ++ [] = is ∙ sym (append-nil _) in
    rw (whole, again) refl
