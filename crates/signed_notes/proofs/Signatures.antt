-- The signatures that lines say, one after the other.
use Rattle.std.proofs.Common.{◌≡◌, List, [], ◌∷◌, ◌++◌, Result, Ok, Err, refl, ap, sym, append_assoc}
use Rattle.signed_notes.specs.Notes.{SignatureParts}
use Rattle.signed_notes.specs.Reading.{onto}
use Rattle.signed_notes.specs.declared.fault.Fault.{Fault}

-- some signatures in front of others
abbrev pub behind : List SignatureParts → Result (List SignatureParts) Fault → Result (List SignatureParts) Fault
behind front (Ok rest) = Ok (front ++ rest)
behind front (Err fault) = Err fault

pub behind-none : (more : Result (List SignatureParts) Fault) → behind [] more ≡ more
behind-none (Ok rest) = refl
behind-none (Err fault) = refl

pub behind-onto : (front : List SignatureParts) (s : SignatureParts) (more : Result (List SignatureParts) Fault)
    → behind front (onto s more) ≡ behind (front ++ (s ∷ [])) more
behind-onto front s (Ok rest) = ap (λ l. Ok l) (sym (append_assoc front (s ∷ []) rest))
behind-onto front s (Err fault) = refl
