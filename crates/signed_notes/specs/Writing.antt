-- The bytes of a note, or the first fault of its parts.
use Rattle.std.specs.Prelude.{ℕ, nat_lt, not, List, [], ◌∷◌, ◌++◌, length, Result, Ok}
use Rattle.ark_base.specs.Outcome.{◌>>=◌}
use Rattle.signed_notes.specs.Faults.{only_where}
use Rattle.signed_notes.specs.Notes.{SignatureParts, NoteParts, is_ended, is_name, is_text, line_of, most_bytes, most_signatures}
use Rattle.signed_notes.specs.declared.fault.Fault.{Fault}
use Rattle.signed_notes.specs.declared.fault.Fault.TheVariants.{Name, NoSignatures, NotText, Short, TooLong, TooMany, Unfinished}

-- the line of a signature, with its line feed
abbrev pub written_line : SignatureParts → Result (List ℕ) Fault
written_line s = only_where (is_name s.name) Name (only_where (nat_lt 0 (length s.bytes)) Short
    (Ok (line_of s ++ (10 ∷ []))))

-- bytes in front of others
abbrev pub in_front_of : List ℕ → Result (List ℕ) Fault → Result (List ℕ) Fault
in_front_of front more = more >>= λ rest. Ok (front ++ rest)

-- the lines of signatures
abbrev pub written_lines : List SignatureParts → Result (List ℕ) Fault
written_lines [] = Ok []
written_lines (s ∷ more) = written_line s >>= λ line. in_front_of line (written_lines more)

-- at most so many bytes
abbrev pub not_too_long : List ℕ → Result (List ℕ) Fault
not_too_long bytes = only_where (not (nat_lt most_bytes (length bytes))) TooLong (Ok bytes)

-- a text may be signed
abbrev pub if_signable : {A : Type 0} → List ℕ → Result A Fault → Result A Fault
if_signable text next = only_where (is_text text) NotText (only_where (is_ended text) Unfinished next)

-- the bytes of a note
abbrev pub write_note : NoteParts → Result (List ℕ) Fault
write_note note =
    if_signable note.text
    (only_where (nat_lt 0 (length note.signatures)) NoSignatures
    (only_where (not (nat_lt most_signatures (length note.signatures))) TooMany
    (in_front_of (note.text ++ (10 ∷ [])) (written_lines note.signatures) >>= not_too_long)))
