-- What a note's bytes say, from left to right: its parts, or the first fault.
use Rattle.std.specs.Prelude.{ℕ, nat_lt, not, List, [], ◌∷◌, length, take, drop, Result, Ok}
use Rattle.std.specs.Result.{result_ok}
use Rattle.std.specs.Str.{bytes_eq}
use Rattle.ark_base.specs.Outcome.{◌>>=◌}
use Rattle.base64.specs.GeneralPurpose.{decode_of}
use Rattle.base64.specs.Engines.{standard}
use Rattle.signed_notes.specs.Cutting.{cut, cut_at_blank, lines_in}
use Rattle.signed_notes.specs.Faults.{only_where, or_fault}
use Rattle.signed_notes.specs.Notes.{SignatureParts, NoteParts, dash, is_ended, is_name, is_text, most_bytes, most_signatures}
use Rattle.signed_notes.specs.declared.fault.Fault.{Fault}
use Rattle.signed_notes.specs.declared.fault.Fault.TheVariants.{Base64, Line, Name, NoSignatures, NotText, Short, TooLong, TooMany, Unfinished}

-- a signature of a name and of the bytes that Base64 spelled
abbrev pub named : List ℕ → List ℕ → Result SignatureParts Fault
named name bytes = only_where (nat_lt 4 (length bytes)) Short
    (Ok (record { name = name; hash = take 4 bytes; bytes = drop 4 bytes }))

-- the bytes that a word of Base64 spells
abbrev pub bytes_in : List ℕ → Result (List ℕ) Fault
bytes_in word = or_fault (result_ok (decode_of standard word)) Base64

-- the signature of a name and a word of Base64
abbrev pub signature_in_line : List ℕ × List ℕ → Result SignatureParts Fault
signature_in_line parts = only_where (is_name parts.0) Name
    (bytes_in parts.1 >>= named parts.0)

-- the signature that a line says
abbrev pub signature_in : List ℕ → Result SignatureParts Fault
signature_in line = only_where (bytes_eq (take 4 line) dash) Line
    (or_fault (cut 32 (drop 4 line)) Line >>= signature_in_line)

-- a signature in front of others
abbrev pub onto : SignatureParts → Result (List SignatureParts) Fault → Result (List SignatureParts) Fault
onto s more = more >>= λ rest. Ok (s ∷ rest)

-- the signatures that lines say
abbrev pub signatures_in : List (List ℕ) → Result (List SignatureParts) Fault
signatures_in [] = Ok []
signatures_in (line ∷ lines) = signature_in line >>= λ s. onto s (signatures_in lines)

-- the signatures behind the empty line
abbrev pub signatures_behind : List ℕ → Result (List SignatureParts) Fault
signatures_behind bytes =
    only_where (nat_lt 0 (length bytes)) NoSignatures
    (only_where (is_ended bytes) Unfinished
    (only_where (not (nat_lt most_signatures (length (lines_in bytes)))) TooMany (signatures_in (lines_in bytes))))

-- the note of a text and of the bytes behind the empty line
abbrev pub note_with : List ℕ × List ℕ → Result NoteParts Fault
note_with parts = only_where (is_text parts.0) NotText
    (signatures_behind parts.1 >>= λ signatures. Ok (record { text = parts.0; signatures = signatures }))

-- what the bytes of a note say
abbrev pub read_note : List ℕ → Result NoteParts Fault
read_note bytes = only_where (not (nat_lt most_bytes (length bytes))) TooLong
    (or_fault (cut_at_blank bytes) NoSignatures >>= note_with)
