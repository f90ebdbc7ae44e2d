-- Policy files: who has to sign the checkpoints of a log, as text. It is the policy file of sigsum, with verifiers of
-- signed notes as its keys.
use Rattle.std.specs.Prelude.{◌≡◌, ◌⊎◌, ⊤, ℕ, suc, ◌&&◌, nat_lt, not, Bool, List, [], ◌∷◌, ◌++◌, length, codes, if◌then◌else◌, Option, Some, None, is_none, Result, Ok, Err, MatchResult}
use Rattle.std.specs.List.{filter}
use Rattle.std.specs.Str.{bytes_eq}
use Rattle.ark_base.specs.Outcome.{◌>>=◌}
use Rattle.decimals.specs.Decimals.{decimal_number}
use Rattle.signed_notes.specs.Checkpoints.{is_line}
use Rattle.signed_notes.specs.Cutting.{cut, lines_in, pieces_in}
use Rattle.signed_notes.specs.Keys.{KeyParts, as_it_stands, is_known, read_key}
use Rattle.signed_notes.specs.Opening.{Policy}
use Rattle.signed_notes.specs.declared.fault.Fault.{Fault}
use Rattle.signed_notes.specs.declared.fault.Fault.TheVariants.{Memory}
use Rattle.signed_notes.specs.declared.policy_fault.PolicyFault.{PolicyFault}
use Rattle.signed_notes.specs.declared.policy_fault.PolicyFault.TheVariants.{Command, Count, Nested, NoLog, NoQuorum, Note, SecondLog, SecondQuorum, Twice, Unknown, Words}
use Rattle.signed_notes.specs.declared.policy_fault.PolicyFaultAt.{PolicyFaultAt}

-- The call gives the outcome, its value seen by view, or a request for memory was refused.
abbrev pub PolicyGivesBy : {A B : Type 0} → (A → B) → Result B PolicyFault → Result A PolicyFault → Type 0
PolicyGivesBy view outcome result =
    MatchResult result (λ value. outcome ≡ Ok (view value)) (λ why. (why ≡ Note Memory) ⊎ (outcome ≡ Err why))

-- goes on where a condition holds; else why not
abbrev pub unless : {A : Type 0} → Bool → PolicyFault → Result A PolicyFault → Result A PolicyFault
unless fails why next = if fails then Err why else next

-- what a name stands for: the key of a witness, or a group of as many of some members as a count says
pub data Meaning : Type 0 where
  OneKey : KeyParts → Meaning
  SomeOf : ℕ → List (List ℕ) → Meaning

-- a name, and what it stands for
pub record NamedParts : Type 0 where
  pub name : List ℕ
  pub meaning : Meaning

-- what the lines before one say: the log, the names, and how many of which keys have to sign beside it
pub record PolicyLines : Type 0 where
  pub log : Option KeyParts
  pub names : List NamedParts
  pub quorum : Option ℕ
  pub witnesses : List KeyParts

-- what no line says
abbrev pub no_lines : PolicyLines
no_lines = record { log = None; names = []; quorum = None; witnesses = [] }

-- ---- words of a line

-- a line without its comment: what stands behind `#`
abbrev pub uncommented : List ℕ → Option (List ℕ × List ℕ) → List ℕ
uncommented line None = line
uncommented line (Some (front, comment)) = front

-- the words of a line: spaces stand between them
abbrev pub spaced_words : List ℕ → List (List ℕ)
spaced_words line = filter is_line (pieces_in 32 line)

-- a key, or the fault of its text
abbrev pub noted : Result KeyParts Fault → Result KeyParts PolicyFault
noted (Ok key) = Ok key
noted (Err fault) = Err (Note fault)

-- the key that a word says
abbrev pub key_of_word : List ℕ → Result KeyParts PolicyFault
key_of_word word = noted (read_key is_known as_it_stands word)

-- a key, the first of some words; behind it at most one, an address that is not read
abbrev pub key_with_address : List (List ℕ) → Result KeyParts PolicyFault
key_with_address [] = Err Words
key_with_address (key ∷ more) = unless (nat_lt 1 (length more)) Words (key_of_word key)

-- ---- names

-- what a name stands for
abbrev pub meaning_of : List NamedParts → List ℕ → Option Meaning
meaning_of [] name = None
meaning_of (one ∷ more) name = if bytes_eq one.name name then Some one.meaning else meaning_of more name

-- a name may be given: it has no meaning, and is not `none`
abbrev pub is_free : List NamedParts → List ℕ → Bool
is_free names name = not (bytes_eq name (codes "none")) && is_none (meaning_of names name)

-- the key of a group's member
abbrev pub member_key : Option Meaning → Result KeyParts PolicyFault
member_key None = Err Unknown
member_key (Some (OneKey key)) = Ok key
member_key (Some (SomeOf count members)) = Err Nested

-- some keys, with those of members behind them
abbrev pub with_members : List NamedParts → List KeyParts → List (List ℕ) → Result (List KeyParts) PolicyFault
with_members names keys [] = Ok keys
with_members names keys (member ∷ more) =
    member_key (meaning_of names member) >>= λ key. with_members names (keys ++ (key ∷ [])) more

-- how many members there are, each the name of a witness
abbrev pub member_count : List NamedParts → List (List ℕ) → Result ℕ PolicyFault
member_count names members = with_members names [] members >>= λ keys. Ok (length keys)

-- a count from 1 to that of the members
abbrev pub count_within : ℕ → Option ℕ → Result ℕ PolicyFault
count_within most None = Err Count
count_within most (Some count) = if nat_lt 0 count && not (nat_lt most count) then Ok count else Err Count

-- the count that a word says of so many members
abbrev pub count_of_word : ℕ → List ℕ → Option ℕ
count_of_word most word =
    if bytes_eq word (codes "any") then Some 1
    else if bytes_eq word (codes "all") then Some most
    else decimal_number word

-- ---- lines

-- `log KEY [URL]`
abbrev pub log_line : PolicyLines → List (List ℕ) → Result PolicyLines PolicyFault
log_line before words = key_with_address words >>= λ key.
    unless (not (is_none before.log)) SecondLog (Ok (record before { log = Some key }))

-- a name more, if it may be given
abbrev pub with_name : PolicyLines → List ℕ → Meaning → Result PolicyLines PolicyFault
with_name before name meaning = unless (not (is_free before.names name)) Twice (Ok (record before {
  names = before.names ++ ((record { name = name; meaning = meaning }) ∷ []);
}))

-- `witness NAME KEY [URL]`
abbrev pub witness_line : PolicyLines → List (List ℕ) → Result PolicyLines PolicyFault
witness_line before [] = Err Words
witness_line before (name ∷ words) = key_with_address words >>= λ key. with_name before name (OneKey key)

-- `group NAME K|all|any MEMBER ..`
abbrev pub group_line : PolicyLines → List (List ℕ) → Result PolicyLines PolicyFault
group_line before [] = Err Words
group_line before (name ∷ []) = Err Words
group_line before (name ∷ word ∷ members) =
    member_count before.names members >>= λ most.
    count_within most (count_of_word most word) >>= λ count.
    with_name before name (SomeOf count members)

-- how many of which keys: of those that a name stands for
abbrev pub quorum_meant : List NamedParts → Option Meaning → Result (ℕ × List KeyParts) PolicyFault
quorum_meant names None = Err Unknown
quorum_meant names (Some (OneKey key)) = Ok (1, key ∷ [])
quorum_meant names (Some (SomeOf count members)) = with_members names [] members >>= λ keys. Ok (count, keys)

-- the same of a name, or none of no keys
abbrev pub quorum_of : List NamedParts → List ℕ → Result (ℕ × List KeyParts) PolicyFault
quorum_of names name =
    if bytes_eq name (codes "none") then Ok (0, []) else quorum_meant names (meaning_of names name)

-- `quorum NAME|none`
abbrev pub quorum_line : PolicyLines → List (List ℕ) → Result PolicyLines PolicyFault
quorum_line before [] = Err Words
quorum_line before (name ∷ more) =
    unless (nat_lt 0 (length more)) Words (unless (not (is_none before.quorum)) SecondQuorum
    (quorum_of before.names name >>= λ found. Ok (record before { quorum = Some found.0; witnesses = found.1 })))

-- what the words of one line more say
abbrev pub with_words : PolicyLines → List (List ℕ) → Result PolicyLines PolicyFault
with_words before [] = Ok before
with_words before (word ∷ words) =
    if bytes_eq word (codes "log") then log_line before words
    else if bytes_eq word (codes "witness") then witness_line before words
    else if bytes_eq word (codes "group") then group_line before words
    else if bytes_eq word (codes "quorum") then quorum_line before words
    else Err Command

-- what one line more says
abbrev pub with_line : PolicyLines → List ℕ → Result PolicyLines PolicyFault
with_line before line = with_words before (spaced_words (uncommented line (cut 35 line)))

-- ---- a file

-- the number of the line at which there is no answer
abbrev pub at_line : {A : Type 0} → ℕ → Result A PolicyFault → Result A PolicyFaultAt
at_line line (Ok value) = Ok value
at_line line (Err why) = Err (record { line = line; why = why })

-- what lines say behind so many others
abbrev pub with_lines : PolicyLines → ℕ → List (List ℕ) → Result (PolicyLines × ℕ) PolicyFaultAt
with_lines before count [] = Ok (before, count)
with_lines before count (line ∷ lines) =
    at_line (suc count) (with_line before line) >>= λ after. with_lines after (suc count) lines

-- the policy of a log and of a quorum
abbrev pub policy_by : List KeyParts → Option KeyParts → Option ℕ → Result Policy PolicyFault
policy_by witnesses None quorum = Err NoLog
policy_by witnesses (Some log) None = Err NoQuorum
policy_by witnesses (Some log) (Some quorum) = Ok (record {
  log = log;
  witnesses = witnesses;
  quorum = quorum;
  since = 0;
})

-- the policy that lines say
abbrev pub policy_of_lines : PolicyLines × ℕ → Result Policy PolicyFaultAt
policy_of_lines all = at_line all.1 (policy_by all.0.witnesses all.0.log all.0.quorum)

-- the policy that a file says, or the first fault and its line, from 1 on; of the whole file the last line
abbrev pub read_policy : List ℕ → Result Policy PolicyFaultAt
read_policy text = with_lines no_lines 0 (lines_in text) >>= policy_of_lines

-- The call changes what lines say to the outcome, or a request for memory was refused.
abbrev pub LineGives : Result PolicyLines PolicyFault → PolicyLines → Result ⊤ PolicyFault → Type 0
LineGives outcome after result =
    MatchResult result (λ _. outcome ≡ Ok after) (λ why. (why ≡ Note Memory) ⊎ (outcome ≡ Err why))

-- The call gives the policy that a file says, or a request for memory was refused.
abbrev pub SaysBy : {A B : Type 0} → (A → B) → Result B PolicyFaultAt → Result A PolicyFaultAt → Type 0
SaysBy view outcome result = MatchResult result (λ value. outcome ≡ Ok (view value))
    (λ fault. (fault.why ≡ Note Memory) ⊎ (outcome ≡ Err fault))
