-- Lists of logs, as text: who signs them, where their states are, and their origins.
use Rattle.std.specs.Prelude.{◌≡◌, ◌⊎◌, ⊤, ℕ, suc, is_none, List, [], ◌∷◌, ◌++◌, codes, if◌then◌else◌, Option, Some, None, Result, Ok, Err, MatchResult}
use Rattle.std.specs.Str.{bytes_eq}
use Rattle.ark_base.specs.Outcome.{◌>>=◌}
use Rattle.signed_notes.specs.Cutting.{cut, lines_in}
use Rattle.signed_notes.specs.Keys.{KeyParts, as_it_stands, is_known, read_key}
use Rattle.signed_notes.specs.Notes.{is_text}
use Rattle.signed_notes.specs.Opening.{Policy}
use Rattle.signed_notes.specs.PolicyFiles.{spaced_words, uncommented}
use Rattle.signed_notes.specs.declared.fault.Fault.{Fault}
use Rattle.signed_notes.specs.declared.fault.Fault.TheVariants.{Memory, Origin}
use Rattle.signed_notes.specs.declared.logs_fault.LogsFault.{LogsFault}
use Rattle.signed_notes.specs.declared.logs_fault.LogsFault.TheVariants.{Command, NoLog, Note, State, Twice, Words}
use Rattle.signed_notes.specs.declared.logs_fault.LogsFaultAt.{LogsFaultAt}

-- The call gives the outcome, its value seen by view, or a request for memory was refused.
abbrev pub ListGivesBy : {A B : Type 0} → (A → B) → Result B LogsFault → Result A LogsFault → Type 0
ListGivesBy view outcome result =
    MatchResult result (λ value. outcome ≡ Ok (view value)) (λ why. (why ≡ Note Memory) ⊎ (outcome ≡ Err why))

-- a log of a list: the key that signs it, the name of its state's file, and its origin
pub record ListedParts : Type 0 where
  pub key : KeyParts
  pub state : List ℕ
  pub origin : List ℕ

-- the policy of a log: its key has to sign, and nobody else
abbrev pub policy_of_log : KeyParts → Policy
policy_of_log key = record { log = key; witnesses = []; quorum = 0; since = 0 }

-- the first log of an origin
abbrev pub log_of_origin : List ListedParts → List ℕ → Option ListedParts
log_of_origin [] origin = None
log_of_origin (one ∷ more) origin = if bytes_eq one.origin origin then Some one else log_of_origin more origin

-- ---- the words of a line

-- a key, or the fault of its text
abbrev pub listed_key : Result KeyParts Fault → Result KeyParts LogsFault
listed_key (Ok key) = Ok key
listed_key (Err fault) = Err (Note fault)

-- the key that a word says
abbrev pub key_in_list : List ℕ → Result KeyParts LogsFault
key_in_list word = listed_key (read_key is_known as_it_stands word)

-- the name of a state's file that a word says
abbrev pub state_in_list : List ℕ → Result (List ℕ) LogsFault
state_in_list word = if is_text word then Ok word else Err State

-- the origin that a word says; the name of the key where there is no word
abbrev pub origin_in_list : List ℕ → Option (List ℕ) → Result (List ℕ) LogsFault
origin_in_list name None = Ok name
origin_in_list name (Some word) = if is_text word then Ok word else Err (Note Origin)

-- the only one of some words, if there is one; they are not more
abbrev pub at_most_one : List (List ℕ) → Result (Option (List ℕ)) LogsFault
at_most_one [] = Ok None
at_most_one (word ∷ []) = Ok (Some word)
at_most_one (word ∷ next ∷ more) = Err Words

-- the log of these words
abbrev pub log_by : List ℕ → List ℕ → Option (List ℕ) → Result ListedParts LogsFault
log_by key state origin =
    key_in_list key >>= λ key. state_in_list state >>= λ state.
    origin_in_list key.name origin >>= λ origin. Ok (record { key = key; state = state; origin = origin })

-- `KEY STATE [ORIGIN]`
abbrev pub log_of_words : List (List ℕ) → Result ListedParts LogsFault
log_of_words [] = Err Words
log_of_words (key ∷ []) = Err Words
log_of_words (key ∷ state ∷ more) = at_most_one more >>= λ origin. log_by key state origin

-- ---- lines

-- a log more, unless one of its origin is there
abbrev pub with_log : List ListedParts → ListedParts → Result (List ListedParts) LogsFault
with_log before log = if is_none (log_of_origin before log.origin) then Ok (before ++ (log ∷ [])) else Err Twice

-- the logs with that of one line more: `log KEY STATE [ORIGIN]`, or no word
abbrev pub with_log_words : List ListedParts → List (List ℕ) → Result (List ListedParts) LogsFault
with_log_words before [] = Ok before
with_log_words before (word ∷ words) =
    if bytes_eq word (codes "log") then (log_of_words words >>= with_log before) else Err Command

-- the same of the line; what stands behind `#` is a comment
abbrev pub with_log_line : List ListedParts → List ℕ → Result (List ListedParts) LogsFault
with_log_line before line = with_log_words before (spaced_words (uncommented line (cut 35 line)))

-- ---- a list

-- the number of the line at which there is no answer
abbrev pub at_list_line : {A : Type 0} → ℕ → Result A LogsFault → Result A LogsFaultAt
at_list_line line (Ok value) = Ok value
at_list_line line (Err why) = Err (record { line = line; why = why })

-- the logs with those of lines behind so many others
abbrev pub with_log_lines : List ListedParts → ℕ → List (List ℕ) → Result (List ListedParts × ℕ) LogsFaultAt
with_log_lines before count [] = Ok (before, count)
with_log_lines before count (line ∷ lines) =
    at_list_line (suc count) (with_log_line before line) >>= λ after. with_log_lines after (suc count) lines

-- the logs of so many lines: one at least
abbrev pub some_logs : List ListedParts × ℕ → Result (List ListedParts) LogsFaultAt
some_logs ([], count) = Err (record { line = count; why = NoLog })
some_logs (log ∷ more, count) = Ok (log ∷ more)

-- the logs that a list says, or the first fault and its line, from 1 on; of the whole list the last line
abbrev pub read_logs : List ℕ → Result (List ListedParts) LogsFaultAt
read_logs text = with_log_lines [] 0 (lines_in text) >>= some_logs

-- The call adds to some logs by the outcome, or a request for memory was refused.
abbrev pub AddsLog : Result (List ListedParts) LogsFault → List ListedParts → Result ⊤ LogsFault → Type 0
AddsLog outcome after result =
    MatchResult result (λ _. outcome ≡ Ok after) (λ why. (why ≡ Note Memory) ⊎ (outcome ≡ Err why))

-- The call gives what a list says, or a request for memory was refused.
abbrev pub ListsBy : {A B : Type 0} → (A → B) → Result B LogsFaultAt → Result A LogsFaultAt → Type 0
ListsBy view outcome result = MatchResult result (λ value. outcome ≡ Ok (view value))
    (λ fault. (fault.why ≡ Note Memory) ⊎ (outcome ≡ Err fault))
