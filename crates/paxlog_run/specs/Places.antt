-- What the words behind the command's name say at a place: a number, a digest, a size, a key, who has to sign.
use Rattle.std.specs.Prelude.{ℕ, ◌+◌, ◌==◌, nat_lt, not, get_or, length, List, [], if◌then◌else◌, Option, Some, None, Result, Ok, Err, codes}
use Rattle.std.specs.Result.{result_ok}
use Rattle.std.specs.Str.{bytes_eq}
use Rattle.hex.specs.Hex.{decode_sized}
use Rattle.decimals.specs.Decimals.{decimal_number}
use Rattle.ark_paths.specs.Pair.{Digest}
use Rattle.paxlog_run.specs.declared.request.Word.{Word}
use Rattle.paxlog_run.specs.declared.request.Misuse.{Misuse}
use Rattle.paxlog_run.specs.declared.request.Misuse.TheVariants.{TooFew, TooMany, NoNumber, NoDigest, NoKey, NoOrigin}
use Rattle.paxlog_run.specs.declared.request.Keyed.{Keyed}
use Rattle.paxlog_run.specs.declared.request.Signers.{Signers}
use Rattle.paxlog_run.specs.declared.request.Signers.TheVariants.{Key, Lately, Policy}
use Rattle.paxlog_run.specs.declared.request.parts.SignersAt.{SignersAt}
use Rattle.paxlog_run.specs.declared.request.Site.{Site}

-- the digest that a word spells in hexadecimal
abbrev pub digest_in_hex : List ℕ → Option Digest
digest_in_hex word = result_ok (decode_sized word 32)

-- what is read of words, or why they are misused
abbrev pub Read : Type 0 → Type 0
Read A = Result A Misuse

-- goes on where there is a value
infixl 10 ◌>>=◌
abbrev pub ◌>>=◌ : {A B : Type 0} → Read A → (A → Read B) → Read B
(Ok value) >>= next = next value
(Err why) >>= next = Err why

-- a value, or why there is none
abbrev pub or_misuse : {A : Type 0} → Misuse → Option A → Read A
or_misuse why (Some value) = Ok value
or_misuse why None = Err why

-- the word at a place
abbrev pub typed_at : ℕ → Word
typed_at place = record { place = place }

-- the word at a place, if they are so many
abbrev pub origin_at : List (List ℕ) → ℕ → Option Word
origin_at words place = if nat_lt place (length words) then Some (typed_at place) else None

-- the number at a place of the words
abbrev pub number_word_at : List (List ℕ) → ℕ → Read ℕ
number_word_at words place = or_misuse (NoNumber place) (decimal_number (get_or words place []))

-- the digest at a place of the words
abbrev pub digest_word_at : List (List ℕ) → ℕ → Read Digest
digest_word_at words place = or_misuse (NoDigest place) (digest_in_hex (get_or words place []))

-- the size at a place of the words, if they are so many
abbrev pub size_at : List (List ℕ) → ℕ → Read (Option ℕ)
size_at words place =
    if nat_lt place (length words) then (number_word_at words place >>= λ size. Ok (Some size)) else Ok None

-- how many words there are with the command's own, if not too few or too many
abbrev pub counted : List (List ℕ) → ℕ → ℕ → Read ℕ
counted words least most =
    if nat_lt (length words) least then Err TooFew
    else if nat_lt most (length words) then Err TooMany
    else Ok (length words)

-- the words behind the options at a place: --key KEYFILE [--origin ORIGIN]
abbrev pub keyed_at : List (List ℕ) → ℕ → Read Keyed
keyed_at words place = do
  count ← counted words (place + 2) (place + 4)
  if not (bytes_eq (get_or words place []) (codes "--key")) then Err (NoKey place)
      else if length words == place + 2 then Ok (record { key_file = typed_at (place + 1); origin = None })
      else if not (bytes_eq (get_or words (place + 2) []) (codes "--origin")) then Err (NoOrigin (place + 2))
      else if length words == place + 3 then Err TooFew
      else Ok (record { key_file = typed_at (place + 1); origin = Some (typed_at (place + 3)) })

-- FOLDER, the word behind the command's own, with who has to sign and the origin
abbrev pub site_by : Signers → Option Word → Site
site_by signers origin = record { folder = typed_at 1; signers = signers; origin = origin }

-- FOLDER KEY, the words behind the command's own, and the origin
abbrev pub site_at : Option Word → Site
site_at origin = site_by (Key (typed_at 2)) origin

-- who has to sign, by the words at a place, and the place behind them: KEY, --policy FILE, or
-- --policy FILE --not-older-than SECONDS
abbrev pub signers_at : List (List ℕ) → ℕ → SignersAt
signers_at words place =
    if not (bytes_eq (get_or words place []) (codes "--policy"))
    then record { signers = Key (typed_at place); next = place + 1 }
    else if bytes_eq (get_or words (place + 2) []) (codes "--not-older-than")
    then record { signers = Lately (typed_at (place + 1)) (typed_at (place + 3)); next = place + 4 }
    else record { signers = Policy (typed_at (place + 1)); next = place + 2 }
