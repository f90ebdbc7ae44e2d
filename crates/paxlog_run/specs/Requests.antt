-- What the words behind the command's name ask for.
use Rattle.std.specs.Prelude.{ℕ, ◌+◌, ◌-◌, ◌==◌, ◌||◌, ◌&&◌, is_none, nat_lt, not, get_or, length, List, [], if◌then◌else◌, Bool, true, false, Option, Some, None, Ok, Err, codes}
use Rattle.std.specs.Str.{bytes_eq}
use Rattle.paxlog_run.specs.declared.request.Word.{Word}
use Rattle.paxlog_run.specs.declared.request.Request.{Request}
use Rattle.paxlog_run.specs.declared.request.Misuse.TheVariants.{Nothing, NoCommand, TooFew, TooMany, NoLines, NoBatches, NotInBatches, NoKey, NoKeyFile, NotPublished}
use Rattle.paxlog_run.specs.declared.request.appends.OptionsAt.{OptionsAt}
use Rattle.paxlog_run.specs.declared.request.Publication.{Publication}
use Rattle.paxlog_run.specs.declared.request.waits.Waiting.{Waiting}
use Rattle.paxlog_run.specs.declared.request.Entries.TheVariants.{Lines, Bundles, Files}
use Rattle.paxlog_run.specs.declared.request.Needed.TheVariants.{State, Entry}
use Rattle.paxlog_run.specs.declared.request.keeps.FromAt.{FromAt}
use Rattle.paxlog_run.specs.declared.request.Request.TheVariants.{Append, AppendLines, Root, Prove, Show, Consistency, Check, Find, Recover, Verify, VerifyConsistency, Keygen, Checkpoint, VerifyCheckpoint, Tiles, Cosign, Audit, Follow, Keep, Needs, TileProof, VerifyReceipt, Witness, WitnessLogs, WitnessRequest, Help, Version}
use Rattle.paxlog_run.specs.Places.{Read, typed_at, origin_at, number_word_at, digest_word_at, size_at, counted, keyed_at, site_by, site_at, signers_at, ◌>>=◌}

-- root LOG [SIZE]; the command's name of it stands at place 0
abbrev pub root_request : List (List ℕ) → Read Request
root_request words = do
  count ← counted words 2 3
  size ← size_at words 2
  Ok (Root (typed_at 1) size)

-- prove LOG INDEX [SIZE]
abbrev pub prove_request : List (List ℕ) → Read Request
prove_request words = do
  count ← counted words 3 4
  index ← number_word_at words 2
  size ← size_at words 3
  Ok (Prove (typed_at 1) index size)

-- show LOG INDEX [SIZE], or show-image
abbrev pub show_request : List (List ℕ) → Bool → Read Request
show_request words is_image = do
  count ← counted words 3 4
  index ← number_word_at words 2
  size ← size_at words 3
  Ok (Show (typed_at 1) index size is_image)

-- consistency LOG OLD_SIZE [SIZE]
abbrev pub consistency_request : List (List ℕ) → Read Request
consistency_request words = do
  count ← counted words 3 4
  old_size ← number_word_at words 2
  size ← size_at words 3
  Ok (Consistency (typed_at 1) old_size size)

-- check LOG
abbrev pub check_request : List (List ℕ) → Read Request
check_request words = do
  count ← counted words 2 2
  Ok (Check (typed_at 1))

-- find LOG FILE
abbrev pub find_request : List (List ℕ) → Read Request
find_request words = do
  count ← counted words 3 3
  Ok (Find (typed_at 1) (typed_at 2))

-- recover LOG [NEW]
abbrev pub recover_request : List (List ℕ) → Read Request
recover_request words = do
  count ← counted words 2 3
  Ok (Recover (typed_at 1) (origin_at words 2))

-- verify ROOT SIZE INDEX FILE PROOF
abbrev pub verify_request : List (List ℕ) → Read Request
verify_request words = do
  count ← counted words 6 6
  root ← digest_word_at words 1
  size ← number_word_at words 2
  index ← number_word_at words 3
  Ok (Verify (record { root = root; size = size; index = index; file = typed_at 4; proof = typed_at 5 }))

-- verify-consistency OLD_SIZE OLD_ROOT SIZE ROOT PROOF
abbrev pub verify_consistency_request : List (List ℕ) → Read Request
verify_consistency_request words = do
  count ← counted words 6 6
  old_size ← number_word_at words 1
  old_root ← digest_word_at words 2
  size ← number_word_at words 3
  root ← digest_word_at words 4
  Ok (VerifyConsistency (record {
    old_size = old_size;
    old_root = old_root;
    size = size;
    root = root;
    proof = typed_at 5;
  }))

-- help [COMMAND]
abbrev pub help_request : List (List ℕ) → Read Request
help_request words = do
  count ← counted words 1 2
  Ok (Help (origin_at words 1))

-- --help
abbrev pub usage_request : List (List ℕ) → Read Request
usage_request words = do
  count ← counted words 1 1
  Ok (Help None)

-- --version
abbrev pub version_request : List (List ℕ) → Read Request
version_request words = do
  count ← counted words 1 1
  Ok Version

-- no option yet, behind LOG
abbrev pub no_options : OptionsAt
no_options = record {
  options = record { after = None; wait = 0; batch = None; keep = None };
  publish = record { folder = None; key_file = None; origin = None; every = None };
  place = 2;
}

-- what options say of a publication, with one of them more, if one stands at the place
abbrev pub publish_more : List (List ℕ) → OptionsAt → Read OptionsAt
publish_more words at =
    let word = typed_at (at.place + 1) in
    if bytes_eq (get_or words at.place []) (codes "--publish") then Ok (record at {
      publish = record at.publish { folder = Some word };
      place = at.place + 2;
    })
    else if bytes_eq (get_or words at.place []) (codes "--key") then Ok (record at {
      publish = record at.publish { key_file = Some word };
      place = at.place + 2;
    })
    else if bytes_eq (get_or words at.place []) (codes "--origin") then Ok (record at {
      publish = record at.publish { origin = Some word };
      place = at.place + 2;
    })
    else if bytes_eq (get_or words at.place []) (codes "--every") then (do
      every ← number_word_at words (at.place + 1)
      Ok (record at {
        publish = record at.publish { every = Some every };
        place = at.place + 2;
      }))
    else Ok at

-- one option more, if one stands at the place: each may stand anywhere among them, and the last of its kind counts
abbrev pub option_more : List (List ℕ) → OptionsAt → Read OptionsAt
option_more words at =
    if bytes_eq (get_or words at.place []) (codes "--after") then (do
      size ← number_word_at words (at.place + 1)
      root ← digest_word_at words (at.place + 2)
      Ok (record {
        options = record at.options { after = Some (record { size = size; root = root }) };
        publish = at.publish;
        place = at.place + 3;
      }))
    else if bytes_eq (get_or words at.place []) (codes "--wait") then (do
      seconds ← number_word_at words (at.place + 1)
      Ok (record {
        options = record at.options { wait = seconds };
        publish = at.publish;
        place = at.place + 2;
      }))
    else if bytes_eq (get_or words at.place []) (codes "--batch") then (do
      count ← number_word_at words (at.place + 1)
      if count == 0 then Err (NoLines (at.place + 1)) else Ok (record {
        options = record at.options { batch = Some count };
        publish = at.publish;
        place = at.place + 2;
      }))
    else if bytes_eq (get_or words at.place []) (codes "--keep") then Ok (record {
      options = record at.options { keep = Some (typed_at (at.place + 1)) };
      publish = at.publish;
      place = at.place + 2;
    })
    else publish_more words at

-- a place of files, or that behind it where -- stands there
abbrev pub files_at : List (List ℕ) → ℕ → ℕ
files_at words place = if bytes_eq (get_or words place []) (codes "--") then place + 1 else place

-- at most eight options, and the place of the files behind them
abbrev pub options_in : List (List ℕ) → Read OptionsAt
options_in words = do
  one ← option_more words no_options
  two ← option_more words one
  three ← option_more words two
  four ← option_more words three
  five ← option_more words four
  six ← option_more words five
  seven ← option_more words six
  eight ← option_more words seven
  Ok (record { options = eight.options; publish = eight.publish; place = files_at words eight.place })

-- a publication of batches alone, with the key that signs it; 0 milliseconds where none are named
abbrev pub published_as : Option Word → Option Word → Option Word → Option ℕ → Option ℕ → Read (Option Publication)
published_as None key_file origin every batch =
    if is_none key_file && is_none origin && is_none every then Ok None else Err NotPublished
published_as (Some folder) None origin every batch = Err NoKeyFile
published_as (Some folder) (Some key_file) origin every None = Err NotInBatches
published_as (Some folder) (Some key_file) origin None (Some count) = Ok (Some (record {
  folder = folder;
  keyed = record { key_file = key_file; origin = origin };
  every = 0;
}))
published_as (Some folder) (Some key_file) origin (Some every) (Some count) = Ok (Some (record {
  folder = folder;
  keyed = record { key_file = key_file; origin = origin };
  every = every;
}))

-- where a log is published, by its options
abbrev pub publication_of : OptionsAt → Read (Option Publication)
publication_of at =
    published_as at.publish.folder at.publish.key_file at.publish.origin at.publish.every at.options.batch

-- append LOG [--after SIZE ROOT] [--wait SECONDS] [--keep FOLDER] [--] FILE ..: at once, so that they name no batch
abbrev pub append_request : List (List ℕ) → Read Request
append_request words = do
  at ← options_in words
  if not (is_none at.options.batch) then Err NoBatches else do
    publication ← publication_of at
    if nat_lt at.place (length words) then Ok (Append (typed_at 1) at.options at.place) else Err TooFew

-- append-lines LOG [--after SIZE ROOT] [--wait SECONDS] [--keep FOLDER] [--batch COUNT] [--] FILE, and
-- [--publish FOLDER --key KEYFILE [--origin ORIGIN] [--every MILLISECONDS]] among the options
abbrev pub append_lines_request : List (List ℕ) → Read Request
append_lines_request words = do
  at ← options_in words
  publication ← publication_of at
  count ← counted words (at.place + 1) (at.place + 1)
  Ok (AppendLines (typed_at 1) at.options publication (typed_at at.place))

-- keygen NAME KEYFILE, or keygen-witness
abbrev pub keygen_request : List (List ℕ) → Bool → Read Request
keygen_request words is_witness = do
  count ← counted words 3 3
  Ok (Keygen (typed_at 1) (typed_at 2) is_witness)

-- checkpoint LOG --key KEYFILE [--origin ORIGIN]
abbrev pub checkpoint_request : List (List ℕ) → Read Request
checkpoint_request words = do
  keyed ← keyed_at words 2
  Ok (Checkpoint (typed_at 1) keyed)

-- verify-checkpoint SIGNERS FILE [ORIGIN]; here and below SIGNERS is --policy FILE, or KEY
abbrev pub verify_checkpoint_request : List (List ℕ) → Read Request
verify_checkpoint_request words =
    let at = signers_at words 1 in do
      count ← counted words (at.next + 1) (at.next + 2)
      Ok (VerifyCheckpoint at.signers (typed_at at.next) (origin_at words (at.next + 1)))

-- tiles LOG FOLDER --key KEYFILE [--origin ORIGIN]
abbrev pub tiles_request : List (List ℕ) → Read Request
tiles_request words = do
  keyed ← keyed_at words 3
  Ok (Tiles (typed_at 1) (typed_at 2) keyed)

-- cosign FOLDER SIGNERS FILE ..
abbrev pub cosign_request : List (List ℕ) → Read Request
cosign_request words =
    let at = signers_at words 2 in
    if nat_lt at.next (length words) then Ok (Cosign (site_by at.signers None) at.next) else Err TooFew

-- audit FOLDER SIGNERS [ORIGIN]
abbrev pub audit_request : List (List ℕ) → Read Request
audit_request words =
    let at = signers_at words 2 in do
      count ← counted words at.next (at.next + 1)
      Ok (Audit (site_by at.signers (origin_at words at.next)))

-- how many words stand before --from INDEX at their end, and the index: all and none where it does not stand there
abbrev pub from_in : List (List ℕ) → Read FromAt
from_in words =
    if nat_lt 2 (length words) && bytes_eq (get_or words (length words - 2) []) (codes "--from") then (do
      index ← number_word_at words (length words - 1)
      Ok (record { count = length words - 2; from = Some index }))
    else Ok (record { count = length words; from = None })

-- the word at a place, if it is one of so many
abbrev pub word_before : ℕ → ℕ → Option Word
word_before count place = if nat_lt place count then Some (typed_at place) else None

-- keep FOLDER KEY FILE [ORIGIN] [--from INDEX], or keep-bundles
abbrev pub keep_request : List (List ℕ) → Bool → Read Request
keep_request words is_bundled = do
  at ← from_in words
  if nat_lt at.count 4 then Err TooFew
      else if nat_lt 5 at.count then Err TooMany
      else Ok (Keep (site_at (word_before at.count 4))
      (if is_bundled then Bundles (typed_at 3) else Lines (typed_at 3)) at.from)

-- keep-files FOLDER KEY [--origin ORIGIN] FILE .. [--from INDEX]
abbrev pub keep_files_request : List (List ℕ) → Read Request
keep_files_request words = do
  at ← from_in words
  if bytes_eq (get_or words 3 []) (codes "--origin") then (if nat_lt 5 at.count
      then Ok (Keep (site_at (Some (typed_at 4))) (Files 5 at.count) at.from) else Err TooFew)
      else if nat_lt 3 at.count then Ok (Keep (site_at None) (Files 3 at.count) at.from)
      else Err TooFew

-- follow FOLDER SIGNERS STATE [ORIGIN]
abbrev pub follow_request : List (List ℕ) → Read Request
follow_request words =
    let at = signers_at words 2 in do
      count ← counted words (at.next + 1) (at.next + 2)
      Ok (Follow (site_by at.signers (origin_at words (at.next + 1))) (typed_at at.next))

-- needs FOLDER SIGNERS STATE [ORIGIN]
abbrev pub needs_request : List (List ℕ) → Read Request
needs_request words =
    let at = signers_at words 2 in do
      count ← counted words (at.next + 1) (at.next + 2)
      Ok (Needs (site_by at.signers (origin_at words (at.next + 1))) (State (typed_at at.next)))

-- needs-entry FOLDER SIGNERS INDEX [ORIGIN]
abbrev pub needs_entry_request : List (List ℕ) → Read Request
needs_entry_request words =
    let at = signers_at words 2 in do
      count ← counted words (at.next + 1) (at.next + 2)
      index ← number_word_at words at.next
      Ok (Needs (site_by at.signers (origin_at words (at.next + 1))) (Entry index))

-- tile-proof FOLDER SIGNERS INDEX [ORIGIN], or receipt
abbrev pub tile_proof_request : List (List ℕ) → Bool → Read Request
tile_proof_request words is_receipt =
    let at = signers_at words 2 in do
      count ← counted words (at.next + 1) (at.next + 2)
      index ← number_word_at words at.next
      Ok (TileProof (site_by at.signers (origin_at words (at.next + 1))) index is_receipt)

-- verify-receipt SIGNERS FILE RECEIPT [ORIGIN]
abbrev pub verify_receipt_request : List (List ℕ) → Read Request
verify_receipt_request words =
    let at = signers_at words 1 in do
      count ← counted words (at.next + 2) (at.next + 3)
      Ok (VerifyReceipt at.signers (typed_at at.next) (typed_at (at.next + 1)) (origin_at words (at.next + 2)))

-- witness FOLDER SIGNERS STATE --key KEYFILE [--origin ORIGIN]
abbrev pub witness_request : List (List ℕ) → Read Request
witness_request words =
    let at = signers_at words 2 in do
      keyed ← keyed_at words (at.next + 1)
      Ok (Witness (site_by at.signers keyed.origin) (typed_at at.next) keyed.key_file)

-- witness-request --logs LOGS --key KEYFILE
abbrev pub witness_logs_request : List (List ℕ) → Read Request
witness_logs_request words = do
  count ← counted words 5 5
  if not (bytes_eq (get_or words 3 []) (codes "--key")) then Err (NoKey 3)
      else Ok (WitnessLogs (typed_at 2) (typed_at 4))

-- witness-request SIGNERS STATE --key KEYFILE [--origin ORIGIN], or the same of the logs that a file lists
abbrev pub witness_reply_request : List (List ℕ) → Read Request
witness_reply_request words =
    if bytes_eq (get_or words 1 []) (codes "--logs") then witness_logs_request words else
    let at = signers_at words 1 in do
      keyed ← keyed_at words (at.next + 1)
      Ok (WitnessRequest at.signers (typed_at at.next) keyed)

-- what is asked for by a word about those who follow a log, the first of all
unfoldable pub asked_of_followers : List ℕ → List (List ℕ) → Read Request
asked_of_followers word words =
    if bytes_eq word (codes "follow") then follow_request words
    else if bytes_eq word (codes "needs") then needs_request words
    else if bytes_eq word (codes "needs-entry") then needs_entry_request words
    else if bytes_eq word (codes "tile-proof") then tile_proof_request words false
    else if bytes_eq word (codes "receipt") then tile_proof_request words true
    else if bytes_eq word (codes "verify-receipt") then verify_receipt_request words
    else if bytes_eq word (codes "witness") then witness_request words
    else if bytes_eq word (codes "witness-request") then witness_reply_request words
    else Err (NoCommand 0)

-- what is asked for by a word about folders of tiles, the first of all
unfoldable pub asked_of_tiles : List ℕ → List (List ℕ) → Read Request
asked_of_tiles word words =
    if bytes_eq word (codes "tiles") then tiles_request words
    else if bytes_eq word (codes "cosign") then cosign_request words
    else if bytes_eq word (codes "audit") then audit_request words
    else if bytes_eq word (codes "keep") then keep_request words false
    else if bytes_eq word (codes "keep-bundles") then keep_request words true
    else if bytes_eq word (codes "keep-files") then keep_files_request words
    else asked_of_followers word words

-- what is asked for by a word about checkpoints, the first of all
abbrev pub asked_of_checkpoints : List ℕ → List (List ℕ) → Read Request
asked_of_checkpoints word words =
    if bytes_eq word (codes "keygen") then keygen_request words false
    else if bytes_eq word (codes "keygen-witness") then keygen_request words true
    else if bytes_eq word (codes "checkpoint") then checkpoint_request words
    else if bytes_eq word (codes "verify-checkpoint") then verify_checkpoint_request words
    else asked_of_tiles word words

-- what is asked for by a word about the command itself, the first of all
abbrev pub asked_of_help : List ℕ → List (List ℕ) → Read Request
asked_of_help word words =
    if bytes_eq word (codes "help") then help_request words
    else if bytes_eq word (codes "--help") || bytes_eq word (codes "-h") then usage_request words
    else if bytes_eq word (codes "--version") then version_request words
    else asked_of_checkpoints word words

-- what is asked for by a word about checks, the first of all
abbrev pub asked_of_checks : List ℕ → List (List ℕ) → Read Request
asked_of_checks word words =
    if bytes_eq word (codes "consistency") then consistency_request words
    else if bytes_eq word (codes "check") then check_request words
    else if bytes_eq word (codes "find") then find_request words
    else if bytes_eq word (codes "recover") then recover_request words
    else if bytes_eq word (codes "verify") then verify_request words
    else if bytes_eq word (codes "verify-consistency") then verify_consistency_request words
    else asked_of_help word words

-- what is asked for by a word, the first of all
abbrev pub asked_of_logs : List ℕ → List (List ℕ) → Read Request
asked_of_logs word words =
    if bytes_eq word (codes "append") then append_request words
    else if bytes_eq word (codes "append-lines") then append_lines_request words
    else if bytes_eq word (codes "root") then root_request words
    else if bytes_eq word (codes "prove") then prove_request words
    else if bytes_eq word (codes "show") then show_request words false
    else if bytes_eq word (codes "show-image") then show_request words true
    else asked_of_checks word words

-- what the words ask for
abbrev pub request_of_words : List (List ℕ) → Read Request
request_of_words words = if nat_lt 0 (length words) then asked_of_logs (get_or words 0 []) words else Err Nothing

-- whether a command waits for another process by the words at its end
abbrev pub waits_at_end : List ℕ → Bool
waits_at_end word =
    bytes_eq word (codes "checkpoint") || bytes_eq word (codes "tiles") || bytes_eq word (codes "cosign")
    || bytes_eq word (codes "recover") || bytes_eq word (codes "keep") || bytes_eq word (codes "keep-bundles")
    || bytes_eq word (codes "keep-files") || bytes_eq word (codes "follow") || bytes_eq word (codes "witness")

-- how many words stand before --wait SECONDS at their end, and the seconds: all and 0 where it does not stand there
abbrev pub waiting_in : List (List ℕ) → Read Waiting
waiting_in words =
    if nat_lt 2 (length words) && waits_at_end (get_or words 0 [])
    && bytes_eq (get_or words (length words - 2) []) (codes "--wait") then (do
      seconds ← number_word_at words (length words - 1)
      Ok (record { count = length words - 2; seconds = seconds }))
    else Ok (record { count = length words; seconds = 0 })
