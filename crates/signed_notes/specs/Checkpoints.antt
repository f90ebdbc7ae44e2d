-- Checkpoints of logs, as C2SP's tlog-checkpoint has them: the text of a note.
use Rattle.std.specs.Prelude.{◌≡◌, ℕ, ◌<◌, ◌^◌, ◌==◌, ◌&&◌, ◌||◌, nat_lt, Bool, true, List, ◌∷◌, ◌++◌, length, is_none, Result, Ok}
use Rattle.std.specs.Fmt.{decimal}
use Rattle.std.specs.List.{list_all}
use Rattle.ark_base.specs.Outcome.{◌>>=◌}
use Rattle.base64.specs.GeneralPurpose.{encode_of}
use Rattle.base64.specs.Engines.{standard}
use Rattle.decimals.specs.Decimals.{decimal_number}
use Rattle.signed_notes.specs.Cutting.{cut, lines_in}
use Rattle.signed_notes.specs.Faults.{only_where, or_fault}
use Rattle.signed_notes.specs.Notes.{is_ended, is_text}
use Rattle.signed_notes.specs.Reading.{bytes_in}
use Rattle.signed_notes.specs.declared.fault.Fault.{Fault}
use Rattle.signed_notes.specs.declared.fault.Fault.TheVariants.{Extensions, Origin, Root, Size, Unfinished}

-- a checkpoint: the log's origin, its size and its root, and the lines behind them
pub record CheckpointParts : Type 0 where
  pub origin : List ℕ
  pub size : ℕ
  pub root : List ℕ
  pub extensions : List ℕ

-- its bytes: a line each for the origin, for the size in decimal and for the root in Base64, and then the extensions
abbrev pub checkpoint_of : CheckpointParts → List ℕ
checkpoint_of c =
    c.origin ++ (10 ∷ (decimal c.size ++ (10 ∷ (encode_of standard c.root ++ (10 ∷ c.extensions)))))

-- a line that has a byte
abbrev pub is_line : List ℕ → Bool
is_line line = nat_lt 0 (length line)

-- a log's origin: a line of text
abbrev pub is_origin : List ℕ → Bool
is_origin origin = is_text origin && (is_line origin && is_none (cut 10 origin))

-- no line, or lines of text that are not empty, the last with its line feed
abbrev pub are_extensions : List ℕ → Bool
are_extensions bytes = is_text bytes && ((length bytes == 0 || is_ended bytes) && list_all is_line (lines_in bytes))

-- what may be a checkpoint
pub record IsCheckpoint (c : CheckpointParts) : Type 0 where
  pub origin_is : is_origin c.origin ≡ true
  pub fits : c.size < 2 ^ 64
  pub long : length c.root ≡ 32
  pub extensions_are : are_extensions c.extensions ≡ true

-- ---- what a text says, from left to right: a checkpoint, or the first fault

-- a checkpoint of these parts
abbrev pub checkpoint_with : List ℕ → ℕ → List ℕ → List ℕ → Result CheckpointParts Fault
checkpoint_with origin size extensions root =
    only_where (length root == 32) Root
    (only_where (are_extensions extensions) Extensions
    (Ok (record { origin = origin; size = size; root = root; extensions = extensions })))

-- the same of the root's line and what stands behind it
abbrev pub checkpoint_rooted : List ℕ → ℕ → List ℕ × List ℕ → Result CheckpointParts Fault
checkpoint_rooted origin size parts = bytes_in parts.0 >>= checkpoint_with origin size parts.1

-- the same of what stands behind the size
abbrev pub checkpoint_sized : List ℕ → List ℕ → ℕ → Result CheckpointParts Fault
checkpoint_sized origin rest size = or_fault (cut 10 rest) Unfinished >>= checkpoint_rooted origin size

-- the same of the size's line and what stands behind it
abbrev pub checkpoint_behind : List ℕ → List ℕ × List ℕ → Result CheckpointParts Fault
checkpoint_behind origin parts = or_fault (decimal_number parts.0) Size >>= checkpoint_sized origin parts.1

-- the same of the origin's line and what stands behind it
abbrev pub checkpoint_from : List ℕ × List ℕ → Result CheckpointParts Fault
checkpoint_from parts =
    only_where (is_text parts.0 && is_line parts.0) Origin (or_fault
    (cut 10 parts.1) Unfinished >>= checkpoint_behind parts.0)

-- the checkpoint that a text says
abbrev pub read_checkpoint : List ℕ → Result CheckpointParts Fault
read_checkpoint text = or_fault (cut 10 text) Unfinished >>= checkpoint_from

-- the text of a checkpoint, or the first fault of its parts
abbrev pub write_checkpoint : CheckpointParts → Result (List ℕ) Fault
write_checkpoint c =
    only_where (is_origin c.origin) Origin (only_where (are_extensions c.extensions) Extensions (Ok (checkpoint_of c)))
