-- The calls on a log's file: what is to be read of it first, and what they answer.
use Rattle.std.specs.Prelude.{◌≡◌, ◌⊎◌, ◌<◌, ◌≤◌, ◌-◌, ◌++◌, ◌&&◌, ℕ, nat_lt, not, Bool, true, false, List, length, take, drop, get_or, ℤ, pos, negsuc, Result, Ok, Err}
use Rattle.std.specs.List.{between, list_all}
use Rattle.log_file.specs.declared.fault.Fault.{Fault}
use Rattle.log_file.specs.declared.fault.Fault.TheVariants.{Memory as MemoryFault, NoLog as NoLogFault, HeadDamaged as HeadFault, Short as ShortFault, Damaged as DamageFault, Size as SizeFault, Other as OtherFault, Index as IndexFault, Length as LengthFault, Word as WordFault}
use Rattle.log_store.specs.Refused.{IsDamaged}
use Rattle.log_store.specs.declared.sectors.SectorRefusal.{SectorRefusal}
use Rattle.log_store.specs.declared.sectors.SectorRefusal.TheVariants.{Disk as ByFile, Place, Short as NoSectors}
use Rattle.log_store.specs.declared.stop.Stop.{Stop}
use Rattle.log_store.specs.declared.stop.Stop.TheVariants.{Fault as ByFault, Disk as ByDisk}
use Rattle.paxidore_calls.specs.Answer.{refusal_code}
use Rattle.paxidore_calls.specs.declared.file_calls.not_done.NotDone.{NotDone}
use Rattle.paxidore_calls.specs.declared.file_calls.not_done.NotDone.TheVariants.{Refusal, More, NoLog, Short, HeadDamaged, Damaged}
use Rattle.paxidore_calls.specs.declared.file_calls.replay.Halt.{Halt}
use Rattle.paxidore_calls.specs.declared.file_calls.replay.Halt.TheVariants.{Missing, Ended, Memory as NoMemory}
use Rattle.paxidore_calls.specs.declared.refused.Refused.{Refused}
use Rattle.paxidore_calls.specs.declared.refused.Refused.TheVariants.{Memory, Size, Index, Lengths, Room, Other}

-- ---- codes

-- the code of why a call is not done
abbrev pub not_done_code : NotDone → ℤ
not_done_code (Refusal refused) = refusal_code refused
not_done_code More = negsuc 9
not_done_code NoLog = negsuc 10
not_done_code Short = negsuc 11
not_done_code HeadDamaged = negsuc 12
not_done_code Damaged = negsuc 13

-- the code of a call: 0, or why it is not done
abbrev pub call_code : {A : Type 0} → Result A NotDone → ℤ
call_code (Ok value) = pos 0
call_code (Err not_done) = not_done_code not_done

-- ---- why a call is not done

-- why a call is not done, by the fault of a log's file
abbrev pub not_done_of : Fault → NotDone
not_done_of MemoryFault = Refusal Memory
not_done_of NoLogFault = NoLog
not_done_of HeadFault = HeadDamaged
not_done_of ShortFault = Short
not_done_of DamageFault = Damaged
not_done_of SizeFault = Refusal Size
not_done_of OtherFault = Refusal Other
not_done_of IndexFault = Refusal Index
not_done_of LengthFault = Refusal Other
not_done_of WordFault = Refusal Other

-- why a call is not done that stopped, by the file or by what was read of it
abbrev pub not_done_at : Stop (SectorRefusal Halt) → NotDone
not_done_at (ByFault fault) = not_done_of fault
not_done_at (ByDisk (ByFile NoMemory)) = Refusal Memory
not_done_at (ByDisk (ByFile Ended)) = Refusal Other
not_done_at (ByDisk (ByFile Missing)) = Refusal Other
not_done_at (ByDisk Place) = Refusal Other
not_done_at (ByDisk NoSectors) = Refusal Other

-- an outcome for a log's file, with the reasons of these calls
abbrev pub not_done_for : {A : Type 0} → Result A Fault → Result A NotDone
not_done_for (Ok value) = Ok value
not_done_for (Err fault) = Err (not_done_of fault)

-- What the caller hands in is why: pieces are to be read first, a buffer has no room, lengths are not those of the
-- bytes, or a piece was not read.
abbrev pub IsOfCaller : NotDone → Type 0
IsOfCaller why = (why ≡ More) ⊎ (why ≡ Refusal Room) ⊎ (why ≡ Refusal Lengths) ⊎ (why ≡ Refusal Other)

-- Why a call on a log's file is not done: the outcome's fault, memory was refused, the file is damaged, or the caller.
abbrev pub IsReason : {A : Type 0} → List ℕ → Result A Fault → NotDone → Type 0
IsReason file outcome why = (not_done_for outcome ≡ Err why) ⊎ (why ≡ Refusal Memory)
    ⊎ ((why ≡ Damaged) × IsDamaged file) ⊎ IsOfCaller why

-- Why a call on a file is not done that needs no log there: memory was refused, or the caller.
abbrev pub IsPlainReason : NotDone → Type 0
IsPlainReason why = (why ≡ Refusal Memory) ⊎ IsOfCaller why

-- Why a call on a file is not done that would write its head: the same, or its first sector is lost.
abbrev pub IsHeadReason : NotDone → Type 0
IsHeadReason why = IsPlainReason why ⊎ (why ≡ HeadDamaged)

-- The code is 0, or that of such a reason.
abbrev pub TellsWhy : (NotDone → Type 0) → ℤ → Type 0
TellsWhy Reason code = (code ≡ pos 0) ⊎ ((why : NotDone) × (code ≡ not_done_code why) × Reason why)

-- the code of a check of a log of some size: 0 or 1, or why the file has none
abbrev pub check_code : Result ℕ Fault → Bool → ℤ
check_code (Ok size) true = pos 0
check_code (Ok size) false = pos 1
check_code (Err fault) sound = not_done_code (not_done_of fault)

-- ---- what is asked for

-- whether a piece, a place and a count of bytes, lies within so many bytes of a file
abbrev pub lies_within : ℕ → List ℕ → Bool
lies_within file_len piece =
    not (nat_lt file_len (get_or piece 0 0)) && not (nat_lt (file_len - get_or piece 0 0) (get_or piece 1 0))

-- Pieces that are to be read first were put behind those that were read.
pub record Asks (file_len count_before count_after : ℕ) (before after : List (List ℕ)) : Type 0 where
  pub more : count_before < count_after
  pub room : count_after ≤ length after
  pub same : take count_before after ≡ take count_before before
  pub inside : list_all (lies_within file_len) (between count_before count_after after) ≡ true

-- A call whose answer is that pieces are to be read first asks for them; any other leaves the places as before.
pub record AsksFirst (IsMore : Type 0) (file_len count_before count_after : ℕ) (before after : List (List ℕ)) : Type 0
  where
    pub asked : IsMore → Asks file_len count_before count_after before after
    pub kept : (IsMore → ⊥) → after ≡ before
    pub uncounted : (IsMore → ⊥) → count_after ≡ count_before

-- ---- what is handed over

-- The outcome is bytes, which stand in front of a caller's buffer; behind them all is as before.
pub record StandsInFront (outcome : Result (List ℕ) Refused) (before after : List ℕ) (count : ℕ) : Type 0 where
  pub bytes : List ℕ
  pub given : outcome ≡ Ok bytes
  pub written : after ≡ bytes ++ drop (length bytes) before
  pub counted : count ≡ length bytes
