-- What calls on a log's file answer.
use Rattle.std.proofs.Common.{pos, ◌≡◌, ◌<◌, ◌+◌, ◌^◌, ◌⊎◌, inl, inr, nat_lt, ◌&&◌, false, if◌then◌else◌, ℕ, ℤ, List, length, map, Result, Ok, Err, IfErr, IfOk, OnOk, refl, ap, sym, subst, ◌∙◌}
use Rattle.std.proofs.Math.Bool.{and-false}
use Rattle.std.proofs.lemmas.Bool.{lt-ltb}
use Rattle.ark_paths.specs.Pair.{Digest}
use Rattle.ark_trees.specs.Rfc6962.{entry_hash}
use Rattle.ark_base.specs.Outcome.{◌>>=◌}
use Rattle.log_file.specs.Append.{appended_size}
use Rattle.log_file.specs.Faults.{log_size, only_if}
use Rattle.log_file.specs.declared.fault.Fault.{Fault}
use Rattle.log_file.specs.declared.fault.Fault.TheVariants.{HeadDamaged as HeadFault, Size}
use Rattle.log_store.specs.Refused.{IsRefusedFor}
use Rattle.log_store.specs.Sectors.{layout_in}
use Rattle.log_store.specs.declared.sectors.Layout.{Layout}
use Rattle.log_store.specs.declared.sectors.Layout.TheVariants.{Apart, Dense, FirstAlone, SecondAlone}
use Rattle.log_store.specs.declared.sectors.SectorRefusal.{SectorRefusal}
use Rattle.log_store.specs.declared.sectors.SectorRefusal.TheVariants.{Disk as ByFile, Place, Short as NoSectors}
use Rattle.log_store.specs.declared.stop.Stop.{Stop}
use Rattle.log_store.specs.declared.stop.Stop.TheVariants.{Fault as ByFault, Disk as ByDisk}
use Rattle.paxidore_calls.proofs.KeptLogs.{Entries}
use Rattle.paxidore_calls.specs.Answer.{Hands, leaves_in, refusal_code}
use Rattle.paxidore_calls.specs.Cut.{parts_by}
use Rattle.paxidore_calls.specs.Layouts.{grown_size, is_first_lost, log_in, IsFirstLost}
use Rattle.paxidore_calls.specs.LogFiles.{AsksFirst, IsReason, StandsInFront, TellsWhy, call_code, not_done_at, not_done_code, not_done_for, not_done_of}
use Rattle.paxidore_calls.specs.Plan.{Carries, HasRead, IsHanded, LeavesSteps, carried}
use Rattle.paxidore_calls.specs.declared.file_calls.not_done.NotDone.{NotDone}
use Rattle.paxidore_calls.specs.declared.file_calls.not_done.NotDone.TheVariants.{HeadDamaged, Refusal}
use Rattle.paxidore_calls.specs.declared.file_calls.replay.Halt.{Halt}
use Rattle.paxidore_calls.specs.declared.file_calls.replay.Halt.TheVariants.{Missing, Ended, Memory as NoMemory}
use Rattle.paxidore_calls.specs.declared.file_calls.replay.Step.{Step}
use Rattle.paxidore_calls.specs.declared.refused.Refused.{Refused}
use Rattle.paxidore_calls.specs.declared.refused.Refused.TheVariants.{Memory, Other, Room}

-- ---- why a call is not done

-- what is asked for was not read
pub other-reason : {B : Type 0} (file : List ℕ) (outcome : Result B Fault) (why : NotDone) → why ≡ Refusal Other
    → IsReason file outcome why
other-reason file outcome why is = inr (inr (inr (inr (inr (inr is)))))

-- why a call that stopped is not done
pub of-stop : (A : Type 0) {B : Type 0} (file : List ℕ) (outcome : Result B Fault) (stop : Stop (SectorRefusal Halt))
    → IsRefusedFor {A = A} file outcome (Err stop) → IsReason file outcome (not_done_at stop)
of-stop A file outcome (ByFault fault) (inl memory) = inr (inl (ap not_done_of memory))
of-stop A file outcome (ByFault fault) (inr (inl is)) = inl (ap not_done_for is)
of-stop A file outcome (ByFault fault) (inr (inr damaged)) =
    inr (inr (inl (ap not_done_of damaged.0, damaged.1)))
of-stop A file outcome (ByDisk (ByFile NoMemory)) known = inr (inl refl)
of-stop A file outcome (ByDisk (ByFile Ended)) known = other-reason file outcome (Refusal Other) refl
of-stop A file outcome (ByDisk (ByFile Missing)) known = other-reason file outcome (Refusal Other) refl
of-stop A file outcome (ByDisk Place) known = other-reason file outcome (Refusal Other) refl
of-stop A file outcome (ByDisk NoSectors) known = other-reason file outcome (Refusal Other) refl

-- the same of a call on the log's file that a file is
pub of-replay : (A : Type 0) {B : Type 0} (file own : List ℕ) (outcome : List ℕ → Result B Fault)
    (stop : Stop (SectorRefusal Halt)) (why : NotDone) → own ≡ file
    → IsRefusedFor {A = A} own (outcome own) (Err stop) → why ≡ not_done_at stop → IsReason file (outcome file) why
of-replay A file own outcome stop why same known is =
    rw is (of-stop A file (outcome file) stop (subst (λ f. IsRefusedFor {A = A} f (outcome f) (Err stop)) same known))

-- an append meets what a call for the size alone meets
pub size-refused : (file : List ℕ) (why : NotDone) → IsReason (log_in file) (log_size (log_in file)) why
    → IsReason (log_in file) (grown_size file 0) why
unfolding grown_size
size-refused file why (inl is) = inl (go (log_size (log_in file)) is)
  where
    go : (size : Result ℕ Fault) → not_done_for size ≡ Err why
        → not_done_for (size >>= λ n. only_if (nat_lt (n + 0) (2 ^ 63)) Size (Ok (n + 0))) ≡ Err why
    go (Ok size) is = absurd cc
    go (Err fault) is = is
size-refused file why (inr rest) = inr rest

-- where the first sector is there, as many entries are appended as there may be
pub grown-there : (file : List ℕ) (count : ℕ) (why : NotDone) (layout : Layout) → layout ≡ layout_in file
    → (layout ≡ SecondAlone → ⊥) → IsReason (log_in file) (appended_size (log_in file) count) why
    → IsReason (log_in file) (grown_size file count) why
unfolding grown_size
grown-there file count why layout is there reason =
    subst (λ lost. IsReason (log_in file) (if nat_lt 0 count && lost then Err HeadFault
    else appended_size (log_in file) count) why) (go layout there ∙ ap is_first_lost is)
    (rw and-false reason)
  where
    go : (layout : Layout) → (layout ≡ SecondAlone → ⊥) → false ≡ is_first_lost layout
    go Dense there = refl
    go Apart there = refl
    go FirstAlone there = refl
    go SecondAlone there = absurd (there refl)

-- where it is lost, none is
pub grown-lost : (file : List ℕ) (count : ℕ) (why : NotDone) → 0 < count → IsFirstLost file → why ≡ HeadDamaged
    → IsReason (log_in file) (grown_size file count) why
unfolding grown_size
grown-lost file count why some lost is =
    inl (rw (lt-ltb 0 count some, ap is_first_lost lost, is) refl)

-- a lack of memory or of room is not why a head is damaged
pub handed-no-head : (why : NotDone) → (why ≡ Refusal Memory) ⊎ (why ≡ Refusal Room) → why ≡ HeadDamaged → ⊥
handed-no-head why (inl memory) head = cc
handed-no-head why (inr room) head = cc

-- ---- codes

-- what is said of a call that was done, where its code is 0
pub where-done : {A : Type 0} (done : Result A NotDone) (P : Type 0) → IfErr done (λ why. ⊥) → OnOk done P → P
where-done (Ok value) P is said = said
where-done (Err why) P is said = absurd is

-- what is said where a head is damaged
pub where-head : {A P : Type 0} (done : Result A NotDone) → done ≡ Err HeadDamaged
    → IfErr done (λ why. why ≡ HeadDamaged → P) → P
where-head (Ok value) is said = absurd cc
where-head (Err why) is said = said (cc)

-- what a call that is not done leaves, by its code
pub kept-by : {A P : Type 0} (done : Result A NotDone) (code : ℤ) → code ≡ call_code done → IfErr done (λ why. P)
    → (code ≡ pos 0 → ⊥) → P
kept-by (Ok value) code is kept none = absurd (none is)
kept-by (Err why) code is kept none = kept

pub left-by : {A : Type 0} (done : Result A NotDone) (code : ℤ) (bytes bytes' : List ℕ) (n n' : ℕ)
    (steps steps' : List (List ℕ)) (m m' : ℕ) → code ≡ call_code done
    → IfErr done (λ why. LeavesSteps (why ≡ Refusal Room) bytes bytes' n n' steps steps' m m') → (code ≡ pos 0 → ⊥)
    → LeavesSteps (code ≡ refusal_code Room) bytes bytes' n n' steps steps' m m'
left-by (Ok value) code bytes bytes' n n' steps steps' m m' is left none = absurd (none is)
left-by (Err why) code bytes bytes' n n' steps steps' m m' is left none = record {
  bytes = left.bytes;
  steps = left.steps;
  uncounted = λ other. left.uncounted (λ room. other (is ∙ ap not_done_code room));
}

-- it asks for pieces, by its code
pub asks-by : (P Q : Type 0) (file_len count count' : ℕ) (places places' : List (List ℕ)) → (P → Q) → (Q → P)
    → AsksFirst Q file_len count count' places places' → AsksFirst P file_len count count' places places'
asks-by P Q file_len count count' places places' there back asks = record {
  asked = λ more. asks.asked (there more);
  kept = λ none. asks.kept (λ more. none (back more));
  uncounted = λ none. asks.uncounted (λ more. none (back more));
}

-- a code tells why a call is not done
pub tells : {A : Type 0} (done : Result A NotDone) (Reason : NotDone → Type 0) (code : ℤ) → code ≡ call_code done
    → IfErr done Reason → TellsWhy Reason code
tells (Ok value) Reason code is why = inl is
tells (Err not_done) Reason code is why = inr (not_done, is, why)

-- ---- what was read

-- the same was read, where places and their count are as before
pub as-read : (file : List ℕ) (file_len : ℕ) (count count' : ℕ) (places places' : List (List ℕ)) (pieces : List ℕ)
    → count' ≡ count → places' ≡ places → HasRead file file_len count places pieces
    → HasRead file file_len count' places' pieces
as-read file file_len count count' places places' pieces same kept read = rw (same, kept) read

-- ---- what is handed over

pub carries-by : {A : Type 0} (done : Result A NotDone) (P : List ℕ → Type 0) (plan : List Step)
    (file bytes bytes' : List ℕ) (n : ℕ) (steps steps' : List (List ℕ)) (m : ℕ)
    → OnOk done (IsHanded plan bytes bytes' n steps steps' m) → 0 < length plan → P (carried plan file)
    → OnOk done (Carries P file bytes bytes' n steps steps' m)
carries-by (Ok value) P plan file bytes bytes' n steps steps' m handed some said = record {
  plan = plan;
  handed = handed;
  some = some;
  said = said;
}
carries-by (Err why) P plan file bytes bytes' n steps steps' m handed some said = tt

module _ {A : Type 0} (done : Result A NotDone) (outcome : Result (List ℕ) Refused) (bytes before after : List ℕ)
    (count count' : ℕ) (hands : Hands (Ok bytes) before after count count' (call_code done)) (is : outcome ≡ Ok bytes)
  where
    pub needs-by : done ≡ Err (Refusal Room) → IfOk outcome (λ bytes. count' ≡ length bytes)
    needs-by room = rw is (hands.room_needed (ap call_code room))

pub stands-by : {A : Type 0} (done : Result A NotDone) (outcome : Result (List ℕ) Refused)
    (bytes before after : List ℕ) (count count' : ℕ)
    → Hands (Ok bytes) before after count count' (call_code done) → outcome ≡ Ok bytes
    → OnOk done (StandsInFront outcome before after count')
stands-by (Ok value) outcome bytes before after count count' hands is = record {
  bytes = bytes;
  given = is;
  written = hands.written refl;
  counted = hands.counted refl;
}
stands-by (Err why) outcome bytes before after count count' hands is = tt

-- what is said of the digests of entries
pub of-entries : {A : Type 0} (done : Result A NotDone) (G : List Digest → Type 0) (entries lengths : List ℕ)
    (digests : List Digest) → Entries entries lengths digests → OnOk done (G digests)
    → OnOk done ((xs : List (List ℕ)) × (leaves_in (parts_by entries lengths) ≡ Ok xs) × G (map entry_hash xs))
of-entries (Ok value) G entries lengths digests known said =
    (known.all, known.given, subst G (sym known.hashed) said)
of-entries (Err why) G entries lengths digests known said = tt
