-- A file that is made ready for appends.
use Rattle.std.proofs.Common.{◌≡◌, ◌⊎◌, ⊎_elim, inl, inr, Bool, true, false, Result, Ok, Err, OnOk, None, unwrap_or, not, nat_lt, ℕ, ◌+◌, ◌-◌, ◌<◌, ◌≤◌, List, [], ◌∷◌, ◌++◌, length, take, drop, get_or, refl, ap, sym, ◌∙◌, subst, arith}
use Rattle.std.specs.Str.{bytes_eq}
use Rattle.std.proofs.lemmas.Bool.{cases_lt}
use Rattle.std.proofs.lemmas.List.{drop-drop, drop_all, get_or-take, length-append, length-drop, length-take-le, take_all}
use Rattle.std.proofs.lemmas.Slice.Eq.{bytes_eq-Decides}
use Rattle.ark_paths.specs.Pair.{Digest}
use Rattle.merkle_log.proofs.Positions.{size-within}
use Rattle.ark_base.specs.Outcome.{◌>>=◌}
use Rattle.log_file.specs.Faults.{log_size, of_first, only_if}
use Rattle.log_file.specs.declared.fault.Fault.{Fault}
use Rattle.log_file.specs.declared.fault.Fault.TheVariants.{Damaged, Size}
use Rattle.log_file.specs.LogFile.{written, IsLogFile}
use Rattle.log_file.proofs.Files.{known}
use Rattle.log_file.proofs.Heads.{eq_bytes}
use Rattle.log_file.proofs.Pieces.{behind-written}
use Rattle.log_store.specs.Disk.{After, Torn}
use Rattle.log_store.specs.Healing.{sectors_end, AreAlike, IsDurableApart, IsNotOlder, IsReadAs}
use Rattle.log_store.specs.Refused.{IsRefusedFor}
use Rattle.log_store.specs.Sectors.{laid, layout_in, sectors_head, IsSpread, Through}
use Rattle.log_store.specs.Store.{IsPartOf, IsSettled}
use Rattle.log_store.specs.declared.sectors.Layout.{Layout}
use Rattle.log_store.specs.declared.sectors.Layout.TheVariants.{Apart, Dense, FirstAlone, SecondAlone}
use Rattle.log_store.specs.declared.stop.Stop.{Stop}
use Rattle.log_store.specs.declared.stop.Stop.TheVariants.{Fault as ByFault, Disk as ByDisk}
use Rattle.log_store.proofs.Healed.{alike-settled}
use Rattle.log_store.proofs.Laid.{laid-long}
use Rattle.log_store.proofs.Lying.{lies-apart, lies-short, settled-title}
use Rattle.log_store.proofs.Sectoring.{older-other, sectors-lie, sectors-long, sectors-settled}
use Rattle.log_store.proofs.Writes.{same-written, torn-itself}
use Rattle.paxidore_calls.proofs.Layouts.{log-of, never-first, read-of, same-lies, sectored, stopped-longer}
use Rattle.paxidore_calls.proofs.Plans.{from-start, left_from, none-left, stopped-all}
use Rattle.paxidore_calls.specs.Layouts.{log_in, HasLog, IsFirstLost, IsIntact, IsLeftAlone, IsSameLog, SettlesApart}
use Rattle.paxidore_calls.specs.Plan.{Carries, IsHanded, IsStopped, StopsAs, carried}
use Rattle.paxidore_calls.specs.declared.file_calls.not_done.NotDone.{NotDone}
use Rattle.paxidore_calls.specs.declared.file_calls.replay.Step.{Step}

-- ---- a sync alone

-- ---- the begin of a file, written again

start-written : (bytes file : List ℕ) → 64 ≤ length file → bytes ≡ take 64 file → written file 0 bytes ≡ file
start-written bytes file long is = same-written 0 64 file bytes (omega (arith, long)) is

start-torn : (bytes file left : List ℕ) → 64 ≤ length file → bytes ≡ take 64 file → Torn 0 bytes file left
    → left ≡ file
start-torn bytes file left long is torn =
    torn-itself 0 64 bytes file left (omega (arith, long)) (ap length is ∙ length-take-le 64 file long) is torn

module _ (step : Step) (plan steps : List Step) (file : List ℕ) (all : steps ≡ step ∷ plan) (begin : step.at ≡ 0)
    (long : 64 ≤ length file) (is : step.bytes.items ≡ take 64 file) where
  written-start : written file step.at step.bytes.items ≡ file
  written-start =
      ap (λ n. written file n step.bytes.items) begin ∙ start-written step.bytes.items file long is

  pub start-carried : carried steps file ≡ carried plan file
  start-carried = ap (λ s. carried s file) all ∙ ap (carried plan) written-start

  pub start-stopped : (left : List ℕ) → IsStopped steps file left → (left ≡ file) ⊎ IsStopped plan file left
  start-stopped left stopped = ⊎_elim
      (λ torn. inl (start-torn step.bytes.items file left long is
      (subst (λ n. Torn n step.bytes.items file left) begin torn)))
      (λ behind. inr (subst (λ f. IsStopped plan f left) written-start behind))
      (subst (λ s. IsStopped s file left) all stopped)

-- ---- what stands behind the steps

-- Wherever they stop, from a place on all is as before.
abbrev pub behind_stays : ℕ → List Step → Type 0
behind_stays end xs = (file left : List ℕ) → IsStopped xs file left → drop end left ≡ drop end file

further : (n end : ℕ) (left file : List ℕ) → n ≤ end → drop n left ≡ drop n file → drop end left ≡ drop end file
further n end left file le same =
    let is : n + (end - n) ≡ end = omega (arith, le) in
    ap (λ k. drop k left) (sym is) ∙ sym (drop-drop (end - n) n left) ∙ ap (drop (end - n)) same
    ∙ drop-drop (end - n) n file ∙ ap (λ k. drop k file) is

behind-front : (file bytes : List ℕ) (at end : ℕ) → at + length bytes ≤ end
    → drop end (written file at bytes) ≡ drop end file
behind-front file bytes at end inside = elim (cases_lt (length file) at) [
  | inl past ↦
      let long = length-append (take at file ++ bytes) (drop (at + length bytes) file) in
      let front = length-append (take at file) bytes in
      let whole = ap length (take_all at file (omega (arith, past))) in
      let rest = length-drop (at + length bytes) file in
      drop_all end (written file at bytes) (omega (arith, inside, past, long, front, whole, rest))
      ∙ sym (drop_all end file (omega (arith, inside, past)))
  | inr le ↦ further (at + length bytes) end (written file at bytes) file inside
      (behind-written file bytes at (at + length bytes) refl le)
]

pub behind-step : (end : ℕ) (x : Step) (xs : List Step) → x.at + length x.bytes.items ≤ end → behind_stays end xs
    → behind_stays end (x ∷ xs)
behind-step end x xs inside rest file left (inl torn) =
    further (x.at + length x.bytes.items) end left file inside torn.cut.after
behind-step end x xs inside rest file left (inr behind) =
    rest (written file x.at x.bytes.items) left behind ∙ behind-front file x.bytes.items x.at end inside

pub behind-none : (end : ℕ) → behind_stays end []
behind-none end file left is = ap (drop end) is

-- ---- which layout

-- A file in two sectors has both.
pub spread-long : (file : List ℕ) → IsSpread (layout_in file) → 8192 ≤ length file
spread-long file spread = elim (cases_lt (length file) 8192) [
  | inl short ↦ absurd (subst IsSpread (lies-short file short) spread)
  | inr long ↦ long
]

-- The title of one in two sectors is not that of an older file.
apart-newer : (file : List ℕ) → layout_in file ≡ Apart → IsNotOlder file
apart-newer file is =
    let own : get_or file 12 0 ≡ 32 =
    sym (get_or-take 32 file 12 0 (omega arith)) ∙ ap (λ l. get_or l 12 0) (sectored file is).begins in
    (12, omega arith, λ same. absurd (omega (arith, same)), λ same. absurd (omega (arith, same, own)))

-- Only a first sector that is lost may be taken for an older file's.
pub newer-by : (file : List ℕ) → IsSpread (layout_in file) → (IsFirstLost file → IsNotOlder file) → IsNotOlder file
newer-by file spread lost = go (layout_in file) refl spread
  where
    go : (layout : Layout) → layout_in file ≡ layout → IsSpread layout → IsNotOlder file
    go Dense is spread = absurd spread
    go Apart is spread = apart-newer file is
    go FirstAlone is spread = absurd (never-first file is)
    go SecondAlone is spread = lost is

-- ---- whether a sector is to be written again

pub alike-by : (file : List ℕ) (alike : Bool) → layout_in file ≡ Apart
    → alike ≡ bytes_eq (take 64 file) (take 64 (drop 4096 file)) → alike ≡ true → AreAlike file
alike-by file alike lies is told = record {
  begins = (sectored file lies).begins;
  same = sym (eq_bytes (take 64 file) (take 64 (drop 4096 file)) (sym is ∙ told));
}

pub unlike-by : (file : List ℕ) (alike : Bool) → alike ≡ bytes_eq (take 64 file) (take 64 (drop 4096 file))
    → alike ≡ false → AreAlike file → ⊥
unlike-by file alike is told both =
    let equal = (bytes_eq-Decides (take 64 file) (take 64 (drop 4096 file))).1 (sym both.same) in
    let clash = sym equal ∙ sym is ∙ told in absurd cc

pub alike-intact : (layout : Layout) (file : List ℕ) → layout ≡ Apart → AreAlike file → IsIntact layout file
alike-intact layout file is alike = subst (λ l. IsIntact l file) (sym is) alike

pub intact-alike : (layout : Layout) (file : List ℕ) → layout ≡ Apart → IsIntact layout file → AreAlike file
intact-alike layout file is intact = subst (λ l. IsIntact l file) is intact

-- Where one is, the file does not stay as it is.
pub not-alone : (layout : Layout) (steps : List Step) (file : List ℕ) (size : ℕ) → layout ≡ layout_in file
    → steps ≡ [] → (IsIntact layout (carried steps file) → ⊥) → log_size (laid layout (carried steps file)) ≡ Ok size
    → IsLeftAlone file → ⊥
not-alone layout steps file size is none broken sized (inl intact) =
    broken (subst (λ s. IsIntact layout (carried s file)) (sym none)
    (subst (λ l. IsIntact l file) (sym is) intact))
not-alone layout steps file size is none broken sized (inr unsized) =
    let clash = sym sized ∙ ap log_size (read-of layout steps file is none) ∙ unsized.1 in absurd cc

-- ---- whether a log is read

pub sized-of : (file : List ℕ) (n : ℕ) → of_first {A = ℕ} file None Ok ≡ Ok n → (size : ℕ) × (log_size file ≡ Ok size)
sized-of file n told = go (log_size file) refl told
  where
    go : (size : Result ℕ Fault) → log_size file ≡ size
        → (size >>= λ m. only_if (not (nat_lt m (unwrap_or None m))) Size (Ok (unwrap_or None m))) ≡ Ok n
        → (size : ℕ) × (log_size file ≡ Ok size)
    go (Ok size) is told = (size, is)
    go (Err fault) is told = absurd cc

-- Of a log's file no fault is damage.
pub damaged-first : (A : Type 0) {R : Type 0} (file : List ℕ) (stop : Stop R) → stop ≡ ByFault Damaged
    → IsRefusedFor {A = A} file (of_first {A = ℕ} file None Ok) (Err stop) → (leaves : List Digest)
    → IsLogFile leaves file → ⊥
damaged-first A file (ByFault fault) is (inl memory) leaves log = absurd cc
damaged-first A file (ByFault fault) is (inr (inl known)) leaves log =
    go (not (nat_lt (length leaves) (length leaves))) (rw (log.head, log.whole) at known)
  where
    go : (fits : Bool) → only_if {A = ℕ} fits Size (Ok (length leaves)) ≡ Err fault → ⊥
    go true told = absurd cc
    go false told = absurd cc
damaged-first A file (ByFault fault) is (inr (inr damaged)) leaves log = damaged.1 leaves log
damaged-first A file (ByDisk refusal) is known leaves log = absurd cc

pub dense-intact : (file : List ℕ) → layout_in file ≡ Dense → IsIntact (layout_in file) file
dense-intact file is = subst (λ l. IsIntact l file) (sym is) tt

-- ---- the same log

pub same-log : (leaves : List Digest) (file left : List ℕ) → IsSameLog file left → HasLog leaves file
    → HasLog leaves left
same-log leaves file left same log = subst (IsLogFile leaves) (sym same.log) log

-- It is read as the log.
pub reads-same : (leaves : List Digest) (file left : List ℕ) → IsSameLog file left → HasLog leaves file
    → IsReadAs leaves left
unfolding log_in
reads-same leaves file left same log = inl (same-log leaves file left same log)

pub reads-itself : (leaves : List Digest) (file left : List ℕ) → left ≡ file → HasLog leaves file → IsReadAs leaves left
unfolding log_in
reads-itself leaves file left same log = subst (IsReadAs leaves) (sym same) (inl log)

-- A file with both sectors keeps the log if one of them is lost.
pub intact-settles : (leaves : List Digest) (file left : List ℕ) → IsSpread (layout_in file)
    → IsIntact (layout_in file) file → HasLog leaves file → IsSameLog file left → SettlesApart leaves left
unfolding log_in
intact-settles leaves file left spread intact log same = go (layout_in file) refl spread intact
  where
    go : (layout : Layout) → layout_in file ≡ layout → IsSpread layout → IsIntact layout file
        → SettlesApart leaves left
    go Dense is spread intact = absurd spread
    go FirstAlone is spread intact = absurd intact
    go SecondAlone is spread intact = absurd intact
    go Apart is spread intact = record {
      lies = same.layout ∙ is;
      settled = subst (IsSettled leaves) (ap (λ l. laid l file) (sym is) ∙ sym same.log)
          (alike-settled file leaves (spread-long file (subst IsSpread (sym is) tt)) intact
          (subst (λ l. IsLogFile leaves (laid l file)) is log));
    }

-- ---- the steps of a call that writes the head again

-- Wherever they stop, the log's file is the same.
pub remade-stopped : (leaves : List Digest) (layout new : Layout) (before after steps : List Step) (n : ℕ)
    (file left : List ℕ) → layout ≡ layout_in file → (layout ≡ SecondAlone → ⊥) → new ≡ layout → before ≡ []
    → n ≡ 0 → steps ≡ after → IsLogFile leaves (laid layout (carried before file))
    → ((left : List ℕ) → Through new (left_from n after file) left
    → After (Torn 0 (take 96 (laid layout (carried before file)))) (Through layout (left_from n before file)) left)
    → IsStopped steps file left → IsSameLog file left
remade-stopped leaves layout new before after steps n file left is there same none start told log each stopped =
    let head = laid layout (carried before file) in
    let from = each (laid new left)
    (left, from-start n start after file left (subst (λ s. IsStopped s file left) told stopped), refl) in
    let old : from.0 ≡ head = from.1.2 ∙ ap (laid layout) (none-left n before none file from.1.0 from.1.1) in
    let long = (known leaves head log).head.long in
    let own : laid new left ≡ head = torn-itself 0 96 (take 96 head) head (laid new left) (omega (arith, long))
    (length-take-le 96 head long) refl (subst (λ f. Torn 0 (take 96 head) f (laid new left)) old from.2) in
    same-lies layout file left is there (stopped-longer steps file left stopped)
    (ap (λ l. laid l left) (sym same) ∙ own ∙ ap (λ s. laid layout (carried s file)) none)

-- ---- the steps of a call that writes a sector again

-- once all are carried out
pub healed-settles : (leaves : List Digest) (after steps : List Step) (file : List ℕ) → IsSpread (layout_in file)
    → steps ≡ after → IsSettled leaves (laid Apart (carried after file)) → SettlesApart leaves (carried steps file)
healed-settles leaves after steps file spread told settled =
    let left = carried steps file in
    let own : IsSettled leaves (laid Apart left) =
    subst (λ s. IsSettled leaves (laid Apart (carried s file))) (sym told) settled in
    let whole = spread-long file spread in
    let longer = stopped-longer steps file left (stopped-all steps file) in
    let long : 8192 ≤ length left = omega (arith, whole, longer) in
    let lies = lies-apart left long (settled-title left leaves long own.log) in
    record { lies = lies; settled = subst (IsSettled leaves) (log-of Apart left (sym lies)) own }

-- before the first step both sectors are durable
pub apart-start : (before : List Step) (n : ℕ) (file : List ℕ) (size : ℕ) → before ≡ []
    → IsDurableApart size (carried before file) (left_from n before file)
apart-start before n file size none left now =
    ap (take (sectors_end size)) (none-left n before none file left now)

-- wherever they stop
pub healed-stopped : (leaves : List Digest) (before after steps : List Step) (n : ℕ) (file left : List ℕ)
    → before ≡ [] → n ≡ 0 → steps ≡ after → HasLog leaves file
    → ((left : List ℕ) → left_from n after file left → left_from n before file left ⊎ IsReadAs leaves left)
    → IsStopped steps file left → IsReadAs leaves left
unfolding log_in
healed-stopped leaves before after steps n file left none start told log each stopped = ⊎_elim
    (λ old. subst (IsReadAs leaves)
    (sym (none-left n before none file left old ∙ ap (λ s. carried s file) none)) (inl log))
    (λ reads. reads)
    (each left (from-start n start after file left (subst (λ s. IsStopped s file left) told stopped)))

-- ---- a part of the two sectors of a new log

-- An older log's file is none.
pub dense-other : (leaves : List Digest) (file : List ℕ) → HasLog leaves file → layout_in file ≡ Dense
    → IsPartOf sectors_head file → ⊥
unfolding log_in
dense-other leaves file log is part =
    older-other leaves file (subst (λ l. IsLogFile leaves (laid l file)) is log) part

pub part-read : (before : List Step) (file : List ℕ) → before ≡ [] → IsPartOf sectors_head (carried before file)
    → IsPartOf sectors_head file
part-read before file none part = subst (λ s. IsPartOf sectors_head (carried s file)) none part

no-leaves : (leaves : List Digest) → length leaves ≤ 0 → leaves ≡ []
no-leaves [] none = refl
no-leaves (leaf ∷ leaves) none = absurd (omega (arith, none))

-- A log in one has no entry.
part-empty : (leaves : List Digest) (file : List ℕ) → HasLog leaves file → IsSpread (layout_in file)
    → IsPartOf sectors_head file → leaves ≡ []
unfolding log_in
part-empty leaves file log spread part =
    let inside = (known leaves (log_in file) log).holds.inside in
    let long = laid-long (layout_in file) file spread in
    no-leaves leaves
    (omega (arith, inside, long, part.short, sectors-long, size-within (length leaves)))

-- The two sectors have the log of no entries.
pub sectors-settle : (leaves : List Digest) (left : List ℕ) → leaves ≡ [] → left ≡ sectors_head
    → SettlesApart leaves left
sectors-settle leaves left none is = subst (λ l. SettlesApart l left) (sym none)
    (subst (SettlesApart []) (sym is) (record {
      lies = sectors-lie;
      settled = subst (IsSettled []) (log-of Apart sectors_head (sym sectors-lie)) sectors-settled;
    }))

pub part-settles : (leaves : List Digest) (file left : List ℕ) → HasLog leaves file → IsSpread (layout_in file)
    → IsPartOf sectors_head file → left ≡ sectors_head → SettlesApart leaves left
part-settles leaves file left log spread part is =
    sectors-settle leaves left (part-empty leaves file log spread part) is

-- all steps of a call that lays them out
pub laid-out : (after steps : List Step) (file : List ℕ) → steps ≡ after → carried after file ≡ sectors_head
    → carried steps file ≡ sectors_head
laid-out after steps file told is = ap (λ s. carried s file) told ∙ is

-- wherever they stop
pub laid-stopped : (before after steps : List Step) (n : ℕ) (file left : List ℕ) → before ≡ [] → n ≡ 0
    → steps ≡ after → IsPartOf sectors_head file
    → (((left : List ℕ) → left_from n before file left → IsPartOf sectors_head left)
    → (left : List ℕ) → left_from n after file left → IsPartOf sectors_head left)
    → IsStopped steps file left → IsPartOf sectors_head left
laid-stopped before after steps n file left none start told part each stopped =
    each (λ old now. subst (IsPartOf sectors_head)
    (sym (none-left n before none file old now ∙ ap (λ s. carried s file) none)) part)
    left (from-start n start after file left (subst (λ s. IsStopped s file left) told stopped))

-- ---- what is handed over

pub stops-by : {A : Type 0} (done : Result A NotDone) (P : List ℕ → Type 0) (plan : List Step)
    (file bytes bytes' : List ℕ) (n : ℕ) (steps steps' : List (List ℕ)) (m : ℕ)
    → OnOk done (IsHanded plan bytes bytes' n steps steps' m) → 0 < length plan
    → ((left : List ℕ) → IsStopped plan file left → P left)
    → OnOk done (StopsAs P file bytes bytes' n steps steps' m)
stops-by (Ok value) P plan file bytes bytes' n steps steps' m handed some each = record {
  plan = plan;
  handed = handed;
  some = some;
  each = each;
}
stops-by (Err why) P plan file bytes bytes' n steps steps' m handed some each = tt

-- of a file that has no byte, what is said of a part of two sectors
pub settles-by : {A : Type 0} (done : Result A NotDone) (file bytes bytes' : List ℕ) (n : ℕ)
    (steps steps' : List (List ℕ)) (m : ℕ)
    → OnOk done (Carries (λ left. left ≡ sectors_head) file bytes bytes' n steps steps' m)
    → OnOk done (Carries (SettlesApart []) file bytes bytes' n steps steps' m)
settles-by (Ok value) file bytes bytes' n steps steps' m made = record {
  plan = made.plan;
  handed = made.handed;
  some = made.some;
  said = sectors-settle [] (carried made.plan file) refl made.said;
}
settles-by (Err why) file bytes bytes' n steps steps' m made = tt
