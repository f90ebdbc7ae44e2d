-- The front of a slot at which a write was cut short, and what stands beside the slots.
use Rattle.std.proofs.Common.{◌≡◌, ◌⊎◌, inl, inr, ⊎_elim, ℕ, ◌+◌, ◌*◌, ◌<◌, ◌≤◌, Bool, true, false, List, ◌++◌, length, take, drop, get_or, ap, sym, ◌∙◌, arith}
use Rattle.std.specs.Prelude.{not}
use Rattle.std.proofs.lemmas.List.{get_or-take}
use Rattle.ark_paths.specs.Pair.{Digest}
use Rattle.merkle_log.specs.Stored.{stored_count}
use Rattle.log_file.specs.LogFile.{file_end, next_slot, slot_front, written, IsLogFile}
use Rattle.log_store.specs.Disk.{Cut, IsMixed}
use Rattle.log_store.specs.Store.{BeginsAs, IsBeforeOrAfter, HasDigestsOf, SaysLarger}
use Rattle.log_store.proofs.Writes.{behind-cut, piece-beside, piece-of}

-- ---- a slot's front

-- nothing was mixed
pub unmixed : (old new left : List ℕ) → left ≡ old → IsMixed old new left
unmixed old new left is = λ i in_new. inl (ap (λ l. get_or l i 0) is)

-- all was written
pub newly : (old new left : List ℕ) → left ≡ new → IsMixed old new left
newly old new left is = λ i in_new. inr (ap (λ l. get_or l i 0) is)

-- The first 20 bytes of a piece that was mixed are.
pub mixed-front : (old mid new front left : List ℕ) → IsMixed mid new left → take 20 mid ≡ old → length front ≡ 20
    → 20 ≤ length new → take 20 new ≡ front → IsMixed old front (take 20 left)
mixed-front old mid new front left mixed old_is count longer front_is = λ i in_new.
    let low : i < 20 = omega (arith, count) in
    let cut = get_or-take 20 left i 0 low in
    ⊎_elim (λ is. inl (cut ∙ is ∙ sym (get_or-take 20 mid i 0 low) ∙ ap (λ l. get_or l i 0) old_is))
    (λ is. inr (cut ∙ is ∙ sym (get_or-take 20 new i 0 low) ∙ ap (λ l. get_or l i 0) front_is))
    (mixed i (omega (arith, low, longer)))

-- The file is that of the log as it was, or with the new leaves; or a slot says a larger size.
abbrev pub IsSaid : List Digest → List Digest → List ℕ → Type 0
IsSaid leaves more left = IsLogFile leaves left ⊎ IsLogFile (leaves ++ more) left
    ⊎ SaysLarger (length leaves) (length (leaves ++ more)) left

-- Where a slot is forged both are mixed.
pub told : (leaves more : List Digest) (file left : List ℕ) → ((second : Bool)
    → IsMixed (take 20 (drop (next_slot second) file)) (slot_front (length (leaves ++ more)))
    (take 20 (drop (next_slot second) left))) → IsSaid leaves more left → IsBeforeOrAfter leaves more file left
told leaves more file left mixed (inl same) = inl same
told leaves more file left mixed (inr (inl grown)) = inr (inl grown)
told leaves more file left mixed (inr (inr says)) = inr (inr (record { says = says; mixed = mixed }))

-- what holds of a slot and of the other one
pub by_slot : (P : Bool → Type 0) (second which : Bool) → P second → P (not second) → P which
by_slot P true true own other = own
by_slot P true false own other = other
by_slot P false true own other = other
by_slot P false false own other = own

-- ---- where the slots stand

pub slot-within : (second : Bool) → next_slot second + 32 ≤ 96
slot-within true = omega arith
slot-within false = omega arith

pub slots-apart : (second : Bool) → (next_slot (not second) + 20 ≤ next_slot second)
    ⊎ (next_slot second + 32 ≤ next_slot (not second))
slots-apart true = inl (omega arith)
slots-apart false = inr (omega arith)

pub slots-far : (second : Bool) → (next_slot second + 20 ≤ next_slot (not second))
    ⊎ (next_slot (not second) + 32 ≤ next_slot second)
slots-far true = inr (omega arith)
slots-far false = inl (omega arith)

-- ---- the digests

pub digests-then : (size : ℕ) (a b c : List ℕ) → HasDigestsOf size a b → HasDigestsOf size b c → HasDigestsOf size a c
digests-then size a b c one two = two ∙ one

-- of a file that begins alike
pub digests-begins : (size : ℕ) (file left : List ℕ) → BeginsAs size file left → HasDigestsOf size file left
digests-begins size file left is = piece-of (file_end size) 96 (32 * stored_count size) left file (omega arith) is

-- where the head was cut
pub digests-cut : (size to m : ℕ) (file left : List ℕ) → to + m ≤ 96 → Cut to m file left → HasDigestsOf size file left
digests-cut size to m file left le cut = behind-cut 96 (32 * stored_count size) to m file left le cut

-- where it was written
pub digests-put : (size to : ℕ) (part file : List ℕ) → to + length part ≤ 96 → to ≤ length file
    → HasDigestsOf size file (written file to part)
digests-put size to part file le inside = piece-beside file part to 96 (32 * stored_count size) (inr le) inside
