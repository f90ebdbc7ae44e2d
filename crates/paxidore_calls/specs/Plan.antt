-- What was read of a caller's file, and what is to be written there.
use Rattle.std.specs.Prelude.{◌≡◌, ◌⊎◌, ◌+◌, ◌<◌, ◌≤◌, ℕ, List, [], ◌∷◌, ◌++◌, length, map, take, drop, get_or}
use Rattle.std.specs.List.{flat_map}
use Rattle.ark_paths.specs.Pair.{Digest}
use Rattle.log_store.specs.Disk.{Torn}
use Rattle.log_store.specs.Sectors.{layout_in}
use Rattle.log_store.specs.Store.{IsBeforeOrAfter, IsSettled}
use Rattle.log_file.specs.LogFile.{written}
use Rattle.paxidore_calls.specs.Layouts.{log_in}
use Rattle.paxidore_calls.specs.declared.file_calls.replay.Step.{Step}

-- The bytes are those of pieces of a file, one behind the other. A piece is a place and a count.
abbrev pub IsReadOf : List (List ℕ) → List ℕ → List ℕ → Type 0
IsReadOf [] bytes file = Unit {0}
IsReadOf (piece ∷ places) bytes file = (get_or piece 1 0 ≤ length bytes)
    × (take (get_or piece 1 0) bytes ≡ take (get_or piece 1 0) (drop (get_or piece 0 0) file))
    × IsReadOf places (drop (get_or piece 1 0) bytes) file

-- A file has this length, and of it the first so many pieces were read.
abbrev pub HasRead : List ℕ → ℕ → ℕ → List (List ℕ) → List ℕ → Type 0
HasRead file file_len count places pieces = IsReadOf (take count places) pieces file × (file_len ≡ length file)

-- the file once all steps are carried out
abbrev pub carried : List Step → List ℕ → List ℕ
carried [] file = file
carried (step ∷ steps) file = carried steps (written file step.at step.bytes.items)

-- What may stand in the file where the caller stops, or a crash comes: some of the steps are done, and the next one in
-- part.
abbrev pub IsStopped : List Step → List ℕ → List ℕ → Type 0
IsStopped [] file left = left ≡ file
IsStopped (step ∷ steps) file left = Torn step.at step.bytes.items file left
    ⊎ IsStopped steps (written file step.at step.bytes.items) left

-- What a call says so far that is to be written, and how many steps of it are synced.
pub record Noted : Type 0 where
  pub steps : List Step
  pub done : ℕ

-- the bytes of steps, one behind the other
abbrev pub bytes_of_steps : List Step → List ℕ
bytes_of_steps steps = flat_map (λ step. step.bytes.items) steps

-- the place and the count of bytes of each step
abbrev pub places_of_steps : List Step → List (List ℕ)
places_of_steps steps = map (λ step. step.at ∷ length step.bytes.items ∷ []) steps

-- Steps stand in front of a caller's buffers, which are as before behind them.
pub record IsHanded (plan : List Step) (bytes_before bytes_after : List ℕ) (bytes_count : ℕ)
    (steps_before steps_after : List (List ℕ)) (steps_count : ℕ) : Type 0 where
  pub bytes : bytes_after ≡ bytes_of_steps plan ++ drop (length (bytes_of_steps plan)) bytes_before
  pub counted : bytes_count ≡ length (bytes_of_steps plan)
  pub steps : steps_after ≡ places_of_steps plan ++ drop (length (places_of_steps plan)) steps_before
  pub steps_counted : steps_count ≡ length (places_of_steps plan)

-- A caller is handed steps, one at least, and once all is carried out, this is said of the file.
pub record Carries (P : List ℕ → Type 0) (file bytes_before bytes_after : List ℕ) (bytes_count : ℕ)
    (steps_before steps_after : List (List ℕ)) (steps_count : ℕ) : Type 0 where
  pub plan : List Step
  pub handed : IsHanded plan bytes_before bytes_after bytes_count steps_before steps_after steps_count
  pub some : 0 < length plan
  pub said : P (carried plan file)

-- A caller is handed steps, one at least, and wherever they stop, this is said of the file.
pub record StopsAs (P : List ℕ → Type 0) (file bytes_before bytes_after : List ℕ) (bytes_count : ℕ)
    (steps_before steps_after : List (List ℕ)) (steps_count : ℕ) : Type 0 where
  pub plan : List Step
  pub handed : IsHanded plan bytes_before bytes_after bytes_count steps_before steps_after steps_count
  pub some : 0 < length plan
  pub each : (left : List ℕ) → IsStopped plan file left → P left

-- What is refused leaves a caller's buffers for steps as before; only where they lack room, it writes the counts.
pub record LeavesSteps (LacksRoom : Type 0) (bytes_before bytes_after : List ℕ)
    (bytes_count_before bytes_count_after : ℕ) (steps_before steps_after : List (List ℕ))
    (steps_count_before steps_count_after : ℕ) : Type 0 where
  pub bytes : bytes_after ≡ bytes_before
  pub steps : steps_after ≡ steps_before
  pub uncounted : (LacksRoom → ⊥)
      → (bytes_count_after ≡ bytes_count_before) × (steps_count_after ≡ steps_count_before)

-- A caller is handed steps that append leaves to the log of a file, and the new size.
pub record Grows (leaves more : List Digest) (file bytes_before bytes_after : List ℕ) (bytes_count : ℕ)
    (steps_before steps_after : List (List ℕ)) (steps_count size : ℕ) : Type 0 where
  pub plan : List Step
  pub handed : IsHanded plan bytes_before bytes_after bytes_count steps_before steps_after steps_count
  -- once all is carried out, the file is that of the log with the leaves, also where one of its two slots is lost
  pub settled : IsSettled (leaves ++ more) (log_in (carried plan file))
  -- wherever that stops, it is that of the log as it was, or with the leaves
  pub stopped : (left : List ℕ) → IsStopped plan file left → IsBeforeOrAfter leaves more (log_in file) (log_in left)
  -- and it lies as it did
  pub layout : (left : List ℕ) → IsStopped plan file left → layout_in left ≡ layout_in file
  pub size_is : size ≡ length leaves + length more
