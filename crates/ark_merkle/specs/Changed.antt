-- Digests that change in a row, and the couples that they reach.
use Rattle.std.specs.Prelude.{◌≡◌, ℕ, zero, suc, ◌+◌, ◌*◌, ◌/◌, ◌==◌, ◌<◌, ◌≤◌, List, [], ◌∷◌, length, map, get_or, if◌then◌else◌, Ok}
use Rattle.std.specs.Borrow.{Bor}
use Rattle.std.specs.BTreeMap.{BTreeMap}
use Rattle.std.specs.declared.vec.Vec.{Vec}
use Rattle.ark_base.specs.Outcome.{Outcome}
use Rattle.ark_paths.specs.Index.{bit_at}
use Rattle.ark_paths.specs.Pair.{Digest}
use Rattle.ark_paths.specs.Rows.{row_above}
use Rattle.ark_paths.specs.Rising.{rising_set}

-- changes with what is seen of them
abbrev pub seen_changes : {A B : Type 0} → (A → B) → List (ℕ × A) → List (ℕ × B)
seen_changes view changes = map (λ c. (c.0, view c.1)) changes

-- The places of the changes rise, from one on and below another.
abbrev pub AreChanges : {A : Type 0} → ℕ → ℕ → List (ℕ × A) → Type 0
AreChanges first end [] = Unit {0}
AreChanges first end (change ∷ others) = (first ≤ change.0) × (change.0 < end) × AreChanges (suc change.0) end others

-- the changes that stand in a map
abbrev pub entered : {A : Type 0} → BTreeMap ℕ (Bor A) → List (ℕ × A)
entered last = seen_changes (λ leaf. leaf.now) last.entries

-- the changes that a list lends
abbrev pub lent_changes : {A Alloc : Type 0} → Vec (ℕ × Bor A) Alloc → List (ℕ × A)
lent_changes last = seen_changes (λ leaf. leaf.now) last.items

-- The places of the changes rise, from one on.
abbrev pub Rise : {A : Type 0} → ℕ → List (ℕ × A) → Type 0
Rise first [] = Unit {0}
Rise first (change ∷ others) = (first ≤ change.0) × Rise (suc change.0) others

-- a changed digest with the one beside it in the row, in their order
abbrev pub couple_of : List Digest → ℕ × Digest → Digest × Digest
couple_of row change =
    if bit_at change.0 0
    then (get_or row (2 * (change.0 / 2)) [], change.1)
    else (change.1, get_or row (2 * (change.0 / 2) + 1) [])

-- the couples that changes reach, each with its place in the row above
abbrev pub couples_reached : List Digest → List (ℕ × Digest) → List (ℕ × (Digest × Digest))
couples_reached row [] = []
couples_reached row (c ∷ []) = (c.0 / 2, couple_of row c) ∷ []
couples_reached row (c ∷ d ∷ others) =
    if c.0 / 2 == d.0 / 2
    then (c.0 / 2, (c.1, d.1)) ∷ couples_reached row others
    else (c.0 / 2, couple_of row c) ∷ couples_reached row (d ∷ others)

-- how many places stand above these of a row in the next rows
abbrev pub count_over : ℕ → List ℕ → ℕ
count_over zero places = 0
count_over (suc rows) places =
    let halves = rising_set (map (λ place. place / 2) places) in
    length halves + count_over rows halves

-- Each row but the lowest is what the hash makes of the row below it.
abbrev pub AreHashed : (Digest → Digest → Outcome Digest) → List (List Digest) → Type 0
AreHashed hash rows = (k : ℕ) → suc k < length rows → row_above hash (get_or rows k []) ≡ Ok (get_or rows (suc k) [])
