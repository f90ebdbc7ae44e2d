-- What is hashed ahead: of some items the first ones, so many as a hash makes together.
use Rattle.std.specs.Prelude.{◌≡◌, ℕ, List, length, map, take, Ok, MatchResult}
use Rattle.std.specs.Borrow.{Bor}
use Rattle.std.specs.declared.vec.Vec.{Vec}
use Rattle.ark_base.specs.Outcome.{Outcome, IsMemory}

-- what stands behind references
abbrev pub lent : {A : Type 0} → List (Bor A) → List A
lent items = map (λ item. item.now) items

-- what is seen of a couple of references
abbrev pub lent_couple : {A B : Type 0} → (A → B) → Bor A × Bor A → B × B
lent_couple view couple = (view couple.0.now, view couple.1.now)

-- what is seen of such couples
abbrev pub lent_couples : {A B : Type 0} → (A → B) → List (Bor A × Bor A) → List (B × B)
lent_couples view couples = map (lent_couple view) couples

-- what is seen of a couple
abbrev pub couple_seen : {A B : Type 0} → (A → B) → A × A → B × B
couple_seen view couple = (view couple.0, view couple.1)

-- what is seen of couples
abbrev pub couples_seen : {A B : Type 0} → (A → B) → List (A × A) → List (B × B)
couples_seen view couples = map (couple_seen view) couples

-- a hash of two as a hash of couples
abbrev pub of_couple : {A B : Type 0} → (A → A → B) → A × A → B
of_couple hash couple = hash couple.0 couple.1

-- a hash that refuses nothing
abbrev pub sure : {A B : Type 0} → (A → B) → A → Outcome B
sure hash item = Ok (hash item)

-- a hash of bytes as one of byte strings
abbrev pub of_bytes : {A Z : Type 0} → (List ℕ → A) → Vec ℕ Z → A
of_bytes hash string = hash string.items

-- These are the values of as many of the first items.
abbrev pub AreOfFirst : {A B : Type 0} → (A → Outcome B) → List A → List B → Type 0
AreOfFirst hash items values = map hash (take (length values) items) ≡ map Ok values

-- The call makes the digests of some first items, or memory was refused.
abbrev pub HashesAhead : {A D Z : Type 0} → (D → List ℕ) → (A → Outcome (List ℕ)) → List A → Outcome (Vec D Z) → Type 0
HashesAhead numbers hash items result =
    MatchResult result (λ made. AreOfFirst hash items (map numbers made.items)) IsMemory
