-- Digests that a tree keeps.
use Rattle.std.specs.Prelude.{◌≡◌, true, Option, Some, None, List, [], Ok}
use Rattle.ark_base.specs.Outcome.{Outcome}
use Rattle.merkle_map.specs.KeyProof.{ProofSeen, proof_verdict}
use Rattle.merkle_map.specs.Map.{Digest, Entry, HaveSame, Key, MapHashes, root_of_map, value_at}
use Rattle.merkle_map.specs.Transition.{ChangeSeen, Puts, Removes, changed_by}
use Rattle.merkle_map.specs.Tree.{Fork, IsWhole, Shape, StandsAt, shape_digest}
use Rattle.merkle_map.specs.Whole.{entries_of}
use Rattle.merkle_map.specs.Parts.{shape}
use Rattle.merkle_map.specs.declared.part.Part.{Part, Empty as NoEntry, One as OneEntry, Fork' as TwoSides, Hidden as Behind}
use Rattle.merkle_map.specs.declared.top.Top.{Top}
use Rattle.merkle_map.specs.declared.top.Top.TheVariants.{Shown, Digest as Alone}

-- A digest is what was to be kept, if one is kept.
abbrev pub IsFor : {D : Type 0} → (D → Digest) → Outcome Digest → Option D → Type 0
IsFor numbers outcome None = Unit {0}
IsFor numbers outcome (Some digest) = outcome ≡ Ok (numbers digest)

-- Each digest that a tree keeps is that of the part that keeps it.
abbrev pub IsKept : {D : Type 0} → (D → Digest) → MapHashes → Part D → Type 0
IsKept numbers h NoEntry = Unit {0}
IsKept numbers h (OneEntry entry) = Unit {0}
IsKept numbers h (TwoSides p left right digest) =
    IsFor numbers (shape_digest h (Fork (shape numbers left) (shape numbers right))) digest
    × IsKept numbers h left × IsKept numbers h right
IsKept numbers h (Behind digest) = Unit {0}

-- It is so of a whole tree.
abbrev pub IsTopKept : {D : Type 0} → (D → Digest) → MapHashes → Top D → Type 0
IsTopKept numbers h (Shown part) = IsKept numbers h part
IsTopKept numbers h (Alone digest) = Unit {0}

-- It is so of both sides.
abbrev pub SidesAreKept : {D : Type 0} → (D → Digest) → MapHashes → Part D → Type 0
SidesAreKept numbers h NoEntry = Unit {0}
SidesAreKept numbers h (OneEntry entry) = Unit {0}
SidesAreKept numbers h (TwoSides p left right digest) = IsKept numbers h left × IsKept numbers h right
SidesAreKept numbers h (Behind digest) = Unit {0}

-- The tree of a store: it stands at the root, hides nothing, and keeps digests that are right.
pub record IsKeptStore {D : Type 0} (numbers : D → Digest) (h : MapHashes) (part : Part D) : Type 0 where
  pub stands : StandsAt [] (shape numbers part)
  pub whole : IsWhole (shape numbers part)
  pub kept : IsKept numbers h part

-- a map and its hasher
pub record MapValue (T : Type 0) : Type 0 where
  pub hasher : T
  pub entries : List Entry

-- The tree is one of these entries: it stands at the root, hides nothing, and has them.
pub record IsTreeOf (entries : List Entry) (tree : Shape) : Type 0 where
  pub stands : StandsAt [] tree
  pub whole : IsWhole tree
  pub has : entries_of tree ≡ entries

-- The map's root accepts the proof of what the map has at the key.
abbrev pub IsShownIn : MapHashes → Key → List Entry → ProofSeen → Type 0
IsShownIn h key entries proof = (root : Digest) → root_of_map h entries ≡ Ok root
    → proof_verdict h root key (value_at key entries) proof ≡ Ok true

-- ---- changes that can be taken back

-- the key of a change
abbrev pub changed_key : ChangeSeen → Key
changed_key (Puts key value) = key
changed_key (Removes key) = key

-- the change that gives a key what it had
abbrev pub giving : Key → Option Digest → ChangeSeen
giving key None = Removes key
giving key (Some value) = Puts key value

-- This change of the new map gives the old one.
abbrev pub Undoes : List Entry → List Entry → ChangeSeen → Type 0
Undoes old new change = HaveSame (changed_by change new) old
