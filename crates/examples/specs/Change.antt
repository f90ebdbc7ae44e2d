-- What a path says of a store in which one value was changed.
use Rattle.std.specs.Prelude.{◌≡◌, ◌⊎◌, ℕ, List, [], length, Ok}
use Rattle.ark_base.specs.Reading.{Reading}
use Rattle.ark_merkle.specs.Update.{new_root}
use Rattle.ark_paths.specs.Bind.{CollidesAt}
use Rattle.ark_paths.specs.Pair.{Digest, Hashes}
use Rattle.ark_paths.specs.Path.{Way}
use Rattle.ark_paths.specs.Root.{root}
use Rattle.ark_paths.specs.Tree.{tree_with}

-- In every store of this size with the root before, the new value at the index, all others left as they are, gives the
-- root after; or at some level the path's pair for the old value and the store's differ and hash alike.
abbrev pub ChangeLeadsTo : {A : Type 0} → Hashes A → Digest → Digest → ℕ → ℕ → A → A → Way → Type 0
ChangeLeadsTo hashes before after size index old new way =
    (digests : List Digest) → length digests ≡ size → root hashes.pair digests ≡ Ok before
    → (new_root hashes.pair (hashes.leaf new) index digests ≡ Ok after)
    ⊎ ((level : ℕ) × CollidesAt (tree_with hashes digests) old way level)

-- The bytes are those of a path that shows so.
abbrev pub ShowsChange : {A : Type 0} → Hashes A → Digest → Digest → ℕ → ℕ → A → A → Reading Way → Type 0
ShowsChange hashes before after size index old new reading =
    (way : Way) × (reading ≡ Ok (way, [])) × ChangeLeadsTo hashes before after size index old new way
