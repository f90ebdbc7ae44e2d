-- The answer of `bind`: what a path says of a leaf of the tree.
use Rattle.std.specs.Prelude.{◌≡◌, ℕ, ◌==◌, Bool, true, false, if◌then◌else◌, Option, Some, None, List, length, Ok, Err}
use Rattle.ark_base.specs.declared.error.Error.TheVariants.{IncorrectInputLength}
use Rattle.ark_base.specs.Outcome.{Outcome, ◌>>=◌}
use Rattle.ark_paths.specs.Bind.{difference}
use Rattle.ark_paths.specs.Pair.{Digest, HashPair, digest_eq}
use Rattle.ark_paths.specs.Path.{Way, path_root, verdict}
use Rattle.ark_paths.specs.Root.{root, upper_levels}
use Rattle.ark_paths.specs.Tree.{HashedTree, root_in}
use Rattle.ark_merkle.specs.declared.tree.bind.Binding.{Binding}
use Rattle.ark_merkle.specs.declared.tree.bind.Binding.TheVariants.{Rejected, Stands, Differs}

-- what that level says: the leaf stands, or the level
abbrev pub binding_of : Option ℕ → Binding
binding_of None = Stands
binding_of (Some level) = Differs level

-- the refusals in their order: a path of another length, the leaf's, the path's; else what the path says
abbrev pub path_binding : HashPair → List Digest → Outcome Digest → Way → Outcome Binding
path_binding h digests leaf way =
    if length way.above == upper_levels digests then (do
      digest ← leaf
      r ← root h digests
      given ← path_root h way digest
      Ok (if digest_eq given r then binding_of (difference h digests way digest) else Rejected))
    else Err (IncorrectInputLength (length way.above))

-- ---- what the answer means

abbrev pub gives_root : Binding → Bool
gives_root Rejected = false
gives_root Stands = true
gives_root (Differs level) = true

-- ---- of a tree and a leaf

-- what a path says of a leaf
abbrev pub binding_in : {A : Type 0} → HashedTree A → A → Way → Outcome Binding
binding_in tree leaf way = path_binding tree.hashes.pair tree.leaves (tree.hashes.leaf leaf) way

-- It is not rejected exactly where the path gives the tree's root.
abbrev pub MatchesVerdict : {A : Type 0} → HashedTree A → A → Way → Binding → Type 0
MatchesVerdict tree leaf way binding = (r : Digest) → root_in tree ≡ Ok r
    → verdict tree.hashes.pair (tree.hashes.leaf leaf) way r ≡ Ok (gives_root binding)
