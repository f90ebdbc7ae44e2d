-- What a line asks.
use Rattle.std.specs.Prelude.{ℕ, List, [], ◌∷◌, map, if◌then◌else◌, Option, None, codes}
use Rattle.std.specs.Option.{option_map}
use Rattle.std.specs.Str.{bytes_eq}
use Rattle.ark_base.specs.Outcome.{Outcome}
use Rattle.ark_paths.specs.Pair.{Digest}
use Rattle.acp_run.specs.declared.session.request.Request.{Request as LineRequest}
use Rattle.acp_run.specs.declared.session.request.Request.TheVariants.{Tree, Digests, Set, SetMany, Root, Proof, Multi, Check, Bind, MultiCheck, MultiCount, Strict}
use Rattle.acp_run.specs.Arguments.{some, none_left, values, only_value, two_values, pairs, value_and_others}
use Rattle.acp_run.specs.Language.{Language}
use Rattle.decimals.specs.Decimals.{decimal_number}

-- a leaf stands as what the leaf hash answers for it
pub data Request : Type 0 where
  NewTree : (leaves : List (Outcome Digest)) → Request
  NewTreeOfDigests : (digests : List Digest) → Request
  NewLeaf : (index : ℕ) (leaf : Outcome Digest) → Request
  NewLeaves : (changes : List (ℕ × Outcome Digest)) → Request
  ShowRoot : Request
  ShowProof : (index : ℕ) → Request
  ShowMultiProof : (indexes : List ℕ) → Request
  CheckPath : (path : List ℕ) (leaf : Outcome Digest) → Request
  BindPath : (path : List ℕ) (leaf : Outcome Digest) → Request
  CheckMultiProof : (proof : List ℕ) (leaves : List (Outcome Digest)) → Request
  CountMultiProof : (proof : List ℕ) (leaves : List (Outcome Digest)) → Request
  ReadStrictly : (proof : List ℕ) → Request

-- what is asked by a word and the tokens behind it; nothing by an unknown word, or by other tokens than it takes:
-- first, what is asked of a proof
abbrev pub checked_by : Language → List ℕ → List (List ℕ) → Option Request
checked_by l word tokens =
    if bytes_eq word (codes "check")
    then option_map (λ two. CheckPath two.0 two.1) (two_values l.bytes l.leaf_outcome tokens)
    else if bytes_eq word (codes "bind")
    then option_map (λ two. BindPath two.0 two.1) (two_values l.bytes l.leaf_outcome tokens)
    else if bytes_eq word (codes "mcheck")
    then option_map (λ two. CheckMultiProof two.0 two.1) (value_and_others l.bytes l.leaf_outcome tokens)
    else if bytes_eq word (codes "mcount")
    then option_map (λ two. CountMultiProof two.0 two.1) (value_and_others l.bytes l.leaf_outcome tokens)
    else if bytes_eq word (codes "strict") then option_map ReadStrictly (only_value l.bytes tokens)
    else None

-- the same also of a tree
abbrev pub queried_by : Language → List ℕ → List (List ℕ) → Option Request
queried_by l word tokens =
    if bytes_eq word (codes "root") then none_left ShowRoot tokens
    else if bytes_eq word (codes "proof") then option_map ShowProof (only_value decimal_number tokens)
    else if bytes_eq word (codes "multi") then option_map ShowMultiProof (values decimal_number tokens)
    else checked_by l word tokens

-- the same also of what changes the tree
abbrev pub asked_by : Language → List ℕ → List (List ℕ) → Option Request
asked_by l word tokens =
    if bytes_eq word (codes "tree") then option_map NewTree (some tokens (values l.leaf_outcome tokens))
    else if bytes_eq word (codes "digests") then option_map NewTreeOfDigests (some tokens (values l.digest tokens))
    else if bytes_eq word (codes "set")
    then option_map (λ two. NewLeaf two.0 two.1) (two_values decimal_number l.leaf_outcome tokens)
    else if bytes_eq word (codes "setmany")
    then option_map NewLeaves (some tokens (pairs decimal_number l.leaf_outcome tokens))
    else queried_by l word tokens

-- what a line asks, if it is no bad one
abbrev pub request_of : Language → List (List ℕ) → Option Request
request_of l [] = None
request_of l (word ∷ tokens) = asked_by l word tokens

-- what is asked as it stands in the program: a leaf by what the leaf hash answers for it, a digest by its numbers
abbrev pub asked : {L D : Type 0} → (L → Outcome Digest) → (D → Digest) → LineRequest L D → Request
asked hash numbers (Tree leaves) = NewTree (map hash leaves.items)
asked hash numbers (Digests digests) = NewTreeOfDigests (map numbers digests.items)
asked hash numbers (Set index leaf) = NewLeaf index (hash leaf)
asked hash numbers (SetMany changes) = NewLeaves (map (λ change. (change.0, hash change.1)) changes.items)
asked hash numbers Root = ShowRoot
asked hash numbers (Proof index) = ShowProof index
asked hash numbers (Multi indexes) = ShowMultiProof indexes.items
asked hash numbers (Check path leaf) = CheckPath path.items (hash leaf)
asked hash numbers (Bind path leaf) = BindPath path.items (hash leaf)
asked hash numbers (MultiCheck proof leaves) = CheckMultiProof proof.items (map hash leaves.items)
asked hash numbers (MultiCount proof leaves) = CountMultiProof proof.items (map hash leaves.items)
asked hash numbers (Strict proof) = ReadStrictly proof.items
