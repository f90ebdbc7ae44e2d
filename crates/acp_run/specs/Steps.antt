-- What a line does to the tree, and the reply to it.
use Rattle.std.specs.Prelude.{◌≡◌, ◌≤◌, ◌⊎◌, ℕ, nat_lt, min, length, take, List, [], ◌∷◌, Bool, true, if◌then◌else◌, Option, Some, None, Ok, Err}
use Rattle.std.specs.List.{list_all}
use Rattle.std.specs.Option.{option_map}
use Rattle.ark_base.specs.declared.error.Error.TheVariants.{OutOfMemory}
use Rattle.ark_base.specs.Outcome.{Outcome, ◌>>=◌}
use Rattle.ark_base.specs.Reading.{Reading, reading_outcome}
use Rattle.ark_paths.specs.Index.{is_tree_size, log2}
use Rattle.ark_paths.specs.MultiPath.{MultiWay, multi_verdict}
use Rattle.ark_paths.specs.MultiPathStrict.{strict_reading}
use Rattle.ark_paths.specs.Pair.{Digest, HashPair}
use Rattle.ark_paths.specs.Path.{Way, verdict}
use Rattle.ark_paths.specs.Root.{root, leaves_with_root, tree_leaves}
use Rattle.ark_paths.specs.Tree.{Tree, own_path}
use Rattle.ark_paths.specs.Above.{count_above}
use Rattle.ark_paths.specs.Asked.{IsOwn, most_asked}
use Rattle.ark_merkle.specs.Batch.{new_digests}
use Rattle.ark_merkle.specs.Binding.{path_binding}
use Rattle.ark_merkle.specs.MultiProof.{own_multi_path}
use Rattle.ark_merkle.specs.Update.{changed_leaves}
use Rattle.acp_run.specs.Language.{Language}
use Rattle.acp_run.specs.Lines.{tokens_of}
use Rattle.acp_run.specs.declared.session.replies.Finding.{Finding}
use Rattle.acp_run.specs.declared.session.replies.Finding.TheVariants.{Trailing, Verdict, Counted, Bound, Strict}
use Rattle.acp_run.specs.Replies.{Reply, BadLine, NoTree, NotLeaves, NoIndex, Refused, Built, Changed, Root, Proof, MultiProof, MayLackMemory, finding_reply, text}
use Rattle.acp_run.specs.Requests.{Request, NewTree, NewTreeOfDigests, NewLeaf, NewLeaves, ShowRoot, ShowProof, CheckPath, BindPath, ShowMultiProof, CheckMultiProof, CountMultiProof, ReadStrictly, request_of}

-- the tree's leaf digests, or no tree yet
abbrev pub State : Type 0
State = Option (List Digest)

-- the state of a tree, or of none
abbrev pub state_of : {L T : Type 0} → Option (Tree L T) → State
state_of tree = option_map (λ t. t.leaves) tree

-- The tree, if there is one, hashes as some parameters do, by what the leaf hash means and by the hashes of pairs.
abbrev pub HasHashes : {L T X : Type 0} → (L → X → Outcome Digest) → (T → HashPair) → L → T → Option (Tree L T) → Type 0
HasHashes meaning pair p q None = Unit {0}
HasHashes meaning pair p q (Some tree) =
    (meaning tree.leaf_parameters ≡ meaning p) × (pair tree.pair_parameters ≡ pair q)

-- the reply to a line, and the tree after it
abbrev pub Turn : Type 0
Turn = Reply × State

-- new leaf digests take the place of those before; a refusal leaves them
abbrev pub settled : (List Digest → Reply) → State → Outcome (List Digest) → Turn
settled reply before (Ok digests) = (reply digests, Some digests)
settled reply before (Err error) = (Refused error, before)

-- a turn on a tree; nothing but a refusal where there is none
abbrev pub on_tree : State → (List Digest → Turn) → Turn
on_tree None turn = (NoTree, None)
on_tree (Some digests) turn = turn digests

-- a turn that leaves the tree
abbrev pub in_tree : State → (List Digest → Reply) → Turn
in_tree before reply = on_tree before (λ digests. (reply digests, Some digests))

-- ---- new trees

-- the exact reply to `tree`, and the tree afterwards
abbrev pub tree_turn : HashPair → State → List (Outcome Digest) → Turn
tree_turn h before leaves =
    if is_tree_size (length leaves)
    then settled (λ new. Built (length new)) before (tree_leaves h (λ digest. digest) leaves)
    else ((NotLeaves, before))

-- the exact reply to `digests`, and the tree afterwards
abbrev pub digests_turn : HashPair → State → List Digest → Turn
digests_turn h before digests =
    if is_tree_size (length digests)
    then settled (λ new. Built (length new)) before (leaves_with_root h digests)
    else ((NotLeaves, before))

-- The tree before, a tree that was made or its refusal, the tree after and the bytes of the reply: a new tree takes the
-- place of the one before.
abbrev pub Settles : {L T : Type 0} → Option (Tree L T) → Outcome (Tree L T) → Option (Tree L T) → List ℕ → Type 0
Settles before (Ok new) after bytes = (after ≡ Some new) × (bytes ≡ text (Built (length new.leaves)))
Settles before (Err error) after bytes = (after ≡ before) × (bytes ≡ text (Refused error))

-- ---- new leaves

-- the exact reply to `set`, and the tree afterwards
abbrev pub set_turn : HashPair → List Digest → ℕ → Outcome Digest → Turn
set_turn h digests index leaf =
    if nat_lt index (length digests)
    then settled (λ _. Changed) (Some digests) (changed_leaves h leaf index digests)
    else ((NoIndex, Some digests))

-- the leaf digests with those of some leaves, of each index the last, where they have a root
abbrev pub many_changed_leaves : HashPair → List (ℕ × Outcome Digest) → List Digest → Outcome (List Digest)
many_changed_leaves h changes digests = do
  new ← new_digests (λ digest. digest) changes digests
  leaves_with_root h new

-- the exact reply to `setmany`, and the tree afterwards
abbrev pub set_many_turn : HashPair → List Digest → List (ℕ × Outcome Digest) → Turn
set_many_turn h digests changes =
    if list_all (λ change. nat_lt change.0 (length digests)) changes
    then settled (λ _. Changed) (Some digests) (many_changed_leaves h changes digests)
    else ((NoIndex, Some digests))

-- ---- what a tree shows

-- the reply to `root`: the root, or the error of its hashes
abbrev pub shown_root : (Digest → List ℕ) → Outcome Digest → Reply
shown_root root_bytes (Ok digest) = Root (root_bytes digest)
shown_root root_bytes (Err error) = Refused error

-- the exact reply to `proof`, by the bytes of the path
abbrev pub proof_reply : List ℕ → List Digest → ℕ → Reply
proof_reply bytes digests index = if nat_lt index (length digests) then Proof bytes else NoIndex

-- the exact reply to `multi`, by the bytes of the multi-proof
abbrev pub multi_reply : List ℕ → List Digest → List ℕ → Reply
multi_reply bytes digests indexes =
    if list_all (λ index. nat_lt index (length digests)) indexes then MultiProof bytes else NoIndex

-- ---- what bytes say

-- a value, where no bytes are left behind it
abbrev pub alone : {W : Type 0} → W × List ℕ → Outcome (Option W)
alone (w, []) = Ok (Some w)
alone (w, byte ∷ bytes) = Ok None

-- what some bytes spell, where no bytes are left behind it, or their fault
abbrev pub alone_of : {W : Type 0} → Reading W → Outcome (Option W)
alone_of reading = do
  x ← reading_outcome reading
  alone x

-- what is said of a value that stands alone
abbrev pub said : {W : Type 0} → (W → Outcome Finding) → Option W → Outcome Finding
said say None = Ok Trailing
said say (Some w) = say w

-- what is said of what some bytes spell, or their fault
abbrev pub about : {W : Type 0} → (W → Outcome Finding) → Reading W → Outcome Finding
about say reading = do
  w ← alone_of reading
  said say w

-- whether a path gives the tree's root for a leaf
abbrev pub found_by : HashPair → List Digest → Outcome Digest → Way → Outcome Finding
found_by h digests leaf way = do
  r ← root h digests
  holds ← verdict h leaf way r
  Ok (Verdict holds)

-- what a path says of a leaf
abbrev pub bound_by : HashPair → List Digest → Outcome Digest → Way → Outcome Finding
bound_by h digests leaf way = do
  binding ← path_binding h digests leaf way
  Ok (Bound binding)

-- whether a multi-proof is accepted with some leaves under the tree's root
abbrev pub are_accepted : HashPair → List Digest → List (Outcome Digest) → MultiWay → Outcome Bool
are_accepted h digests leaves proof = do
  r ← root h digests
  multi_verdict h leaves proof r

-- that verdict, as it is told
abbrev pub found_by_multi : (Bool → Finding) → HashPair → List Digest → List (Outcome Digest) → MultiWay → Outcome
    Finding
found_by_multi verdict h digests leaves proof = do
  holds ← are_accepted h digests leaves proof
  Ok (verdict holds)

-- how many indexes a multi-proof has
abbrev pub count_of : MultiWay → Outcome Finding
count_of proof = Ok (Strict (length proof.indexes))

-- ---- how many pairs a check hashes

-- A check of a multi-proof with some leaves under a root may hash this many pairs: no more than those of each
-- index, and of a tree's own with its leaves each place above these once. Past the largest `usize` none is counted,
-- and leaves past the last index are ignored.
pub record MayHash (h : HashPair) (root_given : Digest) (leaves : List (Outcome Digest)) (m : MultiWay) (pairs : ℕ)
    : Type 0 where
  pub most : pairs ≤ most_asked m
  pub exact : multi_verdict h leaves m root_given ≡ Ok true
      → (digests : List Digest) → IsOwn h digests root_given (take (length m.indexes) leaves) m
      → pairs ≡ min (count_above (log2 (length digests)) m.indexes) 18446744073709551615

-- A check of the multi-proof that was read alone may hash this many pairs under the tree's root, where both are there.
abbrev pub MayCount : HashPair → List Digest → List (Outcome Digest) → Reading MultiWay → ℕ → Type 0
MayCount h digests leaves reading pairs = (r : Digest) → root h digests ≡ Ok r
    → (m : MultiWay) → alone_of reading ≡ Ok (Some m) → MayHash h r leaves m pairs

-- The bytes are the verdict on a multi-proof with a number of pairs that the check may hash, or say in its place that
-- memory lacks.
abbrev pub TellsCount : HashPair → Reading MultiWay → State → List (Outcome Digest) → List ℕ → Type 0
TellsCount h reading None leaves bytes = bytes ≡ text NoTree
TellsCount h reading (Some digests) leaves bytes =
    ((pairs : ℕ) × MayCount h digests leaves reading pairs
    × (bytes ≡ text (finding_reply (about (found_by_multi (λ holds. Counted holds pairs) h digests leaves) reading))))
    ⊎ (bytes ≡ text (Refused OutOfMemory))

-- ---- lines

-- The tree before a line, its turn, the tree after it and the bytes of the reply: as the turn has them, or want of
-- memory stands in the reply's place and the tree is as before.
abbrev pub Takes : State → Turn → State → List ℕ → Type 0
Takes before exact after bytes =
    ((bytes ≡ text exact.0) × (after ≡ exact.1))
    ⊎ ((bytes ≡ text (Refused OutOfMemory)) × (after ≡ before) × MayLackMemory exact.0)

-- The tree before, what is asked, the tree after it and the bytes of the reply: as its one turn has them, but for a
-- count of pairs, which leaves the tree and has no one reply.
abbrev pub TakesTurn : Language → State → Request → State → List ℕ → Type 0
TakesTurn l before (NewTree leaves) = Takes before (tree_turn l.pair_hashes before leaves)
TakesTurn l before (NewTreeOfDigests digests) = Takes before (digests_turn l.pair_hashes before digests)
TakesTurn l before (NewLeaf index leaf) =
    Takes before (on_tree before (λ digests. set_turn l.pair_hashes digests index leaf))
TakesTurn l before (NewLeaves changes) =
    Takes before (on_tree before (λ digests. set_many_turn l.pair_hashes digests changes))
TakesTurn l before ShowRoot = Takes before (in_tree before (λ digests. shown_root l.root_bytes
    (root l.pair_hashes digests)))
TakesTurn l before (ShowProof index) =
    Takes before (in_tree before (λ digests.
    proof_reply (l.path_bytes (own_path l.pair_hashes index digests)) digests index))
TakesTurn l before (ShowMultiProof indexes) =
    Takes before (in_tree before (λ digests.
    multi_reply (l.multi_path_bytes (own_multi_path l.pair_hashes indexes digests)) digests indexes))
TakesTurn l before (CheckPath path leaf) =
    Takes before (in_tree before (λ digests. finding_reply (about (found_by l.pair_hashes digests leaf)
    (l.path_reading path))))
TakesTurn l before (BindPath path leaf) =
    Takes before (in_tree before (λ digests. finding_reply (about (bound_by l.pair_hashes digests leaf)
    (l.path_reading path))))
TakesTurn l before (CheckMultiProof proof leaves) = Takes before (in_tree before (λ digests.
    finding_reply (about (found_by_multi Verdict l.pair_hashes digests leaves) (l.multi_path_reading proof))))
TakesTurn l before (CountMultiProof proof leaves) = λ after bytes.
    TellsCount l.pair_hashes (l.multi_path_reading proof) before leaves bytes × (after ≡ before)
TakesTurn l before (ReadStrictly proof) =
    Takes before (finding_reply (about count_of (strict_reading (l.multi_path_reading proof))), before)

-- the same where perhaps nothing is asked
abbrev pub TakesAny : Language → State → Option Request → State → List ℕ → Type 0
TakesAny l before None = Takes before (BadLine, before)
TakesAny l before (Some request) = TakesTurn l before request

-- The tree before a line, the line, the tree after it and the bytes of the reply.
abbrev pub LineStep : Language → State → List ℕ → State → List ℕ → Type 0
LineStep l before line after bytes = TakesAny l before (request_of l (tokens_of line)) after bytes
