-- The replies to lines.
use Rattle.std.specs.Prelude.{ℕ, ◌+◌, ◌≡◌, ◌⊎◌, List, ◌++◌, Bool, true, false, Ok, Err, codes}
use Rattle.std.specs.Fmt.{decimal}
use Rattle.hex.specs.Hex.{encode_lower}
use Rattle.ark_base.specs.declared.error.Error.{Error}
use Rattle.ark_base.specs.declared.error.Error.TheVariants.{IncorrectInputLength, NotPrimeOrder, GenericError, SerializationError as OfBytes, OutOfMemory}
use Rattle.ark_base.specs.Outcome.{Outcome}
use Rattle.ark_base.specs.Texts.{fault_text, refusal_text}
use Rattle.ark_paths.specs.Index.{log2}
use Rattle.ark_merkle.specs.declared.tree.bind.Binding.{Binding}
use Rattle.ark_merkle.specs.declared.tree.bind.Binding.TheVariants.{Rejected, Stands, Differs}
use Rattle.acp_run.specs.declared.session.replies.Finding.{Finding}
use Rattle.acp_run.specs.declared.session.replies.Finding.TheVariants.{Trailing, Verdict, Counted, Bound, Strict}

-- the replies; `Found` is what bytes say that spell a path or a multi-proof
pub data Reply : Type 0 where
  BadLine : Reply
  NoTree : Reply
  NotLeaves : Reply
  NoIndex : Reply
  Refused : (error : Error) → Reply
  Built : (size : ℕ) → Reply
  Changed : Reply
  Root : (bytes : List ℕ) → Reply
  Proof : (bytes : List ℕ) → Reply
  MultiProof : (bytes : List ℕ) → Reply
  Found : (finding : Finding) → Reply

-- a finding, or its refusal
abbrev pub finding_reply : Outcome Finding → Reply
finding_reply (Ok finding) = Found finding
finding_reply (Err error) = Refused error

-- why a call was refused, in a word
abbrev pub why : Error → List ℕ
why (IncorrectInputLength n) = codes "length " ++ decimal n
why NotPrimeOrder = codes "order"
why (GenericError refusal) = refusal_text refusal
why (OfBytes fault) = fault_text fault
why OutOfMemory = codes "memory"

abbrev pub truth : Bool → List ℕ
truth true = codes "true"
truth false = codes "false"

abbrev pub binding_text : Binding → List ℕ
binding_text Rejected = codes "rejected"
binding_text Stands = codes "stands"
binding_text (Differs level) = codes "differs " ++ decimal level

-- bytes are left behind what was read; whether a check holds, also with its number of pairs; what a path says of a
-- leaf; the number of indexes of a strict multi-proof
abbrev pub finding_text : Finding → List ℕ
finding_text Trailing = codes "refused trailing"
finding_text (Verdict holds) = truth holds
finding_text (Counted holds pairs) = truth holds ++ (codes " " ++ decimal pairs)
finding_text (Bound binding) = binding_text binding
finding_text (Strict indexes) = codes "strict " ++ decimal indexes

-- the bytes of a reply, without the line feed
abbrev pub text : Reply → List ℕ
text BadLine = codes "bad line"
text NoTree = codes "refused tree"
text NotLeaves = codes "refused leaves"
text NoIndex = codes "refused index"
text (Refused error) = codes "refused " ++ why error
text (Built size) = codes "tree " ++ (decimal size ++ (codes " height " ++ decimal (log2 size + 1)))
text Changed = codes "ok"
text (Root bytes) = codes "root " ++ encode_lower bytes
text (Proof bytes) = codes "path " ++ encode_lower bytes
text (MultiProof bytes) = codes "multi " ++ encode_lower bytes
text (Found finding) = finding_text finding

-- A lack of memory may be told in place of this reply. It never does where the reply is decided before anything is
-- asked for.
abbrev pub MayLackMemory : Reply → Type 0
MayLackMemory BadLine = ⊥
MayLackMemory NoTree = ⊥
MayLackMemory NotLeaves = ⊥
MayLackMemory NoIndex = ⊥
MayLackMemory (Root bytes) = ⊥
MayLackMemory _ = Unit {0}

-- The bytes are those of the reply, or say in its place that memory lacks.
abbrev pub Tells : Reply → List ℕ → Type 0
Tells reply bytes = (bytes ≡ text reply) ⊎ ((bytes ≡ text (Refused OutOfMemory)) × MayLackMemory reply)

-- a verdict, with its number of pairs where that is asked for
abbrev pub verdict_with : Bool → ℕ → Bool → Finding
verdict_with true pairs holds = Counted holds pairs
verdict_with false pairs holds = Verdict holds

-- the number of pairs that is told
abbrev pub pairs_of : Outcome Finding → ℕ
pairs_of (Ok (Counted holds pairs)) = pairs
pairs_of _ = 0
