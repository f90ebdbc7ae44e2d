-- What was read is of another log than that of a head.
use Rattle.std.proofs.Common.{◌≡◌, ℕ, List, [], length, take, Result, Ok, Err, refl, inr, ap, sym, subst, ◌∙◌, arith}
use Rattle.std.specs.Prelude.{IfErr, IsErr}
use Rattle.std.proofs.lemmas.List.{take_all}
use Rattle.sha2.specs.Sha256.{sha256}
use Rattle.ark_base.specs.Laws.Steps.{done_injective}
use Rattle.ark_base.specs.declared.error.Error.{Error}
use Rattle.ark_paths.specs.Pair.{Digest}
use Rattle.ark_trees.specs.Rfc6962.{node_of}
use Rattle.merkle_log.specs.Log.{merkle_tree_hash}
use Rattle.log_file.specs.LogFile.{IsLogFile}
use Rattle.log_file.specs.declared.fault.Fault.TheVariants.{Damaged}
use Rattle.log_store.specs.Refused.{IsNotOf}
use Rattle.log_store.specs.declared.stop.Stop.TheVariants.{Fault}
use Rattle.log_tiles.specs.Following.{IsUncontinued, IsUnproved}
use Rattle.log_tiles.specs.declared.following.Head.{Head}
use Rattle.log_tiles.specs.declared.unfollowed.Unfollowed.{Unfollowed}
use Rattle.log_tiles.specs.declared.unfollowed.Unfollowed.TheVariants.{Stopped}

-- A size and a root are those of the log of a file.
abbrev pub AreOwn : List ℕ → ℕ → Digest → Type 0
AreOwn file size root = (leaves : List Digest) → IsLogFile leaves file → (size ≡ length leaves)
    × (merkle_tree_hash node_of (sha256 []) (take size leaves) ≡ Ok root)

-- The file of a log is not that of a head with another size or root.
pub not-of : (file : List ℕ) (head : Head) (size : ℕ) (root : Digest) → AreOwn file size root
    → ((head.size ≡ size) × (head.root ≡ root) → ⊥) → IsNotOf file head.size head.root
not-of file head size root own other leaves log count top =
    let known = own leaves log in
    let all = ap (merkle_tree_hash node_of (sha256 [])) (take_all size leaves (omega (arith, known.0))) in
    other (sym count ∙ sym known.0, done_injective {E = Error} _ _ (sym top ∙ sym all ∙ known.1))

pub uncontinued : {R : Type 0} (file : List ℕ) (old new : Head) (why : Unfollowed R) → why ≡ Stopped (Fault Damaged)
    → IsNotOf file new.size new.root → IsUncontinued file old new why
uncontinued file old new why is other = subst (IsUncontinued file old new) (sym is) (inr (inr (refl, other)))

pub unproved : {R : Type 0} (file : List ℕ) (head : Head) (index : ℕ) (why : Unfollowed R)
    → why ≡ Stopped (Fault Damaged) → IsNotOf file head.size head.root → IsUnproved file head index why
unproved file head index why is other = subst (IsUnproved file head index) (sym is) (inr (refl, other))

-- where the two are compared last
pub if-uncontinued : {A R : Type 0} (file : List ℕ) (old new : Head) (size : ℕ) (root : Digest)
    (result : Result A (Unfollowed R)) → AreOwn file size root
    → IfErr result (λ why. why ≡ Stopped (Fault Damaged))
    → (IsErr result → (new.size ≡ size) × (new.root ≡ root) → ⊥) → IfErr result (IsUncontinued file old new)
if-uncontinued file old new size root (Ok value) own is other = tt
if-uncontinued file old new size root (Err why) own is other =
    uncontinued file old new why is (not-of file new size root own (other refl))
