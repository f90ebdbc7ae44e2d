-- How many pairs are told of a check of a multi-proof.
use Rattle.std.proofs.Common.{◌≡◌, ℕ, ◌≤◌, List, [], ◌∷◌, ◌++◌, length, map, take, Bool, true, false, Option, Some, Ok, Err, refl, sym, ap, ◌∙◌, inl, inr, arith, zero-add}
use Rattle.std.specs.Iterator.{AlwaysYields}
use Rattle.std.specs.Prelude.{IsOk}
use Rattle.std.specs.Option.{option_map}
use Rattle.std.proofs.iter.Yields.{gives_left}
use Rattle.std.proofs.Math.Nat.{min-eq_left}
use Rattle.std.proofs.Math.Seq.{take-append_seam}
use Rattle.std.proofs.lemmas.List.{take-map, length-map}
use Rattle.ark_base.specs.Outcome.{Outcome, Answers}
use Rattle.ark_base.specs.Reading.{Reading}
use Rattle.ark_paths.specs.MultiPath.{MultiWay, multi_verdict}
use Rattle.ark_paths.specs.Pair.{Digest, HashPair}
use Rattle.ark_paths.specs.Root.{root}
use Rattle.ark_paths.specs.Asked.{CountsOwn, most_asked}
use Rattle.acp_run.specs.declared.session.replies.Finding.{Finding}
use Rattle.acp_run.specs.declared.session.replies.Finding.TheVariants.{Counted}
use Rattle.acp_run.specs.Replies.{Refused, finding_reply, pairs_of, text, verdict_with}
use Rattle.acp_run.specs.Steps.{MayHash, MayCount, TellsCount, about, alone_of, found_by_multi}

-- ---- leaves that are given in turn from a list

module _ {S A X : Type 0} (steps : S → Option A → S → Type 0) (v : A → X) (hash : X → Outcome Digest) (start : S)
    (xs : List X) (gives : AlwaysYields steps v start xs)
    (h : HashPair) (r : Digest) (m : MultiWay) where
  map-taken : (taken : List A) → map hash (map v taken) ≡ map (λ item. hash (v item)) taken
  map-taken [] = refl
  map-taken (item ∷ taken) = ap (λ (ys : List (Outcome Digest)). hash (v item) ∷ ys) (map-taken taken)

  -- the first leaves of the list are those that were taken
  first_taken : (taken : List A) (more : List X) → xs ≡ map v taken ++ more → length taken ≡ length m.indexes
      → take (length m.indexes) (map hash xs) ≡ map (λ item. hash (v item)) taken
  first_taken taken more is each =
      take-map hash (length m.indexes) xs ∙ ap (λ (ys : List X). map hash ys) (rw (is, ← each, ← length-map taken v)
      (take-append_seam (map v taken) more)) ∙ map-taken taken

  -- what a check counted that was given the leaves of a list
  pub may_hash : (holds : Bool) (pairs : ℕ) → multi_verdict h (map hash xs) m r ≡ Ok holds
      → pairs ≤ 18446744073709551615 → pairs ≤ most_asked m → (holds ≡ true → CountsOwn steps (λ item. hash (v item))
      start h r m 0 pairs) → MayHash h r (map hash xs) m pairs
  may_hash holds pairs said fits most counts = record {
    most = most;
    exact = λ accepted digests own.
        let told : holds ≡ true = cc in
        let c = counts told in
        let left = gives_left steps v c.taken xs start c.behind gives c.gave in
        let same = first_taken c.taken left.0 left.1 c.each in
        sym (min-eq_left fits) ∙ rw zero-add at (c.exact digests (rw (← same) own));
  }

-- what a check under the tree's root counted of the multi-proof that was read
pub may_count : {X : Type 0} (view : X → MultiWay) (o : Option X) (x : X) (reading : Reading MultiWay)
    → alone_of reading ≡ Ok (option_map view o) → o ≡ Some x
    → (h k : HashPair) → h ≡ k → (digests : List Digest) (r : Digest) → root h digests ≡ Ok r
    → (leaves : List (Outcome Digest)) (pairs : ℕ) → MayHash k r leaves (view x) pairs → MayCount k digests leaves
    reading pairs
may_count view o x reading found is h k same digests r rooted leaves pairs hashed = λ s rooted_s m found_m.
    let one : ◌≡◌ {A = Outcome Digest} (Ok r) (Ok s) = sym rooted ∙ rw same rooted_s in
    let read : ◌≡◌ {A = Outcome (Option MultiWay)} (Ok (Some (view x))) (Ok (Some m)) = rw (found, is) at found_m in
    let root_is : r ≡ s = cc in
    let proof_is : view x ≡ m = cc in
    rw (← root_is, ← proof_is) hashed

-- ---- the reply

-- what is counted of a multi-proof that is not checked
may_count-none : (h : HashPair) (digests : List Digest) (leaves : List (Outcome Digest))
    (reading : Reading MultiWay)
    (told : Bool → Finding) (pairs : ℕ) → pairs ≡ 0
    → ((holds : Bool) → about (found_by_multi told h digests leaves) reading ≡ Ok (told holds) → ⊥)
    → MayCount h digests leaves reading pairs
may_count-none h digests leaves reading told pairs none not_so = λ r rooted m alone. record {
  most = rw none (omega arith);
  exact = λ accepted. absurd (not_so true (rw (alone, rooted, accepted) refl));
}

-- a verdict has the number of pairs that is told of it
pub verdict_with-pairs : (with_pairs : Bool) (pairs : ℕ) (holds : Bool)
    → verdict_with with_pairs (pairs_of (Ok (verdict_with with_pairs pairs holds))) holds
    ≡ verdict_with with_pairs pairs holds
verdict_with-pairs true pairs holds = refl
verdict_with-pairs false pairs holds = refl

-- what a call found is told, or that memory lacks
pub tells_count : (h : HashPair) (digests : List Digest) (reading : Reading MultiWay) (leaves : List (Outcome Digest))
    (result : Outcome Finding) (bytes : List ℕ)
    → Answers (about (found_by_multi (λ holds. Counted holds (pairs_of result)) h digests leaves) reading) result
    → (IsOk result → MayCount h digests leaves reading (pairs_of result))
    → bytes ≡ text (finding_reply result) → TellsCount h reading (Some digests) leaves bytes
tells_count h digests reading leaves (Ok f) bytes answer may told =
    inl (pairs_of (Ok f), may refl, told ∙ ap (λ o. text (finding_reply o)) (sym answer))
tells_count h digests reading leaves (Err e) bytes (inl memory) may told =
    inr (told ∙ ap (λ e. text (Refused e)) memory)
tells_count h digests reading leaves (Err e) bytes (inr refused) may told = inl (
  0,
  may_count-none h digests leaves reading (λ holds. Counted holds 0) 0 refl (λ holds accepted. absurd cc),
  told ∙ ap (λ o. text (finding_reply o)) (sym refused),
)
