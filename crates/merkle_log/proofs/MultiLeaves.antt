-- What the verdicts on multi-proofs of leaves say.
use Rattle.std.proofs.Common.{◌≡◌, ℕ, ◌≤◌, Bool, true, false, ◌&&◌, ◌==◌, if◌then◌else◌, List, length, map, take, Ok, Err, refl, ap, sym, ◌∙◌}
use Rattle.std.proofs.lemmas.Bool.{eq-eqb, false≢true}
use Rattle.std.proofs.lemmas.List.{length-map, length-take-le}
use Rattle.ark_base.specs.declared.error.Error.{Error}
use Rattle.ark_base.specs.declared.error.Error.TheVariants.{SerializationError}
use Rattle.ark_base.specs.declared.error.SerializationError.TheVariants.{InvalidData}
use Rattle.ark_base.specs.Laws.Steps.{bind_ok, done}
use Rattle.ark_base.specs.Outcome.{Outcome, ◌>>=◌}
use Rattle.ark_base.specs.Reading.{Reading}
use Rattle.ark_paths.proofs.ListOutcomes.{length-each}
use Rattle.ark_paths.specs.Pair.{Digest, Hashes}
use Rattle.ark_paths.specs.Root.{all_hashes}
use Rattle.merkle_log.proofs.Accepted.{all_of-there}
use Rattle.merkle_log.proofs.MultiBound.{knows, multi-bound}
use Rattle.merkle_log.proofs.MultiOwn.{multi-own, own-form}
use Rattle.merkle_log.proofs.Verdicts.{refused}
use Rattle.merkle_log.specs.Edge.{all_of}
use Rattle.merkle_log.specs.Log.{NodeHash, merkle_tree_hash}
use Rattle.merkle_log.specs.Multi.{are_multi_indexes, digests_at, have_counts, leaves_verdict, multi_proof, known_verdict, received_leaves}
use Rattle.merkle_log.specs.MultiBind.{BindsLogLeaves, IsLeavesProof, ShowsLogLeaves}
use Rattle.merkle_log.specs.Received.{digests_in}

module _ {A : Type 0} (hashes : Hashes A) (root : Digest) (size : ℕ) (indexes : List ℕ) (leaves : List A)
    (proof : List Digest) where
  leaves-counted : have_counts size indexes (length leaves) (length proof) ≡ true
      → leaves_verdict hashes root size indexes leaves proof ≡ (all_hashes hashes.leaf leaves >>= λ digests.
      known_verdict hashes.pair.upper root size (knows indexes digests proof))
  leaves-counted form = rw (form) refl

  pub leaves-gives : {digests : List Digest} → have_counts size indexes (length leaves) (length proof) ≡ true
      → all_hashes hashes.leaf leaves ≡ Ok digests
      → leaves_verdict hashes root size indexes leaves proof
      ≡ known_verdict hashes.pair.upper root size (knows indexes digests proof)
  leaves-gives form is = leaves-counted form ∙ rw (is) refl

  pub leaves-refused : {error : Error} → have_counts size indexes (length leaves) (length proof) ≡ true
      → all_hashes hashes.leaf leaves ≡ Err error → leaves_verdict hashes root size indexes leaves proof ≡ Err error
  leaves-refused form is = leaves-counted form ∙ rw (is) refl

  pub leaves-uncounted : have_counts size indexes (length leaves) (length proof) ≡ false
      → leaves_verdict hashes root size indexes leaves proof ≡ Ok false
  leaves-uncounted none = rw (none) refl

  pub leaves-bound : leaves_verdict hashes root size indexes leaves proof ≡ Ok true
      → BindsLogLeaves hashes root size indexes leaves proof
  leaves-bound = by_form (have_counts size indexes (length leaves) (length proof))
    where
      by_form : (b : Bool) → (if b then (all_hashes hashes.leaf leaves >>= λ digests. known_verdict hashes.pair.upper
          root size (knows indexes digests proof)) else (Ok false)) ≡ Ok true
          → BindsLogLeaves hashes root size indexes leaves proof
      by_form false is = absurd (false≢true (refused false is))
      by_form true is =
          let hashed = bind_ok (all_hashes hashes.leaf leaves) (λ digests. known_verdict hashes.pair.upper root size
          (knows indexes digests proof)) true is in
          (hashed.0, hashed.1, multi-bound hashes.pair.upper root size (knows indexes hashed.0 proof) hashed.2)

  pub leaves-own : IsLeavesProof hashes root size indexes leaves proof
      → leaves_verdict hashes root size indexes leaves proof ≡ Ok true
  leaves-own own =
      let form = own-form hashes.pair.upper root size (knows indexes own.0 proof) own.2 in
      let same = ap (λ n. have_counts size indexes n (length proof)) (length-each hashes.leaf leaves own.0 own.1) in
      leaves-counted (sym same ∙ form)
      ∙ ap (λ o. o >>= λ digests. known_verdict hashes.pair.upper root size (knows indexes digests proof)) own.1
      ∙ multi-own hashes.pair.upper root size (knows indexes own.0 proof) own.2

-- the counts of a proof as the code has it
pub counts-seen : {D : Type 0} (numbers : D → Digest) (size : ℕ) (indexes : List ℕ) (leaves : ℕ) (proof : List D) {b c
    : Bool}
    → b ≡ have_counts size indexes leaves (length proof) → b ≡ c
    → have_counts size indexes leaves (length (map numbers proof)) ≡ c
counts-seen numbers size indexes leaves proof is told =
    ap (have_counts size indexes leaves) (length-map proof numbers) ∙ sym is ∙ told

-- An outcome is no verdict and refused.
pub not-refused : {P : Type 0} {outcome : Outcome Bool} {error : Error} → outcome ≡ Ok true → outcome ≡ Err error → P
not-refused is refused = absurd (value-refused (sym is ∙ refused))
  where
    value-refused : {error : Error} → done {E = Error} true ≡ Err error → ⊥
    value-refused e = cc

-- ---- proofs that are read

module _ {A : Type 0} (hashes : Hashes A) (root : Digest) (size : ℕ) (indexes : List ℕ) (leaves : List A)
    (proof : Outcome (List Digest)) where
  pub received-counted : are_multi_indexes size indexes ≡ true → length leaves ≡ length indexes
      → received_leaves hashes root size indexes leaves proof
      ≡ (proof >>= leaves_verdict hashes root size indexes leaves)
  received-counted form many = rw (form, eq-eqb (length leaves) (length indexes) many) refl

  pub received-leaves : received_leaves hashes root size indexes leaves proof ≡ Ok true
      → ShowsLogLeaves hashes root size indexes leaves proof
  received-leaves = by_form (are_multi_indexes size indexes && (length leaves == length indexes))
    where
      by_form : (b : Bool) → (if b then (proof >>= leaves_verdict hashes root size indexes leaves) else
          (Err (SerializationError InvalidData))) ≡ Ok true → ShowsLogLeaves hashes root size indexes leaves proof
      by_form false is = absurd cc
      by_form true is =
          let read = bind_ok proof (leaves_verdict hashes root size indexes leaves) true is in
          (read.0, read.1, leaves-bound hashes root size indexes leaves read.0 read.2)

-- the verdict on what was read, under a count by another name
pub leaves-read : {V A : Type 0} (reads : List ℕ → Reading V) (digest : V → Digest) (bytes : List ℕ) {count real : ℕ}
    {proof : Outcome (List Digest)} → count ≡ real → digests_in reads digest count bytes ≡ proof → (hashes : Hashes A)
    (root : Digest) (size : ℕ) (indexes : List ℕ) (leaves : List A) → are_multi_indexes size indexes ≡ true
    → length leaves ≡ length indexes
    → received_leaves hashes root size indexes leaves (digests_in reads digest real bytes)
    ≡ (proof >>= leaves_verdict hashes root size indexes leaves)
leaves-read reads digest bytes same read hashes root size indexes leaves form many =
    received-counted hashes root size indexes leaves _ form many
    ∙ ap (λ o. o >>= leaves_verdict hashes root size indexes leaves)
    (ap (λ n. digests_in reads digest n bytes) (sym same) ∙ read)

-- ---- a log's own proof

pub multi-accepted : (hash : NodeHash) (empty : Digest) (digests : List Digest) (size : ℕ) (indexes : List ℕ)
    (proof : List Digest) (root : Digest) → are_multi_indexes size indexes ≡ true → size ≤ length digests
    → all_of (multi_proof hash empty indexes (take size digests)) ≡ Ok proof
    → merkle_tree_hash hash empty (take size digests) ≡ Ok root
    → known_verdict hash root size (knows indexes (digests_at (take size digests) indexes) proof) ≡ Ok true
multi-accepted hash empty digests size indexes proof root form within is tree =
    multi-own hash root size (knows indexes (digests_at (take size digests) indexes) proof) (record {
      empty = empty;
      digests = take size digests;
      size_is = length-take-le size digests within;
      form = form;
      root_is = tree;
      leaves_are = refl;
      proof_is = all_of-there (multi_proof hash empty indexes (take size digests)) proof is;
    })
