-- What is read of a proof's bytes.
use Rattle.std.proofs.Common.{◌≡◌, ℕ, ◌<◌, ◌≤◌, ◌==◌, ◌||◌, true, false, nat_lt, Bool, if◌then◌else◌, List, [], ◌∷◌, length, map, drop, Ok, Err, arith, refl, ap, sym, ◌∙◌, inl, inr}
use Rattle.std.proofs.lemmas.Bool.{cases_lt, lt-ltb, le-ltb, ne_eqb}
use Rattle.std.proofs.lemmas.List.{length-drop, drop_all}
use Rattle.ark_base.specs.declared.error.Error.{Error}
use Rattle.ark_base.specs.declared.error.Error.TheVariants.{SerializationError}
use Rattle.ark_base.specs.declared.error.SerializationError.TheVariants.{InvalidData}
use Rattle.ark_base.specs.Outcome.{Outcome, ◌>>=◌}
use Rattle.ark_base.specs.Reading.{Reading}
use Rattle.ark_base.specs.Laws.Steps.{bind_ok}
use Rattle.ark_paths.specs.Pair.{Digest, Hashes}
use Rattle.merkle_log.specs.Log.{NodeHash}
use Rattle.merkle_log.specs.Verdict.{leaf_verdict, consistency_verdict}
use Rattle.merkle_log.specs.Received.{whole_read, digests_in, received_inclusion, received_consistency, ShowsLogLeaf, ShowsFront}
use Rattle.merkle_log.proofs.Verdicts.{leaf-bound, consistency-bound, consistency-root}

-- bytes are left
pub whole-more : {V : Type 0} (digest : V → Digest) (outcome : Outcome (List V × List ℕ)) (values : List V)
    (bytes : List ℕ) (used : ℕ) → outcome ≡ Ok (values, drop used bytes) → used < length bytes
    → (outcome >>= whole_read digest) ≡ Err (SerializationError InvalidData)
whole-more {V} digest outcome values bytes used is less =
    ap (λ o. o >>= whole_read digest) is ∙ by_rest (drop used bytes) (omega (arith, length-drop used bytes))
  where
    by_rest : (rest : List ℕ) → 0 < length rest → whole_read digest (values, rest)
        ≡ Err (SerializationError InvalidData)
    by_rest [] some = absurd (omega arith)
    by_rest (byte ∷ rest) some = refl

-- no byte is left
pub whole-all : {V : Type 0} (digest : V → Digest) (outcome : Outcome (List V × List ℕ)) (values : List V)
    (bytes : List ℕ) (used : ℕ) → outcome ≡ Ok (values, drop used bytes) → length bytes ≤ used
    → (outcome >>= whole_read digest) ≡ Ok (map digest values)
whole-all {V} digest outcome values bytes used is all =
    ap (λ o. o >>= whole_read digest) is ∙ ap (λ rest. whole_read digest (values, rest)) (drop_all used bytes all)

-- digests by what their bytes spell
pub numbers-read : {A V : Type 0} (numbers : A → Digest) (view : A → V) (digest : V → Digest) → ((a : A) → numbers a
    ≡ digest (view a)) → (items : List A) → map digest (map view items) ≡ map numbers items
numbers-read numbers view digest same [] = refl
numbers-read numbers view digest same (a ∷ items) =
    ap (λ d. d ∷ map digest (map view items)) (sym (same a)) ∙ ap (λ l. numbers a ∷ l) (numbers-read numbers view digest
    same items)

-- a refusal is no verdict
refused : (error : Error) (o : Outcome Bool) → o ≡ Err error → o ≡ Ok true → ⊥
refused error o e f = let g = sym e ∙ f in absurd cc

module _ {A : Type 0} (hashes : Hashes A) (root : Digest) (size index : ℕ) (leaf : A)
    (path : Outcome (List Digest)) where
  pub received-inside : index < size → received_inclusion hashes root size index leaf path
      ≡ (path >>= leaf_verdict hashes root size index leaf)
  received-inside inside = rw (lt-ltb index size inside) refl

  pub received-outside : size ≤ index → received_inclusion hashes root size index leaf path
      ≡ Err (SerializationError InvalidData)
  received-outside outside = rw (le-ltb index size outside) refl

  pub received-leaf : received_inclusion hashes root size index leaf path ≡ Ok true → ShowsLogLeaf hashes root size
      index leaf path
  received-leaf is = elim (cases_lt index size) [
    | inl inside ↦
        let read = bind_ok path (leaf_verdict hashes root size index leaf) true (sym (received-inside inside) ∙ is) in
        (read.0, read.1, leaf-bound hashes root size index leaf read.0 read.2)
    | inr outside ↦ absurd (refused _ _ (received-outside outside) is)
  ]

module _ (hash : NodeHash) (old_size : ℕ) (old : Digest) (size : ℕ) (new : Digest) (path : Outcome (List Digest)) where
  pub received-sizes : 0 < old_size → old_size ≤ size → received_consistency hash old_size old size new path
      ≡ (path >>= consistency_verdict hash old_size old size new)
  received-sizes some le = rw (ne_eqb old_size 0 (λ none. omega arith), le-ltb size old_size le) refl

  pub received-front : received_consistency hash old_size old size new path ≡ Ok true → ShowsFront hash old_size old
      size new path
  received-front is = by_test (old_size == 0 || nat_lt size old_size) is
    where
      by_test : (b : Bool) → (if b then (Err (SerializationError InvalidData)) else (path >>= consistency_verdict hash
          old_size old size new)) ≡ Ok true → ShowsFront hash old_size old size new path
      by_test true is = absurd (refused _ _ refl is)
      by_test false is =
          let read = bind_ok path (consistency_verdict hash old_size old size new) true is in (
            read.0,
            read.1,
            consistency-bound hash old_size old size new read.0 read.2,
            consistency-root hash old_size old size new read.0 read.2,
          )

-- ---- the verdict on what was read, under a count by another name

module _ {V : Type 0} (reads : List ℕ → Reading V) (digest : V → Digest) (bytes : List ℕ) {count real : ℕ}
    {path : Outcome (List Digest)} (same : count ≡ real) (read : digests_in reads digest count bytes ≡ path) where
  read_is : digests_in reads digest real bytes ≡ path
  read_is = ap (λ n. digests_in reads digest n bytes) (sym same) ∙ read

  pub inclusion-read : {A : Type 0} (hashes : Hashes A) (root : Digest) (size index : ℕ) (leaf : A) → index < size
      → received_inclusion hashes root size index leaf (digests_in reads digest real bytes)
      ≡ (path >>= leaf_verdict hashes root size index leaf)
  inclusion-read hashes root size index leaf inside =
      received-inside hashes root size index leaf _ inside ∙ ap (λ o. o >>= leaf_verdict hashes root size index leaf)
      read_is

  pub consistency-read : (hash : NodeHash) (old_size : ℕ) (old : Digest) (size : ℕ) (new : Digest) → 0 < old_size
      → old_size ≤ size → received_consistency hash old_size old size new (digests_in reads digest real bytes)
      ≡ (path >>= consistency_verdict hash old_size old size new)
  consistency-read hash old_size old size new some le =
      received-sizes hash old_size old size new _ some le ∙ ap (λ o. o >>= consistency_verdict hash old_size old size
      new) read_is
