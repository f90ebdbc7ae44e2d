-- Of two heads of one log, that with fewer entries is before the other.
use Rattle.std.proofs.Common.{zero, suc, ◌≡◌, ◌⊎◌, ◌≤◌, ◌&&◌, ℕ, Bool, true, false, List, [], ◌∷◌, Contains, refl, inl, inr, ap₂, subst, ◌∙◌, arith}
use Rattle.std.proofs.lemmas.Bool.{eq-eqb, le-ltb, ne_eqb}
use Rattle.std.proofs.lemmas.Slice.Eq.{bytes_eq-Decides}
use Rattle.ark_base.specs.Laws.Steps.{done_injective}
use Rattle.ark_base.specs.declared.error.Error.{Error}
use Rattle.ark_paths.specs.Pair.{Digest, digest_eq}
use Rattle.merkle_log.specs.Verdict.{is_empty}
use Rattle.log_tiles.specs.Histories.{AreOfOneLog}
use Rattle.log_tiles.specs.Ways.{IsAcceptedFrom, IsBefore, LeadsBy, Stage}
use Rattle.log_tiles.specs.declared.following.Head.{Head}
use Rattle.log_tiles.proofs.Followed.{any-two, itself}
use Rattle.log_tiles.proofs.Fronts.{accepted-grows, way-grows}

second-true : (a b : Bool) → (a && b) ≡ true → b ≡ true
second-true true b e = e
second-true false b e = absurd cc

-- An accepted proof between two heads of as many entries leads to the same one.
same-accepted : (old new : Head) (path : List Digest) → IsAcceptedFrom old new path → (old.size ≡ 0 → ⊥)
    → old.size ≡ new.size → old ≡ new
same-accepted old new path is some same =
    let tested = done_injective {E = Error} (is_empty path && digest_eq old.root new.root) true
    (rw (ne_eqb old.size 0 some, le-ltb new.size old.size (omega arith), eq-eqb old.size new.size same) at is) in
    let roots : old.root ≡ new.root = (bytes_eq-Decides old.root new.root).0 (second-true (is_empty path) _ tested) in
    ap₂ (λ (n : ℕ) (r : Digest). record { size = n; root = r }) same roots

same-way : (old new : Head) (way : List Stage) → LeadsBy old new way → (old.size ≡ 0 → ⊥) → old.size ≡ new.size
    → old ≡ new
same-way old new [] is some same = is
same-way old new (stage ∷ earlier) is some same =
    let a = accepted-grows stage.from new stage.path is.0 in
    let b = way-grows old stage.from earlier is.1 in
    same-way old stage.from earlier is.1 some (omega arith)
    ∙ same-accepted stage.from new stage.path is.0 (λ none. some (omega arith)) (omega arith)

turned : (a b : Head) → IsBefore b a → a.size ≤ b.size → IsBefore a b
turned a b (inl none) less = inl (omega arith)
turned a b (inr before) less =
    let le = way-grows b a before.0 before.1 in
    elim (cases_zero a.size) [
      | inl none ↦ inl none
      | inr some ↦
          let same = same-way b a before.0 before.1 (λ none. some (omega arith)) (omega arith) in
          subst (λ head. IsBefore head b) same (itself b)
    ]
  where
    cases_zero : (n : ℕ) → (n ≡ 0) ⊎ (n ≡ 0 → ⊥)
    cases_zero zero = inl refl
    cases_zero (suc n) = inr (λ none. omega arith)

pub smaller-first : (heads : List Head) (a b : Head) → AreOfOneLog heads → Contains heads a → Contains heads b
    → a.size ≤ b.size → IsBefore a b
smaller-first heads a b are one two less = elim (any-two heads a b are one two) [
  | inl before ↦ before
  | inr after ↦ turned a b after less
]
