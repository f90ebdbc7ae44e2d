-- Tables of parameters, and of others that are the same.
use Rattle.std.proofs.Common.{◌≡◌, ℕ, ◌+◌, ◌/◌, List, map, slice_range, sym, subst, Option, Some, None, true, false}
use Rattle.std.specs.Option.{IfSome, IsSome}
use Rattle.ark_groups.specs.Field.{IsField}
use Rattle.ark_sponge.specs.Permutation.{Parameters}
use Rattle.ark_sponge.specs.Recurrence.{ShortRounds, AreRounds}
use Rattle.ark_sponge.proofs.Rows.{slice_range-map}

none_is_some : {P : Type 0} → false ≡ true → P
none_is_some e = absurd cc

-- what holds of a value holds of its copy
pub of_copy : {X : Type 0} (P : X → Type 0) (r s : Option X)
    → IfSome r (λ copy. IfSome s (λ found. copy ≡ found) × IsSome s) → IfSome s P → IfSome r P
of_copy P None s is held = tt
of_copy P (Some copy) None is held = none_is_some is.1
of_copy P (Some copy) (Some found) is held = subst P (sym is.0) held

-- the rounds of parameters, as those of the same parameters
module _ {F Row : Type 0} (value : F → ℕ) (g : Row → List ℕ) (c d : Parameters) (mds ark mds' ark' : List Row)
    (same : c ≡ d) (is_mds : map g mds ≡ c.mds) (is_ark : map g ark ≡ c.ark) (is_mds' : map g mds' ≡ d.mds)
    (is_ark' : map g ark' ≡ d.ark) where
  pub rounds_alike : (r : ShortRounds) → ((p : ℕ) → IsField p value → AreRounds p (map g mds')
      (map g (slice_range ark' (d.full_rounds / 2) (d.full_rounds / 2 + d.partial_rounds))) r) → (p : ℕ)
      → IsField p value → AreRounds p (map g mds)
      (map g (slice_range ark (c.full_rounds / 2) (c.full_rounds / 2 + c.partial_rounds))) r
  rounds_alike r held p field =
      let rounds : Parameters → Type 0 = λ x. AreRounds p x.mds
      (slice_range x.ark (x.full_rounds / 2) (x.full_rounds / 2 + x.partial_rounds)) r in
      let start = d.full_rounds / 2 in
      let end = d.full_rounds / 2 + d.partial_rounds in
      let there : rounds d =
      subst (λ m. AreRounds p m (slice_range d.ark start end) r) is_mds'
      (subst (λ a. AreRounds p (map g mds') (slice_range a start end) r) is_ark'
      (subst (λ t. AreRounds p (map g mds') t r) (slice_range-map g ark' start end) (held p field))) in
      let here : rounds c = subst rounds (sym same) there in
      subst (λ t. AreRounds p (map g mds) t r)
      (sym (slice_range-map g ark (c.full_rounds / 2) (c.full_rounds / 2 + c.partial_rounds)))
      (subst (λ a. AreRounds p (map g mds) (slice_range a (c.full_rounds / 2) (c.full_rounds / 2 + c.partial_rounds)) r)
      (sym is_ark) (subst (λ m. AreRounds p m
      (slice_range c.ark (c.full_rounds / 2) (c.full_rounds / 2 + c.partial_rounds)) r) (sym is_mds) here))
