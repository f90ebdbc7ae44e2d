-- What a call says of leaves that are given in turn from a list.
use Rattle.std.proofs.Common.{◌≡◌, List, [], ◌∷◌, ◌++◌, map, Option, None, refl, sym, ap, ◌∙◌, subst, append-nil, inl, inr}
use Rattle.std.specs.Iterator.{AlwaysYields}
use Rattle.std.proofs.iter.Yields.{gives_left}
use Rattle.std.proofs.lemmas.List.{map-append}
use Rattle.ark_base.specs.Outcome.{Outcome, Answers}
use Rattle.ark_paths.specs.Leaves.{AnswersOver}

module _ {S A X B C : Type 0} (steps : S → Option A → S → Type 0) (v : A → X) (hash : X → B) (outcome : List B
    → Outcome C) (result : Outcome C) (start : S) (xs : List X) where
  map-taken : (taken : List A) → map hash (map v taken) ≡ map (λ item. hash (v item)) taken
  map-taken [] = refl
  map-taken (item ∷ taken) = ap (λ (ys : List B). hash (v item) ∷ ys) (map-taken taken)

  among : (taken : List A) (more : List X) → xs ≡ map v taken ++ more → map (λ item. hash (v item)) taken ++ map hash
      more ≡ map hash xs
  among taken more is = ap (λ (ys : List B). ys ++ map hash more) (sym (map-taken taken))
      ∙ sym (map-append hash (map v taken) more) ∙ ap (map hash) (sym is)

  by_end : (taken : List A) (last behind : S) (more : List X) → xs ≡ map v taken ++ more → AlwaysYields steps v last
      more → steps last None behind
      → Answers (outcome (map (λ item. hash (v item)) taken)) result → Answers (outcome (map hash xs)) result
  by_end taken last behind [] is left none answer = subst (λ (ys : List B). Answers (outcome ys) result)
      (sym (append-nil (map (λ item. hash (v item)) taken)) ∙ among taken [] is) answer
  by_end taken last behind (x ∷ more) is left none answer = absurd (left.0 behind none)

  -- A call that is given the items of a list in turn answers what is said of them all.
  pub answers_over_list : AlwaysYields steps v start xs → (behind : S) × AnswersOver steps (λ item. hash (v item)) start
      behind outcome result → Answers (outcome (map hash xs)) result
  answers_over_list gives o = elim o.1.answered [
    | inl ended ↦ let left = gives_left steps v o.1.taken xs start ended.0 gives ended.1 in by_end o.1.taken ended.0 o.0
        left.0 left.1 left.2 ended.2 ended.3
    | inr any ↦ let left = gives_left steps v o.1.taken xs start o.0 gives any.0 in
        subst (λ (ys : List B). Answers (outcome ys) result) (among o.1.taken left.0 left.1) (any.1 (map hash left.0))
  ]
