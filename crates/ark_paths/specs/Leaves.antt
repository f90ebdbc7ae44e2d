-- What a call says of the leaves that an iterator gives.
use Rattle.std.specs.Prelude.{◌≡◌, ◌⊎◌, ℕ, ◌<◌, List, ◌++◌, length, map, take, Option, None, Some, Err}
use Rattle.std.specs.Iterator.{Yields}
use Rattle.ark_base.specs.declared.error.Error.{Error}
use Rattle.ark_base.specs.declared.error.Error.TheVariants.{IncorrectInputLength, OutOfMemory}
use Rattle.ark_base.specs.Outcome.{Outcome, Answers}
use Rattle.ark_paths.specs.Path.{Way}

-- The call answers what `outcome` says of the items that an iterator gives from one state on, each as view sees it, and
-- leaves the iterator in another state. Without an item that it took, the place of that item would be refused.
pub record AnswersOver {S A B C : Type 0} (steps : S → Option A → S → Type 0) (view : A → B) (start behind : S)
    (outcome : List B → Outcome C) (result : Outcome C) : Type 0 where
  -- the items that were taken
  pub taken : List A
  -- with those before one alone, its place would be refused: it has no item then, or its parts make no path
  pub needed : (n : ℕ) → n < length taken → outcome (take n (map view taken)) ≡ Err (IncorrectInputLength n)
  -- the answer is that of all items, where the iterator had no more; else that of these, whatever would follow
  pub answered :
      ((last : S) × Yields steps start taken last × steps last None behind × Answers (outcome (map view taken)) result)
      ⊎ (Yields steps start taken behind × ((more : List B) → Answers (outcome (map view taken ++ more)) result))

-- Why no item is taken for a place: the place has no path, whatever the index; or the iterator has no more; or
-- memory ran out behind the next item.
abbrev pub TakesNone : {S A : Type 0} → (S → Option A → S → Type 0) → S → S → (ℕ → Option Way) → ℕ → Error → Type 0
TakesNone {A = A} steps start behind path place error =
    (((index : ℕ) → path index ≡ None) × (behind ≡ start) × (error ≡ IncorrectInputLength place))
    ⊎ (steps start None behind × (error ≡ IncorrectInputLength place))
    ⊎ ((item : A) × steps start (Some item) behind × (error ≡ OutOfMemory))
