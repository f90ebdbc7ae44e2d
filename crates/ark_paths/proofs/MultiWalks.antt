-- The way through a multi-proof, place by place, with the leaves that an iterator gives.
use Rattle.std.proofs.Common.{◌≡◌, ◌⊎◌, ℕ, suc, ◌+◌, ◌<◌, ◌≤◌, List, [], ◌∷◌, ◌++◌, length, map, take, drop, get_or, Bool, true, false, if◌then◌else◌, Option, Some, None, Ok, Err, inl, inr, refl, ap, sym, ◌∙◌, subst, arith, add-one, append_assoc, append-nil, length-append}
use Rattle.std.specs.Iterator.{Yields}
use Rattle.std.specs.Result.{IsErrAnd}
use Rattle.std.proofs.lemmas.Bool.{cases_lt, ne_eqb}
use Rattle.std.proofs.lemmas.List.{map-append, length-map, take-append-le, take_all, drop_more, drop_all}
use Rattle.std.proofs.lemmas.Result.{err_from_is_err_and}
use Rattle.ark_base.specs.declared.error.Error.{Error}
use Rattle.ark_base.specs.declared.error.Error.TheVariants.{IncorrectInputLength, OutOfMemory}
use Rattle.ark_base.specs.Outcome.{Outcome, Answers, ◌>>=◌}
use Rattle.ark_base.proofs.Refusals.{passed_on}
use Rattle.ark_paths.specs.Leaves.{AnswersOver, TakesNone}
use Rattle.ark_paths.specs.MultiPath.{MultiWay, decoded_path, decoded_paths_from, multi_verdict_from, multi_verdict}
use Rattle.ark_paths.specs.Pair.{Digest, HashPair}
use Rattle.ark_paths.specs.Path.{Way, verdict}

pub Yields-more : {S A : Type 0} (steps : S → Option A → S → Type 0) (s t u : S) (xs : List A) (x : A) → Yields steps s
    xs t → steps t (Some x) u → Yields steps s (xs ++ x ∷ []) u
Yields-more {S = S} steps s t u [] x y n = (u, subst (λ (q : S). steps q (Some x) u) (sym y) n, refl)
Yields-more steps s t u (z ∷ xs) x y n = (y.0, y.1, Yields-more steps y.0 t u xs x y.2 n)

-- ---- what was taken so far

-- Some items were taken, each of them needed, and the answer is what is left to say of the items that follow.
pub record Walked {S A B C : Type 0} (steps : S → Option A → S → Type 0) (view : A → B) (start here : S) (count : ℕ)
    (outcome left : List B → Outcome C) : Type 0 where
  pub taken : List A
  pub gave : Yields steps start taken here
  pub counted : length taken ≡ count
  pub needed : (n : ℕ) → n < count → outcome (take n (map view taken)) ≡ Err (IncorrectInputLength n)
  pub same : (more : List B) → outcome (map view taken ++ more) ≡ left more

module _ {S A B C : Type 0} {steps : S → Option A → S → Type 0} {view : A → B} {start : S} {outcome : List B
    → Outcome C} where
  pub Walked-begin : {left : List B → Outcome C} → ((more : List B) → outcome more ≡ left more) → Walked steps view
      start start 0 outcome left
  Walked-begin same = record {
    taken = [];
    gave = refl;
    counted = refl;
    needed = λ n below. absurd (omega arith);
    same = same;
  }

  module _ {here : S} {count : ℕ} {left : List B → Outcome C} (w : Walked steps view start here count outcome
      left) where
    pub Walked-more : {next : S} {after : List B → Outcome C} {item : A} → left [] ≡ Err (IncorrectInputLength count)
        → steps here (Some item) next → ((more : List B) → left (view item ∷ more) ≡ after more)
        → Walked steps view start next (count + 1) outcome after
    Walked-more {next = next} {item = item} none step same =
        record {
          taken = w.taken ++ item ∷ [];
          gave = Yields-more steps start here next w.taken item w.gave step;
          counted = length-append w.taken (item ∷ []) ∙ ap (λ (n : ℕ). n + 1) w.counted;
          needed = needed;
          same = λ more. ap (λ (items : List B). outcome (items ++ more)) (map-append view w.taken (item ∷ []))
              ∙ ap outcome (append_assoc (map view w.taken) (view item ∷ []) more) ∙ w.same (view item ∷ more)
              ∙ same more;
        }
      where
        -- the place has no leaf before one is taken
        needed : (n : ℕ) → n < count + 1 → outcome (take n (map view (w.taken ++ item ∷ [])))
            ≡ Err (IncorrectInputLength n)
        needed n below =
            let long : length (map view w.taken) ≡ count = length-map w.taken view ∙ w.counted in
            rw (map-append, take-append-le n (map view w.taken) (view item ∷ []) (omega arith))
            (elim (cases_lt n count) [
              | inl lt ↦ w.needed n lt
              | inr ge ↦
                  let is : count ≡ n = omega arith in
                  rw (take_all n (map view w.taken) (omega arith), ← is, ← append-nil (map view w.taken))
                  (w.same [] ∙ none)
            ])

    module _ {result : Outcome C} where
      -- the answer is decided, whatever follows
      pub Walked-decided : ((more : List B) → Answers (left more) result) → AnswersOver steps view start here
          outcome result
      Walked-decided decided = record {
        taken = w.taken;
        needed = λ n below. w.needed n (omega (arith, w.counted));
        answered = inr (w.gave, λ more. rw (w.same more) (decided more));
      }

      -- the items came to an end
      pub Walked-end : {end : S} → steps here None end → Answers (left []) result → AnswersOver steps view start end
          outcome result
      Walked-end none answer = record {
        taken = w.taken;
        needed = λ n below. w.needed n (omega (arith, w.counted));
        answered = inl (here, w.gave, none, rw (← append-nil (map view w.taken), w.same []) answer);
      }

-- the answer is decided before any item is taken
pub decided_at_once : {S A B C : Type 0} {steps : S → Option A → S → Type 0} {view : A → B} {start : S}
    {outcome : List B → Outcome C} {result : Outcome C} → ((more : List B) → Answers (outcome more) result)
    → AnswersOver steps view start start outcome result
decided_at_once {outcome = outcome} = Walked-decided (Walked-begin {left = outcome} (λ more. refl))

-- ---- a walk that stands at a place

-- what is left to say from place i on, after the digests of the path before
abbrev pub left_from : HashPair → Digest → MultiWay → ℕ → List Digest → List (Outcome Digest) → Outcome Bool
left_from h root m i before leaves = multi_verdict_from h root i (decoded_paths_from m i before (drop i m.indexes))
    leaves

-- the places before i are accepted with the leaves that were taken, and the last of them has these digests
pub record AtPlace {S A : Type 0} (steps : S → Option A → S → Type 0) (view : A → Outcome Digest) (start here : S)
    (h : HashPair) (root : Digest) (m : MultiWay) (i : ℕ) (before : List Digest) : Type 0 where
  pub so_far : Walked steps view start here i (λ leaves. multi_verdict h leaves m root) (left_from h root m i before)

-- what the proof says of the leaves from a state on, up to another
abbrev pub IsAnswer : {S A : Type 0} → (S → Option A → S → Type 0) → (A → Outcome Digest) → HashPair → Digest → MultiWay
    → S → S → Outcome Bool → Type 0
IsAnswer steps view h root m start behind result =
    AnswersOver steps view start behind (λ leaves. multi_verdict h leaves m root) result

pub AtPlace-first : {S A : Type 0} {steps : S → Option A → S → Type 0} {view : A → Outcome Digest} {start : S}
    {h : HashPair} {root : Digest} {m : MultiWay} → 0 < length m.indexes → AtPlace steps view start start h root m 0 []
AtPlace-first {m = m} some = record {
  so_far = Walked-begin (λ more. rw (ne_eqb (length m.indexes) 0 (λ none. omega arith)) refl);
}

module _ {S A : Type 0} {steps : S → Option A → S → Type 0} {view : A → Outcome Digest} {h : HashPair} {root : Digest}
    {m : MultiWay} {start here : S} {i : ℕ} {before : List Digest} (at : AtPlace steps view start here h root m i
    before) where
  abbrev left : List (Outcome Digest) → Outcome Bool
  left = left_from h root m i before

  pub AtPlace-end : length m.indexes ≤ i → IsAnswer steps view h root m start here (Ok true)
  AtPlace-end past = Walked-decided at.so_far (λ leaves. rw (drop_all i m.indexes past) refl)

  module _ (below : i < length m.indexes) where
    abbrev index : ℕ
    index = get_or m.indexes i 0

    rest_is : drop i m.indexes ≡ index ∷ drop (i + 1) m.indexes
    rest_is = drop_more m.indexes i 0 below

    -- a place with no leaf
    no_leaf : left [] ≡ Err (IncorrectInputLength i)
    no_leaf = by_place (decoded_path m i before index) refl
      where
        by_place : (place : Option Way) → decoded_path m i before index ≡ place → left [] ≡ Err (IncorrectInputLength i)
        by_place None e = rw (rest_is, e) refl
        by_place (Some way) e = rw (rest_is, e) refl

    module _ {next : S} {item : A} (step : steps here (Some item) next) where
      -- a leaf is taken
      with_leaf : {after : List (Outcome Digest) → Outcome Bool} → ((more : List (Outcome Digest)) → left
          (view item ∷ more) ≡ after more)
          → Walked steps view start next (i + 1) (λ leaves. multi_verdict h leaves m root) after
      with_leaf same = Walked-more at.so_far no_leaf step same

      AtPlace-decided : {result : Outcome Bool} → ((more : List (Outcome Digest)) → Answers (left (view item ∷ more))
          result) → IsAnswer steps view h root m start next result
      AtPlace-decided decided =
          Walked-decided (with_leaf {after = λ more. left (view item ∷ more)} (λ more. refl)) decided

      module _ {sibling : Digest} {above : List Digest} (fit : (index : ℕ) → decoded_path m i before index
          ≡ Some (record { sibling = sibling; above = above; index = index })) where
        abbrev said : Outcome Bool
        said = verdict h (view item) (record { sibling = sibling; above = above; index = index }) root

        left_is : (leaves : List (Outcome Digest)) → left (view item ∷ leaves) ≡ (said >>= λ holds. if holds then
            multi_verdict_from h root (suc i) (decoded_paths_from m (suc i) above (drop (i + 1) m.indexes)) leaves
            else Ok false)
        left_is leaves = rw (rest_is, fit index) refl

        pub AtPlace-refused : (result : Outcome Bool) (e : Error) → IsErrAnd result (λ d. d ≡ e)
            → (e ≡ OutOfMemory) ⊎ (said ≡ Err e) → IsAnswer steps view h root m start next result
        AtPlace-refused result e is_err refused = AtPlace-decided (λ more. passed_on (λ holds. holds)
            (left (view item ∷ more)) result e is_err refused (λ is. left_is more ∙ rw is refl))

        pub AtPlace-rejected : said ≡ Ok false → IsAnswer steps view h root m start next (Ok false)
        AtPlace-rejected rejected = AtPlace-decided (λ more. left_is more ∙ rw rejected refl)

        pub AtPlace-accepted : said ≡ Ok true → AtPlace steps view start next h root m (i + 1) above
        AtPlace-accepted accepted = record {
          so_far = with_leaf (λ more. left_is more ∙ rw (accepted, add-one i) refl);
        }

    -- a place for which no leaf is taken
    pub AtPlace-untaken : (end : S) (result : Outcome Bool) (e : Error) → IsErrAnd result (λ d. d ≡ e) → TakesNone steps
        here end (decoded_path m i before) i e → IsAnswer steps view h root m start end result
    AtPlace-untaken end result e is_err why =
        let p = err_from_is_err_and result is_err in
        rw (p.1, p.2) (by_why why)
      where
        by_why : TakesNone steps here end (decoded_path m i before) i e → IsAnswer steps view h root m start end (Err e)
        by_why (inl (unfit, same, is)) =
            rw (same, is) (Walked-decided at.so_far (λ more. inr (rw (rest_is, unfit index) refl)))
        by_why (inr (inl (none, is))) = rw is (Walked-end at.so_far none (inr no_leaf))
        by_why (inr (inr (item, step, memory))) = AtPlace-decided step (λ more. inl memory)
