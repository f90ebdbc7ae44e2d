-- A way that a loop goes, level by level.
use Rattle.std.proofs.Common.{zero, suc, ◌≡◌, ℕ, ◌+◌, ◌/◌, ◌%◌, ◌<◌, ◌≤◌, ◌^◌, true, false, ◌==◌, List, [], ◌∷◌, length, map, drop, get_or, Result, Ok, Err, Option, Some, None, arith, refl, ap, sym, ◌∙◌}
use Rattle.std.proofs.lemmas.List.{drop_more, drop_all, length-map, length-drop}
use Rattle.ark_base.specs.Outcome.{◌>>=◌}
use Rattle.merkle_log.specs.Walk.{finish, with_next, walk, has_beside}
use Rattle.merkle_log.proofs.Sound.{turn, walk-beside, walk-alone, walk-next, beside-none}
use Rattle.merkle_log.proofs.Tests.{Fewer, fewer}

-- From here, with some levels left, the way has this answer.
pub record Along {D S E : Type 0} (left right : D → S → Result S E) (i s : ℕ) (state : S) (path : List D)
    (answer : Result (Option S) E) : Type 0 where
  pub levels : ℕ
  pub high : s < 2 ^ levels
  pub inside : i ≤ s
  pub is : walk left right levels i s state path ≡ answer

module _ {D S E : Type 0} {left right : D → S → Result S E} {i s : ℕ} {state : S} {path : List D}
    {answer : Result (Option S) E} (along : Along left right i s state path answer) where
  -- the last row
  pub along-end : s ≡ 0 → answer ≡ finish state path
  along-end top = sym along.is ∙ go along.levels i s (omega (arith, along.inside)) top
    where
      go : (k i s : ℕ) → i ≡ 0 → s ≡ 0 → walk left right k i s state path ≡ finish state path
      go zero i s e f = refl
      go (suc k) i s e f = walk-alone left right k i s state path (beside-none i s (omega arith) (omega arith))
          ∙ go k (i / 2) (s / 2) (omega arith) (omega arith)

  abbrev Answers : (ℕ → Result (Option S) E) → ℕ → Type 0
  Answers way k = way k ≡ answer

  -- one level up, without a digest
  pub along-alone : 0 < s → has_beside i s ≡ false → Along left right (i / 2) (s / 2) state path answer
  along-alone some alone =
      let up = fewer (Answers (λ k. walk left right k i s state path))
      (Answers (λ k. walk left right k (i / 2) (s / 2) state path)) along.levels some along.high along.is
      (λ k high is. sym (walk-alone left right k i s state path alone) ∙ is) in
      record { levels = up.levels; high = up.high; inside = omega (arith, along.inside); is = up.at }

  -- with a digest, which stands left where the index is odd
  nexts : 0 < s → has_beside i s ≡ true → Fewer s (Answers (λ k. with_next (turn left right (i % 2 == 1) state)
      (walk left right k (i / 2) (s / 2)) path))
  nexts some beside = fewer (Answers (λ k. walk left right k i s state path)) _ along.levels some along.high along.is
      (λ k high is. sym (walk-beside left right k i s state path beside) ∙ is)

  -- no digest is left
  pub along-short : 0 < s → has_beside i s ≡ true → path ≡ [] → answer ≡ Ok None
  along-short some beside none =
      let up = nexts some beside in
      sym up.at ∙ ap (with_next (turn left right (i % 2 == 1) state) (walk left right up.levels (i / 2) (s / 2))) none

  -- the step is refused
  pub along-refused : 0 < s → has_beside i s ≡ true → {digest : D} {rest : List D} {e : E} → path ≡ digest ∷ rest
      → turn left right (i % 2 == 1) state digest ≡ Err e → answer ≡ Err e
  along-refused some beside {digest} {rest} {e} is stepped =
      let up = nexts some beside in
      sym up.at ∙ ap (with_next (turn left right (i % 2 == 1) state) (walk left right up.levels (i / 2) (s / 2))) is
      ∙ ap (λ r. r >>= λ next. walk left right up.levels (i / 2) (s / 2) next rest) stepped

  -- a step
  pub along-next : 0 < s → has_beside i s ≡ true → {digest : D} {rest : List D} {next : S} → path ≡ digest ∷ rest
      → turn left right (i % 2 == 1) state digest ≡ Ok next → Along left right (i / 2) (s / 2) next rest answer
  along-next some beside {digest} {rest} {next} is step =
      let up = fewer (Answers (λ k. walk left right k i s state path))
      (Answers (λ k. walk left right k (i / 2) (s / 2) next rest)) along.levels some along.high along.is
      (λ k high so. sym (walk-next left right k i s state path beside is step) ∙ so) in
      record { levels = up.levels; high = up.high; inside = omega (arith, along.inside); is = up.at }

-- ---- with the digests of a slice

-- the next digest of a path that is partly used
pub next_used : {A D : Type 0} (numbers : A → D) (xs : List A) (used : ℕ) (x : A) → used < length xs → x
    ≡ get_or xs used x → map numbers (drop used xs) ≡ numbers x ∷ map numbers (drop (used + 1) xs)
next_used numbers xs used x below is = ap (map numbers) (drop_more xs used x below)
    ∙ ap (λ d. numbers d ∷ map numbers (drop (used + 1) xs)) (sym is)

pub all_used : {A D : Type 0} (numbers : A → D) (xs : List A) (used : ℕ) → length xs ≤ used
    → map numbers (drop used xs) ≡ []
all_used numbers xs used le = ap (map numbers) (drop_all used xs le)

module _ {A D S E : Type 0} {left right : D → S → Result S E} {i s : ℕ} {state : S} {answer : Result (Option S) E}
    (numbers : A → D) (xs : List A) (used : ℕ)
    (along : Along left right i s state (map numbers (drop used xs)) answer) where
  pub slice-short : 0 < s → has_beside i s ≡ true → length xs ≤ used → answer ≡ Ok None
  slice-short some beside le = along-short along some beside (all_used numbers xs used le)

  pub slice-refused : 0 < s → has_beside i s ≡ true → {x : A} {e : E} → used < length xs → x ≡ get_or xs used x
      → turn left right (i % 2 == 1) state (numbers x) ≡ Err e → answer ≡ Err e
  slice-refused some beside {x} below is step =
      along-refused along some beside (next_used numbers xs used x below is) step

  pub slice-next : 0 < s → has_beside i s ≡ true → {x : A} {next : S} → used < length xs → x ≡ get_or xs used x
      → turn left right (i % 2 == 1) state (numbers x) ≡ Ok next
      → Along left right (i / 2) (s / 2) next (map numbers (drop (used + 1) xs)) answer
  slice-next some beside {x} below is step =
      along-next along some beside (next_used numbers xs used x below is) step

  -- at the end, with all digests used, and with some left
  pub slice-all : s ≡ 0 → length xs ≤ used → answer ≡ Ok (Some state)
  slice-all top le = along-end along top ∙ ap (finish state) (all_used numbers xs used le)

  pub slice-left : s ≡ 0 → used < length xs → answer ≡ Ok None
  slice-left top below = along-end along top ∙ by_list (map numbers (drop used xs))
      (omega (arith, length-map (drop used xs) numbers, length-drop used xs))
    where
      by_list : (ds : List D) → 0 < length ds → finish {E = E} state ds ≡ Ok None
      by_list [] some = absurd (omega arith)
      by_list (d ∷ ds) some = refl
