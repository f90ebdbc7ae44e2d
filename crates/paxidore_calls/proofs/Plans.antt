-- Steps that a caller carries out on a file.
use Rattle.std.proofs.Common.{zero, suc, ◌≡◌, ◌⊎◌, inl, inr, ℕ, ◌+◌, ◌-◌, ◌<◌, ◌≤◌, List, [], ◌∷◌, ◌++◌, length, take, drop, get_or, refl, ap, sym, ◌∙◌, subst, append_assoc, arith}
use Rattle.std.proofs.lemmas.Bool.{cases_lt}
use Rattle.std.proofs.lemmas.List.{drop-append-le, drop-drop, drop-take, get_or-take, length-append, length-drop, length-take-le, take-append-drop, take-append-le, take_all, take_at}
use Rattle.std.proofs.Math.Nat.{le-max_left, le-max_right}
use Rattle.std.proofs.Math.Seq.{drop-append_seam}
use Rattle.log_file.proofs.Pieces.{piece-written}
use Rattle.log_store.specs.Disk.{Cut, Elapses, Torn}
use Rattle.log_store.proofs.Writes.{torn-not as nothing-torn}
use Rattle.log_file.specs.LogFile.{written}
use Rattle.paxidore_calls.specs.Plan.{IsReadOf, IsStopped, carried}
use Rattle.paxidore_calls.specs.declared.file_calls.replay.Step.{Step}

-- ---- a write that was cut short

-- nothing was written
pub torn-not : (at : ℕ) (bytes file : List ℕ) → Torn at bytes file file
torn-not at bytes file = nothing-torn at bytes file file refl

module _ (at : ℕ) (file bytes : List ℕ) (inside : at ≤ length file) where
  count : length (take at file ++ bytes) ≡ at + length bytes
  count = omega (arith, length-append (take at file) bytes, length-take-le at file inside)

  cut : written file at bytes ≡ (take at file ++ bytes) ++ drop (at + length bytes) file
  cut = refl

  long : length (written file at bytes) ≡ at + length bytes + length (drop (at + length bytes) file)
  long = ap length cut ∙ omega (arith, count, length-append (take at file ++ bytes) (drop (at + length bytes) file))

  cut-written : Cut at (length bytes) file (written file at bytes)
  cut-written = record {
    before = ap (take at) (append_assoc (take at file) bytes (drop (at + length bytes) file))
        ∙ take_at (take at file) (bytes ++ drop (at + length bytes) file) at (omega (
          arith,
          length-take-le at file inside,
        ));
    after = ap (drop (at + length bytes)) cut
        ∙ ap (λ k. drop k ((take at file ++ bytes) ++ drop (at + length bytes) file)) (sym count)
        ∙ drop-append_seam (take at file ++ bytes) (drop (at + length bytes) file);
    no_shorter = omega (arith, long, length-drop (at + length bytes) file);
    no_longer = elim (cases_lt (length file) (at + length bytes)) [
      | inl short ↦
          let right = le-max_right (length file) (at + length bytes) in
          omega (arith, long, length-drop (at + length bytes) file, right)
      | inr ge ↦
          let left = le-max_left (length file) (at + length bytes) in
          omega (arith, long, length-drop (at + length bytes) file, left)
    ];
  }

  -- all was written
  pub torn-written : Torn at bytes file (written file at bytes)
  torn-written = record {
    cut = cut-written;
    mixed = λ i less. inr (sym (get_or-take (length bytes) (drop at (written file at bytes)) i 0 less)
        ∙ ap (λ l. get_or l i 0) (piece-written file bytes at (length bytes) refl inside));
  }

-- ---- steps

pub carried-behind : (xs ys : List Step) (file : List ℕ) → carried (xs ++ ys) file ≡ carried ys (carried xs file)
carried-behind [] ys file = refl
carried-behind (x ∷ xs) ys file = carried-behind xs ys (written file x.at x.bytes.items)

-- the first ones, and then the others
pub carried-cut : (n : ℕ) (xs : List Step) (file : List ℕ)
    → carried (drop n xs) (carried (take n xs) file) ≡ carried xs file
carried-cut n xs file = sym (carried-behind (take n xs) (drop n xs) file)
    ∙ ap (λ steps. carried steps file) (take-append-drop n xs)

pub stopped-all : (xs : List Step) (file : List ℕ) → IsStopped xs file (carried xs file)
stopped-all [] file = refl
stopped-all (x ∷ xs) file = inr (stopped-all xs (written file x.at x.bytes.items))

pub stopped-before : (xs : List Step) (step : Step) (file left : List ℕ) → IsStopped (xs ++ step ∷ []) file left
    → IsStopped xs file left ⊎ IsStopped (step ∷ []) (carried xs file) left
stopped-before [] step file left stopped = inr stopped
stopped-before (x ∷ xs) step file left (inl torn) = inl (inl torn)
stopped-before (x ∷ xs) step file left (inr behind) =
    elim (stopped-before xs step (written file x.at x.bytes.items) left behind) [
      | inl before ↦ inl (inr before)
      | inr last ↦ inr last
    ]

pub stopped-last : (xs : List Step) (step : Step) (file left : List ℕ) → IsStopped (step ∷ []) (carried xs file) left
    → IsStopped (xs ++ step ∷ []) file left
stopped-last [] step file left stopped = stopped
stopped-last (x ∷ xs) step file left stopped = inr (stopped-last xs step (written file x.at x.bytes.items) left stopped)

-- What may stand in the file where so many steps are synced.
abbrev pub left_from : ℕ → List Step → List ℕ → List ℕ → Type 0
left_from n xs file left = IsStopped (drop n xs) (carried (take n xs) file) left

-- all are synced
pub synced : (xs : List Step) (file left : List ℕ) → left_from (length xs) xs file left → left ≡ carried xs file
synced xs file left stopped = subst (λ steps. IsStopped steps (carried (take (length xs) xs) file) left)
    (none xs) stopped ∙ ap (λ steps. carried steps file) (take_all (length xs) xs (omega arith))
  where
    none : (xs : List Step) → drop (length xs) xs ≡ []
    none [] = refl
    none (x ∷ xs) = none xs

pub sync-crash : (n : ℕ) (xs : List Step) (file left : List ℕ) → left_from (length xs) xs file left
    → left_from n xs file left
sync-crash n xs file left stopped = subst (IsStopped (drop n xs) (carried (take n xs) file))
    (carried-cut n xs file ∙ sym (synced xs file left stopped)) (stopped-all (drop n xs) (carried (take n xs) file))

module _ (n : ℕ) (xs : List Step) (step : Step) (file : List ℕ) (le : n ≤ length xs) where
  abbrev more : List Step
  more = xs ++ step ∷ []

  -- of more steps, as of the first ones and then the last one
  as_more : (t : ℕ) (left : List ℕ) → t ≤ n → left_from t more file left
      → IsStopped (drop t xs ++ step ∷ []) (carried (take t xs) file) left
  as_more t left before stopped = subst (λ f. IsStopped (drop t xs ++ step ∷ []) (carried f file) left)
      (take-append-le t xs (step ∷ []) (omega (arith, before, le)))
      (subst (λ s. IsStopped s (carried (take t more) file)
      left) (drop-append-le t xs (step ∷ []) (omega (arith, before, le))) stopped)

  from_more : (t : ℕ) (left : List ℕ) → t ≤ n → IsStopped (drop t xs ++ step ∷ []) (carried (take t xs) file) left
      → left_from t more file left
  from_more t left before stopped = subst (λ f. IsStopped (drop t more) (carried f file) left)
      (sym (take-append-le t xs (step ∷ []) (omega (arith, before, le)))) (subst (λ s. IsStopped s (carried (take t xs)
      file) left) (sym (drop-append-le t xs (step ∷ []) (omega (arith, before, le)))) stopped)

  pub write-crash : step.at ≤ length (carried xs file) → (left : List ℕ) → left_from n more file left
      → (before : List ℕ) × left_from n xs file before × Torn step.at step.bytes.items before left
  write-crash inside left stopped =
      elim (stopped-before (drop n xs) step (carried (take n xs) file) left (as_more n left (omega arith) stopped)) [
        | inl early ↦ (left, early, torn-not step.at step.bytes.items left)
        | inr (inl torn) ↦
            (carried (drop n xs) (carried (take n xs) file), stopped-all (drop n xs) (carried (take n xs) file), torn)
        | inr (inr all) ↦ (
          carried (drop n xs) (carried (take n xs) file),
          stopped-all (drop n xs) (carried (take n xs) file),
          subst (Torn step.at step.bytes.items (carried (drop n xs) (carried (take n xs) file))) (sym all)
              (torn-written step.at (carried (drop n xs) (carried (take n xs) file)) step.bytes.items
              (subst (λ f. step.at ≤ length f) (sym (carried-cut n xs file)) inside)),
        )
      ]

  pub write-time : Elapses n n (λ since left. left_from since xs file left) (λ since left. left_from since more file
      left)
      (left_from n more file)
  write-time = record {
    later = omega arith;
    nothing_else = λ t left before stopped.
        elim (stopped-before (drop t xs) step (carried (take t xs) file) left (as_more t left before stopped)) [
          | inl early ↦ inl early
          | inr last ↦
              inr (from_more n left (omega arith) (stopped-last (drop n xs) step (carried (take n xs) file) left
              (subst (λ f. IsStopped (step ∷ []) f left) (carried-cut t xs file ∙ sym (carried-cut n xs file)) last)))
        ];
  }

-- there is no step yet
pub none-left : (n : ℕ) (xs : List Step) → xs ≡ [] → (file left : List ℕ) → left_from n xs file left
    → left ≡ carried xs file
none-left zero [] is file left stopped = stopped
none-left (suc n) [] is file left stopped = stopped
none-left n (x ∷ xs) is file left stopped = absurd cc

pub from-start : (n : ℕ) → n ≡ 0 → (xs : List Step) (file left : List ℕ) → IsStopped xs file left
    → left_from n xs file left
from-start zero is xs file left stopped = stopped
from-start (suc n) is xs file left stopped = absurd (omega arith)

-- ---- pieces

take-cut : (k n : ℕ) (xs : List ℕ) → k ≤ n → take k (take n xs) ≡ take k xs
take-cut zero n xs le = refl
take-cut (suc k) zero xs le = absurd (omega arith)
take-cut (suc k) (suc n) [] le = refl
take-cut (suc k) (suc n) (x ∷ xs) le = ap (λ l. x ∷ l) (take-cut k n xs (omega arith))

drop-cut : (d n : ℕ) (xs : List ℕ) → drop d (take (d + n) xs) ≡ take n (drop d xs)
drop-cut d n xs = drop-take d n xs

-- bytes of a piece are bytes of the file
pub piece-of : (at place count k : ℕ) (rest file : List ℕ) → place ≤ at → at - place + k ≤ count
    → take count rest ≡ take count (drop place file) → take k (drop (at - place) (take count rest))
    ≡ take k (drop at file)
piece-of at place count k rest file low inside same =
    let d = at - place in
    let parts : d + (count - d) ≡ count = omega arith in
    let whole : place + d ≡ at = omega arith in
    ap (λ xs. take k (drop d xs)) same
    ∙ ap (λ n. take k (drop d (take n (drop place file)))) (sym parts)
    ∙ ap (take k) (drop-cut d (count - d) (drop place file))
    ∙ take-cut k (count - d) (drop d (drop place file)) (omega arith)
    ∙ ap (take k) (drop-drop d place file ∙ ap (λ n. drop n file) whole)

pub piece-read : (i : ℕ) (places : List (List ℕ)) (rest file : List ℕ) → i < length places
    → IsReadOf (drop i places) rest file
    → take (get_or (get_or places i []) 1 0) rest
    ≡ take (get_or (get_or places i []) 1 0) (drop (get_or (get_or places i []) 0 0) file)
piece-read i [] rest file below read = absurd (omega arith)
piece-read zero (piece ∷ places) rest file below read = read.1
piece-read (suc i) (piece ∷ places) rest file below read = piece-read i places rest file (omega arith) read
