-- Halving against going row by row.
use Rattle.std.proofs.Common.{zero, suc, ◌≡◌, ℕ, ◌+◌, ◌*◌, ◌≤◌, ◌^◌, List, [], ◌∷◌, ◌++◌, length, take, drop, get_or, Ok, Err, true, false, nat_lt, arith, refl, ap, sym, ◌∙◌, length-drop, add-zero}
use Rattle.std.proofs.lemmas.Bool.Decides.{nat_tests}
use Rattle.std.proofs.lemmas.List.{take-append-drop, length-take-le}
use Rattle.std.proofs.Math.Nat.{pow-succ'}
use Rattle.ark_base.specs.declared.error.Error.{Error}
use Rattle.ark_base.specs.Outcome.{Outcome, ◌>>=◌}
use Rattle.ark_paths.specs.Pair.{HashPair, Digest}
use Rattle.ark_paths.specs.Root.{Place, Root, Refused, place_at, place_of_halves, place, outcome_of, root_of}
use Rattle.ark_paths.specs.Rows.{row_above, rows_from, rows_of}
use Rattle.ark_paths.proofs.CoupleLemmas.{paired-append, length-paired}

-- what follows on a row of a level
abbrev after : ℕ → Outcome (List Digest) → (List Digest → Place) → Place
after level (Ok row) next = next row
after level (Err error) next = Refused level error

-- the place of 2 ^ k digests of a level, row by row
abbrev raised : HashPair → ℕ → ℕ → List Digest → Place
raised h level zero row = Root (get_or row 0 [])
raised h level (suc k) row = after level (row_above h.upper row) (raised h (suc level) k)

-- a refusal in the place is of this level or above
abbrev AtLeast : ℕ → Place → Type 0
AtLeast level (Root digest) = Unit {0}
AtLeast level (Refused l error) = level ≤ l

AtLeast-weaker : (level : ℕ) (p : Place) → AtLeast (suc level) p → AtLeast level p
AtLeast-weaker level (Root digest) h = tt
AtLeast-weaker level (Refused l error) h = omega arith

AtLeast-after : (level : ℕ) (o : Outcome (List Digest)) (next : List Digest → Place) → ((row : List Digest)
    → AtLeast level (next row)) → AtLeast level (after level o next)
AtLeast-after level (Ok row) next h = h row
AtLeast-after level (Err error) next h = omega arith

AtLeast-raised : (h : HashPair) (level k : ℕ) (row : List Digest) → AtLeast level (raised h level k row)
AtLeast-raised h level zero row = tt
AtLeast-raised h level (suc k) row = AtLeast-after level (row_above h.upper row) (raised h (suc level) k)
    (λ next. AtLeast-weaker level (raised h (suc level) k next) (AtLeast-raised h (suc level) k next))

joined-left : (h : HashPair) (level l : ℕ) (error : Error) (right : Place) → AtLeast l right → place_of_halves h level
    (Refused l error) right ≡ Refused l error
joined-left h level l error (Root digest) p = refl
joined-left h level l error (Refused j other) p = let t : nat_lt j l ≡ false = grind (arith, nat_tests) in rw t

joined-right : (h : HashPair) (level l : ℕ) (error : Error) (left : Place) → AtLeast (suc l) left → place_of_halves h
    level left (Refused l error) ≡ Refused l error
joined-right h level l error (Root digest) p = refl
joined-right h level l error (Refused k other) p = let t : nat_lt l k ≡ true = grind (arith, nat_tests) in rw t

-- one row, at two halves
halves-after : (h : HashPair) (level k : ℕ) (o p : Outcome (List Digest)) → ((left : List Digest) → o ≡ Ok left
    → length left ≡ 2 ^ k) → ((right : List Digest) → p ≡ Ok right → length right ≡ 2 ^ k)
    → ((left right : List Digest) → length left ≡ 2 ^ k → length right ≡ 2 ^ k → raised h (suc level) (suc k)
    (left ++ right) ≡ place_of_halves h (suc level + k) (raised h (suc level) k left) (raised h (suc level) k right))
    → after level (o >>= λ left. p >>= λ right. Ok (left ++ right)) (raised h (suc level) (suc k)) ≡ place_of_halves h
    (level + suc k) (after level o (raised h (suc level) k)) (after level p (raised h (suc level) k))
halves-after h level k (Err e) (Err f) lo lp both =
    sym (joined-left h (level + suc k) level e (Refused level f) (omega arith))
halves-after h level k (Err e) (Ok right) lo lp both = sym (joined-left h (level + suc k) level e
    (raised h (suc level) k right) (AtLeast-weaker level (raised h (suc level) k right)
    (AtLeast-raised h (suc level) k right)))
halves-after h level k (Ok left) (Err f) lo lp both =
    sym (joined-right h (level + suc k) level f (raised h (suc level) k left) (AtLeast-raised h (suc level) k left))
halves-after h level k (Ok left) (Ok right) lo lp both = let e : suc level + k ≡ level + suc k =
    omega arith in rw (← e) (both left right (lo left refl) (lp right refl))

after-one : (level : ℕ) (o : Outcome Digest) → after level (o >>= λ digest. Ok (digest ∷ []))
    (λ row. Root (get_or row 0 [])) ≡ place_at level o
after-one level (Ok digest) = refl
after-one level (Err error) = refl

-- a row of half the length of two halves
half_row : (hash : Digest → Digest → Outcome Digest) (k : ℕ) (row : List Digest) → length row ≡ 2 ^ suc k
    → (above : List Digest) → row_above hash row ≡ Ok above → length above ≡ 2 ^ k
half_row hash k row size above is = let twice : 2 ^ suc k ≡ 2 * 2 ^ k =
    pow-succ' 2 k in omega (arith, length-paired hash row above is)

raised-append : (h : HashPair) (level k : ℕ) (xs ys : List Digest) → length xs ≡ 2 ^ k → length ys ≡ 2 ^ k
    → raised h level (suc k) (xs ++ ys) ≡ place_of_halves h (level + k) (raised h level k xs) (raised h level k ys)
raised-append h level zero [] ys lx ly = absurd (omega arith)
raised-append h level zero (x ∷ y ∷ xs) ys lx ly = absurd (omega arith)
raised-append h level zero (x ∷ []) [] lx ly = absurd (omega arith)
raised-append h level zero (x ∷ []) (y ∷ z ∷ ys) lx ly = absurd (omega arith)
raised-append h level zero (x ∷ []) (y ∷ []) lx ly = rw add-zero (after-one level (h.upper x y))
raised-append h level (suc k) xs ys lx ly =
    rw (paired-append h.upper (2 ^ k) xs ys (lx ∙ pow-succ' 2 k))
    (halves-after h level k (row_above h.upper xs) (row_above h.upper ys) (half_row h.upper k xs lx)
    (half_row h.upper k ys ly) (λ left right ll lr. raised-append h (suc level) k left right ll lr))

-- the place of 2 ^ (m + 1) leaf digests, row by row
abbrev raised_leaves : HashPair → ℕ → List Digest → Place
raised_leaves h m digests = after 0 (row_above h.bottom digests) (raised h 1 m)

raised_leaves-append : (h : HashPair) (m : ℕ) (xs ys : List Digest) → length xs ≡ 2 ^ suc m → length ys ≡ 2 ^ suc m
    → raised_leaves h (suc m) (xs ++ ys) ≡ place_of_halves h (suc m) (raised_leaves h m xs) (raised_leaves h m ys)
raised_leaves-append h m xs ys lx ly =
    let z : 0 + suc m ≡ suc m = omega arith in
    rw (paired-append h.bottom (2 ^ m) xs ys (lx ∙ pow-succ' 2 m))
    (halves-after h 0 m (row_above h.bottom xs) (row_above h.bottom ys) (half_row h.bottom m xs lx)
    (half_row h.bottom m ys ly) (λ left right ll lr. raised-append h 1 m left right ll lr)
    ∙ ap (λ (n : ℕ). place_of_halves h n (raised_leaves h m xs) (raised_leaves h m ys)) z)

place-raised : (h : HashPair) (m : ℕ) (digests : List Digest) → length digests ≡ 2 ^ suc m → place h m digests
    ≡ raised_leaves h m digests
place-raised h zero [] l = absurd (omega arith)
place-raised h zero (a ∷ []) l = absurd (omega arith)
place-raised h zero (a ∷ b ∷ c ∷ rest) l = absurd (omega arith)
place-raised h zero (a ∷ b ∷ []) l = sym (after-one 0 (h.bottom a b))
place-raised h (suc m) digests l =
    let twice : 2 ^ suc (suc m) ≡ 2 * 2 ^ suc m = pow-succ' 2 (suc m) in
    let lt : length (take (2 ^ suc m) digests) ≡ 2 ^ suc m = length-take-le (2 ^ suc m) digests (omega arith) in
    let ld : length (drop (2 ^ suc m) digests) ≡ 2 ^ suc m = rw length-drop (omega arith) in
    rw (
      place-raised h m (take (2 ^ suc m) digests) lt,
      place-raised h m (drop (2 ^ suc m) digests) ld,
      ← raised_leaves-append h m (take (2 ^ suc m) digests) (drop (2 ^ suc m) digests) lt ld,
      take-append-drop
          (2 ^ suc m) digests,
    )

-- the first digest of the last row, which comes after a row that begins with this digest
abbrev last_digest : Digest → List (List Digest) → Digest
last_digest digest [] = digest
last_digest digest (row ∷ rows) = last_digest (get_or row 0 []) rows

-- the digest of the root's row
abbrev pub top_digest : List (List Digest) → Digest
top_digest rows = last_digest [] rows

rows-step : (row : List Digest) (digest : Digest) (o : Outcome (List (List Digest)))
    → (o >>= λ rows. Ok (last_digest (get_or row 0 []) rows)) ≡ ((o >>= λ rows. Ok (row ∷ rows)) >>= λ rows.
    Ok (last_digest digest rows))
rows-step row digest (Ok rows) = refl
rows-step row digest (Err e) = refl

outcome_of-after : (level : ℕ) (o : Outcome (List Digest)) (next : List Digest → Place) (more : List Digest
    → Outcome Digest) → ((row : List Digest) → outcome_of (next row) ≡ more row) → outcome_of (after level o next)
    ≡ (o >>= more)
outcome_of-after level (Ok row) next more h = h row
outcome_of-after level (Err e) next more h = refl

bind-assoc : {A B C : Type 0} (o : Outcome A) (f : A → Outcome B) (g : B → Outcome C) → (o >>= λ x. f x >>= g)
    ≡ ((o >>= f) >>= g)
bind-assoc (Ok x) f g = refl
bind-assoc (Err e) f g = refl

outcome_of-raised : (h : HashPair) (level k : ℕ) (row : List Digest) (digest : Digest)
    → outcome_of (raised h level k row) ≡ (rows_from h.upper k row >>= λ rows. Ok (last_digest digest rows))
outcome_of-raised h level zero row digest = refl
outcome_of-raised h level (suc k) row digest =
    outcome_of-after level (row_above h.upper row) (raised h (suc level) k)
    (λ next. (rows_from h.upper k next >>= λ rows. Ok (row ∷ rows)) >>= λ rows. Ok (last_digest digest rows))
    (λ next. outcome_of-raised h (suc level) k next (get_or row 0 []) ∙ rows-step row digest (rows_from h.upper k next))
    ∙ bind-assoc (row_above h.upper row) (λ next. rows_from h.upper k next >>= λ rows. Ok (row ∷ rows))
    (λ rows. Ok (last_digest digest rows))

-- The root is the top of the rows, and their first refusal is that of the root.
pub root_of-rows : (h : HashPair) (m : ℕ) (digests : List Digest) → length digests ≡ 2 ^ suc m → root_of h m digests
    ≡ (rows_of h m digests >>= λ rows. Ok (top_digest rows))
root_of-rows h m digests l =
    ap outcome_of (place-raised h m digests l)
    ∙ outcome_of-after 0 (row_above h.bottom digests) (raised h 1 m) (λ row. rows_from h.upper m row >>= λ rows.
    Ok (top_digest rows)) (λ row. outcome_of-raised h 1 m row [])
    ∙ bind-assoc (row_above h.bottom digests) (rows_from h.upper m) (λ rows. Ok (top_digest rows))
