-- The way from an index of a row up to the root.
use Rattle.std.specs.Prelude.{◌≡◌, ℕ, zero, suc, ◌/◌, ◌%◌, ◌==◌, ◌||◌, nat_lt, Bool, true, if◌then◌else◌, List, [], ◌∷◌, take, drop, Result, Ok, Option, Some, None}
use Rattle.ark_base.specs.Outcome.{◌>>=◌}

-- the hash of two values, or the first refusal
abbrev pub joined : {D E : Type 0} → (D → D → Result D E) → Result D E → Result D E → Result D E
joined hash left right = do
  a ← left
  b ← right
  hash a b

-- the end of a way: no digest is left
abbrev pub finish : {D S E : Type 0} → S → List D → Result (Option S) E
finish state [] = Ok (Some state)
finish state (digest ∷ rest) = Ok None

-- a level with a digest beside the way
abbrev pub with_next : {D S R E : Type 0} → (D → Result S E) → (S → List D → Result (Option R) E) → List D
    → Result (Option R) E
with_next step next [] = Ok None
with_next step next (digest ∷ rest) = do
  state ← step digest
  next state rest

-- From index i of a row whose last index is s, k levels up: at an odd index a digest stands left, before the last index
-- one stands right, and at an even last index none. What the digests make of a state, where they are as many as needed.
abbrev pub walk : {D S E : Type 0} → (D → S → Result S E) → (D → S → Result S E) → ℕ → ℕ → ℕ → S → List D
    → Result (Option S) E
walk left right zero i s state path = finish state path
walk left right (suc k) i s state path =
    let next = walk left right k (i / 2) (s / 2) in
    if i % 2 == 1 then (with_next (λ d. left d state) next path)
    else (if nat_lt i s then (with_next (λ d. right d state) next path) else (next state path))

-- whether a digest stands beside an index of a row: left of an odd one, right of one before the last
abbrev pub has_beside : ℕ → ℕ → Bool
has_beside i s = i % 2 == 1 || nat_lt i s

-- an index some levels up
abbrev pub index_up : ℕ → ℕ → ℕ
index_up zero i = i
index_up (suc level) i = index_up level (i / 2)

-- how many digests of a path the first levels of a way use
abbrev pub used_below : ℕ → ℕ → ℕ → ℕ
used_below zero i s = 0
used_below (suc level) i s =
    if has_beside i s then suc (used_below level (i / 2) (s / 2)) else used_below level (i / 2) (s / 2)

-- Some levels up the way has this state, and the path's next digest stands beside it.
pub record Meets {D S E : Type 0} (left right : D → S → Result S E) (i s : ℕ) (state : S) (path : List D)
    (level : ℕ) (reached : S) (sibling : D) : Type 0 where
  pub beside : has_beside (index_up level i) (index_up level s) ≡ true
  pub rest : List D
  pub next_is : drop (used_below level i s) path ≡ sibling ∷ rest
  pub reached_is : walk left right level i s state (take (used_below level i s) path) ≡ Ok (Some reached)

-- two digests, left first: the first of them stands right at an odd index
abbrev pub in_order : {D : Type 0} → ℕ → D → D → D × D
in_order i own beside = if i % 2 == 1 then (beside, own) else (own, beside)

-- ---- inclusion

abbrev pub on_left : {D E : Type 0} → (D → D → Result D E) → D → D → Result D E
on_left hash d own = hash d own

abbrev pub on_right : {D E : Type 0} → (D → D → Result D E) → D → D → Result D E
on_right hash d own = hash own d

-- the digest beside on the left of a right one, and on the right of a left one
abbrev pub hash_beside : {D E : Type 0} → (D → D → Result D E) → Bool → D → D → Result D E
hash_beside hash is_right own beside = if is_right then (hash beside own) else (hash own beside)

-- ---- consistency: of the old tree's last value, and of the new tree's at that index

abbrev pub both_left : {D E : Type 0} → (D → D → Result D E) → D → D × D → Result (D × D) E
both_left hash d pair = do
  old ← hash d pair.0
  new ← hash d pair.1
  Ok (old, new)

abbrev pub new_right : {D E : Type 0} → (D → D → Result D E) → D → D × D → Result (D × D) E
new_right hash d pair = do
  new ← hash pair.1 d
  Ok (pair.0, new)

-- the digest beside both, or beside the new one alone
abbrev pub hash_both : {D E : Type 0} → (D → D → Result D E) → Bool → D × D → D → Result (D × D) E
hash_both hash is_right ends beside = if is_right then (both_left hash beside ends) else (new_right hash beside ends)

-- the way of a digest that both trees have
abbrev pub from_shared : {D E : Type 0} → (D → D → Result D E) → ℕ → ℕ → ℕ → D → List D → Result (Option (D × D)) E
from_shared hash k i s digest path = walk (both_left hash) (new_right hash) k i s (digest, digest) path

-- That digest is the old root, where the old tree is one value, and else the first of the path.
abbrev pub from_seed : {D E : Type 0} → (D → D → Result D E) → ℕ → ℕ → ℕ → D → List D → Result (Option (D × D)) E
from_seed hash k i s old path =
    if i == 0 then (from_shared hash k i s old path) else (with_next Ok (from_shared hash k i s) path)

-- Both roots by a consistency proof: up to the level where the old tree has an odd number of values, they are those of
-- the new one.
abbrev pub both_roots : {D E : Type 0} → (D → D → Result D E) → ℕ → ℕ → ℕ → D → List D → Result (Option (D × D)) E
both_roots hash zero i s old path = from_seed hash zero i s old path
both_roots hash (suc k) i s old path =
    if i % 2 == 1 then (both_roots hash k (i / 2) (s / 2) old path) else (from_seed hash (suc k) i s old path)
