-- The rows of stored digests, whatever they are.
use Rattle.std.proofs.Common.{zero, suc, ◌≡◌, ℕ, ◌+◌, ◌/◌, ◌%◌, ◌<◌, ◌≤◌, List, [], ◌∷◌, length, map, take, get_or, Ok, arith, refl, ap, sym, ◌∙◌}
use Rattle.std.proofs.lemmas.List.{ext_get_or, get_or-take, length-take-le, take-take, take_all}
use Rattle.std.proofs.lemmas.List.FromFn.{take-map-range_with_len, length-map-range_with_len, get_or-map-range_with_len}
use Rattle.std.specs.List.{range_with_len}
use Rattle.ark_base.specs.declared.error.Error.{Error}
use Rattle.ark_base.specs.Outcome.{◌>>=◌}
use Rattle.ark_base.specs.Laws.Steps.{bind_ok, done_injective}
use Rattle.ark_paths.specs.Pair.{Digest}
use Rattle.ark_trees.specs.Rfc6962.{node_of}
use Rattle.merkle_log.specs.Log.{NodeHash}
use Rattle.merkle_log.specs.Stored.{stored_count, position, StoredValue, row_at, row_pairs, IsStored}
use Rattle.merkle_log.specs.Walk.{index_up}
use Rattle.merkle_log.proofs.Positions.{length-row_of, place-within, position-within, up-more}
use Rattle.merkle_log.specs.Kept.{front, stored_front, Keeps, KeepsBy}

-- ---- how long they are

pub length-up : (stored : StoredValue) (level : ℕ) → length (row_at stored (level + 1))
    ≡ length (row_at stored level) / 2
length-up stored level = length-row_of stored (level + 1) ∙ up-more level stored.size ∙ ap (λ n. n / 2)
    (sym (length-row_of stored level))

pub has-up : (stored : StoredValue) (level s : ℕ) → s ≤ length (row_at stored level) → s / 2
    ≤ length (row_at stored (level + 1))
has-up stored level s le = omega (arith, length-up stored level)

pub whole-up : (stored : StoredValue) (level s : ℕ) → s % 2 ≡ 1 → s < length (row_at stored level) → s / 2
    < length (row_at stored (level + 1))
whole-up stored level s odd below = omega (arith, length-up stored level)

pub up-rises : (level a b : ℕ) → a ≤ b → index_up level a ≤ index_up level b
up-rises zero a b le = le
up-rises (suc level) a b le = up-rises level (a / 2) (b / 2) (omega arith)

pub front-long : (stored : StoredValue) (size : ℕ) → stored.size ≡ size → stored_count size ≤ length stored.digests
    → length (stored_front stored) ≡ stored_count size
front-long stored size is le = length-take-le (stored_count stored.size) stored.digests (rw (is) le) ∙ ap
    stored_count is

-- ---- of fewer leaves

-- Stored digests that agree in front have the same rows.
pub rows-agree : (size : ℕ) (xs ys : List Digest) → take (stored_count size) xs ≡ take (stored_count size) ys
    → (level : ℕ) → row_at (front size xs) level ≡ row_at (front size ys) level
rows-agree size xs ys same level =
    let n = index_up level size in
    let left : ℕ → Digest = λ place. get_or xs (position level place) [] in
    let right : ℕ → Digest = λ place. get_or ys (position level place) [] in
    ext_get_or [] (map left (range_with_len 0 n)) (map right (range_with_len 0 n))
    (length-map-range_with_len left 0 n ∙ sym (length-map-range_with_len right 0 n))
    (λ place below. at place (omega (arith, length-map-range_with_len left 0 n)))
  where
    read : (place : ℕ) → place < index_up level size → get_or xs (position level place) []
        ≡ get_or ys (position level place) []
    read place below =
        let inside = position-within level place size (place-within level place size below) in
        sym (get_or-take (stored_count size) xs (position level place) [] inside)
        ∙ ap (λ l. get_or l (position level place) []) same
        ∙ get_or-take (stored_count size) ys (position level place) [] inside

    at : (place : ℕ) → place < index_up level size
        → get_or (map (λ place. get_or xs (position level place) []) (range_with_len 0 (index_up level size))) place []
        ≡ get_or (map (λ place. get_or ys (position level place) []) (range_with_len 0 (index_up level size))) place []
    at place below =
        get_or-map-range_with_len (λ place. get_or xs (position level place) []) 0 (index_up level size) place place []
        below (omega arith) ∙ read place below
        ∙ sym (get_or-map-range_with_len (λ place. get_or ys (position level place) []) 0 (index_up level size) place
        place [] below (omega arith))

-- The rows of fewer leaves are the fronts of those of more.
pub rows-fewer : (fewer size : ℕ) (xs : List Digest) → fewer ≤ size → (level : ℕ) → row_at (front fewer xs) level
    ≡ take (index_up level fewer) (row_at (front size xs) level)
rows-fewer fewer size xs le level =
    sym (take-map-range_with_len (λ place. get_or xs (position level place) []) 0 (index_up level size)
    (index_up level fewer) (up-rises level fewer size le))

half-more : (n : ℕ) → suc (suc n) / 2 ≡ suc (n / 2)
half-more n = omega arith

pub row_pairs-front : (hash : NodeHash) (n : ℕ) (row next : List Digest) → row_pairs hash row ≡ Ok next
    → row_pairs hash (take n row) ≡ Ok (take (n / 2) next)
row_pairs-front hash zero row next is = refl
row_pairs-front hash (suc zero) [] next is = refl
row_pairs-front hash (suc zero) (a ∷ row) next is = refl
row_pairs-front hash (suc (suc n)) [] next is =
    rw (← done_injective {E = Error} [] next is, half-more n) refl
row_pairs-front hash (suc (suc n)) (a ∷ []) next is =
    rw (← done_injective {E = Error} [] next is, half-more n) refl
row_pairs-front hash (suc (suc n)) (a ∷ b ∷ row) next is =
    let h = bind_ok (hash a b) (λ c. row_pairs hash row >>= λ next. Ok (c ∷ next)) next is in
    let more = bind_ok (row_pairs hash row) (λ next. Ok (h.0 ∷ next)) next h.2 in
    let e : h.0 ∷ more.0 ≡ next = done_injective {E = Error} (h.0 ∷ more.0) next more.2 in
    ap (λ o. o >>= λ c. row_pairs hash (take n row) >>= λ next. Ok (c ∷ next)) h.1
    ∙ ap (λ o. o >>= λ next. Ok (h.0 ∷ next)) (row_pairs-front hash n row more.0 more.1)
    ∙ ap (λ l. Ok (take (suc (n / 2)) l)) e ∙ ap (λ k. Ok (take k next)) (sym (half-more n))

pub stored-fewer : (hash : NodeHash) (fewer size : ℕ) (xs : List Digest) → fewer ≤ size
    → IsStored hash (row_at (front size xs)) → IsStored hash (row_at (front fewer xs))
stored-fewer hash fewer size xs le stored = record {
  pairs = λ level.
      let e : level + 1 ≡ suc level = omega arith in
      ap (row_pairs hash) (rows-fewer fewer size xs le level)
      ∙ row_pairs-front hash (index_up level fewer) (row_at (front size xs) level) (row_at (front size xs) (suc level))
      (stored.pairs level)
      ∙ ap (λ n. Ok (take n (row_at (front size xs) (suc level)))) (sym (up-more level fewer) ∙ ap (λ l. index_up l
      fewer) e)
      ∙ ap Ok (sym (rows-fewer fewer size xs le (suc level)));
}

-- Rows that are the same are hashed alike.
pub stored-same : (hash : NodeHash) (rows others : ℕ → List Digest) → ((level : ℕ) → rows level ≡ others level)
    → IsStored hash rows → IsStored hash others
stored-same hash rows others same stored = record {
  pairs = λ level. ap (row_pairs hash) (sym (same level)) ∙ stored.pairs level ∙ ap Ok (same (suc level));
}

-- ---- what is kept, of fewer leaves

-- what is kept by the hash of nodes, said of that hash, and back
pub keeps-by : {leaves kept : List Digest} → Keeps leaves kept → KeepsBy node_of leaves kept
keeps-by keeps = record { inside = keeps.inside; lowest = keeps.lowest; hashed = keeps.hashed }

pub by-keeps : {leaves kept : List Digest} → KeepsBy node_of leaves kept → Keeps leaves kept
by-keeps keeps = record { inside = keeps.inside; lowest = keeps.lowest; hashed = keeps.hashed }

module _ {hash : NodeHash} {leaves kept : List Digest} (keeps : KeepsBy hash leaves kept) (size : ℕ)
    (le : size ≤ length leaves) where
  pub fewer-hashed-by : IsStored hash (row_at (front size kept))
  fewer-hashed-by = stored-fewer hash size (length leaves) kept le keeps.hashed

  pub fewer-lowest-by : row_at (front size kept) 0 ≡ take size leaves
  fewer-lowest-by = rows-fewer size (length leaves) kept le 0 ∙ ap (take size) keeps.lowest

  pub fewer-first-by : take size (row_at (front size kept) 0) ≡ take size leaves
  fewer-first-by = ap (take size) fewer-lowest-by ∙ take-take size size leaves (omega arith)

module _ {leaves kept : List Digest} (keeps : Keeps leaves kept) (size : ℕ) (le : size ≤ length leaves) where
  pub fewer-hashed : IsStored node_of (row_at (front size kept))
  fewer-hashed = fewer-hashed-by (keeps-by keeps) size le

  pub fewer-first : take size (row_at (front size kept) 0) ≡ take size leaves
  fewer-first = fewer-first-by (keeps-by keeps) size le

-- ---- what is kept, and nothing behind it

module _ {hash : NodeHash} {leaves kept : List Digest} (keeps : KeepsBy hash leaves kept) (size : ℕ)
    (count : length leaves ≡ size) where
  same : (level : ℕ) → row_at (front size kept) level ≡ row_at (front size (take (stored_count size) kept)) level
  same level = rows-agree size kept (take (stored_count size) kept)
      (sym (take-take (stored_count size) (stored_count size) kept (omega arith))) level

  pub cut-hashed : IsStored hash (row_at (front size (take (stored_count size) kept)))
  cut-hashed = stored-same hash _ _ same (fewer-hashed-by keeps size (omega arith))

  pub cut-lowest : row_at (front size (take (stored_count size) kept)) 0 ≡ leaves
  cut-lowest = sym (same 0) ∙ fewer-lowest-by keeps size (omega arith) ∙ take_all size leaves (omega arith)

-- ---- what keeps a list

pub kept-by : (hash : NodeHash) (size : ℕ) (leaves kept : List Digest) → length leaves ≡ size
    → stored_count size ≤ length kept → row_at (front size kept) 0 ≡ leaves
    → IsStored hash (row_at (front size kept)) → KeepsBy hash leaves kept
kept-by hash size leaves kept count inside lowest hashed = record {
  inside = rw (count) inside;
  lowest = ap (λ n. row_at (front n kept) 0) count ∙ lowest;
  hashed = rw (count) hashed;
}

pub keeps-of : (size : ℕ) (leaves kept : List Digest) → length leaves ≡ size → stored_count size ≤ length kept
    → row_at (front size kept) 0 ≡ leaves → IsStored node_of (row_at (front size kept)) → Keeps leaves kept
keeps-of size leaves kept count inside lowest hashed =
    by-keeps (kept-by node_of size leaves kept count inside lowest hashed)
