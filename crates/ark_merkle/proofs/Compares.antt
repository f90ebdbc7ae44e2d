-- Steps of the comparison of a path with a tree.
use Rattle.std.proofs.Common.{◌≡◌, ◌<◌, ◌≤◌, ◌+◌, ◌-◌, ◌/◌, ◌%◌, ◌^◌, ◌∙◌, ◌&&◌, if◌then◌else◌, ℕ, suc, Bool, Option, None, Some, List, [], length, map, get_or, Ok, Err, arith, refl, ap, sym, pow_pos, mod-lt, add-one}
use Rattle.std.proofs.lemmas.List.{length-map, get_or-map}
use Rattle.ark_base.specs.declared.error.Error.{Error}
use Rattle.ark_paths.specs.Bind.{path_pair, tree_pair, is_other, first_level, difference}
use Rattle.ark_paths.specs.Index.{bit_at, neighbour}
use Rattle.ark_paths.specs.Pair.{Digest, HashPair, digest_eq, hash_in_order}
use Rattle.ark_paths.specs.Path.{Way, path_root}
use Rattle.ark_paths.specs.Root.{upper_levels}
use Rattle.ark_paths.specs.Rows.{IsTree}
use Rattle.ark_paths.proofs.Binds.{own-inside, first_level-up, top_from, top_from-refused, top_from-last, differs, differs-last, differs-row, top_from-row}
use Rattle.ark_paths.proofs.OwnPaths.{leaf-neighbour}
use Rattle.ark_paths.proofs.PlaceLemmas.{level-fits, place-inside, way-neighbour}

-- the first level, from one on, at which a path and a tree differ
abbrev pub difference_from : HashPair → List Digest → Way → Digest → ℕ → ℕ → Option ℕ
difference_from h leaves way digest level count =
    first_level (λ l. is_other (path_pair h way digest l) (tree_pair h leaves way.index l)) level count

module _ {A B : Type 0} (leaf_numbers : A → Digest) (h : HashPair) (leaves_in : List A) (rows : List (List Digest))
    (tree : IsTree h (map leaf_numbers leaves_in) rows) (above_in : List B)
    (count : length rows ≡ suc (length above_in)) (index : ℕ) where
  abbrev leaves : List Digest
  leaves = map leaf_numbers leaves_in

  long : length leaves ≡ length leaves_in
  long = length-map leaves_in leaf_numbers

  levels : length above_in ≡ upper_levels leaves
  levels = omega (arith, tree.count, count)

  own : index % length leaves_in ≡ index % length leaves
  own = ap (λ (n : ℕ). index % n) (sym long)

  pub leaves-some : 0 < length leaves_in
  leaves-some = omega (arith, long, tree.size, pow_pos (suc (upper_levels leaves)))

  pub own-here : index % length leaves_in < length leaves_in
  own-here = mod-lt index leaves-some

  pub beside-here : neighbour (index % length leaves_in) < length leaves_in
  beside-here = rw (own, ← long) (leaf-neighbour h leaves rows tree (index % length leaves) (own-inside h leaves rows
      tree index))

  module _ (step : ℕ) (below : step < length above_in) where
    inside : step < length rows
    inside = omega (arith, count)

    pub step-fits : length leaves_in < 2 ^ 64 → suc step < 64
    step-fits fits = level-fits rows (length leaves) tree.levels step (index % length leaves) inside
        (own-inside h leaves rows tree index) (omega (arith, long))

    pub own-in_row : index % length leaves_in / 2 ^ (step + 1) < length (get_or rows step [])
    own-in_row = rw (own, add-one) (place-inside rows (length leaves) tree.levels step (index % length leaves) inside
        (own-inside h leaves rows tree index))

    pub beside-in_row : neighbour (index % length leaves_in / 2 ^ (step + 1)) < length (get_or rows step [])
    beside-in_row =
        let there = way-neighbour rows (length leaves) tree.levels (index % length leaves) (own-inside h leaves rows
        tree index) (step + 1) (omega arith) (omega (arith, count)) in
        let back : step + 1 - 1 ≡ step = omega arith in
        rw own (rw back at there)

  -- ---- of a path

  module _ (numbers : B → Digest) (sibling : Digest) (digest : Digest) where
    abbrev way : Way
    way = record { sibling = sibling; above = map numbers above_in; index = index }

    high : length way.above ≡ upper_levels leaves
    high = length-map above_in numbers ∙ levels

    pub climb-first : (current : Digest) (is_right : Bool) → is_right ≡ bit_at index 0 → hash_in_order h.bottom is_right
        digest sibling ≡ Ok current → top_from h way digest (length above_in - 0) ≡ Ok current
    climb-first current is_right side hashed =
        top_from-last h way digest (length above_in - 0) (omega (arith, levels, high)) ∙ rw side at hashed

    pub climb-first-refused : (is_right : Bool) → is_right ≡ bit_at index 0 → (e : Error) → hash_in_order h.bottom
        is_right digest sibling ≡ Err e → path_root h way digest ≡ Err e
    climb-first-refused is_right side e refused = let first = rw side at refused in rw first refl

    pub differs-first : (is_own : Bool) (place : ℕ) (own_in beside_in : A) (o : Option ℕ) → is_own
        ≡ (digest_eq digest (leaf_numbers own_in) && digest_eq sibling (leaf_numbers beside_in))
        → own_in ≡ get_or leaves_in (index % length leaves_in) own_in → place ≡ neighbour (index % length leaves_in)
        → beside_in ≡ get_or leaves_in place beside_in → o ≡ (if is_own then None else Some (length above_in))
        → o ≡ difference_from h leaves way digest (length above_in - 0) 1
    differs-first is_own place own_in beside_in o is own_is at beside_is answer =
        let level = length above_in - 0 in
        let here : leaf_numbers own_in ≡ get_or leaves (index % length leaves_in) [] = ap leaf_numbers own_is
        ∙ sym (get_or-map leaf_numbers leaves_in (index % length leaves_in) own_in [] own-here) in
        let there : leaf_numbers beside_in ≡ get_or leaves (neighbour (index % length leaves_in)) [] =
        ap leaf_numbers (rw at at beside_is) ∙ sym (get_or-map leaf_numbers leaves_in
        (neighbour (index % length leaves_in)) beside_in [] beside-here) in
        let same : length above_in ≡ level = omega arith in
        first_level-up (differs h leaves rows tree way digest high) level (suc level) 0 1 is_own None o refl refl
        (differs-last h leaves rows tree way digest high level (omega (arith, levels)) is_own (rw (here, there, own)
        at is)) refl (rw same at answer)

    -- all levels have been compared
    pub differs-end : (step : ℕ) (o : Option ℕ) → length above_in ≤ step → step ≤ length above_in → o ≡ difference_from
        h leaves way digest (length above_in - step) (suc step) → o ≡ difference h leaves way digest
    differs-end step o past within so =
        let none : length above_in - step ≡ 0 = omega arith in
        let all : step ≡ upper_levels leaves = omega (arith, levels) in
        rw (none, all) at so

    -- a row
    module _ (step : ℕ) (below : step < length above_in) (current : Digest)
        (so : top_from h way digest (length above_in - step) ≡ Ok current) (beside : B)
        (read : beside ≡ get_or above_in (length above_in - 1 - step) beside) where
      level : ℕ
      level = length above_in - (step + 1)

      up : length above_in - step ≡ suc level
      unfolding level
      up = omega arith

      here : level + suc step ≡ upper_levels leaves
      unfolding level
      here = omega (arith, levels)

      same : length above_in - 1 - step ≡ level
      unfolding level
      same = omega arith

      beside_is : get_or way.above level [] ≡ numbers beside
      unfolding level
      beside_is = get_or-map numbers above_in level beside [] (omega arith) ∙ ap numbers (sym (rw same at read))

      next : top_from h way digest level ≡ hash_in_order h.upper (bit_at index (step + 1)) current (numbers beside)
      next = rw (add-one, ← beside_is) (top_from-row h leaves rows tree way digest high level step here current
          (rw up at so))

      pub climb-refused : (is_right : Bool) → is_right ≡ bit_at index (step + 1) → (e : Error) → hash_in_order h.upper
          is_right current (numbers beside) ≡ Err e → path_root h way digest ≡ Err e
      climb-refused is_right side e refused = top_from-refused h way digest level e (next ∙ rw side at refused)

      pub climb-more : (higher : Digest) (is_right : Bool) → is_right ≡ bit_at index (step + 1) → hash_in_order h.upper
          is_right current (numbers beside) ≡ Ok higher → top_from h way digest (length above_in - (step + 1))
          ≡ Ok higher
      unfolding level
      climb-more higher is_right side hashed = next ∙ rw side at hashed

      pub differs-more : (place : ℕ) → place ≡ neighbour (index % length leaves_in / 2 ^ (step + 1))
          → (own_row beside_row : Digest)
          → own_row ≡ get_or (get_or rows step []) (index % length leaves_in / 2 ^ (step + 1)) [] → beside_row
          ≡ get_or (get_or rows step []) place [] → (is_own : Bool)
          → is_own ≡ (digest_eq current own_row && digest_eq (numbers beside) beside_row)
          → (lower o : Option ℕ) → lower ≡ difference_from h leaves way digest (length above_in - step) (suc step) → o
          ≡ (if is_own then lower else Some (length above_in - 1 - step))
          → o ≡ difference_from h leaves way digest (length above_in - (step + 1)) (suc (step + 1))
      unfolding level
      differs-more place at own_row beside_row own_is beside_row_is is_own stands lower o so_far answer =
          let one : step + 1 ≡ suc step = omega arith in
          let stood = rw (rw at at beside_row_is, own_is, own, one, ← beside_is) at stands in
          let differ = differs-row h leaves rows tree way digest high level step here current (rw up at so)
          is_own stood in
          first_level-up (differs h leaves rows tree way digest high) level (length above_in - step) (suc step)
          (suc (step + 1)) is_own lower o (sym up) (omega arith) differ so_far (rw same at answer)
