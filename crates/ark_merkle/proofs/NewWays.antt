-- Steps of the way of a new leaf digest.
use Rattle.std.proofs.Common.{◌≡◌, ◌<◌, ◌≤◌, ◌-◌, ◌/◌, ◌^◌, ◌∙◌, ℕ, suc, Bool, List, [], ◌∷◌, ◌++◌, length, map, get_or, set, Ok, Err, arith, ap, sym}
use Rattle.std.proofs.lemmas.List.{length-map, get_or-map}
use Rattle.std.specs.declared.vec.Vec.{Vec}
use Rattle.ark_base.specs.declared.error.Error.{Error}
use Rattle.ark_paths.specs.Index.{bit_at, neighbour}
use Rattle.ark_paths.specs.Pair.{Digest, HashPair, hash_in_order}
use Rattle.ark_paths.specs.Root.{root, upper_levels}
use Rattle.ark_paths.specs.Rows.{IsTree, digests_of}
use Rattle.ark_paths.proofs.OwnPaths.{leaf-neighbour}
use Rattle.ark_paths.proofs.PlaceLemmas.{level-fits, way-neighbour}
use Rattle.ark_paths.proofs.Readings.{digest_read}
use Rattle.ark_merkle.specs.Update.{AreOnWay, ChangesWay}
use Rattle.ark_merkle.proofs.Changes.{lowest-on_way, lowest-refused, next-on_way, next-refused, root-way}

module _ {A : Type 0} (leaf_numbers : A → Digest) (h : HashPair) (leaves_in : List A) (rows : List (List Digest))
    (tree : IsTree h (map leaf_numbers leaves_in) rows) (index : ℕ) (within : index < length leaves_in) where
  abbrev leaves : List Digest
  leaves = map leaf_numbers leaves_in

  inside : index < length leaves
  inside = omega (arith, length-map leaves_in leaf_numbers, within)

  pub rows-some : 0 < length rows
  rows-some = omega (arith, tree.count)

  pub beside-here : neighbour index < length leaves_in
  beside-here = rw (length-map leaves_in leaf_numbers) at (leaf-neighbour h leaves rows tree index inside)

  -- ---- the leaf digests

  module _ (digest : Digest) (place : ℕ) (place_is : place ≡ neighbour index) (sibling : A)
      (read : sibling ≡ get_or leaves_in place sibling) (is_right : Bool) (side : is_right ≡ bit_at index 0) where
    beside : get_or leaves (neighbour index) [] ≡ leaf_numbers sibling
    beside = get_or-map leaf_numbers leaves_in (neighbour index) sibling [] beside-here ∙ ap leaf_numbers
        (sym (rw place_is at read))

    pub way-first : (d : Digest) → hash_in_order h.bottom is_right digest (leaf_numbers sibling) ≡ Ok d → AreOnWay h
        (set leaves index digest) index (d ∷ [])
    way-first d hashed = lowest-on_way h leaves rows tree index inside digest (leaf_numbers sibling) beside d
        (rw side at hashed)

    pub way-first-refused : (e : Error) → hash_in_order h.bottom is_right digest (leaf_numbers sibling) ≡ Err e
        → root h (set leaves index digest) ≡ Err e
    way-first-refused e refused = lowest-refused h leaves rows tree index inside digest (leaf_numbers sibling) beside e
        (rw side at refused)

  -- ---- a level

  module _ (level : ℕ) (some : 1 ≤ level) (under : level < length rows) where
    pub shift-fits : length leaves_in < 2 ^ 64 → suc level < 64
    shift-fits fits = level-fits rows (length leaves) tree.levels level index under inside
        (omega (arith, length-map leaves_in leaf_numbers))

    pub beside-inside_row : neighbour (index / 2 ^ level) < length (get_or rows (level - 1) [])
    beside-inside_row = way-neighbour rows (length leaves) tree.levels index inside level some under

    module _ {B Y : Type 0} (numbers : B → Digest) (digest : Digest) (way : Vec B Y)
        (on_way : AreOnWay h (set leaves index digest) index (digests_of numbers way))
        (long : length way.items ≡ level) (lower : B) (lower_read : lower ≡ get_or way.items (level - 1) lower)
        (place : ℕ) (place_is : place ≡ neighbour (index / 2 ^ level)) (sibling : Digest) (read : sibling
        ≡ get_or (get_or rows (level - 1) []) place []) (is_right : Bool) (side : is_right ≡ bit_at index level) where
      lower_is : get_or (digests_of numbers way) (level - 1) [] ≡ numbers lower
      lower_is = digest_read numbers way (level - 1) lower (omega (arith, long)) lower_read

      beside_row : get_or (get_or rows (level - 1) []) (neighbour (index / 2 ^ level)) [] ≡ sibling
      beside_row = sym (rw place_is at read)

      pub way-more : (d : Digest) → hash_in_order h.upper is_right (numbers lower) sibling ≡ Ok d → AreOnWay h
          (set leaves index digest) index (digests_of numbers way ++ d ∷ [])
      way-more d hashed =
          next-on_way h leaves rows tree index inside digest (digests_of numbers way) on_way level
          (length-map way.items numbers ∙ long) some under (numbers lower) sibling lower_is beside_row d
          (rw side at hashed)

      pub way-more-refused : (e : Error) → hash_in_order h.upper is_right (numbers lower) sibling ≡ Err e
          → root h (set leaves index digest) ≡ Err e
      way-more-refused e refused =
          next-refused h leaves rows tree index inside digest (digests_of numbers way) on_way level
          (length-map way.items numbers ∙ long) some under (numbers lower) sibling lower_is beside_row e
          (rw side at refused)

  -- ---- the whole way

  module _ {B Y : Type 0} (numbers : B → Digest) (digest : Digest) (way : Vec B Y)
      (on_way : AreOnWay h (set leaves index digest) index (digests_of numbers way))
      (long : length way.items ≡ length rows) where
    whole : length (digests_of numbers way) ≡ length rows
    whole = length-map way.items numbers ∙ long

    pub way-whole : ChangesWay h leaves index digest (digests_of numbers way)
    way-whole = record { whole = whole ∙ tree.count; on_way = on_way }

    pub way-root : root h (set leaves index digest) ≡ Ok (get_or (digests_of numbers way) (upper_levels leaves) [])
    way-root = root-way h leaves rows tree index inside digest (digests_of numbers way) on_way whole
