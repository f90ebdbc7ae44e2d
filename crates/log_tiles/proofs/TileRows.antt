-- The levels of tiles, place by place.
use Rattle.std.proofs.Common.{zero, suc, ◌≡◌, ℕ, ◌+◌, ◌*◌, ◌/◌, ◌%◌, ◌<◌, ◌≤◌, ◌^◌, List, [], length, take, drop, get_or, refl, ap, sym, ◌∙◌, arith}
use Rattle.std.specs.Prelude.{min}
use Rattle.std.proofs.lemmas.List.{ext_get_or, get_or-drop, get_or-take, length-drop, length-take-le, take-take}
use Rattle.std.proofs.lemmas.List.FromFn.{length-map-range_with_len, get_or-map-range_with_len}
use Rattle.ark_paths.specs.Pair.{Digest}
use Rattle.merkle_log.specs.Walk.{index_up}
use Rattle.merkle_log.proofs.Positions.{place-within}
use Rattle.log_store.proofs.Reading.{up-less}
use Rattle.log_tiles.specs.Audit.{roots_in, row_in, rows_over, tile_at, AreRoots, AreRowsOf, IsWholeTile}
use Rattle.log_tiles.specs.Tiles.{row_length}
use Rattle.log_tiles.specs.declared.tile.Tile.{Tile}
use Rattle.log_tiles.proofs.Rows.{none-above, up-div}
use Rattle.log_tiles.proofs.Trees.{length-rows_over, root-of-part, rows_over-sum}

-- ---- how long they are

-- an index some levels up, and then more
pub up-sum : (level more n : ℕ) → index_up (level + more) n ≡ index_up more (index_up level n)
up-sum zero more n = let e : 0 + more ≡ more = omega arith in ap (λ l. index_up l n) e
up-sum (suc level) more n =
    let e : suc level + more ≡ suc (level + more) = omega arith in
    ap (λ l. index_up l n) e ∙ up-sum level more (n / 2)

-- the next level of tiles
row_length-next : (level size : ℕ) → row_length (level + 1) size ≡ index_up 8 (row_length level size)
row_length-next level size =
    let e : 8 * (level + 1) ≡ 8 * level + 8 = omega arith in
    sym (up-div (8 * (level + 1)) size) ∙ ap (λ l. index_up l size) e ∙ up-sum (8 * level) 8 size
    ∙ ap (index_up 8) (up-div (8 * level) size)

pub row_length-tiles : (level size : ℕ) → row_length (level + 1) size ≡ row_length level size / 256
row_length-tiles level size = row_length-next level size ∙ up-div 8 (row_length level size)

-- One tile has all digests below a complete place.
aligned : (height place : ℕ) → height < 8 → place * 2 ^ height % 256 + 2 ^ height ≤ 256
aligned zero place low = omega arith
aligned (suc zero) place low = omega arith
aligned (suc (suc zero)) place low = omega arith
aligned (suc (suc (suc zero))) place low = omega arith
aligned (suc (suc (suc (suc zero)))) place low = omega arith
aligned (suc (suc (suc (suc (suc zero))))) place low = omega arith
aligned (suc (suc (suc (suc (suc (suc zero)))))) place low = omega arith
aligned (suc (suc (suc (suc (suc (suc (suc zero))))))) place low = omega arith
aligned (suc (suc (suc (suc (suc (suc (suc (suc height)))))))) place low = absurd (omega arith)

complete : (level place size : ℕ) → place < index_up level size
    → place * 2 ^ (level % 8) + 2 ^ (level % 8) ≤ row_length (level / 8) size
complete level place size below =
    let e : level ≡ 8 * (level / 8) + level % 8 = omega arith in
    let up = ap (λ l. index_up l size) e ∙ up-sum (8 * (level / 8)) (level % 8) size
    ∙ ap (index_up (level % 8)) (up-div (8 * (level / 8)) size) in
    omega (
      arith,
      place-within (level % 8) place (row_length (level / 8) size) (omega (arith, up)),
      one-more place (2 ^
          (level % 8)),
    )
  where
    one-more : (place n : ℕ) → (place + 1) * n ≡ place * n + n
    one-more place n = omega arith

-- and the product that the program takes of it is no larger than a size
pub no-larger : (level place size first count : ℕ) → size < 2 ^ 57 → place < index_up level size
    → count ≡ 2 ^ (level % 8) → first ≡ min (place * count) 18446744073709551615 → first ≡ place * 2 ^ (level % 8)
no-larger level place size first count fits below many is =
    let inside = complete level place size below in
    let less = up-less (8 * (level / 8)) size in
    let same = up-div (8 * (level / 8)) size in
    let product : place * count ≡ place * 2 ^ (level % 8) = ap (λ n. place * n) many in
    is ∙ omega arith

-- The highest level of tiles has no full one.
pub no-full : (level size : ℕ) → size < 2 ^ 57 → 7 ≤ level → row_length level size / 256 ≡ 0
no-full level size fits high =
    sym (row_length-tiles level size) ∙ none-above (level + 1) size (omega arith) (omega arith)

-- ---- what tiles have

module _ (has : Tile → List Digest) (size : ℕ) where
  pub length-row_in : (level : ℕ) → length (row_in has size level) ≡ row_length level size
  length-row_in level = length-map-range_with_len
      (λ place. get_or (has (tile_at size level (place / 256))) (place % 256) []) 0 (row_length level size)

  pub row_in-at : (level place : ℕ) → place < row_length level size → get_or (row_in has size level) place []
      ≡ get_or (has (tile_at size level (place / 256))) (place % 256) []
  row_in-at level place below = get_or-map-range_with_len
      (λ place. get_or (has (tile_at size level (place / 256))) (place % 256) []) 0 (row_length level size) place place
      [] below (omega arith)

  -- a part of a tile is one of its row
  pub part-of : (level index from count first : ℕ) → first ≡ 256 * index + from → from + count ≤ 256
      → from + count ≤ length (has (tile_at size level index)) → first + count ≤ row_length level size
      → take count (drop from (has (tile_at size level index))) ≡ take count (drop first (row_in has size level))
  part-of level index from count first is low whole inside =
      let tile = has (tile_at size level index) in
      let row = row_in has size level in
      let long : length (take count (drop from tile)) ≡ count = length-take-le count (drop from tile)
      (omega (arith, length-drop from tile)) in
      let all : length (take count (drop first row)) ≡ count = length-take-le count (drop first row)
      (omega (arith, length-drop first row, length-row_in level)) in
      ext_get_or [] (take count (drop from tile)) (take count (drop first row)) (long ∙ sym all) (λ k below.
      let under : k < count = omega arith in
      let own : (first + k) / 256 ≡ index = omega arith in
      let place : (first + k) % 256 ≡ from + k = omega arith in
      get_or-take count (drop from tile) k [] under ∙ get_or-drop from tile k []
      ∙ ap (λ n. get_or tile n []) (sym place)
      ∙ ap (λ i. get_or (has (tile_at size level i)) ((first + k) % 256) []) (sym own)
      ∙ sym (row_in-at level (first + k) (omega arith)) ∙ sym (get_or-drop first row k [])
      ∙ sym (get_or-take count (drop first row) k [] under))

  -- The root of some digests of a tile is the digest of a row above.
  root-of-tile : (level index from height place count : ℕ) → count ≡ 2 ^ height
      → place * 2 ^ height ≡ 256 * index + from → from + count ≤ 256
      → from + count ≤ length (has (tile_at size level index))
      → place * 2 ^ height + count ≤ row_length level size
      → get_or (rows_over (take count (drop from (has (tile_at size level index)))) height) 0 []
      ≡ get_or (rows_over (row_in has size level) height) place []
  root-of-tile level index from height place count many is low whole inside =
      ap (λ l. get_or (rows_over l height) 0 []) (part-of level index from count (place * 2 ^ height) is low whole
      inside) ∙ root-of-part (row_in has size level) height place (place * 2 ^ height) count refl many

  -- what is read of a tile
  pub first-of : (level place : ℕ) (into : List Digest)
      → into ≡ take 1 (drop (place % 256) (has (tile_at size level (place / 256)))) → place < row_length level size
      → get_or into 0 [] ≡ get_or (row_in has size level) place []
  first-of level place into read below =
      let own = has (tile_at size level (place / 256)) in
      let here : place % 256 + 0 ≡ place % 256 = omega arith in
      ap (λ l. get_or l 0 []) read ∙ get_or-take 1 (drop (place % 256) own) 0 [] (omega arith)
      ∙ get_or-drop (place % 256) own 0 [] ∙ ap (λ n. get_or own n []) here ∙ sym (row_in-at level place below)

  pub full-root : (level index : ℕ) (into : List Digest) → into ≡ take 256 (drop 0 (has (tile_at size level index)))
      → IsWholeTile has (tile_at size level index) → index < row_length level size / 256
      → get_or (rows_over (take 256 into) 8) 0 [] ≡ get_or (roots_in has size level) index []
  full-root level index into read whole below =
      ap (λ l. get_or (rows_over l 8) 0 []) (ap (take 256) read ∙ take-take 256 256 (drop 0 (has (tile_at size level
      index))) (omega arith))
      ∙ root-of-tile level index 0 8 index 256 refl (omega arith) (omega arith) (omega arith) (omega arith)

  pub part-root : (level place first count : ℕ) (digests : List Digest) → count ≡ 2 ^ (level % 8)
      → first ≡ place * 2 ^ (level % 8) → place < index_up level size
      → take count digests ≡ take count (drop (first % 256) (has (tile_at size (level / 8) (first / 256))))
      → IsWholeTile has (tile_at size (level / 8) (first / 256))
      → get_or (rows_over (take (2 ^ (level % 8)) digests) (level % 8)) 0 []
      ≡ get_or (rows_over (row_in has size (level / 8)) (level % 8)) place []
  part-root level place first count digests many is below read whole =
      let height = level % 8 in
      let own : 256 * (first / 256) + first % 256 ≡ first = omega arith in
      let low : first % 256 + count ≤ 256 = rw (is, many) (aligned height place (omega arith)) in
      let inside : place * 2 ^ height + count ≤ row_length (level / 8) size =
      omega (arith, complete level place size below) in
      ap (λ n. get_or (rows_over (take n digests) height) 0 []) (sym many)
      ∙ ap (λ l. get_or (rows_over l height) 0 []) read
      ∙ root-of-tile (level / 8) (first / 256) (first % 256) height place count many (sym (own ∙ is)) low
      (omega arith) inside

  -- A level whose full tiles have these roots.
  pub roots-of : (level : ℕ) → ((index : ℕ) → index < row_length level size / 256
      → get_or (row_in has size (level + 1)) index [] ≡ get_or (roots_in has size level) index [])
      → AreRoots has size level
  roots-of level each =
      let long = length-row_in (level + 1) ∙ row_length-next level size in
      let all = length-rows_over (row_in has size level) 8 ∙ ap (index_up 8) (length-row_in level) in
      ext_get_or [] (row_in has size (level + 1)) (roots_in has size level) (long ∙ sym all) (λ index below.
      each index (omega (arith, length-row_in (level + 1), row_length-tiles level size)))

  pub roots-above : (level : ℕ) → size < 2 ^ 57 → 7 ≤ level → AreRoots has size level
  roots-above level fits high = roots-of level (λ index below. absurd (omega (arith, no-full level size fits high)))

  -- ---- the rows of one list

  pub peak-of : (leaves : List Digest) → AreRowsOf has size leaves → (level place : ℕ)
      → get_or (rows_over (row_in has size (level / 8)) (level % 8)) place [] ≡ get_or (rows_over leaves level) place []
  peak-of leaves are level place =
      let e : 8 * (level / 8) + level % 8 ≡ level = omega arith in
      ap (λ l. get_or (rows_over l (level % 8)) place []) (are (level / 8))
      ∙ ap (λ l. get_or l place []) (sym (rows_over-sum leaves (8 * (level / 8)) (level % 8))
      ∙ ap (rows_over leaves) e)
