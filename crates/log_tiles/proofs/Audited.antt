-- What an audit finds of tiles, and what it finds of those of one list.
use Rattle.std.proofs.Common.{zero, suc, ◌≡◌, ℕ, ◌+◌, ◌-◌, ◌*◌, ◌/◌, ◌%◌, ◌<◌, ◌^◌, List, [], length, take, drop, get_or, Ok, refl, ap, sym, subst, ◌∙◌, inl, inr, arith}
use Rattle.std.proofs.lemmas.Bool.{cases_lt}
use Rattle.std.proofs.lemmas.List.{ext_get_or, get_or-drop, get_or-take, take_all}
use Rattle.sha2.specs.Sha256.{sha256}
use Rattle.ark_paths.specs.Pair.{Digest}
use Rattle.ark_trees.specs.Rfc6962.{node_of}
use Rattle.merkle_log.specs.Asked.{IsPeak}
use Rattle.merkle_log.specs.Log.{merkle_tree_hash}
use Rattle.merkle_log.specs.Walk.{index_up}
use Rattle.merkle_log.proofs.Tests.{mul-twice}
use Rattle.log_tiles.specs.Audit.{row_in, rows_over, tile_at, tile_of, AreRoots, AreRowsOf, AreTilesOf, AreWholeTiles, IsWholeTile}
use Rattle.log_tiles.specs.Tiles.{row_length, width_in, IsTileOf}
use Rattle.log_tiles.specs.declared.tile.Tile.{Tile}
use Rattle.log_tiles.proofs.Rows.{up-div}
use Rattle.log_tiles.proofs.TileRows.{length-row_in, no-full, part-of, roots-above, row_in-at, up-sum}
use Rattle.log_tiles.proofs.Trees.{length-rows_over, rows_over-sum}

-- ---- the tile at the right edge of a level

-- A number that is no multiple of a power of two is odd some levels up.
odd-below : (height n : ℕ) → index_up height n * 2 ^ height < n → (l : ℕ) × ((l < height) × (index_up l n % 2 ≡ 1))
odd-below zero n more = absurd (omega arith)
odd-below (suc height) n more = elim (cases_lt (n % 2) 1) [
  | inr odd ↦ (0, (omega arith, omega arith))
  | inl even ↦
      let up = odd-below height (n / 2) (omega (arith, mul-twice height (index_up height (n / 2)))) in
      (suc up.0, (omega (arith, up.1.0), up.1.1))
]

-- There the last place has the tile's digests below it.
edge-below : (l n : ℕ) → l < 8 → index_up l n % 2 ≡ 1 → (index_up l n - 1) * 2 ^ l / 256 ≡ n / 256
edge-below zero n low odd = omega arith
edge-below (suc zero) n low odd = omega arith
edge-below (suc (suc zero)) n low odd = omega arith
edge-below (suc (suc (suc zero))) n low odd = omega arith
edge-below (suc (suc (suc (suc zero)))) n low odd = omega arith
edge-below (suc (suc (suc (suc (suc zero))))) n low odd = omega arith
edge-below (suc (suc (suc (suc (suc (suc zero)))))) n low odd = omega arith
edge-below (suc (suc (suc (suc (suc (suc (suc zero))))))) n low odd = omega arith
edge-below (suc (suc (suc (suc (suc (suc (suc (suc l)))))))) n low odd = absurd (omega arith)

-- a tile by its parts
tile-is : (size : ℕ) (tile : Tile) → IsTileOf size tile → tile_at size tile.level tile.index ≡ tile
tile-is size tile own =
    let same : width_in size tile.level tile.index ≡ tile.width = sym own.1 in
    let both : record { level = tile.level; index = tile.index; width = width_in size tile.level tile.index }
    ≡ record { level = tile.level; index = tile.index; width = tile.width } = cc in both

module _ (has : Tile → List Digest) (size : ℕ) where
  -- The tile at a level's right edge is whole where that of a last place is whose digest is above it.
  edge-whole : (level l : ℕ) → l < 8 → index_up l (row_length level size) % 2 ≡ 1
      → ((level place : ℕ) → IsPeak size level place → IsWholeTile has (tile_of size level place))
      → IsWholeTile has (tile_at size level (row_length level size / 256))
  edge-whole level l low odd edge =
      let n = row_length level size in
      let up = up-sum (8 * level) l size ∙ ap (index_up l) (up-div (8 * level) size) in
      let here : (8 * level + l) / 8 ≡ level = omega arith in
      let height : (8 * level + l) % 8 ≡ l = omega arith in
      let peak : IsPeak size (8 * level + l) (index_up l n - 1) = (ap (λ m. m % 2) up ∙ odd, omega (arith, up)) in
      let same = edge-below l n low odd in
      rw (← same) (rw (here, height) at (edge (8 * level + l) (index_up l n - 1) peak))

  -- Where the full tiles are whole, and those of the last places, all tiles are.
  all-whole : size < 2 ^ 57 → ((level : ℕ) → level < 7 → AreWholeTiles has size level)
      → ((level place : ℕ) → IsPeak size level place → IsWholeTile has (tile_of size level place))
      → (tile : Tile) → IsTileOf size tile → IsWholeTile has tile
  all-whole fits full edge tile own =
      let n = row_length tile.level size in
      subst (IsWholeTile has) (tile-is size tile own) (elim (cases_lt tile.index (n / 256)) [
        | inl below ↦ elim (cases_lt tile.level 7) [
          | inl low ↦ full tile.level low tile.index below
          | inr high ↦ absurd (omega (arith, no-full tile.level size fits high))
        ]
        | inr last ↦
            let here : n / 256 ≡ tile.index = omega (arith, own.0, own.1) in
            let odd = odd-below 8 n (omega (arith, up-div 8 n, own.0, own.1)) in
            rw (← here) (edge-whole tile.level odd.0 odd.1.0 odd.1.1 edge)
      ])

  -- Where each level has the roots of the one below, they are rows over the lowest.
  rows-follow : size < 2 ^ 57 → ((level : ℕ) → level < 7 → AreRoots has size level)
      → AreRowsOf has size (row_in has size 0)
  rows-follow fits roots zero = refl
  rows-follow fits roots (suc level) =
      let next : level + 1 ≡ suc level = omega arith in
      let e : 8 * level + 8 ≡ 8 * suc level = omega arith in
      let here : AreRoots has size level = elim (cases_lt level 7) [
        | inl low ↦ roots level low
        | inr high ↦ roots-above has size level fits high
      ] in
      ap (row_in has size) (sym next) ∙ here ∙ ap (λ l. rows_over l 8) (rows-follow fits roots level)
      ∙ sym (rows_over-sum (row_in has size 0) (8 * level) 8) ∙ ap (rows_over (row_in has size 0)) e

  -- all tiles are those of the lowest level's list
  pub tiles-found : (root : Digest) → size < 2 ^ 57 → ((level : ℕ) → level < 7 → AreRoots has size level)
      → ((level : ℕ) → level < 7 → AreWholeTiles has size level)
      → ((level place : ℕ) → IsPeak size level place → IsWholeTile has (tile_of size level place))
      → ((leaves : List Digest) → AreRowsOf has size leaves → length leaves ≡ size
      → merkle_tree_hash node_of (sha256 []) leaves ≡ Ok root)
      → AreTilesOf has size root
  tiles-found root fits roots full edge leads =
      let leaves = row_in has size 0 in
      let are = rows-follow fits roots in
      let one : row_length 0 size ≡ size = sym (up-div 0 size) in
      let long = length-row_in has size 0 ∙ one in
      record {
        leaves = leaves;
        count = long;
        root_is = leads leaves are long;
        tiles = λ tile own.
            let whole = all-whole fits full edge tile own in
            let at = ap has (tile-is size tile own) in
            let part = part-of has size tile.level tile.index 0 tile.width (256 * tile.index) (omega arith)
            (omega (arith, own.1)) (omega (arith, ap length at)) (omega (arith, own.0, own.1)) in
            sym (take_all tile.width (has tile) (omega arith)) ∙ ap (take tile.width) (sym at) ∙ part
            ∙ ap (λ l. take tile.width (drop (256 * tile.index) l)) (are tile.level);
      }

  -- ---- the tiles of one list

  module _ {root : Digest} (own : AreTilesOf has size root) where
    pub rows-own : AreRowsOf has size own.leaves
    rows-own level =
        let n = row_length level size in
        let long = length-rows_over own.leaves (8 * level) ∙ ap (index_up (8 * level)) own.count
        ∙ up-div (8 * level) size in
        ext_get_or [] (row_in has size level) (rows_over own.leaves (8 * level)) (length-row_in has size level
        ∙ sym long) (λ place under.
        let below : place < n = omega (arith, length-row_in has size level) in
        let index = place / 256 in
        let tile = tile_at size level index in
        let row = rows_over own.leaves (8 * level) in
        let inside : place % 256 < width_in size level index = omega arith in
        let here : 256 * index + place % 256 ≡ place = omega arith in
        row_in-at has size level place below
        ∙ ap (λ l. get_or l (place % 256) []) (own.tiles tile (omega arith, refl))
        ∙ get_or-take (width_in size level index) (drop (256 * index) row) (place % 256) [] inside
        ∙ get_or-drop (256 * index) row (place % 256) [] ∙ ap (λ i. get_or row i []) here)

    pub roots-own : (level : ℕ) → AreRoots has size level
    roots-own level =
        let e : 8 * (level + 1) ≡ 8 * level + 8 = omega arith in
        rows-own (level + 1) ∙ ap (rows_over own.leaves) e ∙ rows_over-sum own.leaves (8 * level) 8
        ∙ ap (λ l. rows_over l 8) (sym (rows-own level))
