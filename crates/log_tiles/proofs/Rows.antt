-- The levels of tiles, as rows of a log's tree.
use Rattle.std.proofs.Common.{zero, suc, ◌≡◌, ℕ, ◌+◌, ◌-◌, ◌*◌, ◌/◌, ◌<◌, ◌≤◌, ◌^◌, List, [], ◌∷◌, ◌++◌, length, take, drop, get_or, ap, sym, ◌∙◌, inl, inr, arith, refl}
use Rattle.std.specs.Prelude.{min, All, Contains}
use Rattle.std.proofs.lemmas.List.Elements.{All-nil, All-push, Contains-append_left, Contains-append_right}
use Rattle.std.proofs.lemmas.Bool.{cases_lt}
use Rattle.std.proofs.lemmas.List.{get_or-drop, length-drop, take_more}
use Rattle.std.proofs.Math.Nat.{div-div-eq-div-mul, div-eq_of_lt, div-one, pow-succ'}
use Rattle.ark_paths.specs.Pair.{Digest}
use Rattle.merkle_log.specs.Walk.{index_up}
use Rattle.merkle_log.proofs.KeptRows.{up-rises}
use Rattle.merkle_log.proofs.Tests.{power-rises}
use Rattle.log_tiles.specs.Tiles.{row_length, width_in, IsNewTile, IsTileOf}
use Rattle.log_tiles.specs.declared.tile.Tile.{Tile}

-- an index some levels up, by division
pub up-div : (level n : ℕ) → index_up level n ≡ n / 2 ^ level
up-div zero n = sym (div-one n)
up-div (suc level) n =
    up-div level (n / 2) ∙ div-div-eq-div-mul n 2 (2 ^ level) ∙ ap (λ m. n / m) (sym (pow-succ' 2 level))

-- No log has a ninth level.
pub none-above : (level size : ℕ) → size < 2 ^ 63 → 8 ≤ level → row_length level size ≡ 0
none-above level size fits high =
    let top = power-rises 64 (8 * level) (omega arith) in
    div-eq_of_lt (omega arith)

pub row-rises : (level old_size size : ℕ) → old_size ≤ size → row_length level old_size ≤ row_length level size
row-rises level old_size size le = rw (← up-div (8 * level) old_size, ← up-div (8 * level) size) (up-rises (8 * level)
    old_size size le)

pub tile-level : (size : ℕ) (tile : Tile) → size < 2 ^ 63 → IsTileOf size tile → tile.level < 8
tile-level size tile fits own = elim (cases_lt tile.level 8) [
  | inl low ↦ low
  | inr high ↦ absurd (omega (arith, own.0, own.1, none-above tile.level size fits high))
]

-- each place of a tile is one of its row
pub tile-inside : (size place : ℕ) (tile : Tile) → IsTileOf size tile → place < tile.width
    → 256 * tile.index + place < index_up (8 * tile.level) size
tile-inside size place tile own below = rw (up-div (8 * tile.level) size) (omega (arith, own.1))

-- one digest more of a row, from a place on
pub more-of : (row : List Digest) (first place : ℕ) → first + place < length row
    → take (place + 1) (drop first row) ≡ take place (drop first row) ++ (get_or row (first + place) [] ∷ [])
more-of row first place inside =
    take_more (drop first row) place [] (omega (arith, length-drop first row))
    ∙ ap (λ d. take place (drop first row) ++ (d ∷ [])) (get_or-drop first row place [])

-- ---- tiles that came

-- a tile by its parts
tile-is : (tile : Tile) (level index width : ℕ) → tile.level ≡ level → tile.index ≡ index → tile.width ≡ width
    → tile ≡ record { level = level; index = index; width = width }
tile-is tile level index width a b c =
    let both : record { level = tile.level; index = tile.index; width = tile.width }
    ≡ record { level = level; index = index; width = width } = cc in both

module _ (old_size size level : ℕ) where
  -- From the last tile of the old log on, the tiles of a row that grew are new.
  pub is-new : (index width : ℕ) → row_length level old_size < row_length level size
      → row_length level old_size / 256 ≤ index → index * 256 < row_length level size
      → width ≡ min 256 (row_length level size - index * 256)
      → IsNewTile old_size size level (record { level = level; index = index; width = width })
  is-new index width grown from inside is = (
    refl,
    ((omega arith, omega arith), λ old. omega (arith, old.0, old.1)),
  )

  -- and no other is
  pub record ComesFrom (tile : Tile) : Type 0 where
    pub grown : row_length level old_size < row_length level size
    pub from : row_length level old_size / 256 ≤ tile.index
    pub inside : tile.index * 256 < row_length level size

  pub new-from : (tile : Tile) → old_size ≤ size → IsNewTile old_size size level tile → ComesFrom tile
  new-from tile le new =
      let rises = row-rises level old_size size le in
      let now = ap (λ l. row_length l size) new.0 in
      let was = ap (λ l. row_length l old_size) new.0 in
      let own = new.1.0 in
      elim (cases_lt (row_length level old_size) (row_length level size)) [
        | inl grown ↦
            elim (cases_lt tile.index (row_length level old_size / 256)) [
              | inl below ↦ absurd (new.1.1 (own.0, omega (arith, own.1)))
              | inr from ↦ record { grown = grown; from = from; inside = omega (arith, own.0, own.1) }
            ]
        | inr same ↦ absurd (new.1.1 (own.0, omega (arith, own.1)))
      ]

  -- A new tile is told by its index.
  pub new-same : (a b : Tile) → IsNewTile old_size size level a → IsNewTile old_size size level b → a.index ≡ b.index
      → a ≡ b
  new-same a b x y same = tile-is a b.level b.index b.width (x.0 ∙ sym y.0) same (x.1.0.1
      ∙ ap (λ l. width_in size l a.index) (x.0 ∙ sym y.0) ∙ ap (λ i. width_in size b.level i) same ∙ sym y.1.0.1)

  -- The tiles of a row up to an index are collected.
  pub record AreNew (upto : ℕ) (tiles : List Tile) : Type 0 where
    pub new : All (IsNewTile old_size size level) tiles
    pub all : (tile : Tile) → IsNewTile old_size size level tile → tile.index < upto → Contains tiles tile

  pub new-none : (upto : ℕ) (tiles : List Tile) → old_size ≤ size → upto ≡ row_length level old_size / 256 → tiles ≡ []
      → AreNew upto tiles
  new-none upto tiles le is none = record {
    new = rw none (All-nil (IsNewTile old_size size level));
    all = λ tile new below. absurd (omega (arith, (new-from tile le new).from));
  }

  pub new-more : (tiles more : List Tile) (tile : Tile) → IsNewTile old_size size level tile → AreNew tile.index tiles
      → more ≡ tiles ++ (tile ∷ []) → AreNew (tile.index + 1) more
  new-more tiles more tile own at is = record {
    new = rw is (All-push (IsNewTile old_size size level) tiles tile at.new own);
    all = rw is (λ other new below. elim (cases_lt other.index tile.index) [
      | inl under ↦ Contains-append_left tiles (tile ∷ []) other (at.all other new under)
      | inr here ↦ Contains-append_right tiles (tile ∷ []) other
          (0, omega arith, sym (new-same other tile new own (omega arith)))
    ]);
  }
