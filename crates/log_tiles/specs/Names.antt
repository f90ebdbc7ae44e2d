-- The names of tiles below a log's address (C2SP tlog-tiles).
use Rattle.std.specs.Prelude.{ℕ, ◌+◌, ◌/◌, ◌%◌, ◌^◌, ◌==◌, nat_lt, List, [], ◌∷◌, ◌++◌, if◌then◌else◌, codes}
use Rattle.std.specs.Fmt.{decimal}
use Rattle.log_tiles.specs.declared.tile.Tile.{Tile}

-- three digits of a number below 1000
abbrev pub three : ℕ → List ℕ
three n = (48 + n / 100) ∷ ((48 + n / 10 % 10) ∷ ((48 + n % 10) ∷ []))

-- a group of three digits of an index, behind an x and before a slash: that of so many thousands, where the index has
-- some
abbrev pub group : ℕ → ℕ → List ℕ
group n unit = if nat_lt n unit then [] else (120 ∷ (three (n / unit % 1000) ++ (47 ∷ [])))

-- an index below 10^21 in groups of three digits, an x before each but the last
abbrev pub index_path : ℕ → List ℕ
index_path n = group n (1000 ^ 6) ++ (group n (1000 ^ 5) ++ (group n (1000 ^ 4) ++ (group n (1000 ^ 3)
    ++ (group n (1000 ^ 2) ++ (group n 1000 ++ three (n % 1000))))))

-- what stands behind the index: nothing behind that of a full tile, else how many digests the tile has
abbrev pub width_path : ℕ → List ℕ
width_path width = if width == 256 then [] else (codes ".p/" ++ decimal width)

-- the name of the bundle of the entries of a tile of the lowest level
abbrev pub bundle_name : ℕ → ℕ → List ℕ
bundle_name index width = codes "tile/entries/" ++ (index_path index ++ width_path width)

-- the name of a tile
abbrev pub tile_name : Tile → List ℕ
tile_name tile = codes "tile/" ++ (decimal tile.level ++ (47 ∷ (index_path tile.index ++ width_path tile.width)))
