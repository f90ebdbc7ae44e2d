-- Tiles that are written to a folder, one after the other.
use Rattle.std.proofs.Common.{◌≡◌, ◌⊎◌, inl, inr, ◌∙◌, sym, ap, subst, ℕ, ◌+◌, ◌<◌, List, length, get_or, arith}
use Rattle.std.proofs.lemmas.Bool.{cases_lt}
use Rattle.std.proofs.lemmas.List.Elements.{Contains-get_or}
use Rattle.std.specs.Prelude.{Contains}
use Rattle.log_tiles.specs.Folders.{Files, KeepsCheckpoint, Passes}
use Rattle.log_tiles.specs.Publications.{tile_bytes, IsNoOther, IsTileWritten}
use Rattle.log_tiles.specs.declared.folder.FileName.{FileName}
use Rattle.log_tiles.specs.declared.folder.FileName.TheVariants.{Checkpoint, OfTile}
use Rattle.log_tiles.specs.declared.tile.Tile.{Tile}

-- What a crash may leave of the checkpoint stays, from one state of a folder to another.
pub record Stays {F : Type 0} (Obeys : F → Type 0) (may_leave : F → Files → Type 0) (moment : F → ℕ)
    (left_since : F → ℕ → Files → Type 0) (old now : F) : Type 0 where
  pub obeyed : Obeys now → Obeys old
  pub crash : Obeys now → (left : Files) → may_leave now left → KeepsCheckpoint (may_leave old) left
  pub time : Obeys now → Passes (moment old) (moment now) (left_since old) (left_since now)
      (KeepsCheckpoint (may_leave old))

-- what stayed before stays
stays-kept : (old mid : Files → Type 0) → ((left : Files) → mid left → KeepsCheckpoint old left) → (left : Files)
    → KeepsCheckpoint mid left → KeepsCheckpoint old left
stays-kept old mid earlier left (before, is, same) =
    let (first, was, alike) = earlier before is in (first, was, same ∙ alike)

-- one state after the other
pub stays-on : {F : Type 0} (Obeys : F → Type 0) (may_leave : F → Files → Type 0) (moment : F → ℕ)
    (left_since : F → ℕ → Files → Type 0) (old mid now : F) → Stays Obeys may_leave moment left_since old mid
    → Stays Obeys may_leave moment left_since mid now → Stays Obeys may_leave moment left_since old now
stays-on Obeys may_leave moment left_since old mid now first second = record {
  obeyed = λ obeys. first.obeyed (second.obeyed obeys);
  crash = λ obeys left is.
      stays-kept (may_leave old) (may_leave mid) (first.crash (second.obeyed obeys)) left (second.crash obeys left is);
  time = λ obeys.
      let earlier = first.time (second.obeyed obeys) in
      let later = second.time obeys in record {
        later = omega (arith, earlier.later, later.later);
        nothing_else = λ t left before since.
            elim (later.nothing_else t left (omega (arith, before, earlier.later)) since) [
              | inl past ↦ earlier.nothing_else t left before past
              | inr between ↦ inr (stays-kept (may_leave old) (may_leave mid) (first.crash (second.obeyed obeys)) left
                  between)
            ];
      };
}

-- Of some tiles the first ones are written, and else nothing changed.
pub record AreWritten (rows : ℕ → List (List ℕ)) (tiles : List Tile) (count : ℕ) (old now : FileName → List ℕ → Type 0)
    : Type 0 where
  pub each : (i : ℕ) (d : Tile) → i < count → IsTileWritten rows now (get_or tiles i d)
  pub others : (name : FileName) (bytes : List ℕ) → IsNoOther rows tiles name bytes → old name bytes → now name bytes

-- a number below the next one is below it, or it
cases_last : (i n : ℕ) → i < n + 1 → (i < n) ⊎ (i ≡ n)
cases_last i n below = elim (cases_lt i n) [
  | inl less ↦ inl less
  | inr not ↦ inr (omega (arith, below, not))
]

-- the tile of a name, or another
abbrev tile_of : Tile → FileName → Tile
tile_of other (OfTile tile) = tile
tile_of other Checkpoint = other

-- one tile more is written
pub one-more : (rows : ℕ → List (List ℕ)) (tiles : List Tile) (count : ℕ) (old mid now : FileName → List ℕ → Type 0)
    (tile : Tile) → ((d : Tile) → tile ≡ get_or tiles count d) → count < length tiles
    → AreWritten rows tiles count old mid → IsTileWritten rows now tile
    → ((name : FileName) (bytes : List ℕ) → (name ≡ OfTile tile → bytes ≡ tile_bytes rows tile) → mid name bytes
    → now name bytes) → AreWritten rows tiles (count + 1) old now
one-more rows tiles count old mid now tile is within before written others = record {
  each = λ i d below. elim (cases_last i count below) [
    | inl earlier ↦ others (OfTile (get_or tiles i d)) (tile_bytes rows (get_or tiles i d))
        (ap (λ name. tile_bytes rows (tile_of tile name))) (before.each i d earlier)
    | inr last ↦ subst (IsTileWritten rows now) (is d ∙ ap (λ n. get_or tiles n d) (sym last)) written
  ];
  others = λ name bytes no_other was.
      others name bytes
      (no_other tile (subst (Contains tiles) (sym (is tile)) (Contains-get_or tiles count tile within)))
      (before.others name bytes no_other was);
}
