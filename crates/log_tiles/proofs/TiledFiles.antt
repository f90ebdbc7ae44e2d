-- The file that a log would have whose digests lie in tiles.
use Rattle.std.proofs.Common.{zero, suc, ◌≡◌, ℕ, ◌+◌, ◌*◌, ◌/◌, ◌%◌, ◌<◌, ◌≤◌, ◌^◌, true, List, [], ◌∷◌, ◌++◌, length, take, drop, get_or, refl, ap, sym, subst, ◌∙◌, arith}
use Rattle.std.specs.Prelude.{All}
use Rattle.std.specs.List.{flat_map, AllByRecursion}
use Rattle.std.specs.Simd.{first_chunks}
use Rattle.std.proofs.Math.Seq.{take-add}
use Rattle.std.proofs.lemmas.List.{append-nil, drop-drop, drop_at, length-append, take_at}
use Rattle.std.proofs.lemmas.List.Elements.{recursion_from_All}
use Rattle.sha2.proofs.Facts256.{length-sha256}
use Rattle.ark_base.specs.Digits.{itself}
use Rattle.ark_paths.specs.Pair.{Digest}
use Rattle.ark_trees.specs.Rfc6962.{node_hash, node_of}
use Rattle.merkle_log.specs.Frontier.{complete_pairs}
use Rattle.merkle_log.specs.Kept.{front, Keeps}
use Rattle.merkle_log.specs.Stored.{row_at, stored_count}
use Rattle.merkle_log.specs.Walk.{index_up}
use Rattle.merkle_log.proofs.KeptRows.{keeps-of, stored-same}
use Rattle.log_file.specs.LogFile.{file_end, slot, stored_in, title, IsLogFile}
use Rattle.log_file.proofs.Files.{log-holds}
use Rattle.log_file.proofs.Heads.{HasHead, Uses}
use Rattle.log_store.proofs.Recovering.{behind, both, has-head, long}
use Rattle.log_tiles.specs.Audit.{row_in, rows_over, tile_at, AreTilesOf}
use Rattle.log_tiles.specs.Tiled.{tiled_digests, tiled_file, tiled_row, HaveDigests}
use Rattle.log_tiles.specs.Tiles.{row_length}
use Rattle.log_tiles.specs.declared.tile.Tile.{Tile}
use Rattle.log_tiles.proofs.Audited.{rows-own}
use Rattle.log_tiles.proofs.Completed.{length-stored, rows-of, stored-all}
use Rattle.log_tiles.proofs.Rows.{up-div}
use Rattle.log_tiles.proofs.TileRows.{length-row_in, peak-of, row_in-at, up-sum}
use Rattle.log_tiles.proofs.Trees.{length-rows_over, rows-stored}

-- ---- digests one behind the other

abbrev pub IsLong : Digest → Type 0
IsLong digest = length digest ≡ 32

length-flat : (digests : List Digest) → AllByRecursion IsLong digests
    → length (flat_map itself digests) ≡ 32 * length digests
length-flat [] all = refl
length-flat (digest ∷ rest) all =
    omega (arith, length-append digest (flat_map itself rest), all.0, length-flat rest all.1)

chunks-of : (digests : List Digest) → AllByRecursion IsLong digests
    → first_chunks 32 (length digests) (flat_map itself digests) ≡ digests
chunks-of [] all = refl
chunks-of (digest ∷ rest) all = rw (
  take_at digest (flat_map itself rest) 32 all.0,
  drop_at digest (flat_map itself rest) 32 all.0,
) (ap (λ more. digest ∷ more) (chunks-of rest all.1))

flat-at : (digests : List Digest) (at : ℕ) → AllByRecursion IsLong digests → at < length digests
    → take 32 (drop (32 * at) (flat_map itself digests)) ≡ get_or digests at []
flat-at [] at all below = absurd (omega arith)
flat-at (digest ∷ rest) zero all below = take_at digest (flat_map itself rest) 32 all.0
flat-at (digest ∷ rest) (suc at) all below =
    let more : 32 * suc at ≡ 32 + 32 * at = omega arith in
    ap (λ n. take 32 (drop n (flat_map itself (digest ∷ rest)))) more
    ∙ ap (take 32) (sym (drop-drop (32 * at) 32 (flat_map itself (digest ∷ rest)))
    ∙ ap (drop (32 * at)) (drop_at digest (flat_map itself rest) 32 all.0))
    ∙ flat-at rest at all.1 (omega arith)

-- One digest more was read.
pub read-more : (digests : List Digest) (at place : ℕ) (old new digest : List ℕ) → All IsLong digests
    → at + place < length digests
    → take (32 * place) old ≡ take (32 * place) (drop (32 * at) (flat_map itself digests))
    → take (32 * place + 32) new ≡ take (32 * place) old ++ digest → digest ≡ get_or digests (at + place) []
    → take (32 * (place + 1)) new ≡ take (32 * (place + 1)) (drop (32 * at) (flat_map itself digests))
read-more digests at place old new digest all below before put own =
    let flat = flat_map itself digests in
    let next : 32 * (place + 1) ≡ 32 * place + 32 = omega arith in
    let there : 32 * at + 32 * place ≡ 32 * (at + place) = omega arith in
    ap (λ n. take n new) next ∙ put ∙ ap (λ l. l ++ digest) before
    ∙ ap (λ l. take (32 * place) (drop (32 * at) flat) ++ l) (own
    ∙ sym (flat-at digests (at + place) (recursion_from_All IsLong digests all) below)
    ∙ ap (λ n. take 32 (drop n flat)) (sym there)
    ∙ ap (take 32) (sym (drop-drop (32 * place) (32 * at) flat)))
    ∙ sym (take-add (32 * place) 32 (drop (32 * at) flat)) ∙ ap (λ n. take n (drop (32 * at) flat)) (sym next)

-- ---- rows of digests of 32 bytes

pairs-long : (xs : List Digest) (place : ℕ) → place < length (complete_pairs node_hash xs)
    → IsLong (get_or (complete_pairs node_hash xs) place [])
pairs-long [] place below = absurd (omega arith)
pairs-long (a ∷ []) place below = absurd (omega arith)
pairs-long (a ∷ b ∷ rest) zero below = length-sha256 (1 ∷ a ++ b)
pairs-long (a ∷ b ∷ rest) (suc place) below = pairs-long rest place (omega arith)

row-long : (leaves : List Digest) → ((place : ℕ) → place < length leaves → IsLong (get_or leaves place []))
    → (level place : ℕ) → place < length (rows_over leaves level) → IsLong (get_or (rows_over leaves level) place [])
row-long leaves all zero place below = all place below
row-long leaves all (suc level) place below =
    row-long (complete_pairs node_hash leaves) (pairs-long leaves) level place below

-- ---- the file

module _ (has : Tile → List Digest) (size : ℕ) where
  up-tiled : (level : ℕ) → index_up (level % 8) (row_length (level / 8) size) ≡ index_up level size
  up-tiled level =
      let e : 8 * (level / 8) + level % 8 ≡ level = omega arith in
      ap (index_up (level % 8)) (sym (up-div (8 * (level / 8)) size))
      ∙ sym (up-sum (8 * (level / 8)) (level % 8) size) ∙ ap (λ l. index_up l size) e

  pub length-digests : length (tiled_digests has size) ≡ stored_count size
  length-digests = length-stored (tiled_row has size) size

  module _ (own : HaveDigests has size) where
    tile-long : (level place : ℕ) → place < row_length level size → IsLong (get_or (row_in has size level) place [])
    tile-long level place below =
        let tile = tile_at size level (place / 256) in
        ap length (row_in-at has size level place below) ∙ own tile (place % 256) (omega arith, refl) (omega arith)

    tiled-long : (level place : ℕ) → place < index_up level size → IsLong (get_or (tiled_row has size level) place [])
    tiled-long level place below =
        let row = row_in has size (level / 8) in
        row-long row (λ i under. tile-long (level / 8) i (omega (arith, length-row_in has size (level / 8))))
        (level % 8) place (omega (
          arith,
          length-rows_over row (level % 8),
          ap (index_up (level % 8)) (length-row_in has size (level / 8)),
          up-tiled level,
        ))

    pub all-long : All IsLong (tiled_digests has size)
    all-long = stored-all (tiled_row has size) IsLong size tiled-long size (omega arith)

    each-long : AllByRecursion IsLong (tiled_digests has size)
    each-long = recursion_from_All IsLong (tiled_digests has size) all-long

    module _ (root : Digest) (small : size < 2 ^ 64) where
      abbrev flat : List ℕ
      flat = flat_map itself (tiled_digests has size)

      pub length-tiled : length (tiled_file has size root) ≡ 96 + 32 * stored_count size
      length-tiled = long size root flat small ∙ ap (λ n. 96 + n) (length-flat (tiled_digests has size) each-long
          ∙ ap (λ n. 32 * n) length-digests)

      tiled-stored : stored_in size (tiled_file has size root) ≡ tiled_digests has size
      tiled-stored = ap (first_chunks 32 (stored_count size)) (behind size root flat small)
          ∙ ap (λ n. first_chunks 32 n flat) (sym length-digests) ∙ chunks-of (tiled_digests has size) each-long

  -- its head, and what stands behind it
  pub front-is : (root : Digest) → size < 2 ^ 64 → (at n : ℕ) → at ≡ 0 → n ≡ 96
      → take n (drop at (tiled_file has size root)) ≡ title ++ (slot size root ++ slot size root)
  front-is root small at n none all =
      let head = title ++ (slot size root ++ slot size root) in
      let own : length head ≡ 96 = ap length (sym (append-nil head)) ∙ long size root [] small in
      ap (λ m. take n (drop m (tiled_file has size root))) none
      ∙ take_at head (flat_map itself (tiled_digests has size)) n (own ∙ sym all)

  pub behind-is : (root : Digest) → size < 2 ^ 64 → (at from : ℕ) → 96 + from ≡ at
      → drop from (flat_map itself (tiled_digests has size)) ≡ drop at (tiled_file has size root)
  behind-is root small at from is =
      ap (drop from) (sym (behind size root (flat_map itself (tiled_digests has size)) small))
      ∙ drop-drop from 96 (tiled_file has size root) ∙ ap (λ n. drop n (tiled_file has size root)) is

  -- ---- the tiles of a log

  module _ {root : Digest} (log : AreTilesOf has size root) where
    rows-are : (level : ℕ) → row_at (front size (tiled_digests has size)) level ≡ rows_over log.leaves level
    rows-are = rows-of (tiled_row has size) (rows_over log.leaves) size
        (λ level place below. peak-of has size log.leaves (rows-own has size log) level place)
        (λ level. length-rows_over log.leaves level ∙ ap (index_up level) log.count)

    tiled-keeps : Keeps log.leaves (tiled_digests has size)
    tiled-keeps = keeps-of size log.leaves (tiled_digests has size) log.count (omega (arith, length-digests))
        (rows-are 0) (stored-same node_of (rows_over log.leaves)
        (row_at (front size (tiled_digests has size))) (λ level. sym (rows-are level)) (rows-stored log.leaves))

    -- Their file is that of the log.
    pub tiled-log : size < 2 ^ 63 → HaveDigests has size → IsLogFile log.leaves (tiled_file has size root)
    tiled-log fits own =
        let small : size < 2 ^ 64 = omega (arith, fits) in
        let flat = flat_map itself (tiled_digests has size) in
        let file = tiled_file has size root in
        let all : length file ≡ file_end (length log.leaves) = length-tiled own root small
        ∙ ap file_end (sym log.count) in
        log-holds log.leaves root file true true
        (subst (λ n. HasHead file n true) (sym log.count) (has-head size root flat small))
        (subst (λ n. Uses file n root true) (sym log.count) (both size root flat small true)) (record {
          fits = omega (arith, log.count, fits);
          inside = subst (λ n. file_end (length log.leaves) ≤ n) (sym all) (omega arith);
          keeps = subst (Keeps log.leaves) (sym (ap (λ n. stored_in n file) log.count
              ∙ tiled-stored own root small)) tiled-keeps;
          root_is = log.root_is;
        })
