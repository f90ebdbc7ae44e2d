-- Bundles, an entry at a time.
use Rattle.std.proofs.Common.{◌≡◌, ℕ, ◌+◌, ◌<◌, ◌≤◌, List, [], ◌∷◌, ◌++◌, length, map, take, drop, get_or, ap, sym, ◌∙◌, arith, append_assoc}
use Rattle.std.proofs.lemmas.Grind.{flat_map-append}
use Rattle.std.proofs.Math.Seq.{drop-append_seam, take-append_seam}
use Rattle.std.proofs.lemmas.List.{append-nil, append_cancel_left, drop_all, drop_more, get_or-map, length-map, map-append, take_more}
use Rattle.std.proofs.lemmas.List.Elements.{All-get_or}
use Rattle.std.proofs.lemmas.Nat.{from_be_bytes-to_be_bytes_2}
use Rattle.std.specs.Int.{w16, from_be_bytes, to_be_bytes}
use Rattle.std.specs.List.{flat_map}
use Rattle.ark_paths.specs.Pair.{Digest}
use Rattle.ark_trees.specs.Rfc6962.{entry_hash}
use Rattle.log_tiles.specs.Bundles.{entry_bytes, IsBundleOf}

module _ (entries : List (List ℕ)) (entry : List ℕ) where
  pub bundled-more : (bytes rest behind : List ℕ) → bytes ≡ flat_map entry_bytes entries ++ rest
      → rest ≡ entry_bytes entry ++ behind → bytes ≡ flat_map entry_bytes (entries ++ (entry ∷ [])) ++ behind
  bundled-more bytes rest behind is cut =
      let front = flat_map entry_bytes entries in
      let last = flat_map-append entry_bytes entries (entry ∷ [])
      ∙ ap (λ l. front ++ l) (append-nil (entry_bytes entry)) in
      is ∙ ap (λ l. front ++ l) cut ∙ sym (append_assoc front (entry_bytes entry) behind)
      ∙ ap (λ l. l ++ behind) (sym last)

  pub hashed-more : (digests : List Digest) (index : ℕ) → map entry_hash entries ≡ take index digests
      → index < length digests → entry_hash entry ≡ get_or digests index []
      → map entry_hash (entries ++ (entry ∷ [])) ≡ take (index + 1) digests
  hashed-more digests index is below same =
      map-append entry_hash entries (entry ∷ []) ∙ ap (λ l. l ++ (entry_hash entry ∷ [])) is
      ∙ ap (λ d. take index digests ++ (d ∷ [])) same ∙ sym (take_more digests index [] below)

-- ---- what a bundle's bytes say

-- the count of bytes of an entry
length_of : (entry : List ℕ) → length entry ≤ 65535
    → from_be_bytes w16 (to_be_bytes w16 (length entry)) ≡ length entry
length_of entry short = from_be_bytes-to_be_bytes_2 (length entry) (omega (arith, short))

-- The first entry is the only one that stands in front.
pub entry-same : (a b x y : List ℕ) → length a ≤ 65535 → length b ≤ 65535
    → entry_bytes a ++ x ≡ entry_bytes b ++ y → (a ≡ b) × (x ≡ y)
entry-same a b x y short_a short_b same =
    let wa = to_be_bytes w16 (length a) in
    let wb = to_be_bytes w16 (length b) in
    let spread : wa ++ (a ++ x) ≡ wb ++ (b ++ y) = sym (append_assoc wa a x) ∙ same ∙ append_assoc wb b y in
    let words : wa ≡ wb =
    sym (take-append_seam wa (a ++ x)) ∙ ap (λ l. take 2 l) spread ∙ take-append_seam wb (b ++ y) in
    let counts : length a ≡ length b =
    sym (length_of a short_a) ∙ ap (from_be_bytes w16) words ∙ length_of b short_b in
    let rests : a ++ x ≡ b ++ y =
    sym (drop-append_seam wa (a ++ x)) ∙ ap (λ l. drop 2 l) spread ∙ drop-append_seam wb (b ++ y) in
    let entries : a ≡ b =
    sym (take-append_seam a x) ∙ ap (take (length a)) rests ∙ ap (λ n. take n (b ++ y)) counts
    ∙ take-append_seam b y in (
      entries,
      append_cancel_left b x y (ap (λ l. l ++ x) (sym entries) ∙ rests),
    )

module _ (digests : List Digest) (bytes : List ℕ) (bundle : IsBundleOf digests bytes) where
  entries-long : length bundle.entries ≡ length digests
  entries-long = sym (length-map bundle.entries entry_hash) ∙ ap length bundle.hashed

  -- the next entry of a bundle, and what stands behind it
  pub next-own : (rest : List ℕ) (index : ℕ) → rest ≡ flat_map entry_bytes (drop index bundle.entries)
      → index < length digests → (length (get_or bundle.entries index []) ≤ 65535)
      × (rest ≡ entry_bytes (get_or bundle.entries index []) ++ flat_map entry_bytes (drop (index + 1) bundle.entries))
      × (entry_hash (get_or bundle.entries index []) ≡ get_or digests index [])
  next-own rest index is below =
      let inside : index < length bundle.entries = omega (arith, below, entries-long) in (
        All-get_or (λ entry. length entry ≤ 65535) bundle.entries index [] inside bundle.short,
        is ∙ ap (flat_map entry_bytes) (drop_more bundle.entries index [] inside),
        sym (get_or-map entry_hash bundle.entries index [] [] inside) ∙ ap (λ l. get_or l index []) bundle.hashed,
      )

  -- and behind the last there is nothing
  pub nothing-left : (rest : List ℕ) (index : ℕ) → rest ≡ flat_map entry_bytes (drop index bundle.entries)
      → length digests ≤ index → rest ≡ []
  nothing-left rest index is all =
      is ∙ ap (flat_map entry_bytes) (drop_all index bundle.entries (omega (arith, all, entries-long)))
