-- The bytes of a path, as they are written to the front of a buffer.
use Rattle.std.proofs.Common.{◌≡◌, true, ℕ, zero, suc, ◌+◌, ◌-◌, ◌*◌, ◌/◌, ◌<◌, ◌^◌, List, [], ◌++◌, length, take, drop, get_or, refl, sym, ap, ◌∙◌, append_assoc, append-nil, arith}
use Rattle.std.proofs.lemmas.List.{drop-drop, length-append}
use Rattle.std.proofs.Math.Seq.{drop-append-add, take-append_seam}
use Rattle.std.specs.Int.{w64, to_le_bytes}
use Rattle.std.specs.List.{flat_map}
use Rattle.ark_base.specs.Digits.{itself}
use Rattle.ark_base.specs.Laws.Numbers.{length-word}
use Rattle.ark_base.specs.Spelling.{word}
use Rattle.ark_paths.specs.Index.{log2, neighbour}
use Rattle.ark_paths.specs.Pair.{Digest}
use Rattle.ark_paths.specs.PathBytes.{way_bytes}
use Rattle.kept_tree.proofs.Besides.{beside-below, beside-some, has_levels}
use Rattle.kept_tree.specs.KeptTree.{is_tree_length, kept_above, kept_beside, kept_way, leaf_count}

-- bytes stand in front of a buffer, and behind them all is as before
abbrev pub StandInFront : List ℕ → List ℕ → List ℕ → Type 0
StandInFront front old now = now ≡ front ++ drop (length front) old

-- more bytes are put behind them
front-more : (front bytes old now new : List ℕ) (at len : ℕ) → at ≡ length front → len ≡ length bytes
    → StandInFront front old now → new ≡ take at now ++ (bytes ++ drop (at + len) now)
    → StandInFront (front ++ bytes) old new
front-more front bytes old now new at len at_is len_is stands is =
    let rest = drop (length front) old in
    let whole : length (front ++ bytes) ≡ length front + length bytes = length-append front bytes in
    let kept : take at now ≡ front =
    rw (at_is, stands) (take-append_seam front rest) in
    let behind : drop (at + len) now ≡ drop (length (front ++ bytes)) old =
    rw (at_is, len_is, stands, whole) (drop-append-add front rest (length bytes)
    ∙ drop-drop (length bytes) (length front) old) in
    is ∙ rw (kept, behind) (sym (append_assoc front bytes (drop (length (front ++ bytes)) old)))

pub word-bytes : (n : ℕ) (bytes : List ℕ) → bytes ≡ to_le_bytes w64 n → bytes ≡ word n
unfolding word
word-bytes n bytes is = is

pub length-above : (memory : List Digest) (index level : ℕ) → length (kept_above memory index level) ≡ level
length-above memory index zero = refl
length-above memory index (suc level) = ap suc (length-above memory index level)

module _ (old : List ℕ) (memory : List Digest) (index levels : ℕ) where
  -- the sibling, the count and the digests above
  abbrev listed : List ℕ
  listed = kept_beside memory index 0 ++ (word levels ++ flat_map itself (kept_above memory index levels))

  -- Some digests above are written.
  pub record PathUpTo (now : List ℕ) (done : ℕ) : Type 0 where
    pub front : List ℕ
    pub stands : StandInFront front old now
    pub count : length front ≡ 40 + 32 * done
    pub rest : front ++ flat_map itself (kept_above memory index (levels - done)) ≡ listed

  pub path-none : (digest bytes first now : List ℕ) → digest ≡ kept_beside memory index 0 → length digest ≡ 32
      → bytes ≡ word levels → first ≡ take 0 old ++ (digest ++ drop (0 + 32) old)
      → now ≡ take 32 first ++ (bytes ++ drop (32 + length bytes) first) → PathUpTo now 0
  path-none digest bytes first now digest_is long bytes_are one two =
      let none : StandInFront [] old old = refl in
      let after : StandInFront digest old first = front-more [] digest old old first 0 32 refl (sym long) none one in
      let none_done : levels - 0 ≡ levels = omega arith in
      record {
        front = digest ++ bytes;
        stands = front-more digest bytes old first now 32 (length bytes) (sym long) refl after two;
        count = omega (arith, length-append digest bytes, long, ap length bytes_are, length-word levels);
        rest = rw (digest_is, bytes_are, none_done) (append_assoc (kept_beside memory index 0) (word levels)
            (flat_map itself (kept_above memory index levels)));
      }

  pub path-more : (digest now new : List ℕ) (done : ℕ) → done < levels → PathUpTo now done
      → digest ≡ kept_beside memory index (levels - done) → length digest ≡ 32
      → new ≡ take (40 + 32 * done) now ++ (digest ++ drop (40 + 32 * done + 32) now) → PathUpTo new (done + 1)
  path-more digest now new done below so digest_is long put =
      let k = levels - (done + 1) in
      let next : levels - done ≡ suc k = omega arith in
      let rest : so.front ++ flat_map itself (kept_above memory index (suc k)) ≡ listed = rw next at so.rest in
      let same : digest ≡ kept_beside memory index (suc k) = digest_is ∙ ap (kept_beside memory index) next in
      record {
        front = so.front ++ digest;
        stands = front-more so.front digest old now new (40 + 32 * done) 32 (sym so.count) (sym long) so.stands put;
        count = omega (arith, length-append so.front digest, long, so.count);
        rest = append_assoc so.front digest (flat_map itself (kept_above memory index k))
            ∙ ap (λ (d : List ℕ). so.front ++ (d ++ flat_map itself (kept_above memory index k))) same ∙ rest;
      }

  module _ (levels_are : levels ≡ log2 (leaf_count (length memory)) - 1) where
    -- all bytes of the path
    path-bytes : way_bytes itself itself (kept_way memory index) ≡ listed ++ word index
    path-bytes =
        rw (← levels_are, length-above memory index levels)
        (sym (append_assoc (kept_beside memory index 0) (word levels ++ flat_map itself
        (kept_above memory index levels)) (word index)))

    module _ (bytes now new : List ℕ) (done : ℕ) (all : done ≡ levels) (so : PathUpTo now done)
        (bytes_are : bytes ≡ word index)
        (put : new ≡ take (40 + 32 * levels) now ++ (bytes ++ drop (40 + 32 * levels + length bytes) now)) where
      whole : so.front ++ bytes ≡ way_bytes itself itself (kept_way memory index)
      whole =
          let none : levels - done ≡ 0 = omega arith in
          let listed_is : so.front ++ [] ≡ listed = rw none at so.rest in
          rw (sym (append-nil so.front) ∙ listed_is, bytes_are) (sym path-bytes)

      pub path-all : let own = way_bytes itself itself (kept_way memory index) in new ≡ own ++ drop (length own) old
      path-all = rw (← whole) (front-more so.front bytes old now new (40 + 32 * levels) (length bytes)
          (omega (arith, so.count)) refl so.stands put)

-- ---- how many bytes

module _ (memory : List Digest) (is : is_tree_length (length memory) ≡ true) (digests : (i : ℕ)
    → i < length memory → length (get_or memory i []) ≡ 32) (index : ℕ) (inside : index < leaf_count
    (length memory)) where
  abbrev height : ℕ
  height = log2 (leaf_count (length memory))

  long-beside : (level : ℕ) → level < height → length (kept_beside memory index level) ≡ 32
  long-beside level low =
      let tree = has_levels (length memory) is in
      digests (neighbour ((leaf_count (length memory) + index) / 2 ^ level) - 1)
      (omega (arith, beside-below tree refl inside low, beside-some tree refl inside low))

  long-above : (level : ℕ) → level < height → length (flat_map itself (kept_above memory index level)) ≡ 32 * level
  long-above zero low = refl
  long-above (suc level) low = omega (
    arith,
    length-append (kept_beside memory index (suc level)) (flat_map itself (kept_above memory index level)),
    long-beside (suc level) low,
    long-above level (omega arith),
  )

  pub path-long : length (way_bytes itself itself (kept_way memory index)) ≡ 16 + 32 * height
  path-long =
      let some = (has_levels (length memory) is).some in
      let above = kept_above memory index (height - 1) in
      let list = word (length above) ++ flat_map itself above in
      omega (
        arith,
        length-append (kept_beside memory index 0) (list ++ word index),
        length-append list (word index),
        length-append (word (length above)) (flat_map itself above),
        length-word (length above),
        length-word index,
        long-beside 0 some,
        long-above (height - 1) (omega (arith, some)),
        some,
      )
