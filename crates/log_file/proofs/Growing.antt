-- The bytes of the digests that an append makes.
use Rattle.std.proofs.Common.{◌≡◌, ℕ, ◌+◌, List, ◌++◌, length, map, ap, sym, ◌∙◌, subst}
use Rattle.std.specs.List.{flat_map, AllByRecursion}
use Rattle.std.proofs.lemmas.List.{map-id}
use Rattle.ark_base.specs.Digits.{itself, AreBytes}
use Rattle.ark_paths.specs.Pair.{Digest}
use Rattle.merkle_log.specs.Kept.{Keeps}
use Rattle.merkle_log.specs.Stored.{stored_count}
use Rattle.log_file.specs.Append.{HasBehind}

pub behind-of : (leaves stored more new : List Digest) (bytes : List ℕ) (size : ℕ) → length leaves ≡ size
    → AllByRecursion (AreBytes 32) (map (λ digest. digest) new)
    → bytes ≡ flat_map itself (map (λ digest. digest) new)
    → stored_count size + length new ≡ stored_count (size + length more)
    → Keeps (leaves ++ more) (stored ++ new) → HasBehind leaves stored more bytes
behind-of leaves stored more new bytes size is all same count keeps =
    let ids : map (λ digest. digest) new ≡ new = map-id new in
    record {
      new = new;
      are_bytes = subst (AllByRecursion (AreBytes 32)) ids all;
      is = same ∙ ap (flat_map itself) ids;
      count = subst (λ n. stored_count n + length new ≡ stored_count (n + length more)) (sym is) count;
      keeps = keeps;
    }
