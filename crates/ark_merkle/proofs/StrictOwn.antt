-- A tree's own multi-proofs are strict.
use Rattle.std.proofs.Common.{◌≡◌, ℕ, suc, ◌+◌, ◌<◌, ◌^◌, true, List, [], ◌∷◌, length, map, ap, sym, ◌∙◌, arith, subst}
use Rattle.std.specs.List.{All, AllByRecursion}
use Rattle.std.specs.List.Sorted.{IsStrictlyIncreasing}
use Rattle.std.proofs.lemmas.List.{length-map}
use Rattle.std.proofs.lemmas.List.Elements.{All-from_recursion}
use Rattle.ark_paths.specs.MultiPath.{MultiWay}
use Rattle.ark_paths.specs.MultiPathStrict.{is_strict}
use Rattle.ark_paths.specs.Pair.{Digest, HashPair}
use Rattle.ark_paths.specs.Root.{upper_levels}
use Rattle.ark_paths.specs.Rows.{IsTree}
use Rattle.ark_paths.proofs.StrictLaws.{strict-in_order}
use Rattle.ark_paths.specs.Rising.{rising_set}
use Rattle.ark_merkle.specs.MultiProof.{own_multi_path}
use Rattle.ark_paths.proofs.MultiIndexes.{rising-increases, rising-some}
use Rattle.ark_merkle.proofs.MultiOwn.{own, own-indexes, own-long, within}

module _ (h : HashPair) (leaves : List Digest) (rows : List (List Digest)) (tree : IsTree h leaves rows) where
  inside-by : (indexes : List ℕ) → All (λ i. i < length leaves) indexes → AllByRecursion
      (λ way. way.index < 2 ^ (upper_levels leaves + 1)) (map (own h leaves rows tree) indexes)
  inside-by [] inside = tt
  inside-by (i ∷ indexes) inside =
      let one : upper_levels leaves + 1 ≡ suc (upper_levels leaves) = omega arith in
      let size : length leaves ≡ 2 ^ (upper_levels leaves + 1) = rw one tree.size in
      (rw size at (inside 0 i (omega arith)), inside-by indexes (λ k d below. inside (suc k) d (omega (arith, below))))

  pub own_multi_path-strict : (asked : List ℕ) → All (λ i. i < length leaves) asked → 0 < length asked → (m : MultiWay)
      → own_multi_path h asked leaves ≡ m → is_strict m ≡ true
  own_multi_path-strict asked inside some m is =
      let indexes = rising_set asked in
      let all : All (λ i. i < length leaves) indexes = within h leaves rows tree asked inside in
      let ways = map (own h leaves rows tree) indexes in
      ap is_strict (sym is) ∙ strict-in_order (upper_levels leaves) ways (record {
        some = omega (arith, length-map indexes (own h leaves rows tree), rising-some asked some);
        same_length = All-from_recursion (λ way. length way.above ≡ upper_levels leaves) ways
            (own-long h leaves rows tree indexes all);
        rising = subst IsStrictlyIncreasing (sym (own-indexes h leaves rows tree indexes)) (rising-increases asked);
        within_tree = All-from_recursion (λ way. way.index < 2 ^ (upper_levels leaves + 1)) ways
            (inside-by indexes all);
      })
