-- A tree's own multi-proofs.
use Rattle.std.proofs.Common.{◌≡◌, ℕ, suc, ◌-◌, ◌<◌, ◌^◌, true, false, nat_eq, List, [], ◌∷◌, length, map, get_or, Some, Ok, refl, ap, sym, ◌∙◌, arith}
use Rattle.std.specs.List.{All, AllByRecursion}
use Rattle.std.proofs.lemmas.Bool.{ne_eqb}
use Rattle.std.proofs.lemmas.List.{length-map, map-id}
use Rattle.std.proofs.lemmas.List.Elements.{All-head, All-tail}
use Rattle.ark_base.specs.Outcome.{Outcome}
use Rattle.ark_paths.specs.Index.{neighbour}
use Rattle.ark_paths.specs.MultiPath.{MultiWay, decoded_paths, multi_verdict_from, multi_verdict}
use Rattle.ark_paths.specs.Sharing.{prefixes_of, suffixes_of}
use Rattle.ark_paths.specs.Pair.{Digest, HashPair}
use Rattle.ark_paths.specs.Path.{Way}
use Rattle.ark_paths.specs.Root.{root, upper_levels}
use Rattle.ark_paths.specs.Rows.{IsTree, HoldsIndex, beside_in}
use Rattle.ark_paths.specs.Tree.{own_path}
use Rattle.ark_paths.proofs.MultiShared.{decoded-merged}
use Rattle.ark_paths.proofs.OwnPaths.{length-beside_in, own_path-rows, own_path-accepted, leaf-neighbour}
use Rattle.ark_paths.specs.Rising.{rising_set}
use Rattle.ark_merkle.specs.MultiProof.{own_multi_path}
use Rattle.ark_paths.proofs.MultiIndexes.{All-rising, rising-some}
use Rattle.ark_merkle.proofs.ListParts.{map-twice}
use Rattle.ark_merkle.proofs.TreeReads.{holds-index}

module _ (h : HashPair) (leaves : List Digest) (rows : List (List Digest)) (tree : IsTree h leaves rows) where
  abbrev pub own : ℕ → Way
  own index = own_path h index leaves

  abbrev pub IsInside : ℕ → Type 0
  IsInside index = index < length leaves

  own-above : (index : ℕ) → IsInside index → (own index).above ≡ beside_in rows (upper_levels leaves) index
  own-above index inside = ap (λ (way : Way). way.above) (own_path-rows h leaves rows tree index inside
      (beside_in rows (upper_levels leaves) index) refl)

  own-siblings : (indexes : List ℕ) → map (λ way. way.sibling) (map own indexes) ≡ map (λ i. get_or leaves (neighbour i)
      []) indexes
  own-siblings indexes = map-twice own (λ way. way.sibling) _ indexes (λ i. refl)

  pub own-indexes : (indexes : List ℕ) → map (λ way. way.index) (map own indexes) ≡ indexes
  own-indexes indexes = map-twice own (λ way. way.index) (λ i. i) indexes (λ i. refl) ∙ map-id indexes

  own-aboves : (indexes : List ℕ) → All IsInside indexes → map (λ way. way.above) (map own indexes)
      ≡ map (beside_in rows (upper_levels leaves)) indexes
  own-aboves [] inside = refl
  own-aboves (i ∷ indexes) inside =
      ap (λ (ds : List Digest). ds ∷ map (λ way. way.above) (map own indexes))
      (own-above i (All-head IsInside i indexes inside)) ∙ ap (λ (lists : List (List Digest)). beside_in rows
      (upper_levels leaves) i ∷ lists) (own-aboves indexes (All-tail IsInside i indexes inside))

  pub own-long : (indexes : List ℕ) → All IsInside indexes → AllByRecursion (λ way. length way.above ≡ upper_levels
      leaves) (map own indexes)
  own-long [] inside = tt
  own-long (i ∷ indexes) inside =
      let above = ap length (own-above i (All-head IsInside i indexes inside)) in
      (above ∙ length-beside_in rows (upper_levels leaves) i, own-long indexes (All-tail IsInside i indexes inside))

  own-some : (indexes : List ℕ) → map Some (map own indexes) ≡ map (λ i. Some (own_path h i leaves)) indexes
  own-some indexes = map-twice own Some _ indexes (λ i. refl)

  own-verified : (r : Digest) (place : ℕ) (indexes : List ℕ) → All IsInside indexes → root h leaves ≡ Ok r
      → multi_verdict_from h r place (map (λ i. Some (own_path h i leaves)) indexes) (map (λ i. Ok (get_or leaves i []))
      indexes) ≡ Ok true
  own-verified r place [] inside rooted = refl
  own-verified r place (i ∷ indexes) inside rooted =
      rw (own_path-accepted h leaves rows tree i (All-head IsInside i indexes inside) (own i) (Ok (get_or leaves i []))
      r refl refl rooted) (own-verified r (suc place) indexes (All-tail IsInside i indexes inside) rooted)

  module _ (asked : List ℕ) (inside : All IsInside asked) where
    pub within : All IsInside (rising_set asked)
    within = All-rising IsInside asked inside

    -- a tree's own multi-proof, from its rows
    pub own_multi_path-rows : own_multi_path h asked leaves ≡ record {
      siblings = map (λ i. get_or leaves (neighbour i) []) (rising_set asked);
      prefixes = prefixes_of [] (map (beside_in rows (upper_levels leaves)) (rising_set asked));
      suffixes = suffixes_of [] (map (beside_in rows (upper_levels leaves)) (rising_set asked));
      indexes = rising_set asked;
    }
    own_multi_path-rows = λ j. record {
      siblings = own-siblings (rising_set asked) j;
      prefixes = prefixes_of [] (own-aboves (rising_set asked) within j);
      suffixes = suffixes_of [] (own-aboves (rising_set asked) within j);
      indexes = own-indexes (rising_set asked) j;
    }

    own-decoded : decoded_paths (own_multi_path h asked leaves) ≡ map (λ i. Some (own_path h i leaves))
        (rising_set asked)
    own-decoded = decoded-merged (upper_levels leaves) (map own (rising_set asked)) (own-long (rising_set asked) within)
        ∙ own-some (rising_set asked)

    own-accepted : (r : Digest) → 0 < length asked → root h leaves ≡ Ok r → multi_verdict h
        (map (λ i. Ok (get_or leaves i [])) (rising_set asked)) (own_multi_path h asked leaves) r ≡ Ok true
    own-accepted r some rooted =
        let long : length (map (λ way. way.index) (map own (rising_set asked))) ≡ length (rising_set asked) =
        ap length (own-indexes (rising_set asked)) in
        let not_none : nat_eq (length (map (λ way. way.index) (map own (rising_set asked)))) 0 ≡ false =
        ne_eqb _ 0 (λ none. omega (arith, long, rising-some asked some)) in
        rw (not_none, own-decoded) (own-verified r 0 (rising_set asked) within rooted)

    module _ (m : MultiWay) (indexes : List ℕ) (is : own_multi_path h asked leaves ≡ m) (once : rising_set asked
        ≡ indexes) where
      -- it decodes to the own paths of its indexes
      pub own_multi_path-decoded : decoded_paths m ≡ map (λ i. Some (own_path h i leaves)) indexes
      own_multi_path-decoded = ap decoded_paths (sym is) ∙ own-decoded ∙ ap (map (λ i. Some (own_path h i leaves))) once

      -- it is accepted with the digests of its leaves
      pub own_multi_path-accepted : (hashed : List (Outcome Digest)) (r : Digest) → 0 < length asked → hashed
          ≡ map (λ i. Ok (get_or leaves i [])) indexes → root h leaves ≡ Ok r → multi_verdict h hashed m r ≡ Ok true
      own_multi_path-accepted hashed r some are rooted =
          ap (λ (ds : List (Outcome Digest)). multi_verdict h ds m r) (are ∙ ap (map (λ i. Ok (get_or leaves i [])))
          (sym once)) ∙ ap (λ (w : MultiWay). multi_verdict h (map (λ i. Ok (get_or leaves i [])) (rising_set asked))
          w r) (sym is) ∙ own-accepted r some rooted

-- ---- as the calls of a tree read them

module _ {L : Type 0} (leaf : L → Digest) (h : HashPair) (xs : List L) (rows : List (List Digest))
    (tree : IsTree h (map leaf xs) rows) (asked indexes : List ℕ) (inside : All (λ i. i < length (map leaf xs)) asked)
    (once : rising_set asked ≡ indexes) (given : List ℕ) (same : given ≡ indexes) where
  inside_once : All (λ i. i < length (map leaf xs)) indexes
  inside_once = rw once at (All-rising (λ i. i < length (map leaf xs)) asked inside)

  pub neighbours-inside : All (λ i. neighbour i < length xs) given
  neighbours-inside =
      rw (same, ← length-map xs leaf)
      (λ k d below. leaf-neighbour h (map leaf xs) rows tree (get_or indexes k d) (inside_once k d below))

  pub hold-indexes : length xs < 2 ^ 64 → All (HoldsIndex rows) given
  hold-indexes fits =
      let small : length (map leaf xs) < 2 ^ 64 = omega (arith, length-map xs leaf, fits) in
      rw same (λ k d below. holds-index h (map leaf xs) rows tree (get_or indexes k d) small (inside_once k d below))

  pub own_multi_path-read : (more : List ℕ) (siblings : List Digest) (prefixes : List ℕ)
      (suffixes : List (List Digest)) → more ≡ indexes
      → map (λ i. get_or (map leaf xs) (neighbour i) []) given ≡ siblings
      → prefixes_of [] (map (beside_in rows (length rows - 1)) more) ≡ prefixes
      → suffixes_of [] (map (beside_in rows (length rows - 1)) more) ≡ suffixes
      → own_multi_path h asked (map leaf xs)
      ≡ record { siblings = siblings; prefixes = prefixes; suffixes = suffixes; indexes = indexes }
  own_multi_path-read more siblings prefixes suffixes same_more siblings_are prefixes_are suffixes_are =
      let leaves = map leaf xs in
      let m = upper_levels leaves in
      let last : length rows - 1 ≡ m = omega (arith, tree.count) in
      let beside : map (λ i. get_or leaves (neighbour i) []) (rising_set asked) ≡ siblings =
      rw once (rw same at siblings_are) in
      let shared : prefixes_of [] (map (beside_in rows m) (rising_set asked)) ≡ prefixes =
      rw once (rw (last, same_more) at prefixes_are) in
      let others : suffixes_of [] (map (beside_in rows m) (rising_set asked)) ≡ suffixes =
      rw once (rw (last, same_more) at suffixes_are) in
      own_multi_path-rows h leaves rows tree asked inside
      ∙ (λ j. record { siblings = beside j; prefixes = shared j; suffixes = others j; indexes = once j })
