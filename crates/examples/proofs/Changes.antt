-- A path that is accepted for the old leaf and the old root, and for the new ones, says what the other leaves do.
use Rattle.std.proofs.Common.{zero, suc, ◌≡◌, ◌⊎◌, ℕ, ◌+◌, ◌-◌, ◌/◌, ◌%◌, ◌==◌, ◌<◌, ◌^◌, Bool, true, false, not, nat_lt, ◌&&◌, Option, Some, None, List, [], length, get_or, set, Ok, Err, arith, refl, ap, sym, subst, ◌∙◌, inl, inr}
use Rattle.std.proofs.lemmas.Bool.{ltb-true, eqb-true}
use Rattle.std.proofs.Math.Nat.{mod-eq_of_lt}
use Rattle.ark_base.specs.declared.error.Error.TheVariants.{IncorrectInputLength}
use Rattle.ark_base.specs.Laws.Steps.{bind_ok, done_injective}
use Rattle.ark_base.specs.Outcome.{Outcome, ◌>>=◌}
use Rattle.ark_base.specs.Reading.{Reading, reading_outcome}
use Rattle.ark_merkle.proofs.Changes.{lowest-place, place-up, root-own}
use Rattle.ark_paths.proofs.Binds.{differs, differs-last, differs-row, first_level-none, path_pair-up, top_from, top_from-last, top_from-up}
use Rattle.ark_paths.proofs.Clients.{rooted-tree}
use Rattle.ark_paths.proofs.Collisions.{differing-collides, digest_eq-true}
use Rattle.ark_paths.proofs.ReceivedProofs.{IsFit, fit, provided-true, size-decided}
use Rattle.ark_paths.proofs.StrictReadings.{read_of}
use Rattle.ark_merkle.specs.Update.{new_root}
use Rattle.ark_paths.specs.Bind.{CollidesAt, difference, is_other}
use Rattle.ark_paths.specs.Index.{IsTreeSize, bit_at, is_tree_size, log2, neighbour}
use Rattle.ark_paths.specs.Pair.{Digest, HashPair, Hashes, digest_eq, hash_in_order}
use Rattle.ark_paths.specs.Path.{Way, path_root, verdict}
use Rattle.ark_paths.specs.Received.{fit_path, is_fit, provided, received_path, received_verdict}
use Rattle.ark_paths.specs.Root.{Root, outcome_of, place, place_at, root, upper_levels}
use Rattle.ark_paths.specs.Rows.{IsTree, part}
use Rattle.ark_paths.specs.Tree.{tree_with}
use Rattle.examples.specs.Change.{ChangeLeadsTo, ShowsChange}

pair-there : (o : Outcome (Digest × Digest)) (b : Digest × Digest) → is_other o b ≡ false
    → (a : Digest × Digest) × (o ≡ Ok a)
pair-there (Ok a) b same = (a, refl)
pair-there (Err e) b same = absurd cc

second-true : (a b : Bool) → not (a && b) ≡ false → b ≡ true
second-true true true same = refl
second-true true false same = absurd cc
second-true false b same = absurd cc

both-true : (a b : Bool) → (a && b) ≡ true → (a ≡ true) × (b ≡ true)
both-true true true is = (refl, refl)
both-true true false is = absurd cc
both-true false b is = absurd cc

-- A path whose pairs agree with the tree's has the digests beside its way, so it gives the root of the changed leaves.
module _ (h : HashPair) (leaves : List Digest) (rows : List (List Digest)) (tree : IsTree h leaves rows) (way : Way)
    (old new : Digest) (long : length way.above ≡ upper_levels leaves) (inside : way.index < length leaves)
    (agree : (l : ℕ) → l < suc (upper_levels leaves) → differs h leaves rows tree way old long l ≡ false) where
  at_index : way.index % length leaves ≡ way.index
  at_index = mod-eq_of_lt inside

  sibling-own : way.sibling ≡ get_or leaves (neighbour way.index) []
  sibling-own =
      let m = upper_levels leaves in
      let same = second-true _ _ (sym (differs-last h leaves rows tree way old long m refl _ refl)
      ∙ agree m (omega arith)) in
      digest_eq-true _ _ same ∙ ap (λ (n : ℕ). get_or leaves (neighbour n) []) at_index

  above-own : (level k : ℕ) → level + suc k ≡ upper_levels leaves
      → get_or way.above level [] ≡ get_or (get_or rows k []) (neighbour (way.index / 2 ^ suc k)) []
  above-own level k is =
      let there = pair-there _ _ (agree level (omega (arith, is))) in
      let below = bind_ok (top_from h way old (suc level)) _ _
      (sym (path_pair-up h way old level (omega (arith, long, is))) ∙ there.1) in
      let same = second-true _ _
      (sym (differs-row h leaves rows tree way old long level k is below.0 below.1 _ refl)
      ∙ agree level (omega (arith, is))) in
      digest_eq-true _ _ same
      ∙ ap (λ (n : ℕ). get_or (get_or rows k []) (neighbour (n / 2 ^ suc k)) []) at_index

  abbrev new_part : ℕ → List Digest
  new_part k = part k (way.index / 2 ^ suc k) (set leaves way.index new)

  climbed : (k level : ℕ) → level + k ≡ upper_levels leaves → (r : Digest) → top_from h way new level ≡ Ok r
      → place h k (new_part k) ≡ Root r
  climbed zero level is r made =
      lowest-place h leaves rows tree way.index inside new
      ∙ ap (place_at 0) (ap (hash_in_order h.bottom (bit_at way.index 0) new) (sym sibling-own)
      ∙ sym (top_from-last h way new level (omega (arith, long, is))) ∙ made)
  climbed (suc k) level is r made =
      let up : length way.above - level ≡ suc k = omega (arith, long, is) in
      let step = bind_ok (top_from h way new (suc level)) _ r
      (sym (top_from-up h way new level (omega (arith, long, is))) ∙ made) in
      let hashed : hash_in_order h.upper (bit_at way.index (suc k)) step.0 (get_or way.above level []) ≡ Ok r =
      ap (λ (n : ℕ). hash_in_order h.upper (bit_at way.index n) step.0 (get_or way.above level [])) (sym up)
      ∙ step.2 in
      place-up h leaves rows tree way.index inside new k (omega (arith, tree.count, is)) step.0
      (climbed k (suc level) (omega (arith, is)) step.0 step.1)
      ∙ ap (place_at (suc k)) (ap (hash_in_order h.upper (bit_at way.index (suc k)) step.0)
      (sym (above-own level k is)) ∙ hashed)

  pub root-changed : (r : Digest) → path_root h way new ≡ Ok r → root h (set leaves way.index new) ≡ Ok r
  root-changed r made =
      root-own h leaves rows tree way.index inside new
      ∙ ap outcome_of (climbed (upper_levels leaves) 0 (omega arith) r made)

-- what an accepted path gives
given-root : (h : HashPair) (leaf : Outcome Digest) (way : Way) (r : Digest) → verdict h leaf way r ≡ Ok true
    → (digest : Digest) × (leaf ≡ Ok digest) × (path_root h way digest ≡ Ok r)
given-root h leaf way r accepted =
    let hashed = bind_ok leaf (λ digest. path_root h way digest >>= λ given. Ok (digest_eq given r)) true accepted in
    let climbed = bind_ok (path_root h way hashed.0) (λ given. Ok (digest_eq given r)) true hashed.2 in
    (hashed.0, hashed.1, climbed.1 ∙ ap Ok (digest_eq-true climbed.0 r (done_injective _ _ climbed.2)))

module _ {A : Type 0} (hashes : Hashes A) (before after : Digest) (size index : ℕ) (old new : A) (way : Way) where
  leads : verdict hashes.pair (hashes.leaf old) way before ≡ Ok true → verdict hashes.pair (hashes.leaf new) way after
      ≡ Ok true → IsTreeSize size → length way.above ≡ log2 size - 1 → way.index ≡ index → index < size
      → ChangeLeadsTo hashes before after size index old new way
  leads of_old of_new sized long at_own below digests same rooted =
      let h = hashes.pair in
      let first = given-root h (hashes.leaf old) way before of_old in
      let second = given-root h (hashes.leaf new) way after of_new in
      let tree = rooted-tree h digests before (subst IsTreeSize (sym same) sized) rooted in
      let levels : length way.above ≡ upper_levels digests = long ∙ ap (λ (n : ℕ). log2 n - 1) (sym same) in
      let inside : way.index < length digests = omega (arith, at_own, below, same) in
      by_level tree.0 tree.1 first.0 second.0 levels inside first.1 second.1 (first.2 ∙ sym rooted) second.2
      (difference h digests way first.0) refl
    where
      by_level : (rows : List (List Digest)) (tree : IsTree hashes.pair digests rows) (was is : Digest)
          (levels : length way.above ≡ upper_levels digests) → way.index < length digests
          → hashes.leaf old ≡ Ok was → hashes.leaf new ≡ Ok is
          → path_root hashes.pair way was ≡ root hashes.pair digests → path_root hashes.pair way is ≡ Ok after
          → (found : Option ℕ) → difference hashes.pair digests way was ≡ found
          → (new_root hashes.pair (hashes.leaf new) index digests ≡ Ok after)
          ⊎ ((level : ℕ) × CollidesAt (tree_with hashes digests) old way level)
      by_level rows tree was is levels inside of_was of_is whole made None none =
          let h = hashes.pair in
          let agree : (l : ℕ) → l < suc (upper_levels digests) → differs h digests rows tree way was levels l ≡ false =
          λ l under. first_level-none (differs h digests rows tree way was levels) 0
          (suc (upper_levels digests)) none l (omega arith) (omega (arith, under)) in
          let changed = root-changed h digests rows tree way was is levels inside agree after made in
          inl (rw of_is (subst (λ (i : ℕ). root h (set digests i is) ≡ Ok after) at_own changed))
      by_level rows tree was is levels inside of_was of_is whole made (Some level) found =
          inr (level, (was, of_was, differing-collides hashes.pair digests rows tree way was levels level found whole))

module _ {A : Type 0} (hashes : Hashes A) (before after : Digest) (size index : ℕ) (old new : A)
    (reading : Reading Way) where
  shows-way : (way : Way) → received_path size index reading ≡ Ok way
      → verdict hashes.pair (hashes.leaf old) way before ≡ Ok true
      → verdict hashes.pair (hashes.leaf new) way after ≡ Ok true
      → ShowsChange hashes before after size index old new reading
  shows-way way received of_old of_new =
      let sized = bind_ok (provided (is_tree_size size) (IncorrectInputLength size)) (λ _. reading_outcome reading >>=
      fit_path size index) way received in
      let read = bind_ok (reading_outcome reading) (fit_path size index) way sized.2 in
      let asked = ((read.0.0.index == index) && nat_lt index size) in
      let fits = bind_ok (is_fit size read.0.1 (length read.0.0.above) asked) (λ _. Ok read.0.0) way read.2 in
      by_parts (provided-true (is_tree_size size) (IncorrectInputLength size) sized.1) read.0.0 read.0.1
      (read_of reading read.0 read.1) (done_injective _ _ fits.2) (fit size read.0.1 (length read.0.0.above)
      asked fits.1)
    where
      by_parts : is_tree_size size ≡ true → (own : Way) (rest : List ℕ) → reading ≡ Ok (own, rest) → own ≡ way
          → IsFit size rest (length own.above) ((own.index == index) && nat_lt index size)
          → ShowsChange hashes before after size index old new reading
      by_parts sized own rest read same fits =
          let asked = both-true (own.index == index) (nat_lt index size) fits.is_asked in (
            way,
            read ∙ (λ i. Ok (same i, fits.none_behind i)),
            leads hashes before after size index old new way of_old of_new (size-decided size sized)
                (ap (λ (w : Way). length w.above) (sym same) ∙ fits.long)
                (ap (λ (w : Way). w.index) (sym same) ∙ eqb-true own.index index asked.0)
                (ltb-true index size asked.1),
          )

  -- the bytes of one path, accepted twice
  pub shows-change : received_verdict hashes before size index old reading ≡ Ok true
      → received_verdict hashes after size index new reading ≡ Ok true
      → ShowsChange hashes before after size index old new reading
  shows-change of_old of_new =
      let first = bind_ok (received_path size index reading)
      (λ way. verdict hashes.pair (hashes.leaf old) way before) true of_old in
      let second = bind_ok (received_path size index reading)
      (λ way. verdict hashes.pair (hashes.leaf new) way after) true of_new in
      let same : second.0 ≡ first.0 = done_injective _ _ (sym second.1 ∙ first.1) in
      shows-way first.0 first.1 first.2
      (subst (λ (w : Way). verdict hashes.pair (hashes.leaf new) w after ≡ Ok true) same second.2)
