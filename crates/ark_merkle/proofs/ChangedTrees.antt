-- A tree whose leaf digests change in a batch.
use Rattle.std.proofs.Common.{suc, ◌≡◌, ℕ, ◌+◌, ◌-◌, ◌*◌, ◌%◌, ◌<◌, ◌^◌, List, [], ◌∷◌, length, map, get_or, Ok, Err, refl, ap, sym, ◌∙◌, arith}
use Rattle.std.proofs.lemmas.List.{length-map}
use Rattle.std.proofs.Math.Nat.{pow-succ'}
use Rattle.ark_base.specs.declared.error.Error.{Error}
use Rattle.ark_base.specs.Outcome.{Outcome, ◌>>=◌}
use Rattle.ark_paths.specs.Index.{IsTreeSize}
use Rattle.ark_paths.specs.Pair.{Digest, HashPair}
use Rattle.ark_paths.specs.Root.{leaves_with_root, upper_levels}
use Rattle.ark_paths.specs.Rows.{IsTree, row_above, rows_from, rows_of}
use Rattle.ark_paths.proofs.Logs.{upper_levels-is}
use Rattle.ark_paths.proofs.OwnPaths.{bottom-row, upper-row}
use Rattle.ark_paths.proofs.PlaceLemmas.{row-twice}
use Rattle.ark_paths.proofs.TreeLemmas.{is_tree, rooted-ok, rooted-refused}
use Rattle.ark_merkle.specs.Batch.{hashed_changes, puts}
use Rattle.ark_merkle.specs.Changed.{seen_changes, AreChanges, AreHashed, couples_reached, count_over}
use Rattle.ark_merkle.proofs.Batches.{AreChanges-inside, AreChanges-seen, AreChanges-unseen, length-puts}
use Rattle.ark_merkle.proofs.ChangedRows.{places, places-seen, halves-hashed, hashed-inside, count_over-fits}
use Rattle.ark_merkle.proofs.Reached.{of_couple, row_above-puts}

same_hash : (hash : Digest → Digest → Outcome Digest) {x y z w : Digest} {o : Outcome Digest} → x ≡ y → z ≡ w → hash x z
    ≡ o → hash y w ≡ o
same_hash hash first second e = rw (← first, ← second) e

-- a row is what its couples hash to
row_above-from : (hash : Digest → Digest → Outcome Digest) (row above : List Digest) → length row ≡ 2 * length above
    → ((q : ℕ) → q < length above → hash (get_or row (2 * q) []) (get_or row (2 * q + 1) []) ≡ Ok (get_or above q []))
    → row_above hash row ≡ Ok above
row_above-from hash [] [] long each = refl
row_above-from hash [] (x ∷ above) long each = absurd (omega arith)
row_above-from hash (a ∷ []) above long each = absurd (omega arith)
row_above-from hash (a ∷ b ∷ rest) [] long each = absurd (omega arith)
row_above-from hash (a ∷ b ∷ rest) (x ∷ above) long each =
    let others = row_above-from hash rest above (omega arith) (λ q below. shifted q (each (suc q) (omega arith))) in
    rw (each 0 (omega arith), others) refl
  where
    shifted : (q : ℕ) → hash (get_or (a ∷ b ∷ rest) (2 * suc q) []) (get_or (a ∷ b ∷ rest) (2 * suc q + 1) [])
        ≡ Ok (get_or above q []) → hash (get_or rest (2 * q) []) (get_or rest (2 * q + 1) []) ≡ Ok (get_or above q [])
    shifted q e =
        let left : 2 * suc q ≡ suc (suc (2 * q)) = omega arith in
        let right : 2 * suc q + 1 ≡ suc (suc (2 * q + 1)) = omega arith in
        same_hash hash (ap (λ (n : ℕ). get_or (a ∷ b ∷ rest) n []) left)
        (ap (λ (n : ℕ). get_or (a ∷ b ∷ rest) n []) right) e

module _ {L : Type 0} (view : L → Digest) (h : HashPair) (xs : List L) (rows : List (List Digest))
    (tree : IsTree h (map view xs) rows) where
  abbrev leaves : List Digest
  leaves = map view xs

  abbrev m : ℕ
  m = upper_levels leaves

  double : 2 ^ suc m ≡ 2 * 2 ^ m
  double = pow-succ' 2 m

  lowest_long : length leaves ≡ 2 * length (get_or rows 0 [])
  lowest_long = omega (arith, tree.levels 0 (omega (arith, tree.count)))

  lowest_size : length (get_or rows 0 []) ≡ 2 ^ m
  lowest_size = omega (arith, lowest_long, tree.size, double)

  pub leaves-even : length leaves % 2 ≡ 0
  leaves-even = omega (arith, lowest_long)

  pub lowest-size : length (get_or rows 0 []) ≡ 2 ^ (length rows - 1 - 0)
  lowest-size = let e : length rows - 1 - 0 ≡ m = omega (arith, tree.count) in rw e lowest_size

  lowest_is : row_above h.bottom leaves ≡ Ok (get_or rows 0 [])
  lowest_is = row_above-from h.bottom leaves (get_or rows 0 []) lowest_long (bottom-row h leaves rows tree)

  pub rows-hashed : AreHashed h.upper rows
  rows-hashed k below = row_above-from h.upper (get_or rows k []) (get_or rows (suc k) [])
      (row-twice rows (length leaves) tree.levels k below) (λ q inside. upper-row h leaves rows tree k q below inside)

  module _ (items : List (ℕ × L)) (given : AreChanges 0 (length xs) items) where
    abbrev cs : List (ℕ × Digest)
    cs = seen_changes view items

    rise : AreChanges 0 (length leaves) cs
    rise = AreChanges-seen view 0 (length leaves) items (AreChanges-inside view xs items given)

    abbrev new : List Digest
    new = puts leaves cs

    new_size : IsTreeSize (length new)
    new_size = (m, length-puts leaves cs ∙ tree.size)

    same_levels : upper_levels new ≡ m
    same_levels = upper_levels-is m new (length-puts leaves cs ∙ tree.size)

    above_m : length rows - 1 - 0 ≡ m
    above_m = omega (arith, tree.count)

    abbrev reached : Outcome (List (ℕ × Digest))
    reached = hashed_changes (of_couple h.bottom) (couples_reached leaves cs)

    within : AreChanges 0 (2 * 2 ^ m) cs
    within = rw (tree.size ∙ double) at rise

    rows_are : rows_of h (upper_levels new) new ≡ ((reached >>= λ ups. Ok (puts (get_or rows 0 []) ups)) >>= rows_from
        h.upper (length rows - 1 - 0))
    rows_are = ap (λ (n : ℕ). rows_of h n new) (same_levels ∙ sym above_m)
        ∙ ap (λ o. o >>= rows_from h.upper (length rows - 1 - 0)) (row_above-puts h.bottom leaves (get_or rows 0 []) cs
        leaves-even rise lowest_is)

    pub leaves-refused : (e : Error) → reached ≡ Err e → leaves_with_root h new ≡ Err e
    leaves-refused e is = rooted-refused h new e new_size (rows_are ∙ rw is refl)

    module _ {D : Type 0} (numbers : D → Digest) (ups : List (ℕ × D)) (made : reached ≡ Ok (seen_changes numbers ups))
      where
        raised : AreChanges 0 (length (get_or rows 0 [])) (seen_changes numbers ups)
        raised = rw lowest_size (hashed-inside h.bottom leaves cs (seen_changes numbers ups) made (2 ^ m) within)

        pub lowest-changes : AreChanges 0 (length (get_or rows 0 [])) ups
        lowest-changes = AreChanges-unseen numbers 0 (length (get_or rows 0 [])) ups raised

        pub leaves-refused_above : (e : Error) → rows_from h.upper (length rows - 1 - 0) (puts (get_or rows 0 [])
            (seen_changes numbers ups)) ≡ Err e → leaves_with_root h new ≡ Err e
        leaves-refused_above e is = rooted-refused h new e new_size (rows_are ∙ rw (made, is) refl)

        module _ (now : List (List Digest)) (is : rows_from h.upper (length rows - 1 - 0) (puts (get_or rows 0 [])
            (seen_changes numbers ups)) ≡ Ok now) where
          rows_now : rows_of h (upper_levels new) new ≡ Ok now
          rows_now = rows_are ∙ rw (made, is) refl

          pub leaves-changed : leaves_with_root h new ≡ Ok new
          leaves-changed = rooted-ok h new now new_size rows_now

          pub tree-changed : IsTree h new now
          tree-changed = is_tree h new now new_size rows_now

        pub count_over-leaves : count_over (length rows) (places items) ≡ length ups + count_over (length rows - 1 - 0)
            (places ups)
        count_over-leaves =
            ap (count_over (length rows)) (sym (places-seen view items))
            ∙ ap (λ (n : ℕ). count_over n (places cs)) tree.count
            ∙ ap (λ (ps : List ℕ). length ps + count_over m ps) (halves-hashed h.bottom leaves cs
            (seen_changes numbers ups) made (2 ^ m) within ∙ places-seen numbers ups)
            ∙ rw (above_m, length-map ups (λ c. c.0)) refl

    -- fewer places stand above leaves than there are
    pub count_over-below : count_over (length rows) (places items) < length xs
    count_over-below =
        let wide : length leaves ≡ 2 ^ length rows = tree.size ∙ ap (λ (n : ℕ). 2 ^ n) (sym tree.count) in
        let fits = count_over-fits (length rows) cs (rw wide at rise) in
        let seen = ap (count_over (length rows)) (places-seen view items) in
        omega (arith, length-map xs view)
