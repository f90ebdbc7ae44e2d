-- Rows above changed digests: what they become, and how many places are hashed.
use Rattle.std.proofs.Common.{zero, suc, ◌≡◌, ◌≢◌, ◌⊎◌, inl, inr, ℕ, ◌+◌, ◌-◌, ◌*◌, ◌/◌, ◌%◌, ◌<◌, ◌≤◌, ◌^◌, List, [], ◌∷◌, length, map, take, drop, get_or, set, Ok, Err, refl, ap, sym, ◌∙◌, arith}
use Rattle.std.proofs.lemmas.Bool.{cases_eq}
use Rattle.std.proofs.lemmas.List.{length-map, drop-set, drop_all, take-set, take-take, get_or-take}
use Rattle.std.proofs.Math.Nat.{pow-succ', pow-le-pow_right}
use Rattle.ark_base.specs.declared.error.Error.{Error}
use Rattle.ark_base.specs.Outcome.{Outcome, ◌>>=◌}
use Rattle.ark_paths.specs.Pair.{Digest}
use Rattle.ark_paths.specs.Rows.{row_above, rows_from}
use Rattle.ark_paths.proofs.CoupleLemmas.{length-paired}
use Rattle.ark_merkle.proofs.ListParts.{map-twice}
use Rattle.ark_merkle.specs.Batch.{hashed_changes, puts}
use Rattle.ark_merkle.specs.Changed.{seen_changes, AreChanges, AreHashed, couples_reached, count_over}
use Rattle.ark_paths.specs.Rising.{with_number, rising_set}
use Rattle.ark_merkle.proofs.Batches.{AreChanges-later, AreChanges-seen, AreChanges-unseen}
use Rattle.ark_paths.proofs.MultiIndexes.{placed-below, placed-same}
use Rattle.ark_merkle.proofs.Reached.{of_couple, apart_halves, couples-both, couples-apart, couples-rise, hashed-rise, hashed-places, row_above-puts}

-- ---- places

abbrev pub places : {A : Type 0} → List (ℕ × A) → List ℕ
places cs = map (λ c. c.0) cs

pub places-seen : {A B : Type 0} (view : A → B) (cs : List (ℕ × A)) → places (seen_changes view cs) ≡ places cs
places-seen view cs = map-twice (λ c. (c.0, view c.1)) (λ c. c.0) (λ c. c.0) cs (λ c. refl)

placed-first : {A : Type 0} (n end : ℕ) (cs : List (ℕ × A)) → AreChanges (suc n) end cs → with_number n (places cs) ≡ n
    ∷ places cs
placed-first n end [] so = refl
placed-first n end (c ∷ cs) so = placed-below n c.0 (places cs) (so.0)

length-changes : {A : Type 0} (first end : ℕ) (cs : List (ℕ × A)) → AreChanges first end cs → first ≤ end
    → length cs + first ≤ end
length-changes first end [] so le = omega arith
length-changes first end (c ∷ cs) so le = let more = length-changes (suc c.0) end cs so.2 (so.1) in
    omega (arith, so.0, more)

module _ (row : List Digest) where
  -- the places of the couples are the halves of those of the changes
  pub halves-reached : (first end : ℕ) (cs : List (ℕ × Digest)) → AreChanges first (2 * end) cs
      → rising_set (map (λ place. place / 2) (places cs)) ≡ places (couples_reached row cs)
  halves-reached first end [] so = refl
  halves-reached first end (c ∷ []) so = refl
  halves-reached first end (c ∷ d ∷ others) so = by (cases_eq (c.0 / 2) (d.0 / 2)) (halves-reached (suc d.0) end others
      so.2.2) (halves-reached (suc c.0) end (d ∷ others) so.2)
    where
      by : (c.0 / 2 ≡ d.0 / 2) ⊎ (c.0 / 2 ≢ d.0 / 2) → rising_set (map (λ place. place / 2) (places others))
          ≡ places (couples_reached row others)
          → rising_set (map (λ place. place / 2) (places (d ∷ others))) ≡ places (couples_reached row (d ∷ others))
          → with_number (c.0 / 2) (rising_set (map (λ place. place / 2) (places (d ∷ others))))
          ≡ places (couples_reached row (c ∷ d ∷ others))
      by (inl same) far near =
          let rise = couples-rise row (suc d.0) end others so.2.2 in
          let odd : suc d.0 / 2 ≡ suc (d.0 / 2) = omega (arith, so.2.0) in
          let first_is = placed-first (d.0 / 2) end (couples_reached row others) (rw odd at rise) in
          let rest = places (couples_reached row others) in
          ap (with_number (c.0 / 2)) (ap (with_number (d.0 / 2)) far ∙ first_is) ∙ placed-same (c.0 / 2)
          (d.0 / 2) rest same
          ∙ ap (λ (n : ℕ). n ∷ rest) (sym same) ∙ sym (ap places (couples-both row c d others same))
      by (inr other) far near =
          let rise = couples-rise row d.0 end (d ∷ others) (omega arith, so.2.1, so.2.2) in
          let apart : suc (c.0 / 2) ≤ d.0 / 2 = apart_halves c.0 d.0 so.2.0 other in
          rw (couples-apart row c d others other, near) (placed-first (c.0 / 2) end (couples_reached row (d ∷ others))
          (AreChanges-later (suc (c.0 / 2)) (d.0 / 2) end (couples_reached row (d ∷ others)) apart rise))

-- ---- how many places are hashed

module _ (hash : Digest → Digest → Outcome Digest) (row : List Digest) (cs : List (ℕ × Digest))
    (ups : List (ℕ × Digest)) (made : hashed_changes (of_couple hash) (couples_reached row cs) ≡ Ok ups) where
  pub halves-hashed : (end : ℕ) → AreChanges 0 (2 * end) cs → rising_set (map (λ place. place / 2) (places cs))
      ≡ places ups
  halves-hashed end so = halves-reached row 0 end cs so ∙ sym (hashed-places (of_couple hash)
      (couples_reached row cs) ups made)

  pub hashed-inside : (end : ℕ) → AreChanges 0 (2 * end) cs → AreChanges 0 end ups
  hashed-inside end so = hashed-rise (of_couple hash) 0 end (couples_reached row cs) ups (couples-rise row 0 end
      cs so) made

-- fewer places stand above a row than in it
pub count_over-fits : (rows : ℕ) (cs : List (ℕ × Digest)) → AreChanges 0 (2 ^ rows) cs → count_over rows (places cs)
    + 1 ≤ 2 ^ rows
count_over-fits zero cs so = omega arith
count_over-fits (suc rows) cs so =
    let twice : 2 ^ suc rows ≡ 2 * 2 ^ rows = pow-succ' 2 rows in
    let reached = couples_reached [] cs in
    let ups = seen_changes (λ (couple : Digest × Digest). couple.0) reached in
    let within : AreChanges 0 (2 * 2 ^ rows) cs = rw twice at so in
    let inside = AreChanges-seen (λ (couple : Digest × Digest). couple.0) 0 (2 ^ rows) reached
    (couples-rise [] 0 (2 ^ rows) cs within) in
    let halves : rising_set (map (λ place. place / 2) (places cs)) ≡ places ups = halves-reached [] 0 (2 ^ rows) cs
    within ∙ sym (places-seen (λ (couple : Digest × Digest). couple.0) reached) in
    let more = count_over-fits rows ups inside in
    let few = length-changes 0 (2 ^ rows) ups inside (omega arith) in
    rw halves (omega (arith, length-map ups (λ c. c.0), few, more, twice))

-- ---- a row that changes, and the rows above it

pub row-kept : (rows now : List (List Digest)) (row : ℕ) → take (row + 1) now ≡ take (row + 1) rows → get_or now row []
    ≡ get_or rows row []
row-kept rows now row same = sym (get_or-take (row + 1) now row [] (omega arith)) ∙ ap (λ (rs : List (List Digest)).
    get_or rs row []) same ∙ get_or-take (row + 1) rows row [] (omega arith)

pub below-kept : (rows now : List (List Digest)) (row : ℕ) (new : List Digest) → take (row + 1) now ≡ take (row + 1)
    rows → take row (set now row new) ≡ take row rows
below-kept rows now row new same = take-set now row new ∙ sym (take-take row (row + 1) now (omega arith))
    ∙ ap (take row) same ∙ take-take row (row + 1) rows (omega arith)

pub last-changed : (hash : Digest → Digest → Outcome Digest) (rows : List (List Digest)) (row : ℕ) (new : List Digest)
    → length rows ≡ row + 1 → rows_from hash (length rows - 1 - row) new ≡ Ok (drop row (set rows row new))
last-changed hash rows row new last =
    let none : length rows - 1 - row ≡ 0 = omega arith in
    rw (none, drop-set rows row new (omega arith), drop_all (row + 1) rows (omega arith)) refl

module _ (hash : Digest → Digest → Outcome Digest) (rows : List (List Digest)) (row : ℕ)
    (size : length (get_or rows row []) ≡ 2 ^ (length rows - 1 - row)) (hashed : AreHashed hash rows)
    (below : row + 1 < length rows) where
  abbrev above : ℕ
  above = length rows - 1 - (row + 1)

  here : length rows - 1 - row ≡ suc above
  here = omega (arith, below)

  twice : length (get_or rows row []) ≡ 2 * 2 ^ above
  twice = size ∙ ap (λ (n : ℕ). 2 ^ n) here ∙ pow-succ' 2 above

  next_is : row_above hash (get_or rows row []) ≡ Ok (get_or rows (row + 1) [])
  next_is = let one : suc row ≡ row + 1 = omega arith in hashed row (omega (arith, below))
      ∙ ap (λ (n : ℕ). Ok (get_or rows n [])) one

  pub row-even : length (get_or rows row []) % 2 ≡ 0
  row-even = omega (arith, twice)

  pub size-above : length (get_or rows (row + 1) []) ≡ 2 ^ above
  size-above = omega (arith, length-paired hash (get_or rows row []) (get_or rows (row + 1) []) next_is, twice)

  module _ {D : Type 0} (numbers : D → Digest) (items : List (ℕ × D))
      (given : AreChanges 0 (length (get_or rows row [])) items) where
    abbrev cs : List (ℕ × Digest)
    cs = seen_changes numbers items

    rise : AreChanges 0 (length (get_or rows row [])) cs
    rise = AreChanges-seen numbers 0 (length (get_or rows row [])) items given

    within : AreChanges 0 (2 * 2 ^ above) cs
    within = rw twice at rise

    abbrev reached : Outcome (List (ℕ × Digest))
    reached = hashed_changes (of_couple hash) (couples_reached (get_or rows row []) cs)

    abbrev new : List Digest
    new = puts (get_or rows row []) cs

    from_here : rows_from hash (length rows - 1 - row) new ≡ ((reached >>= λ ups. Ok (puts (get_or rows (row + 1) [])
        ups)) >>= λ next. rows_from hash above next >>= λ rest. Ok (new ∷ rest))
    from_here = ap (λ (n : ℕ). rows_from hash n new) here ∙ ap (λ o. o >>= λ next. rows_from hash above next >>= λ rest.
        Ok (new ∷ rest)) (row_above-puts hash (get_or rows row []) (get_or rows (row + 1) []) cs row-even rise next_is)

    pub rows-refused : (e : Error) → reached ≡ Err e → rows_from hash (length rows - 1 - row) new ≡ Err e
    rows-refused e is = from_here ∙ rw is refl

    -- fewer places are hashed than a count of digests can be
    pub count_over-few : length rows ≤ 64 → count_over (length rows - 1 - row) (places items) < 2 ^ 63
    count_over-few most =
        let fits : count_over (length rows - 1 - row) (places cs) + 1 ≤ 2 ^ (length rows - 1 - row) =
        count_over-fits (length rows - 1 - row) cs (rw size at rise) in
        let levels : length rows - 1 - row ≤ 63 = omega (arith, most) in
        let few = pow-le-pow_right {n = 2} (omega arith) levels in
        omega (arith, fits, few, ap (count_over (length rows - 1 - row)) (places-seen numbers items))

    module _ (ups : List (ℕ × D)) (made : reached ≡ Ok (seen_changes numbers ups)) where
      raised : AreChanges 0 (length (get_or rows (row + 1) [])) (seen_changes numbers ups)
      raised = rw size-above (hashed-inside hash (get_or rows row []) cs (seen_changes numbers ups) made (2 ^ above)
          within)

      pub changes-above : AreChanges 0 (length (get_or rows (row + 1) [])) ups
      changes-above = AreChanges-unseen numbers 0 (length (get_or rows (row + 1) [])) ups raised

      pub rows-refused_above : (e : Error) → rows_from hash above (puts (get_or rows (row + 1) [])
          (seen_changes numbers ups)) ≡ Err e → rows_from hash (length rows - 1 - row) new ≡ Err e
      rows-refused_above e is = from_here ∙ rw (made, is) refl

      pub rows-changed : (now : List (List Digest)) → length now ≡ length rows → take (row + 1) now ≡ take (row + 1)
          rows → rows_from hash above (puts (get_or rows (row + 1) []) (seen_changes numbers ups))
          ≡ Ok (drop (row + 1) now)
          → rows_from hash (length rows - 1 - row) new ≡ Ok (drop row (set now row (puts (get_or now row []) cs)))
      rows-changed now long same is =
          let inside : row < length now = omega (arith, long, below) in
          let old = row-kept rows now row same in
          from_here ∙ rw (made, is, old) (ap Ok (sym (drop-set now row new inside)))

      pub count_over-hashed : count_over (length rows - 1 - row) (places items) ≡ length ups + count_over above
          (places ups)
      count_over-hashed =
          ap (count_over (length rows - 1 - row)) (sym (places-seen numbers items))
          ∙ ap (λ (n : ℕ). count_over n (places cs)) here
          ∙ ap (λ (ps : List ℕ). length ps + count_over above ps) (halves-hashed hash (get_or rows row []) cs
          (seen_changes numbers ups) made (2 ^ above) within ∙ places-seen numbers ups)
          ∙ ap (λ (n : ℕ). n + count_over above (places ups)) (length-map ups (λ c. c.0))
