-- The couples that changed digests of a row reach, and what they change in the row above.
use Rattle.std.proofs.Common.{suc, ◌≡◌, ◌≢◌, ◌⊎◌, ℕ, ◌+◌, ◌-◌, ◌*◌, ◌/◌, ◌%◌, ◌<◌, ◌≤◌, ◌^◌, true, false, cond, eqb, List, [], ◌∷◌, length, map, drop, get_or, set, Ok, Err, inl, inr, refl, ap, sym, ◌∙◌, arith}
use Rattle.std.proofs.lemmas.Bool.{cases_lt, cases_eq, eq-eqb, ne_eqb}
use Rattle.std.proofs.lemmas.List.{get_or-map, drop_more, drop_all}
use Rattle.ark_base.specs.Outcome.{Outcome, ◌>>=◌}
use Rattle.ark_base.specs.Laws.Steps.{done_injective}
use Rattle.ark_paths.specs.Index.{bit_at}
use Rattle.ark_paths.specs.Pair.{Digest}
use Rattle.ark_paths.specs.Rows.{couples, row_above}
use Rattle.ark_paths.proofs.ListOutcomes.{each-cons}
use Rattle.ark_merkle.specs.Batch.{hashed_changes, puts}
use Rattle.ark_merkle.specs.Changed.{seen_changes, AreChanges, couple_of, couples_reached}
use Rattle.ark_merkle.proofs.Batches.{hashed-cons, AreChanges-later, AreChanges-at}

-- ---- a row with changed digests, cell by cell

-- the row from a place on, with the changed digests in it
abbrev merged : ℕ → List Digest → List (ℕ × Digest) → List Digest
merged from [] cs = []
merged from (x ∷ xs) [] = x ∷ xs
merged from (x ∷ xs) (c ∷ cs) = cond (eqb c.0 from) (c.1 ∷ merged (suc from) xs cs) (x ∷ merged (suc from) xs (c ∷ cs))

merged-none : (from : ℕ) (row : List Digest) → merged from row [] ≡ row
merged-none from [] = refl
merged-none from (x ∷ xs) = refl

merged-here : (from : ℕ) (x : Digest) (xs : List Digest) (c : ℕ × Digest) (cs : List (ℕ × Digest)) → c.0 ≡ from
    → merged from (x ∷ xs) (c ∷ cs) ≡ c.1 ∷ merged (suc from) xs cs
merged-here from x xs c cs same = rw (eq-eqb c.0 from same) refl

merged-past : (from end : ℕ) (x : Digest) (xs : List Digest) (cs : List (ℕ × Digest)) → AreChanges (suc from) end cs
    → merged from (x ∷ xs) cs ≡ x ∷ merged (suc from) xs cs
merged-past from end x xs [] so = ap (λ (ds : List Digest). x ∷ ds) (sym (merged-none (suc from) xs))
merged-past from end x xs (c ∷ cs) so = rw (ne_eqb c.0 from (λ same. omega (arith, so.0))) refl

merged-put : (from end : ℕ) (row : List Digest) (c : ℕ × Digest) (cs : List (ℕ × Digest)) → AreChanges from end (c ∷ cs)
    → merged from row (c ∷ cs) ≡ merged from (set row (c.0 - from) c.1) cs
merged-put from end [] c cs so = refl
merged-put from end (x ∷ xs) c cs so =
    let later = AreChanges-later (suc from) (suc c.0) end cs (omega (arith, so.0)) so.2 in
    elim (cases_lt from c.0) [
      | inl past ↦
          let e : c.0 - from ≡ suc (c.0 - suc from) = omega arith in
          merged-past from end x xs (c ∷ cs) (past, so.1, so.2) ∙ ap (λ (ds : List Digest). x ∷ ds)
          (merged-put (suc from) end xs c cs (past, so.1, so.2))
          ∙ rw e (sym (merged-past from end x (set xs (c.0 - suc from) c.1) cs later))
      | inr ge ↦
          let e : c.0 - from ≡ 0 = omega arith in
          merged-here from x xs c cs (omega (arith, so.0)) ∙ rw e (sym (merged-past from end c.1 xs cs later))
    ]

puts-merged : (end : ℕ) (row : List Digest) (cs : List (ℕ × Digest)) → AreChanges 0 end cs → puts row cs
    ≡ merged 0 row cs
puts-merged end row [] so = sym (merged-none 0 row)
puts-merged end row (c ∷ cs) so =
    let none : c.0 - 0 ≡ c.0 = omega arith in
    puts-merged end (set row c.0 c.1) cs (AreChanges-later 0 (suc c.0) end cs (omega arith) so.2)
    ∙ sym (merged-put 0 end row c cs so ∙ rw none refl)

-- ---- the couples that are reached

pub apart_halves : (a b : ℕ) → a < b → a / 2 ≢ b / 2 → suc (a / 2) ≤ b / 2
apart_halves a b lt other = elim (cases_lt (a / 2) (b / 2)) [ inl less ↦ less | inr ge ↦ absurd (other (omega arith)) ]

module _ (row : List Digest) where
  pub couples-both : (c d : ℕ × Digest) (others : List (ℕ × Digest)) → c.0 / 2 ≡ d.0 / 2 → couples_reached row
      (c ∷ d ∷ others) ≡ (c.0 / 2, (c.1, d.1)) ∷ couples_reached row others
  couples-both c d others same = rw (eq-eqb (c.0 / 2) (d.0 / 2) same) refl

  pub couples-apart : (c d : ℕ × Digest) (others : List (ℕ × Digest)) → c.0 / 2 ≢ d.0 / 2 → couples_reached row
      (c ∷ d ∷ others) ≡ (c.0 / 2, couple_of row c) ∷ couples_reached row (d ∷ others)
  couples-apart c d others other = rw (ne_eqb (c.0 / 2) (d.0 / 2) other) refl

  couple_of-left : (c : ℕ × Digest) (t : ℕ) (b : Digest) → c.0 ≡ 2 * t → get_or row (2 * t + 1) [] ≡ b
      → couple_of row c ≡ (c.1, b)
  couple_of-left c t b is b_is =
      let half : c.0 / 2 ≡ t = omega arith in
      rw (ne_eqb (c.0 / 2 ^ 0 % 2) 1 (λ odd. absurd (omega arith)), half, b_is) refl

  couple_of-right : (c : ℕ × Digest) (t : ℕ) (a : Digest) → c.0 ≡ 2 * t + 1 → get_or row (2 * t) [] ≡ a
      → couple_of row c ≡ (a, c.1)
  couple_of-right c t a is a_is =
      let half : c.0 / 2 ≡ t = omega arith in
      rw (eq-eqb (c.0 / 2 ^ 0 % 2) 1 (omega arith), half, a_is) refl

  -- the places of the couples rise as those of the changes do
  pub couples-rise : (first end : ℕ) (cs : List (ℕ × Digest)) → AreChanges first (2 * end) cs → AreChanges (first / 2)
      end (couples_reached row cs)
  couples-rise first end [] so = tt
  couples-rise first end (c ∷ []) so = (omega (arith, so.0), omega (arith, so.1), tt)
  couples-rise first end (c ∷ d ∷ others) so =
      elim (cases_eq (c.0 / 2) (d.0 / 2)) [
        | inl same ↦
            let rest = AreChanges-later (suc (c.0 / 2)) (suc d.0 / 2) end (couples_reached row others)
            (omega (arith, so.2.0)) (couples-rise (suc d.0) end others so.2.2) in
            rw (couples-both c d others same) (omega (arith, so.0), omega (arith, so.1), rest)
        | inr other ↦
            let rest = AreChanges-later (suc (c.0 / 2)) (d.0 / 2) end (couples_reached row (d ∷ others))
            (apart_halves c.0 d.0 so.2.0 other) (couples-rise d.0 end (d ∷ others) (omega arith, so.2.1, so.2.2)) in
            rw (couples-apart c d others other) (omega (arith, so.0), omega (arith, so.1), rest)
      ]

  -- a change whose neighbour stays makes a couple of its own
  couples-alone : (t end : ℕ) (c : ℕ × Digest) (cs : List (ℕ × Digest)) → c.0 / 2 ≡ t → AreChanges (2 * suc t) end cs
      → couples_reached row (c ∷ cs) ≡ (t, couple_of row c) ∷ couples_reached row cs
  couples-alone t end c [] half so = rw half refl
  couples-alone t end c (d ∷ cs) half so = couples-apart c d cs (λ same. absurd (omega (arith, so.0))) ∙ rw half refl

-- ---- the next two digests of a row

-- no change reaches them
record Skips (t end : ℕ) (a b : Digest) (rest : List Digest) (cs : List (ℕ × Digest)) : Type 0 where
  pub merged_is : merged (2 * t) (a ∷ b ∷ rest) cs ≡ a ∷ b ∷ merged (2 * suc t) rest cs
  pub later : AreChanges (2 * suc t) end cs

-- one or two do
record Hits (row : List Digest) (t end : ℕ) (a b : Digest) (rest : List Digest) (cs : List (ℕ × Digest)) : Type 0 where
  pub left : Digest
  pub right : Digest
  pub others : List (ℕ × Digest)
  pub merged_is : merged (2 * t) (a ∷ b ∷ rest) cs ≡ left ∷ right ∷ merged (2 * suc t) rest others
  pub couples_are : couples_reached row cs ≡ (t, (left, right)) ∷ couples_reached row others
  pub later : AreChanges (2 * suc t) end others

module _ (row : List Digest) (t end : ℕ) (a b : Digest) (rest : List Digest) (a_is : get_or row (2 * t) [] ≡ a)
    (b_is : get_or row (2 * t + 1) [] ≡ b) where
  up : suc (suc (2 * t)) ≡ 2 * suc t
  up = omega arith

  both_stay : (cs : List (ℕ × Digest)) → AreChanges (2 * suc t) end cs → merged (2 * t) (a ∷ b ∷ rest) cs ≡ a ∷ b
      ∷ merged (2 * suc t) rest cs
  both_stay cs later =
      merged-past (2 * t) end a (b ∷ rest) cs (AreChanges-later (suc (2 * t)) (2 * suc t) end cs (omega arith) later)
      ∙ ap (λ (ds : List Digest). a ∷ ds) (merged-past (suc (2 * t)) end b rest cs (rw up later)) ∙ ap (λ (n : ℕ). a ∷ b
      ∷ merged n rest cs) up

  right_changes : (c : ℕ × Digest) (cs : List (ℕ × Digest)) → c.0 ≡ 2 * t + 1 → c.0 < end → AreChanges (suc c.0) end cs
      → Hits row t end a b rest (c ∷ cs)
  right_changes c cs is below so =
      let next : suc c.0 ≡ 2 * suc t = omega arith in
      let later : AreChanges (2 * suc t) end cs = rw next at so in
      record {
        left = a;
        right = c.1;
        others = cs;
        merged_is = merged-past (2 * t) end a (b ∷ rest) (c ∷ cs) (omega arith, below, so) ∙ ap (λ (ds : List Digest). a
            ∷ ds) (merged-here (suc (2 * t)) b rest c cs (omega arith) ∙ ap (λ (n : ℕ). c.1 ∷ merged n rest cs) up);
        couples_are = rw (couples-alone row t end c cs (omega arith) later, couple_of-right row c t a is a_is) refl;
        later = later;
      }

  left_changes : (c : ℕ × Digest) (cs : List (ℕ × Digest)) → c.0 ≡ 2 * t → AreChanges (2 * suc t) end cs
      → Hits row t end a b rest (c ∷ cs)
  left_changes c cs is later = record {
    left = c.1;
    right = b;
    others = cs;
    merged_is = merged-here (2 * t) a (b ∷ rest) c cs is ∙ ap (λ (ds : List Digest). c.1 ∷ ds)
        (merged-past (suc (2 * t)) end b rest cs (rw up later) ∙ ap (λ (n : ℕ). b ∷ merged n rest cs) up);
    couples_are = rw (couples-alone row t end c cs (omega arith) later, couple_of-left row c t b is b_is) refl;
    later = later;
  }

  both_change : (c d : ℕ × Digest) (cs : List (ℕ × Digest)) → c.0 ≡ 2 * t → d.0 ≡ 2 * t + 1 → AreChanges (suc d.0) end
      cs → Hits row t end a b rest (c ∷ d ∷ cs)
  both_change c d cs is and so =
      let half : c.0 / 2 ≡ t = omega arith in
      record {
        left = c.1;
        right = d.1;
        others = cs;
        merged_is = merged-here (2 * t) a (b ∷ rest) c (d ∷ cs) is ∙ ap (λ (ds : List Digest). c.1 ∷ ds)
            (merged-here (suc (2 * t)) b rest d cs (omega arith) ∙ ap (λ (n : ℕ). d.1 ∷ merged n rest cs) up);
        couples_are = rw (couples-both row c d cs (omega arith), half) refl;
        later = AreChanges-later (2 * suc t) (suc d.0) end cs (omega arith) so;
      }

  left_first : (c : ℕ × Digest) (cs : List (ℕ × Digest)) → c.0 ≡ 2 * t → AreChanges (suc c.0) end cs → Hits row t end a
      b rest (c ∷ cs)
  left_first c [] is so = left_changes c [] is tt
  left_first c (d ∷ cs) is so =
      elim (cases_lt (2 * t + 1) d.0) [
        | inl past ↦ left_changes c (d ∷ cs) is (omega arith, so.1, so.2)
        | inr le ↦ both_change c d cs is (omega (arith, so.0)) so.2
      ]

  reach : (cs : List (ℕ × Digest)) → AreChanges (2 * t) end cs → Skips t end a b rest cs ⊎ Hits row t end a b rest cs
  reach [] so = inl (record { merged_is = both_stay [] tt; later = tt })
  reach (c ∷ cs) so =
      elim (cases_lt (2 * t + 1) c.0) [
        | inl past ↦ let later : AreChanges (2 * suc t) end (c ∷ cs) =
            (omega arith, so.1, so.2) in inl (record { merged_is = both_stay (c ∷ cs) later; later = later })
        | inr le ↦ inr (elim (cases_lt (2 * t) c.0) [
          | inl odd ↦ right_changes c cs (omega arith) so.1 so.2
          | inr even ↦ left_first c cs (omega (arith, so.0)) so.2
        ])
      ]

-- ---- a row that changes, and the row above it

module _ {A : Type 0} (hash : A → Outcome Digest) where
  pub hashed-rise : (first end : ℕ) (cs : List (ℕ × A)) (hs : List (ℕ × Digest)) → AreChanges first end cs
      → hashed_changes hash cs ≡ Ok hs → AreChanges first end hs
  hashed-rise first end [] hs so is = rw (← done_injective [] hs is) tt
  hashed-rise first end (c ∷ cs) hs so is = let f =
      hashed-cons hash c cs hs is in rw (← f.whole) (
        so.0,
        so.1,
        hashed-rise (suc c.0) end cs f.others so.2
            f.others_are,
      )

  pub hashed-places : (cs : List (ℕ × A)) (hs : List (ℕ × Digest)) → hashed_changes hash cs ≡ Ok hs → map (λ h. h.0) hs
      ≡ map (λ c. c.0) cs
  hashed-places [] hs is = rw (← done_injective [] hs is) refl
  hashed-places (c ∷ cs) hs is = let f = hashed-cons hash c cs hs is in rw (← f.whole) (ap (λ (ns : List ℕ). c.0 ∷ ns)
      (hashed-places cs f.others f.others_are))

module _ (hash : Digest → Digest → Outcome Digest) where
  abbrev pub of_couple : Digest × Digest → Outcome Digest
  of_couple couple = hash couple.0 couple.1

  skipped : (t end : ℕ) (d : Digest) (ds : List Digest) (o : Outcome (List (ℕ × Digest))) → ((ups : List (ℕ × Digest))
      → o ≡ Ok ups → AreChanges (suc t) end ups)
      → ((o >>= λ ups. Ok (merged (suc t) ds ups)) >>= λ hs. Ok (d ∷ hs)) ≡ (o >>= λ ups. Ok (merged t (d ∷ ds) ups))
  skipped t end d ds (Err e) rise = refl
  skipped t end d ds (Ok ups) rise = ap Ok (sym (merged-past t end d ds ups (rise ups refl)))

  hit : (t : ℕ) (d : Digest) (ds : List Digest) (h : Outcome Digest) (o : Outcome (List (ℕ × Digest)))
      → (h >>= λ x. (o >>= λ ups. Ok (merged (suc t) ds ups)) >>= λ hs. Ok (x ∷ hs))
      ≡ ((h >>= λ x. o >>= λ ups. Ok ((t, x) ∷ ups)) >>= λ ups. Ok (merged t (d ∷ ds) ups))
  hit t d ds (Err e) o = refl
  hit t d ds (Ok x) (Err e) = refl
  hit t d ds (Ok x) (Ok ups) = ap Ok (sym (merged-here t d ds (t, x) ups refl))

  merged-above : (row : List Digest) (t : ℕ) (xs above : List Digest) (cs : List (ℕ × Digest))
      → ((j : ℕ) → j < length xs → get_or row (2 * t + j) [] ≡ get_or xs j []) → length xs % 2 ≡ 0 → AreChanges (2 * t)
      (2 * t + length xs) cs
      → row_above hash xs ≡ Ok above → row_above hash (merged (2 * t) xs cs)
      ≡ (hashed_changes of_couple (couples_reached row cs) >>= λ ups. Ok (merged t above ups))
  merged-above row t [] above [] same even so is = is ∙ ap Ok (sym (merged-none t above))
  merged-above row t [] above (c ∷ cs) same even so is = absurd (omega (arith, so.0, so.1))
  merged-above row t (a ∷ []) above cs same even so is = absurd (omega arith)
  merged-above row t (a ∷ b ∷ rest) above cs same even so is =
      let f = each-cons of_couple (a, b) (couples rest) above is in
      let at : 2 * t + length (a ∷ b ∷ rest) ≡ 2 * suc t + length rest = omega arith in
      let first : get_or row (2 * t) [] ≡ a = ap (λ (n : ℕ). get_or row n []) (omega arith) ∙ same 0 (omega arith) in
      let second : get_or row (2 * t + 1) [] ≡ b = same 1 (omega arith) in
      let others : (j : ℕ) → j < length rest → get_or row (2 * suc t + j) [] ≡ get_or rest j [] = λ j below. let e :
      2 * suc t + j ≡ 2 * t + suc (suc j) = omega arith in rw e (same (suc (suc j)) (omega arith)) in
      let next : (ds : List (ℕ × Digest)) → AreChanges (2 * suc t) (2 * suc t + length rest) ds → row_above hash
      (merged (2 * suc t) rest ds) ≡ (hashed_changes of_couple (couples_reached row ds) >>= λ ups.
      Ok (merged (suc t) f.others ups)) =
      λ ds later. merged-above row (suc t) rest f.others ds others (omega arith) later f.others_are in
      rw (← f.digests_are)
      (by f.digest f.others next f.digest_is (reach row t (2 * suc t + length rest) a b rest first second cs
      (rw at at so)))
    where
      by : (d : Digest) (ds : List Digest) → ((ps : List (ℕ × Digest)) → AreChanges (2 * suc t)
          (2 * suc t + length rest) ps → row_above hash (merged (2 * suc t) rest ps)
          ≡ (hashed_changes of_couple (couples_reached row ps) >>= λ ups. Ok (merged (suc t) ds ups)))
          → hash a b ≡ Ok d → Skips t (2 * suc t + length rest) a b rest cs ⊎ Hits row t (2 * suc t + length rest)
          a b rest cs
          → row_above hash (merged (2 * t) (a ∷ b ∷ rest) cs) ≡ (hashed_changes of_couple (couples_reached row cs) >>=
          λ ups. Ok (merged t (d ∷ ds) ups))
      by d ds next is (inl s) =
          let e = (2 * suc t + length rest) / 2 in
          let twice : 2 * suc t + length rest ≡ 2 * e = omega arith in
          let half : 2 * suc t / 2 ≡ suc t = omega arith in
          let rise = couples-rise row (2 * suc t) e cs (rw twice at s.later) in
          rw (s.merged_is, is, next cs s.later) (skipped t e d ds (hashed_changes of_couple (couples_reached row cs))
          (λ ups made. hashed-rise of_couple (suc t) e (couples_reached row cs) ups (rw half at rise) made))
      by d ds next is (inr h) = rw (h.merged_is, h.couples_are, next h.others h.later) (hit t d ds (hash h.left h.right)
          (hashed_changes of_couple (couples_reached row h.others)))

  put-merged : (end : ℕ) (above : List Digest) (o : Outcome (List (ℕ × Digest))) → ((ups : List (ℕ × Digest)) → o
      ≡ Ok ups → AreChanges 0 end ups) → (o >>= λ ups. Ok (merged 0 above ups)) ≡ (o >>= λ ups. Ok (puts above ups))
  put-merged end above (Err e) rise = refl
  put-merged end above (Ok ups) rise = ap Ok (sym (puts-merged end above ups (rise ups refl)))

  -- The row above a changed row is the old one with the hashes of the couples that the changes reach.
  pub row_above-puts : (row above : List Digest) (cs : List (ℕ × Digest)) → length row % 2 ≡ 0 → AreChanges 0
      (length row) cs → row_above hash row ≡ Ok above
      → row_above hash (puts row cs) ≡ (hashed_changes of_couple (couples_reached row cs) >>= λ ups.
      Ok (puts above ups))
  row_above-puts row above cs even so is =
      let e = length row / 2 in
      let none : 0 + length row ≡ length row = omega arith in
      let twice : length row ≡ 2 * e = omega arith in
      let rise = couples-rise row 0 e cs (rw twice at so) in
      ap (row_above hash) (puts-merged (length row) row cs so)
      ∙ merged-above row 0 row above cs (λ j below. ap (λ (n : ℕ). get_or row n []) (omega arith)) even (rw none so) is
      ∙ put-merged e above (hashed_changes of_couple (couples_reached row cs)) (λ ups made. hashed-rise of_couple 0 e
      (couples_reached row cs) ups rise made)

-- ---- the couples from one of the changes on

-- its couple has no other change
abbrev pub IsAlone : {A : Type 0} → (A → Digest) → List Digest → List (ℕ × A) → ℕ → ℕ × A → Type 0
IsAlone numbers row changes n c =
    let from = λ (k : ℕ). couples_reached row (seen_changes numbers (drop k changes)) in
    from n ≡ (c.0 / 2, couple_of row (c.0, numbers c.1)) ∷ from (n + 1)

module _ {A : Type 0} (changes : List (ℕ × A)) (n : ℕ) (c : ℕ × A) (below : n < length changes)
    (is : c ≡ get_or changes n c) where
  here : drop n changes ≡ c ∷ drop (n + 1) changes
  here = drop_more changes n c below ∙ ap (λ (d : ℕ × A). d ∷ drop (n + 1) changes) (sym is)

  pub reached-last : (numbers : A → Digest) (row : List Digest) → length changes ≤ n + 1
      → IsAlone numbers row changes n c
  reached-last numbers row last = rw (here, drop_all (n + 1) changes last) refl

  pub reached-apart : (numbers : A → Digest) (row : List Digest) (d : ℕ × A) → n + 1 < length changes
      → d ≡ get_or changes (n + 1) d → (get_or changes (n + 1) d).0 / 2 ≢ c.0 / 2 → IsAlone numbers row changes n c
  reached-apart numbers row d next d_is other =
      let there = drop_more changes (n + 1) d next in
      rw (here, there, ← d_is) (couples-apart row (c.0, numbers c.1) (d.0, numbers d.1)
      (seen_changes numbers (drop (n + 1 + 1) changes)) (λ same. other (rw (← d_is) (sym same))))

  -- both digests of its couple stand in the row
  pub couple-inside : (end : ℕ) → end % 2 ≡ 0 → AreChanges 0 end changes → 2 * (c.0 / 2) + 1 < end
  couple-inside end even so =
      let inside : c.0 < end = rw (← is) at (AreChanges-at 0 end changes n c so below) in
      omega (arith, inside, even)

-- the digest beside a changed one
module _ {A : Type 0} (numbers : A → Digest) (row : List A) (place : ℕ) (digest beside : A) where
  pub couple-right : 2 * (place / 2) < length row → beside ≡ get_or row (2 * (place / 2)) beside → bit_at place 0 ≡ true
      → couple_of (map numbers row) (place, numbers digest) ≡ (numbers beside, numbers digest)
  couple-right inside is bit =
      rw (bit, get_or-map numbers row (2 * (place / 2)) beside [] inside, ← is) refl

  pub couple-left : 2 * (place / 2) + 1 < length row → beside ≡ get_or row (2 * (place / 2) + 1) beside
      → bit_at place 0 ≡ false → couple_of (map numbers row) (place, numbers digest) ≡ (numbers digest, numbers beside)
  couple-left inside is bit =
      rw (bit, get_or-map numbers row (2 * (place / 2) + 1) beside [] inside, ← is) refl
