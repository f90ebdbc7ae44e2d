-- The rows that more leaves put behind those of a log, level by level.
use Rattle.std.proofs.Common.{zero, suc, ◌≡◌, ℕ, ◌+◌, ◌*◌, ◌/◌, ◌<◌, ◌≤◌, List, [], ◌∷◌, ◌++◌, length, map, drop, get_or, Ok, Err, IfOk, IfErr, ◌⊎◌, arith, refl, ap, sym, ◌∙◌, inl, inr}
use Rattle.std.proofs.lemmas.Bool.{cases_lt}
use Rattle.std.proofs.lemmas.List.{append-nil, get_or_append_left, get_or_past, get_or_push, length-append}
use Rattle.ark_base.specs.declared.error.Error.{Error}
use Rattle.ark_base.specs.declared.error.Error.TheVariants.{OutOfMemory}
use Rattle.ark_base.specs.Outcome.{AnswersBy, Outcome, ◌>>=◌}
use Rattle.ark_base.specs.Laws.Steps.{done_injective}
use Rattle.ark_crh.specs.Ahead.{of_couple}
use Rattle.ark_paths.specs.Pair.{Digest}
use Rattle.ark_paths.specs.Root.{all_hashes}
use Rattle.ark_paths.specs.Rows.{couples}
use Rattle.ark_paths.proofs.ListOutcomes.{begun, begun-nil}
use Rattle.merkle_log.specs.Append.{RefusesRow}
use Rattle.merkle_log.specs.Log.{NodeHash}
use Rattle.merkle_log.specs.Rising.{AreOfSize, with_rows}
use Rattle.merkle_log.specs.Stored.{row_at, row_pairs, IsStored, StoredValue}
use Rattle.merkle_log.specs.Walk.{index_up}
use Rattle.merkle_log.proofs.KeptRows.{length-up}
use Rattle.merkle_log.proofs.Lasts.{length-row_pairs, pairs_parts}
use Rattle.merkle_log.proofs.Positions.{length-row_of, up-more}

-- ---- a row

module _ (hash : NodeHash) where
  pairs-are : (row : List Digest) → row_pairs hash row ≡ all_hashes (of_couple hash) (couples row)
  pairs-are [] = refl
  pairs-are (a ∷ []) = refl
  pairs-are (a ∷ b ∷ row) = ap (λ o. hash a b >>= λ c. o >>= λ next. Ok (c ∷ next)) (pairs-are row)

  -- A row with more behind it has the pairs that it had, and those that the others complete.
  begun-behind : (first : Digest) (row : List Digest) (more : Outcome (List Digest))
      → (begun row more >>= λ next. Ok (first ∷ next)) ≡ begun (first ∷ row) more
  begun-behind first row (Ok above) = refl
  begun-behind first row (Err e) = refl

  -- what the couples are hashed to that others behind a row complete
  abbrev completed : List Digest → List Digest → Outcome (List Digest)
  completed row more = all_hashes (of_couple hash) (couples (drop (2 * (length row / 2)) row ++ more))

  pairs-over : (row next more : List Digest) → row_pairs hash row ≡ Ok next → row_pairs hash (row ++ more)
      ≡ begun next (completed row more)
  pairs-over [] next more is =
      pairs-are more ∙ begun-nil (completed [] more)
      ∙ ap (λ l. begun l (completed [] more)) (done_injective {E = Error} [] next is)
  pairs-over (a ∷ []) next more is =
      pairs-are (a ∷ more) ∙ begun-nil (completed (a ∷ []) more)
      ∙ ap (λ l. begun l (completed (a ∷ []) more)) (done_injective {E = Error} [] next is)
  pairs-over (a ∷ b ∷ row) next more is =
      let p = pairs_parts hash a b row next is in
      let two : 2 * (length (a ∷ b ∷ row) / 2) ≡ suc (suc (2 * (length row / 2))) = omega arith in
      rw (two, p.2, pairs-over row p.1 more p.3) (begun-behind p.0 p.1 (completed row more)
      ∙ ap (λ l. begun l (completed row more)) p.4)

  -- what the hashes of the couples say
  module _ {R : Type 0} (view : R → List Digest) (all : List (Digest × Digest)) (row next more : List Digest)
      (is : row_pairs hash row ≡ Ok next) (same : couples (drop (2 * (length row / 2)) row ++ more) ≡ all) where
    over-all : row_pairs hash (row ++ more) ≡ begun next (all_hashes (of_couple hash) all)
    over-all = pairs-over row next more is ∙ ap (λ c. begun next (all_hashes (of_couple hash) c)) same

    pub over-hashed : (result : Outcome R) → AnswersBy view (all_hashes (of_couple hash) all) result
        → IfOk result (λ above. row_pairs hash (row ++ more) ≡ Ok (next ++ view above))
    over-hashed (Ok above) answer = over-all ∙ ap (begun next) answer
    over-hashed (Err e) answer = tt

    pub over-refused : (result : Outcome R) → AnswersBy view (all_hashes (of_couple hash) all) result
        → IfErr result (λ error. (error ≡ OutOfMemory) ⊎ (row_pairs hash (row ++ more) ≡ Err error))
    over-refused (Ok above) answer = tt
    over-refused (Err e) answer = elim answer [
      | inl memory ↦ inl memory
      | inr refused ↦ inr (over-all ∙ ap (begun next) refused)
    ]

  -- A row and what others put behind the one above are fewer than the row and these.
  pub over-fewer : (stored : StoredValue) (level count : ℕ) (more above : List Digest)
      → count ≡ length (row_at stored level) → 0 < length more
      → row_pairs hash (row_at stored level ++ more) ≡ Ok (row_at stored (level + 1) ++ above)
      → count / 2 + length above < count + length more
  over-fewer stored level count more above is some over = omega (
    arith,
    length-row_pairs hash _ _ over,
    length-append (row_at stored level) more,
    length-append (row_at stored (level + 1)) above,
    length-up stored level,
  )

-- ---- level by level

-- what stands on a level of such rows
abbrev pub standing : {A : Type 0} → (A → Digest) → List (List A) → ℕ → List Digest
standing numbers lists level = map numbers (get_or lists level [])

-- the same, the last of them apart
abbrev pub risen : {A : Type 0} → (A → Digest) → List (List A) → List A → ℕ → List Digest
risen numbers lists row level = standing numbers (lists ++ row ∷ []) level

-- The rows so far have the hashes of the pairs below them.
pub record Rising {A : Type 0} (numbers : A → Digest) (hash : NodeHash) (rows : ℕ → List Digest)
    (leaves : List Digest) (lists : List (List A)) (row : List A) : Type 0 where
  pub lowest : risen numbers lists row 0 ≡ leaves
  pub hashed : (l : ℕ) → l < length lists
      → row_pairs hash (with_rows rows (risen numbers lists row) l)
      ≡ Ok (with_rows rows (risen numbers lists row) (l + 1))

module _ {A : Type 0} {numbers : A → Digest} {hash : NodeHash} {rows : ℕ → List Digest} {leaves : List Digest} where
  pub rising-first : (row : List A) → map numbers row ≡ leaves → Rising numbers hash rows leaves [] row
  rising-first row is = record { lowest = is; hashed = λ l below. absurd (omega arith) }

  module _ {lists : List (List A)} {row : List A} (at : Rising numbers hash rows leaves lists row) where
    -- the row that was the last one
    top : (level : ℕ) → level ≡ length lists → get_or (lists ++ row ∷ []) level [] ≡ row
    top level is = get_or_push lists row [] level (sym is)

    pub rising-next : (above : List A) → row_pairs hash (rows (length lists) ++ map numbers row)
        ≡ Ok (rows (length lists + 1) ++ map numbers above)
        → Rising numbers hash rows leaves (lists ++ row ∷ []) above
    rising-next above is = record {
      lowest = stays 0 (omega arith) ∙ at.lowest;
      hashed = λ l below. elim (cases_lt l (length lists)) [
        | inl less ↦
            ap (λ d. row_pairs hash (rows l ++ d)) (stays l (omega arith)) ∙ at.hashed l less
            ∙ ap (λ d. Ok (rows (l + 1) ++ d)) (sym (stays (l + 1) (omega arith)))
        | inr ge ↦
            let e : l ≡ length lists = omega (arith, long) in
            ap (λ d. row_pairs hash (rows l ++ d)) (stays l (omega arith) ∙ ap (map numbers) (top l e))
            ∙ ap (λ n. row_pairs hash (rows n ++ map numbers row)) e ∙ is
            ∙ ap (λ n. Ok (rows (n + 1) ++ map numbers above)) (sym e)
            ∙ ap (λ d. Ok (rows (l + 1) ++ map numbers d))
            (sym (get_or_push (lists ++ row ∷ []) above [] (l + 1) (omega (arith, long))))
      ];
    }
      where
        long : length (lists ++ row ∷ []) ≡ length lists + 1
        long = length-append lists (row ∷ [])

        stays : (l : ℕ) → l < length lists + 1 → risen numbers (lists ++ row ∷ []) above l
            ≡ risen numbers lists row l
        stays l below = ap (map numbers) (get_or_append_left (lists ++ row ∷ []) (above ∷ []) [] l
            (omega (arith, long)))

    -- The hash refuses a pair of the last row and what stands before it.
    pub rising-refused : (error : Error) → row_pairs hash (rows (length lists) ++ map numbers row) ≡ Err error
        → RefusesRow hash (rows 0 ++ leaves) error
    rising-refused error is = record {
      rows = with_rows rows (risen numbers lists row);
      level = length lists;
      lowest = ap (λ l. rows 0 ++ l) at.lowest;
      hashed = λ k below.
          let e : k + 1 ≡ suc k = omega arith in
          at.hashed k below ∙ ap (λ n. Ok (with_rows rows (risen numbers lists row) n)) e;
      refused = ap (λ d. row_pairs hash (rows (length lists) ++ map numbers d)) (top (length lists) refl) ∙ is;
    }

    -- The last row has no digests.
    module _ (none : length row ≡ 0) where
      nothing : (xs : List A) → length xs ≡ 0 → xs ≡ []
      nothing [] is = refl
      nothing (x ∷ xs) is = absurd (omega arith)

      over : (l : ℕ) → length lists ≤ l → standing numbers lists l ≡ []
      over l past = ap (map numbers) (get_or_past lists l [] past)

      same : (l : ℕ) → risen numbers lists row l ≡ standing numbers lists l
      same l = elim (cases_lt l (length lists)) [
        | inl less ↦ ap (map numbers) (get_or_append_left lists (row ∷ []) [] l less)
        | inr ge ↦ elim (cases_lt (length lists) l) [
          | inl past ↦
              ap (map numbers) (get_or_past (lists ++ row ∷ []) l [] (omega (arith, length-append lists (row ∷ []))))
              ∙ sym (over l ge)
          | inr le ↦ ap (map numbers) (top l (omega arith) ∙ nothing row none) ∙ sym (over l ge)
        ]
      ]

      pub risen-stored : IsStored hash rows → IsStored hash (with_rows rows (standing numbers lists))
      risen-stored stored = record {
        pairs = λ l.
            let e : l + 1 ≡ suc l = omega arith in
            elim (cases_lt l (length lists)) [
              | inl less ↦
                  ap (λ d. row_pairs hash (rows l ++ d)) (sym (same l)) ∙ at.hashed l less
                  ∙ ap (λ n. Ok (rows n ++ risen numbers lists row n)) e
                  ∙ ap (λ d. Ok (rows (suc l) ++ d)) (same (suc l))
              | inr ge ↦
                  ap (λ d. row_pairs hash (rows l ++ d)) (over l ge) ∙ ap (row_pairs hash) (append-nil (rows l))
                  ∙ stored.pairs l ∙ ap Ok (sym (append-nil (rows (suc l))))
                  ∙ ap (λ d. Ok (rows (suc l) ++ d)) (sym (over (suc l) (omega arith)))
            ];
      }

-- ---- how long the rows are

pub sizes-of : (hash : NodeHash) (stored : StoredValue) (left : ℕ → List Digest) (count : ℕ) → length (left 0) ≡ count
    → IsStored hash (with_rows (row_at stored) left) → AreOfSize (stored.size + count) (with_rows (row_at stored) left)
sizes-of hash stored left count long hashed zero =
    omega (arith, length-append (row_at stored 0) (left 0), length-row_of stored 0)
sizes-of hash stored left count long hashed (suc level) =
    let e : level + 1 ≡ suc level = omega arith in
    length-row_pairs hash (with_rows (row_at stored) left level) (with_rows (row_at stored) left (suc level))
    (hashed.pairs level)
    ∙ ap (λ n. n / 2) (sizes-of hash stored left count long hashed level)
    ∙ sym (up-more level (stored.size + count)) ∙ ap (λ l. index_up l (stored.size + count)) e
