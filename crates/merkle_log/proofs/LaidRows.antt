-- Rows that are laid behind those of a log's list.
use Rattle.std.proofs.Common.{◌≡◌, ◌≢◌, ℕ, ◌+◌, ◌-◌, ◌/◌, ◌%◌, ◌<◌, ◌≤◌, List, [], ◌∷◌, ◌++◌, length, map, take, get_or, arith, refl, ap, sym, ◌∙◌, inl, inr}
use Rattle.std.specs.Prelude.{set}
use Rattle.std.specs.Vec.Iter.{into_iter_items}
use Rattle.std.specs.declared.vec.IntoIter.{IntoIter}
use Rattle.std.proofs.lemmas.Bool.{cases_lt}
use Rattle.std.proofs.lemmas.List.{append-nil, append_assoc, get_or-map, get_or-set_other, get_or-set_same, get_or_append_left, get_or_past, get_or_push, length-append, length-map, map-append, map-set, take-map}
use Rattle.ark_paths.specs.Pair.{Digest}
use Rattle.merkle_log.specs.Append.{pushed_row}
use Rattle.merkle_log.specs.Kept.{front}
use Rattle.merkle_log.specs.Rising.{AreOfSize, left_of, with_rows}
use Rattle.merkle_log.specs.Stored.{row_at, stored_count}
use Rattle.merkle_log.specs.Walk.{index_up}
use Rattle.merkle_log.proofs.Carried.{pushed-in, pushed-out}
use Rattle.merkle_log.proofs.KeptRows.{up-rises}
use Rattle.merkle_log.proofs.Positions.{count-more, length-row_of, rows-more, up-carry, up-more}

-- ---- a digest is taken

module _ {A Z : Type 0} (numbers : A → Digest) (rows : List (IntoIter A Z)) (level : ℕ) (next : IntoIter A Z) where
  put : map into_iter_items (set rows level next) ≡ set (map into_iter_items rows) level (into_iter_items next)
  put = map-set into_iter_items rows level next

  pub left-other : (other : ℕ) → other ≢ level → left_of numbers (set rows level next) other
      ≡ left_of numbers rows other
  left-other other apart =
      ap (λ l. map numbers (get_or l other [])) put
      ∙ ap (map numbers) (get_or-set_other (map into_iter_items rows) level other (into_iter_items next) [] apart)

  inside : 0 < length (left_of numbers rows level) → level < length rows
  inside some = elim (cases_lt level (length rows)) [
    | inl less ↦ less
    | inr ge ↦
        let none = get_or_past (map into_iter_items rows) level [] (omega (arith, length-map rows into_iter_items)) in
        absurd (omega (arith, ap (λ l. length (map numbers l)) none))
  ]

  pub left-own : (row : IntoIter A Z) (x : A) → 0 < length (left_of numbers rows level) → row ≡ get_or rows level row
      → into_iter_items row ≡ x ∷ into_iter_items next
      → left_of numbers rows level ≡ numbers x ∷ left_of numbers (set rows level next) level
  left-own row x some at taken =
      let below = inside some in
      let own : level < length (map into_iter_items rows) = omega (arith, length-map rows into_iter_items) in
      ap (map numbers) (get_or-map into_iter_items rows level row [] below ∙ ap into_iter_items (sym at) ∙ taken)
      ∙ ap (λ l. numbers x ∷ map numbers l) (sym (ap (λ l. get_or l level []) put
      ∙ get_or-set_same (map into_iter_items rows) level (into_iter_items next) [] own))

-- ---- a leaf

-- Some lowest rows gave a digest each, which stand behind others.
pub record Laying {A : Type 0} (numbers : A → Digest) (size : ℕ) (before items : List A) (old new : ℕ → List Digest)
    (level left : ℕ) : Type 0 where
  pub made : List A
  pub items_are : items ≡ before ++ made
  pub count : length made ≡ level + 1
  pub left_is : left ≡ index_up level size
  pub odd : (k : ℕ) → k < level → index_up k size % 2 ≡ 1
  pub taken : (k : ℕ) → k ≤ level → old k ≡ get_or (map numbers made) k [] ∷ new k
  pub others : (k : ℕ) → level < k → new k ≡ old k

module _ {A : Type 0} {numbers : A → Digest} {size : ℕ} {before items : List A} {old new : ℕ → List Digest} where
  module _ {level left : ℕ} (at : Laying numbers size before items old new level left) where
    own : left % 2 ≡ 1 → index_up level size % 2 ≡ 1
    own is = ap (λ n. n % 2) (sym at.left_is) ∙ is

    odds : left % 2 ≡ 1 → (k : ℕ) → k < level + 1 → index_up k size % 2 ≡ 1
    odds is k below = elim (cases_lt k level) [
      | inl less ↦ at.odd k less
      | inr here ↦ let e : k ≡ level = omega arith in rw (e) (own is)
    ]

    -- The row above has a digest for the place that is completed.
    pub laying-some : ((k : ℕ) → index_up k size < index_up k (size + 1) → 0 < length (old k)) → left % 2 ≡ 1
        → 0 < length (new (level + 1))
    laying-some some is =
        let carried = up-carry (level + 1) size (odds is) in
        rw (at.others (level + 1) (omega arith)) (some (level + 1) (omega arith))

    pub laying-next : (x : A) (more : List A) (next : ℕ → List Digest) → left % 2 ≡ 1 → more ≡ items ++ x ∷ []
        → new (level + 1) ≡ numbers x ∷ next (level + 1) → ((k : ℕ) → k ≢ level + 1 → next k ≡ new k)
        → Laying numbers size before more old next (level + 1) (left / 2)
    laying-next x more next is more_is here others = record {
      made = at.made ++ x ∷ [];
      items_are = more_is ∙ ap (λ l. l ++ x ∷ []) at.items_are ∙ append_assoc before at.made (x ∷ []);
      count = length-append at.made (x ∷ []) ∙ ap (λ n. n + 1) at.count;
      left_is = ap (λ n. n / 2) at.left_is ∙ sym (up-more level size);
      odd = odds is;
      taken = λ k le. rw (map-append) (elim (cases_lt k (level + 1)) [
        | inl less ↦
            at.taken k (omega arith)
            ∙ ap (λ d. d ∷ new k) (sym (get_or_append_left (map numbers at.made) (numbers x ∷ []) [] k
            (omega (arith, long, at.count))))
            ∙ ap (λ l. get_or (map numbers at.made ++ numbers x ∷ []) k [] ∷ l)
            (sym (others k (λ same. omega arith)))
        | inr ge ↦
            let e : level + 1 ≡ k = omega arith in
            rw (← e) (sym (at.others (level + 1) (omega arith)) ∙ here
            ∙ ap (λ d. d ∷ next (level + 1)) (sym (get_or_push (map numbers at.made) (numbers x) [] (level + 1)
            (omega (arith, long, at.count)))))
      ]);
      others = λ k above. others k (λ same. omega arith) ∙ at.others k (omega arith);
    }
      where
        long : length (map numbers at.made) ≡ length at.made
        long = length-map at.made numbers

    module _ (even : left % 2 ≡ 0) (whole : length before ≡ stored_count size) where
      evens : index_up level size % 2 ≡ 0
      evens = ap (λ n. n % 2) (sym at.left_is) ∙ even

      pub laying-whole : length items ≡ stored_count (size + 1)
      laying-whole = omega (
        arith,
        ap length at.items_are,
        length-append before at.made,
        at.count,
        count-more level size at.odd evens,
      )

      pub laying-end : (k : ℕ) → with_rows (row_at (front (size + 1) (map numbers items))) new k
          ≡ with_rows (row_at (front size (map numbers before))) old k
      laying-end k =
          let own = front size (map numbers before) in
          let made = map numbers at.made in
          let long : length made ≡ level + 1 = length-map at.made numbers ∙ at.count in
          let last : length made - 1 ≡ level = omega arith in
          let more : row_at (front (size + 1) (map numbers items)) k ≡ pushed_row (row_at own) made k =
          ap (λ l. row_at (front (size + 1) l) k) (ap (map numbers) at.items_are ∙ map-append numbers before at.made)
          ∙ rows-more own made (length-map before numbers ∙ whole) (omega arith)
          (λ l below. at.odd l (omega arith)) (rw (last) evens) k in
          ap (λ l. l ++ new k) more ∙ elim (cases_lt k (length made)) [
            | inl less ↦
                ap (λ l. l ++ new k) (pushed-in (row_at own) made k less)
                ∙ append_assoc (row_at own k) (get_or made k [] ∷ []) (new k)
                ∙ ap (λ l. row_at own k ++ l) (sym (at.taken k (omega arith)))
            | inr ge ↦
                ap (λ l. l ++ new k) (pushed-out (row_at own) made k ge)
                ∙ ap (λ l. row_at own k ++ l) (at.others k (omega arith))
          ]

-- ---- leaf by leaf

-- So many leaves are laid, and what they complete.
pub record Laid {A : Type 0} (numbers : A → Digest) (size step : ℕ) (before items : List A)
    (old new : ℕ → List Digest) : Type 0 where
  pub whole : length items ≡ stored_count (size + step)
  pub rows : (k : ℕ) → with_rows (row_at (front (size + step) (map numbers items))) new k
      ≡ with_rows (row_at (front size (map numbers before))) old k
  pub front_is : take (length before) items ≡ before

module _ {A : Type 0} {numbers : A → Digest} {size step : ℕ} {before items : List A} {old new : ℕ → List Digest}
    (at : Laid numbers size step before items old new) (count : ℕ)
    (sizes : AreOfSize (size + count) (with_rows (row_at (front size (map numbers before))) old)) where
  -- what is laid and what is left
  both : (k : ℕ) → index_up k (size + step) + length (new k) ≡ index_up k (size + count)
  both k =
      let own = row_at (front (size + step) (map numbers items)) in
      omega (
        arith,
        length-append (own k) (new k),
        length-row_of (front (size + step) (map numbers items)) k,
        ap length (at.rows k),
        sizes k,
      )

  pub laid-some : step < count → (k : ℕ) → index_up k (size + step) < index_up k (size + step + 1)
      → 0 < length (new k)
  laid-some below k rises =
      omega (arith, both k, up-rises k (size + step + 1) (size + count) (omega arith))

  pub laid-end : step ≡ count → (k : ℕ) → row_at (front (size + count) (map numbers items)) k
      ≡ with_rows (row_at (front size (map numbers before))) old k
  laid-end all k =
      ap (λ n. row_at (front (size + n) (map numbers items)) k) (sym all)
      ∙ sym (append-nil (row_at (front (size + step) (map numbers items)) k))
      ∙ ap (λ l. row_at (front (size + step) (map numbers items)) k ++ l)
      (sym (nothing (new k) (omega (arith, both k, ap (λ n. index_up k (size + n)) all))))
      ∙ at.rows k
    where
      nothing : (xs : List Digest) → length xs ≡ 0 → xs ≡ []
      nothing [] is = refl
      nothing (x ∷ xs) is = absurd (omega arith)

-- ---- of the whole list

pub front-seen : {A : Type 0} (numbers : A → Digest) (n : ℕ) (old new : List A) → length old ≡ n
    → take (length old) new ≡ old → take n (map numbers new) ≡ map numbers old
front-seen numbers n old new long is =
    take-map numbers n new ∙ ap (λ k. map numbers (take k new)) (sym long) ∙ ap (map numbers) is
