-- Rows that stand one behind the other in a list, and the parts of a table.
use Rattle.std.proofs.Common.{◌≡◌, map, slice_range, ℕ, suc, ◌+◌, ◌-◌, ◌*◌, ◌/◌, ◌≤◌, ◌<◌, List, [], ◌∷◌, ◌++◌, length, take, drop, All, refl, sym, subst, ◌∙◌, ap, ap₂, arith, append_assoc, append-nil, length-drop, length-append}
use Rattle.std.specs.List.{flat_map}
use Rattle.std.proofs.lemmas.List.{map-append, take-map, drop-map, length-map, length-take-le, take_all}
use Rattle.std.proofs.lemmas.List.Elements.{All-head, All-tail, All-map, All-weaker, All-take, All-drop}
use Rattle.ark_sponge.specs.Permutation.{Parameters, width, poseidon_rounds, permutation}
use Rattle.ark_sponge.specs.Recurrence.{ShortRounds, short_rounds, AreRounds}
use Rattle.ark_sponge.specs.Table.{IsListed, IsShortOf, IsTable, ShortParts, short_permutation, parts_in, recurrence_in, recurrence_length, rows_of, shape_of, table_length}
use Rattle.ark_sponge.proofs.Permuting.{length-poseidon_rounds, poseidon_rounds-below}

-- all rows are taken
pub rows_of-all : (w : ℕ) (done whole : List (List ℕ)) (rest : List ℕ) → done ++ rows_of w 0 rest ≡ whole → done ≡ whole
unfolding rows_of
rows_of-all w done whole rest e = sym (append-nil done) ∙ e

-- one row more is taken
pub row_taken : (w k : ℕ) (done whole : List (List ℕ)) (rest row behind : List ℕ)
    → done ++ rows_of w (suc k) rest ≡ whole → row ≡ take w rest → behind ≡ drop w rest
    → (done ++ row ∷ []) ++ rows_of w k behind ≡ whole
unfolding rows_of
row_taken w k done whole rest row behind so_far is_row is_behind =
    append_assoc done (row ∷ []) (rows_of w k behind)
    ∙ ap₂ (λ r b. done ++ r ∷ rows_of w k b) is_row is_behind
    ∙ so_far

-- the front of two lists, by its length
pub take-front : (n : ℕ) (xs ys : List ℕ) → n ≡ length xs → take n (xs ++ ys) ≡ xs
take-front n xs ys e = ap (λ m. take m (xs ++ ys)) e ∙ front xs where
  front : (xs : List ℕ) → take (length xs) (xs ++ ys) ≡ xs
  front [] = refl
  front (x ∷ xs) = ap (λ t. x ∷ t) (front xs)

pub drop-front : (n : ℕ) (xs ys : List ℕ) → n ≡ length xs → drop n (xs ++ ys) ≡ ys
drop-front n xs ys e = ap (λ m. drop m (xs ++ ys)) e ∙ behind xs where
  behind : (xs : List ℕ) → drop (length xs) (xs ++ ys) ≡ ys
  behind [] = refl
  behind (x ∷ xs) = behind xs

-- rows, one behind the other
abbrev pub flat : List (List ℕ) → List ℕ
flat rows = flat_map (λ row. row) rows

rows_of-flat : (w : ℕ) (rows : List (List ℕ)) (rest : List ℕ) → All (λ row. length row ≡ w) rows
    → rows_of w (length rows) (flat rows ++ rest) ≡ rows
unfolding rows_of
rows_of-flat w [] rest wide = refl
rows_of-flat w (row ∷ rows) rest wide =
    let is : w ≡ length row = sym (All-head (λ row. length row ≡ w) row rows wide) in
    let all = append_assoc row (flat rows) rest in
    ap₂ (λ front behind. front ∷ rows_of w (length rows) behind)
    (ap (take w) all ∙ take-front w row (flat rows ++ rest) is)
    (ap (drop w) all ∙ drop-front w row (flat rows ++ rest) is)
    ∙ ap (λ t. row ∷ t) (rows_of-flat w rows rest (All-tail (λ row. length row ≡ w) row rows wide))

pub length-flat : (w : ℕ) (rows : List (List ℕ)) → All (λ row. length row ≡ w) rows → length (flat rows)
    ≡ length rows * w
length-flat w [] wide = omega arith
length-flat w (row ∷ rows) wide =
    let is = All-head (λ row. length row ≡ w) row rows wide in
    let others = length-flat w rows (All-tail (λ row. length row ≡ w) row rows wide) in
    omega (arith, length-append row (flat rows), is, others)

-- rows of one length in front of a list
pub record AreRowsOf (w n : ℕ) (rows : List (List ℕ)) : Type 0 where
  pub count : length rows ≡ n
  pub wide : All (λ row. length row ≡ w) rows

pub rows_in_front : (w count : ℕ) (rows : List (List ℕ)) (rest : List ℕ) → AreRowsOf w count rows
    → rows_of w count (flat rows ++ rest) ≡ rows
rows_in_front w count rows rest are =
    ap (λ n. rows_of w n (flat rows ++ rest)) (sym are.count) ∙ rows_of-flat w rows rest are.wide

pub behind_rows : (w count : ℕ) (rows : List (List ℕ)) (rest : List ℕ) → AreRowsOf w count rows
    → drop (count * w) (flat rows ++ rest) ≡ rest
behind_rows w count rows rest are =
    drop-front (count * w) (flat rows) rest (ap (λ n. n * w) (sym are.count) ∙ sym (length-flat w rows are.wide))

pub length-rows : (w count : ℕ) (rows : List (List ℕ)) → AreRowsOf w count rows → length (flat rows) ≡ count * w
length-rows w count rows are = length-flat w rows are.wide ∙ ap (λ n. n * w) are.count

-- ---- a recurrence

-- the parts have the lengths that those of a recurrence have
pub record HasLengths (r : ShortRounds) : Type 0 where
  pub feedback : length r.feedback ≡ length r.output - 1
  pub into : AreRowsOf (length r.output - 1) (length r.output - 1) r.into
  pub back : AreRowsOf (length r.output - 1) (length r.output - 1) r.back
  pub offset : length r.offset ≡ length r.output

abbrev pub list_of : ShortRounds → List ℕ
list_of r = flat r.into ++ (flat r.back ++ (r.output ++ (r.feedback ++ (r.offset ++ r.constants))))

pub is_listed : (r : ShortRounds) → HasLengths r → IsListed r (list_of r)
unfolding recurrence_in
is_listed r has =
    let n = length r.output - 1 in
    let into = behind_rows n n r.into (flat r.back ++ (r.output ++ (r.feedback ++ (r.offset ++ r.constants)))) has.into
    in
    let back = ap (drop (n * n)) into
    ∙ behind_rows n n r.back (r.output ++ (r.feedback ++ (r.offset ++ r.constants))) has.back in
    let output = ap (drop (length r.output)) back
    ∙ drop-front (length r.output) r.output (r.feedback ++ (r.offset ++ r.constants)) refl in
    let feedback = ap (drop n) output ∙ drop-front n r.feedback (r.offset ++ r.constants) (sym has.feedback) in
    let offset = ap (drop (length r.output)) feedback
    ∙ drop-front (length r.output) r.offset r.constants (sym has.offset) in
    let is_output = ap (take (length r.output)) back
    ∙ take-front (length r.output) r.output (r.feedback ++ (r.offset ++ r.constants)) refl in
    let is_feedback = ap (take n) output ∙ take-front n r.feedback (r.offset ++ r.constants) (sym has.feedback) in
    let is_offset = ap (take (length r.output)) feedback
    ∙ take-front (length r.output) r.offset r.constants (sym has.offset) in
    let is_into = rows_in_front n n r.into (flat r.back ++ (r.output ++ (r.feedback ++ (r.offset ++ r.constants))))
    has.into in
    let is_back = ap (rows_of n n) into
    ∙ rows_in_front n n r.back (r.output ++ (r.feedback ++ (r.offset ++ r.constants))) has.back in
    record {
      long = omega (
        arith,
        length-append (flat r.into) (flat r.back ++ (r.output ++ (r.feedback ++ (r.offset ++ r.constants)))),
        length-append (flat r.back) (r.output ++ (r.feedback ++ (r.offset ++ r.constants))),
        length-append r.output (r.feedback ++ (r.offset ++ r.constants)),
        length-append r.feedback (r.offset ++ r.constants),
        length-append r.offset r.constants,
        length-rows n n r.into has.into,
        length-rows n n r.back has.back,
        has.feedback,
        has.offset,
      );
      whole = λ i. record {
        output = is_output i;
        feedback = is_feedback i;
        into = is_into i;
        back = is_back i;
        constants = offset i;
        offset = is_offset i;
      };
    }

-- the lists that are put behind others
pub put_one : {F : Type 0} (f : F → ℕ) (old new more : List F) (before : List ℕ) → new ≡ old ++ more
    → map f old ≡ before → map f new ≡ before ++ map f more
put_one f old new more before is so_far = ap (map f) is ∙ map-append f old more ∙ ap (λ t. t ++ map f more) so_far

-- the lists of a recurrence, behind a list
pub put_all : (r : ShortRounds) (l0 l1 l2 l3 l4 l5 l6 : List ℕ) → l1 ≡ l0 ++ flat r.into → l2 ≡ l1 ++ flat r.back
    → l3 ≡ l2 ++ r.output → l4 ≡ l3 ++ r.feedback → l5 ≡ l4 ++ r.offset → l6 ≡ l5 ++ r.constants
    → l6 ≡ l0 ++ list_of r
put_all r l0 l1 l2 l3 l4 l5 l6 e1 e2 e3 e4 e5 e6 =
    e6 ∙ ap (λ t. t ++ r.constants) (e5 ∙ ap (λ t. t ++ r.offset) (e4 ∙ ap (λ t. t ++ r.feedback)
    (e3 ∙ ap (λ t. t ++ r.output) (e2 ∙ ap (λ t. t ++ flat r.back) e1))))
    ∙ append_assoc (((((l0 ++ flat r.into) ++ flat r.back) ++ r.output) ++ r.feedback)) r.offset r.constants
    ∙ append_assoc ((((l0 ++ flat r.into) ++ flat r.back) ++ r.output)) r.feedback (r.offset ++ r.constants)
    ∙ append_assoc (((l0 ++ flat r.into) ++ flat r.back)) r.output (r.feedback ++ (r.offset ++ r.constants))
    ∙ append_assoc ((l0 ++ flat r.into)) (flat r.back) (r.output ++ (r.feedback ++ (r.offset ++ r.constants)))
    ∙ append_assoc l0 (flat r.into) (flat r.back ++ (r.output ++ (r.feedback ++ (r.offset ++ r.constants))))

-- a part of a list of elements that f reads, and what stands behind it
pub part_read : {F : Type 0} (f : F → ℕ) (n : ℕ) (list part : List F) (xs : List ℕ) → part ≡ take n list
    → map f list ≡ xs → map f part ≡ take n xs
part_read f n list part xs is e = ap (map f) is ∙ sym (take-map f n list) ∙ ap (take n) e

pub behind_read : {F : Type 0} (f : F → ℕ) (n : ℕ) (list part : List F) (xs : List ℕ) → part ≡ drop n list
    → map f list ≡ xs → map f part ≡ drop n xs
behind_read f n list part xs is e = ap (map f) is ∙ sym (drop-map f n list) ∙ ap (drop n) e

-- rows of elements that f reads have the lengths of the rows
pub rows_read : {F R : Type 0} (f : F → ℕ) (items : R → List F) (len : R → ℕ) (w n : ℕ) (rows : List R)
    → ((row : R) → len row ≡ length (items row)) → length rows ≡ n → All (λ row. len row ≡ w) rows
    → AreRowsOf w n (map (λ row. map f (items row)) rows)
rows_read f items len w n rows same count wide = record {
  count = rw length-map count;
  wide = All-map (λ row. length row ≡ w) (λ row. map f (items row)) rows
      (All-weaker (λ row. len row ≡ w) (λ row. length (map f (items row)) ≡ w)
      (λ row e. rw length-map (sym (same row) ∙ e)) rows wide);
}

-- ---- a table

-- a table of parts: the list begins with the rows and ends with the recurrence's
pub table_parts : (c : Parameters) (first mds last : List (List ℕ)) (r : ShortRounds) (xs : List ℕ)
    → AreRowsOf (width c) (c.full_rounds / 2) first
    → AreRowsOf (width c) (width c) mds
    → AreRowsOf (width c) (c.full_rounds - c.full_rounds / 2) last
    → length r.output ≡ width c → IsListed r xs
    → (table_length (shape_of c) ≤ length (flat first ++ (flat mds ++ (flat last ++ xs))))
    × (parts_in (shape_of c) (flat first ++ (flat mds ++ (flat last ++ xs)))
    ≡ record { alpha = c.alpha; mds = mds; first = first; partial = r; last = last })
unfolding parts_in
table_parts c first mds last r xs are_first are_mds are_last wide listed =
    let w = width c in
    let before = c.full_rounds / 2 in
    let behind = c.full_rounds - c.full_rounds / 2 in
    let from_mds = behind_rows w before first (flat mds ++ (flat last ++ xs)) are_first in
    let from_last = ap (drop (w * w)) from_mds ∙ behind_rows w w mds (flat last ++ xs) are_mds in
    let from_partial = ap (drop (behind * w)) from_last ∙ behind_rows w behind last xs are_last in
    let is_first = rows_in_front w before first (flat mds ++ (flat last ++ xs)) are_first in
    let is_mds = ap (rows_of w w) from_mds ∙ rows_in_front w w mds (flat last ++ xs) are_mds in
    let is_last = ap (rows_of w behind) from_last ∙ rows_in_front w behind last xs are_last in
    let is_partial = ap (recurrence_in w) from_partial ∙ ap (λ n. recurrence_in n xs) (sym wide) ∙ listed.whole in
    let long : recurrence_length w ≤ length xs = subst (λ n. recurrence_length n ≤ length xs) wide listed.long in (
      omega (
        arith,
        length-append (flat first) (flat mds ++ (flat last ++ xs)),
        length-append (flat mds) (flat last ++ xs),
        length-append (flat last) xs,
        length-rows w before first are_first,
        length-rows w w mds are_mds,
        length-rows w behind last are_last,
        long,
      ),
      λ i. record { alpha = c.alpha; mds = is_mds i; first = is_first i; partial = is_partial i; last = is_last i },
    )

-- the parts of parameters and their recurrence
abbrev pub parts_with : Parameters → ShortRounds → ShortParts
parts_with c r = record {
  alpha = c.alpha;
  mds = c.mds;
  first = take (c.full_rounds / 2) c.ark;
  partial = r;
  last = drop (c.full_rounds / 2 + c.partial_rounds) c.ark;
}

short_of : (p : ℕ) (c : Parameters) (r : ShortRounds) → 0 < p → length c.mds ≡ width c
    → AreRounds p c.mds (slice_range c.ark (c.full_rounds / 2) (c.full_rounds / 2 + c.partial_rounds)) r
    → IsShortOf p c (parts_with c r)
unfolding short_permutation permutation
short_of p c r some square are = record {
  wide = square;
  same = λ sbox xs long below.
      let half = c.full_rounds / 2 in
      let middle = half + c.partial_rounds in
      let run = λ (n : ℕ) (rows : List (List ℕ)) (s : List ℕ). poseidon_rounds p (sbox c.alpha) c.mds n rows s in
      let first = run (length c.mds) (take half c.ark) xs in
      let len = length-poseidon_rounds p (length c.mds) (length c.mds) (sbox c.alpha) c.mds (take half c.ark) xs refl
      (long ∙ sym square) in
      let fits = poseidon_rounds-below p (length c.mds) (sbox c.alpha) c.mds (take half c.ark) xs some below in
      ap (run (length c.mds) (drop middle c.ark)) (are.1 (sbox c.alpha) first len fits)
      ∙ ap (λ n. run n (drop middle c.ark) (run 1 (slice_range c.ark half middle) (run n (take half c.ark) xs))) square;
}

-- the rows of the first full rounds, the matrix, the rows of the last full rounds, and the recurrence
pub is_table : (p : ℕ) (c : Parameters) (r : ShortRounds) (xs : List ℕ) → 0 < p
    → AreRowsOf (width c) (width c) c.mds → AreRowsOf (width c) (c.full_rounds + c.partial_rounds) c.ark
    → AreRounds p c.mds (slice_range c.ark (c.full_rounds / 2) (c.full_rounds / 2 + c.partial_rounds)) r
    → IsListed r xs
    → IsTable p c (flat (take (c.full_rounds / 2) c.ark) ++ (flat c.mds
    ++ (flat (drop (c.full_rounds / 2 + c.partial_rounds) c.ark) ++ xs)))
is_table p c r xs some square rows are listed =
    let w = width c in
    let half = c.full_rounds / 2 in
    let middle = half + c.partial_rounds in
    let first : AreRowsOf w half (take half c.ark) = record {
      count = length-take-le half c.ark (omega (arith, rows.count));
      wide = All-take (λ row. length row ≡ w) half c.ark rows.wide;
    } in
    let last : AreRowsOf w (c.full_rounds - half) (drop middle c.ark) = record {
      count = omega (arith, rows.count, length-drop middle c.ark);
      wide = All-drop (λ row. length row ≡ w) middle c.ark rows.wide;
    } in
    let parts = table_parts c (take half c.ark) c.mds (drop middle c.ark) r xs first square last
    (are.0 ∙ square.count) listed in
    record {
      long = parts.0;
      short = subst (IsShortOf p c) (sym parts.1) (short_of p c r some square.count are);
    }

-- the first rows of a list that items reads, and those behind a place
pub first_part : {R : Type 0} (items : R → List ℕ) (rows rows' : List R) (n : ℕ) → rows' ≡ rows
    → map items (take n rows') ≡ take n (map items rows)
first_part items rows rows' n same = ap (λ t. map items (take n t)) same ∙ sym (take-map items n rows)

pub last_part : {R : Type 0} (items : R → List ℕ) (rows rows' : List R) (n : ℕ) → rows' ≡ rows
    → map items (take (length rows' - n) (drop n rows')) ≡ drop n (map items rows)
last_part items rows rows' n same =
    ap (map items) (take_all (length rows' - n) (drop n rows') (omega (arith, length-drop n rows')))
    ∙ ap (λ t. map items (drop n t)) same ∙ sym (drop-map items n rows)

-- the lists of a table, of nothing
pub put_table : (first mds last : List (List ℕ)) (xs l0 l1 l2 l3 l4 : List ℕ) → l0 ≡ [] → l1 ≡ l0 ++ flat first
    → l2 ≡ l1 ++ flat mds → l3 ≡ l2 ++ flat last → l4 ≡ l3 ++ xs → l4 ≡ flat first ++ (flat mds ++ (flat last ++ xs))
put_table first mds last xs l0 l1 l2 l3 l4 e0 e1 e2 e3 e4 =
    e4 ∙ ap (λ t. t ++ xs) (e3 ∙ ap (λ t. t ++ flat last) (e2 ∙ ap (λ t. t ++ flat mds)
    (e1 ∙ ap (λ t. t ++ flat first) e0)))
    ∙ append_assoc (flat first ++ flat mds) (flat last) xs
    ∙ append_assoc (flat first) (flat mds) (flat last ++ xs)

-- the three runs, over rows that items reads
module _ {R : Type 0} (items : R → List ℕ) (p : ℕ) (sbox : ℕ → ℕ → ℕ) (alpha : ℕ) (mds first last : List R)
    (r : ShortRounds) where
  pub short_runs : (mds' first' last' : List R) (s0 s1 s2 s3 : List ℕ) → mds' ≡ mds → first' ≡ first → last' ≡ last
      → s1 ≡ poseidon_rounds p (sbox alpha) (map items mds') (length mds') (map items first') s0
      → s2 ≡ short_rounds p (sbox alpha) r s1
      → s3 ≡ poseidon_rounds p (sbox alpha) (map items mds') (length mds') (map items last') s2
      → s3 ≡ short_permutation p sbox (record {
        alpha = alpha;
        mds = map items mds;
        first = map items first;
        partial = r;
        last = map items last;
      }) s0
  unfolding short_permutation
  short_runs mds' first' last' s0 s1 s2 s3 is_mds is_first is_last run_1 run_2 run_3 =
      let run = λ (m rows : List (List ℕ)) (n : ℕ) (s : List ℕ). poseidon_rounds p (sbox alpha) m n rows s in
      let same : (rows rows' : List _) (s : List ℕ) → rows' ≡ rows
      → run (map items mds') (map items rows') (length mds') s ≡ run (map items mds) (map items rows)
      (length (map items mds)) s = λ rows rows' s e.
      ap₂ (λ m t. run (map items m) (map items t) (length m) s) is_mds e
      ∙ ap (λ n. run (map items mds) (map items rows) n s) (sym (length-map mds items)) in
      run_3 ∙ same last last' s2 is_last
      ∙ ap (run (map items mds) (map items last) (length (map items mds)))
      (run_2 ∙ ap (short_rounds p (sbox alpha) r) (run_1 ∙ same first first' s0 is_first))
