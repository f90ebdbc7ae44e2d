-- Writes that were cut short, and then were not.
use Rattle.std.proofs.Common.{◌≡◌, ◌⊎◌, inl, inr, ⊎_elim, ℕ, ◌+◌, ◌-◌, ◌<◌, ◌≤◌, List, ◌++◌, length, take, drop, get_or, refl, ap, sym, ◌∙◌, append_assoc, arith}
use Rattle.std.proofs.Math.Nat.{le-max_left}
use Rattle.std.proofs.Math.Seq.{take-add}
use Rattle.std.proofs.lemmas.Bool.{cases_lt}
use Rattle.std.proofs.lemmas.List.{drop-drop, drop-take, ext_get_or, get_or-take, length-drop, length-take-le, take-append-drop, take-take, take_all}
use Rattle.log_file.specs.LogFile.{written}
use Rattle.log_file.proofs.Pieces.{behind-written, piece-before, piece-written}
use Rattle.log_store.specs.Disk.{Cut, Torn}

-- nothing was written
pub cut-not : (at n : ℕ) (file left : List ℕ) → left ≡ file → Cut at n file left
cut-not at n file left is = rw (is) (record {
  before = refl;
  after = refl;
  no_shorter = omega arith;
  no_longer = le-max_left (length file) (at + n);
})

pub torn-not : (at : ℕ) (bytes file left : List ℕ) → left ≡ file → Torn at bytes file left
torn-not at bytes file left is = record {
  cut = cut-not at (length bytes) file left is;
  mixed = λ i in_new. inl (rw (is) refl);
}

-- All of it was written.
pub cut-whole : (at : ℕ) (bytes old left : List ℕ) → Cut at (length bytes) old left
    → take (length bytes) (drop at left) ≡ bytes → left ≡ written old at bytes
cut-whole at bytes old left cut is = sym (take-append-drop at left)
    ∙ ap (λ l. take at left ++ l) (sym (take-append-drop (length bytes) (drop at left)))
    ∙ ap (λ l. take at left ++ (take (length bytes) (drop at left) ++ l))
    (drop-drop (length bytes) at left ∙ cut.after)
    ∙ ap (λ l. take at left ++ (l ++ drop (at + length bytes) old)) is
    ∙ ap (λ l. l ++ (bytes ++ drop (at + length bytes) old)) cut.before
    ∙ sym (append_assoc (take at old) bytes (drop (at + length bytes) old))

-- A piece inside of what begins alike is the same.
pub piece-of : (m at n : ℕ) (a b : List ℕ) → at + n ≤ m → take m a ≡ take m b → take n (drop at a) ≡ take n (drop at b)
piece-of m at n a b le is =
    let two : at + (m - at) ≡ m = omega arith in
    let le' : n ≤ m - at = omega arith in
    sym (take-take n (m - at) (drop at a) le') ∙ ap (take n) (sym (drop-take at (m - at) a)
    ∙ ap (λ k. drop at (take k a)) two ∙ ap (drop at) is ∙ ap (λ k. drop at (take k b)) (sym two)
    ∙ drop-take at (m - at) b) ∙ take-take n (m - at) (drop at b) le'

-- A file that begins as another of so many bytes has them.
pub long-as : (m : ℕ) (file before : List ℕ) → m ≤ length file → take m before ≡ take m file → m ≤ length before
long-as m file before long is = elim (cases_lt (length before) m) [
  | inl short ↦ absurd (omega (
    arith,
    ap length (sym (take_all m before (omega arith)) ∙ is),
    length-take-le m file (omega arith),
  ))
  | inr ge ↦ omega arith
]

-- What stands behind what was cut is as it was.
pub behind-cut : (at n to m : ℕ) (old left : List ℕ) → to + m ≤ at → Cut to m old left
    → take n (drop at left) ≡ take n (drop at old)
behind-cut at n to m old left apart cut =
    let two : (to + m) + (at - (to + m)) ≡ at = omega arith in
    ap (take n) (ap (λ k. drop k left) (sym two) ∙ sym (drop-drop (at - (to + m)) (to + m) left)
    ∙ ap (drop (at - (to + m))) cut.after ∙ drop-drop (at - (to + m)) (to + m) old ∙ ap (λ k. drop k old) two)

-- A piece beside what was cut is as it was.
pub cut-beside : (at n to m : ℕ) (old left : List ℕ) → (at + n ≤ to) ⊎ (to + m ≤ at) → Cut to m old left
    → take n (drop at left) ≡ take n (drop at old)
cut-beside at n to m old left (inl le) cut = piece-of to at n left old le cut.before
cut-beside at n to m old left (inr ge) cut = behind-cut at n to m old left ge cut

-- A piece that stands beside what is written is as it was.
pub piece-beside : (file part : List ℕ) (place at n : ℕ) → (at + n ≤ place) ⊎ (place + length part ≤ at)
    → place ≤ length file → take n (drop at (written file place part)) ≡ take n (drop at file)
piece-beside file part place at n (inl le) inside = piece-before file part place at n le inside
piece-beside file part place at n (inr ge) inside =
    let end = place + length part in
    let two : end + (at - end) ≡ at = omega arith in
    ap (take n) (ap (λ k. drop k (written file place part)) (sym two)
    ∙ sym (drop-drop (at - end) end (written file place part))
    ∙ ap (drop (at - end)) (behind-written file part place end refl inside) ∙ drop-drop (at - end) end file
    ∙ ap (λ k. drop k file) two)

-- Both writes were whole, of which the second one stands before the first.
pub both-whole : (at : ℕ) (bytes : List ℕ) (to : ℕ) (more old mid left : List ℕ) → to + length more ≤ at
    → Cut at (length bytes) old mid → Cut to (length more) mid left → take (length bytes) (drop at left) ≡ bytes
    → take (length more) (drop to left) ≡ more → left ≡ written (written old at bytes) to more
both-whole at bytes to more old mid left apart first then is more_is =
    let mid-is : mid ≡ written old at bytes = cut-whole at bytes old mid first
    (sym (behind-cut at (length bytes) to (length more) mid left apart then) ∙ is) in
    cut-whole to more mid left then more_is ∙ ap (λ l. written l to more) mid-is

-- Files that begin alike do so once the same is written to both.
pub written-alike : (at more : ℕ) (part a b : List ℕ) → at ≤ length a → at ≤ length b → take at a ≡ take at b
    → take more (drop (at + length part) a) ≡ take more (drop (at + length part) b)
    → take (at + length part + more) (written a at part) ≡ take (at + length part + more) (written b at part)
written-alike at more part a b in_a in_b before behind =
    parts a in_a ∙ ap (λ l. l ++ part ++ take more (drop (at + length part) a)) before
    ∙ ap (λ l. take at b ++ part ++ l) behind ∙ sym (parts b in_b)
  where
    parts : (file : List ℕ) → at ≤ length file → take (at + length part + more) (written file at part)
        ≡ take at file ++ part ++ take more (drop (at + length part) file)
    parts file inside = take-add (at + length part) more (written file at part)
        ∙ ap (λ l. l ++ take more (drop (at + length part) (written file at part)))
        (take-add at (length part) (written file at part))
        ∙ ap (λ l. (l ++ take (length part) (drop at (written file at part)))
        ++ take more (drop (at + length part) (written file at part)))
        (piece-before file part at 0 at (omega arith) inside)
        ∙ ap (λ l. (take at file ++ l) ++ take more (drop (at + length part) (written file at part)))
        (piece-written file part at (length part) refl inside)
        ∙ ap (λ l. (take at file ++ part) ++ take more l)
        (behind-written file part at (at + length part) refl inside)

-- the same, of as many bytes as begin alike already
pub begins-written : (m at : ℕ) (part a b : List ℕ) → at + length part ≤ m → at ≤ length a → at ≤ length b
    → take m a ≡ take m b → take m (written a at part) ≡ take m (written b at part)
begins-written m at part a b le in_a in_b is =
    let more = m - (at + length part) in
    let two : at + length part + more ≡ m = omega arith in
    ap (λ k. take k (written a at part)) (sym two)
    ∙ written-alike at more part a b in_a in_b (piece-of m 0 at a b (omega arith) is)
    (piece-of m (at + length part) more a b (omega arith) is) ∙ ap (λ k. take k (written b at part)) two

-- A piece that is written where it stands changes nothing.
pub same-written : (at n : ℕ) (file part : List ℕ) → at + n ≤ length file → part ≡ take n (drop at file)
    → written file at part ≡ file
same-written at n file part inside is =
    let count : length part ≡ n = ap length is ∙ length-take-le n (drop at file) (omega (arith, length-drop at file)) in
    append_assoc (take at file) part (drop (at + length part) file)
    ∙ ap (λ k. take at file ++ (part ++ drop (at + k) file)) count
    ∙ ap (λ l. take at file ++ (part ++ l)) (sym (drop-drop n at file))
    ∙ ap (λ l. take at file ++ (l ++ drop n (drop at file))) is
    ∙ ap (λ l. take at file ++ l) (take-append-drop n (drop at file))
    ∙ take-append-drop at file

-- Bytes of a file that are mixed with themselves are the same.
pub torn-same : (at n : ℕ) (part file left : List ℕ) → at + n ≤ length file → length part ≡ n
    → part ≡ take n (drop at file) → Torn at part file left → take n (drop at left) ≡ take n (drop at file)
torn-same at n part file left inside count is torn =
    let own : length (take n (drop at file)) ≡ n = length-take-le n (drop at file)
    (omega (arith, length-drop at file)) in
    let all : length (take n (drop at left)) ≡ n =
    length-take-le n (drop at left) (omega (arith, inside, torn.cut.no_shorter, length-drop at left)) in
    ext_get_or 0 (take n (drop at left)) (take n (drop at file)) (all ∙ sym own) (λ i less.
    let low : i < n = omega (arith, all) in
    get_or-take n (drop at left) i 0 low ∙ ⊎_elim (λ old. old ∙ sym (get_or-take n (drop at file) i 0 low))
    (λ new. new ∙ ap (λ l. get_or l i 0) is)
    (torn.mixed i (omega (arith, low, count))))

-- So the file is.
pub torn-itself : (at n : ℕ) (part file left : List ℕ) → at + n ≤ length file → length part ≡ n
    → part ≡ take n (drop at file) → Torn at part file left → left ≡ file
torn-itself at n part file left inside count is torn =
    cut-whole at part file left torn.cut (ap (λ k. take k (drop at left)) count
    ∙ torn-same at n part file left inside count is torn ∙ sym is) ∙ same-written at n file part inside is
