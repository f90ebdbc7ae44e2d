-- The pieces of a file that was cut, and of one that was written to.
use Rattle.std.proofs.Common.{◌≡◌, ℕ, ◌+◌, ◌-◌, ◌≤◌, List, ◌++◌, length, take, drop, refl, ap, sym, ◌∙◌, append_assoc, arith}
use Rattle.std.proofs.lemmas.List.{append-nil, drop_all, length-append, length-drop, length-take-le, take-append-drop, take-take, take-append-le, drop-append-le, drop-drop, drop-take, take_at, drop_at}
use Rattle.std.proofs.Math.Seq.{take-add}
use Rattle.log_file.specs.LogFile.{written}

-- a piece that ends where the file was cut, or before
piece-at : (file rest : List ℕ) (at m n : ℕ) → n ≤ m → at + m ≤ length file → take n (drop at
    (take (at + m) file ++ rest)) ≡ take n (drop at file)
piece-at file rest at m n le inside =
    let long : length (take (at + m) file) ≡ at + m = length-take-le (at + m) file inside in
    let some : length (take m (drop at file)) ≡ m =
    length-take-le m (drop at file) (omega (arith, length-drop at file)) in
    rw (
      drop-append-le at (take (at + m) file) rest (omega (arith, long)),
      drop-take at m file,
      take-append-le n
          (take m (drop at file)) rest (omega (arith, some)),
      take-take n m (drop at file) le,
    ) refl

pub piece-cut : (file rest : List ℕ) (at n end : ℕ) → at + n ≤ end → end ≤ length file → take n (drop at
    (take end file ++ rest)) ≡ take n (drop at file)
piece-cut file rest at n end le inside =
    let two : at + (end - at) ≡ end = omega arith in
    rw (sym two) (piece-at file rest at (end - at) n (omega arith) (omega (arith, two)))

-- what stands behind the head of a file that was cut
pub behind-cut : (file rest : List ℕ) (at m end : ℕ) → end ≡ at + m → end ≤ length file
    → drop at (take end file ++ rest) ≡ take m (drop at file) ++ rest
behind-cut file rest at m end is inside =
    let inside' : at + m ≤ length file = omega (arith, is) in
    let long : length (take (at + m) file) ≡ at + m = length-take-le (at + m) file inside' in
    rw (is, drop-append-le at (take (at + m) file) rest (omega (arith, long)), drop-take at m file) refl

-- a piece before what was written
pub piece-before : (file part : List ℕ) (place at n : ℕ) → at + n ≤ place → place ≤ length file → take n (drop at
    (written file place part)) ≡ take n (drop at file)
piece-before file part place at n le inside =
    rw (append_assoc (take place file) part (drop (place + length part) file))
    (piece-cut file (part ++ drop (place + length part) file) at n place le inside)

-- what was written
pub piece-written : (file part : List ℕ) (place n : ℕ) → length part ≡ n → place ≤ length file → take n (drop place
    (written file place part)) ≡ part
piece-written file part place n long inside =
    rw (
      append_assoc (take place file) part (drop (place + length part) file),
      drop_at (take place file)
          (part ++ drop (place + length part) file) place (length-take-le place file inside),
      take_at part
          (drop (place + length part) file) n long,
    ) refl

-- what stands behind what was written
pub behind-written : (file part : List ℕ) (place end : ℕ) → place + length part ≡ end → place ≤ length file → drop end
    (written file place part) ≡ drop end file
behind-written file part place end is inside =
    let long : length (take place file ++ part) ≡ end =
    omega (arith, is, length-append (take place file) part, length-take-le place file inside) in
    drop_at (take place file ++ part) (drop (place + length part) file) end long ∙ ap (λ n. drop n file) is

pub length-written : (file part : List ℕ) (place : ℕ) → place + length part ≤ length file
    → length (written file place part) ≡ length file
length-written file part place inside = omega (
  arith,
  length-append (take place file ++ part) (drop (place + length part) file),
  length-append (take place file) part,
  length-take-le place file (omega arith),
  length-drop (place + length part) file,
)

-- a part that is written behind a front of a piece
pub written-end : (file part : List ℕ) (place k : ℕ) → place + k + length part ≤ length file
    → written file (place + k) part ≡ written file place (take k (drop place file) ++ part)
written-end file part place k inside =
    let front = take k (drop place file) in
    let long : length front ≡ k = length-take-le k (drop place file) (omega (arith, inside, length-drop place file)) in
    let all : place + length (front ++ part) ≡ place + k + length part =
    omega (arith, long, length-append front part) in
    rw (take-add place k file, all)
    (ap (λ l. l ++ drop (place + k + length part) file) (append_assoc (take place file) front part))

-- a part that is written before the end of a piece
pub written-begin : (file part : List ℕ) (place m : ℕ) → place + length part + m ≤ length file
    → written file place part ≡ written file place (part ++ take m (drop (place + length part) file))
written-begin file part place m inside =
    let behind = drop (place + length part) file in
    let end = take m behind in
    let long : length end ≡ m =
    length-take-le m behind (omega (arith, inside, length-drop (place + length part) file)) in
    let all : place + length (part ++ end) ≡ (place + length part) + m = omega (arith, long, length-append part end) in
    rw (all, ← drop-drop m (place + length part) file)
    (ap (λ l. (take place file ++ part) ++ l) (sym (take-append-drop m behind))
    ∙ sym (append_assoc (take place file ++ part) end (drop m behind))
    ∙ ap (λ l. l ++ drop m behind) (append_assoc (take place file) part end))

-- the front of a buffer was written, and what stands behind it
pub both-parts : (n m : ℕ) (front end rest : List ℕ) → length front ≡ n → length rest ≡ m
    → take n (front ++ rest) ++ (end ++ drop m (drop n (front ++ rest))) ≡ front ++ end
both-parts n m front end rest long some =
    rw (take_at front rest n long, drop_at front rest n long, drop_all m rest (omega (arith, some)))
    (ap (λ l. front ++ l) (append-nil end))
