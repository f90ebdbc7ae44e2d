-- Trees that are read from bytes.
use Rattle.std.proofs.Common.{zero, suc, ◌≡◌, ℕ, ◌+◌, ◌-◌, ◌<◌, ◌≤◌, ◌==◌, nat_lt, Bool, true, false, not, ◌&&◌, if◌then◌else◌, List, [], ◌∷◌, ◌++◌, length, take, drop, get_or, Ok, Err, arith, refl, ap, sym, ◌∙◌, subst, take-append-drop, length-append, length-drop, append_assoc, append-nil}
use Rattle.std.proofs.Math.Seq.{drop-cons, take-append_seam, drop-append_seam}
use Rattle.std.proofs.lemmas.Bool.{le-ltb, ltb-false}
use Rattle.std.proofs.lemmas.Bool.Decides.{Decides-eqb}
use Rattle.ark_base.specs.declared.error.Error.{Error}
use Rattle.ark_base.specs.Outcome.{Outcome, ◌>>=◌}
use Rattle.ark_base.specs.Laws.Steps.{bind_ok, done_injective}
use Rattle.merkle_map.specs.Map.{Key, bit_of, has_bit}
use Rattle.merkle_map.specs.Tree.{Shape, Empty, One, Fork, Hidden, way, weight, StandsAt}
use Rattle.merkle_map.specs.Bytes.{spelled, string_read, entry_read, digest_read, tagged, tree_read, invalid, truncated, IsOf32, all_have, is_placed, tree_of_bytes, ReadsBack}
use Rattle.merkle_map.specs.Pruned.{FitsKeys}
use Rattle.merkle_map.proofs.Places.{if_true, if_false}
use Rattle.merkle_map.proofs.Pruning.{stands-fits}
use Rattle.merkle_map.proofs.Wholes.{way-bit}

abbrev pub Found : Type 0
Found = Shape × List ℕ

drop-none : {A : Type 0} (n : ℕ) → drop n (let xs : List A = [] in xs) ≡ []
drop-none zero = refl
drop-none (suc n) = refl

pub drop-twice : {A : Type 0} (a b : ℕ) (xs : List A) → drop b (drop a xs) ≡ drop (a + b) xs
drop-twice zero b xs = let e : b ≡ 0 + b = omega arith in ap (λ (n : ℕ). drop n xs) e
drop-twice {A} (suc a) b [] = drop-none {A = A} b ∙ sym (drop-none {A = A} (suc a + b))
drop-twice (suc a) b (x ∷ xs) = let e : suc (a + b) ≡ suc a + b = omega arith in
    drop-twice a b xs ∙ ap (λ (n : ℕ). drop n (x ∷ xs)) e

-- three parts that are left out
pub drops : (c b a : ℕ) (xs : List ℕ) → drop c (drop b (drop a xs)) ≡ drop (a + b + c) xs
drops c b a xs = ap (drop c) (drop-twice a b xs) ∙ drop-twice (a + b) c xs

-- what is made of a string and of the one behind it
abbrev of_both : {A : Type 0} → (List ℕ → List ℕ → A) → List ℕ → List ℕ × List ℕ → Outcome (A × List ℕ)
of_both made first second = Ok (made first second.0, second.1)

-- two strings behind a byte
module _ (bytes rest last : List ℕ) (behind : rest ≡ drop 1 bytes) (next : last ≡ drop 32 rest) where
  pub strings-within : 32 ≤ length rest → 32 ≤ length last → 65 ≤ length bytes
  strings-within first second =
      let a = ap length behind ∙ length-drop 1 bytes in
      let b = ap length next ∙ length-drop 32 rest in omega (arith, first, second, a, b)

  pub strings-read : {A : Type 0} (made : List ℕ → List ℕ → A) (key value : List ℕ)
      → string_read rest ≡ Ok (key, drop 32 rest) → string_read last ≡ Ok (value, drop 32 last)
      → (string_read rest >>= λ k. string_read k.1 >>= of_both made k.0) ≡ of_both made key (value, drop 65 bytes)
  strings-read made key value first second =
      ap (λ o. o >>= λ k. string_read k.1 >>= of_both made k.0) first
      ∙ ap (λ s. string_read s >>= of_both made key) (sym next) ∙ ap (λ o. o >>= of_both made key) second
      ∙ ap (λ s. of_both made key (value, s)) (ap (drop 32) (next ∙ ap (drop 32) behind) ∙ drops 32 32 1 bytes)

-- both sides of a fork, one behind the other
abbrev pub sides_read : ℕ → List ℕ → Outcome Found
sides_read depth rest =
    tree_read depth rest >>= λ left. tree_read depth left.1 >>= λ right. Ok (Fork left.0 right.0, right.1)

-- the left side is read
pub left-read : (depth : ℕ) (rest last next : List ℕ) (left : Shape) → tree_read depth rest ≡ Ok (left, last)
    → next ≡ last → sides_read depth rest ≡ (tree_read depth next >>= λ right. Ok (Fork left right.0, right.1))
left-read depth rest last next left is e =
    ap (λ o. o >>= λ left. tree_read depth left.1 >>= λ right. Ok (Fork left.0 right.0, right.1)) is
    ∙ ap (λ l. tree_read depth l >>= λ right. Ok (Fork left right.0, right.1)) (sym e)

module _ (bytes : List ℕ) (there : 0 < length bytes) where
  opened : (tag : ℕ) → get_or bytes 0 0 ≡ tag → bytes ≡ tag ∷ drop 1 bytes
  opened tag is = drop-cons bytes 0 0 there ∙ ap (λ (t : ℕ). t ∷ drop 1 bytes) is

  pub fork-read : (level : ℕ) (rest : List ℕ) → level < 256 → get_or bytes 0 0 ≡ 1 → rest ≡ drop 1 bytes
      → tree_read (256 - level) bytes ≡ sides_read (256 - (level + 1)) rest
  fork-read level rest inside is behind =
      let fuel : 256 - level ≡ suc (256 - (level + 1)) = omega (arith, inside) in
      ap (λ (n : ℕ). tree_read n bytes) fuel ∙ ap (tree_read (suc (256 - (level + 1)))) (opened 1 is)
      ∙ ap (sides_read (256 - (level + 1))) (sym behind)

  pub entry-read : (depth : ℕ) (rest : List ℕ) → get_or bytes 0 0 ≡ 0 → rest ≡ drop 1 bytes
      → tree_read depth bytes ≡ entry_read rest
  entry-read depth rest is behind = ap (tree_read depth) (opened 0 is) ∙ by_depth depth ∙ ap entry_read (sym behind)
    where
      by_depth : (depth : ℕ) → tree_read depth (0 ∷ drop 1 bytes) ≡ entry_read (drop 1 bytes)
      by_depth zero = refl
      by_depth (suc depth) = refl

-- ---- what is read stands above the last bit of a key

by_tag : (P : Found → Type 0) (tag : ℕ) (rest : List ℕ) (sides : Outcome Found) (found : Found) → P (Empty, rest)
    → (entry_read rest ≡ Ok found → P found) → (sides ≡ Ok found → P found) → (digest_read rest ≡ Ok found → P found)
    → tagged tag rest sides ≡ Ok found → P found
by_tag P tag rest sides found nothing one two hidden e = first (tag == 0) (tag == 1) (tag == 2) (tag == 3) e
  where
    first : (a b c d : Bool) → (if a then entry_read rest else if b then sides else
        if c then Ok (Empty, rest) else if d then digest_read rest else Err invalid) ≡ Ok found → P found
    first true b c d e = one e
    first false true c d e = two e
    first false false true d e = subst P (done_injective {E = Error} (Empty, rest) found e) nothing
    first false false false true e = hidden e
    first false false false false e = absurd cc

pub string-found : (bytes : List ℕ) (found : List ℕ × List ℕ) → string_read bytes ≡ Ok found
    → bytes ≡ found.0 ++ found.1
string-found bytes found e = by_test (nat_lt (length bytes) 32) e
  where
    by_test : (b : Bool) → (if b then Err truncated else Ok (take 32 bytes, drop 32 bytes)) ≡ Ok found
        → bytes ≡ found.0 ++ found.1
    by_test true e = absurd cc
    by_test false e = sym (take-append-drop 32 bytes)
        ∙ ap (λ (f : List ℕ × List ℕ). f.0 ++ f.1) (done_injective {E = Error} (take 32 bytes, drop 32 bytes) found e)

entry-found : (rest : List ℕ) (found : Found) → entry_read rest ≡ Ok found → (key value last : List ℕ)
    × (rest ≡ (key ++ value) ++ last) × ((One (record { key = key; value = value }), last) ≡ found)
entry-found rest found e =
    let k = bind_ok (string_read rest) _ found e in
    let v = bind_ok (string_read k.0.1) (λ value. Ok (
      One
          (record { key = k.0.0; value = value.0 }),
      value.1,
    )) found k.2 in (
      k.0.0,
      v.0.0,
      v.0.1,
      string-found rest k.0 k.1 ∙ ap (λ (l : List ℕ). k.0.0 ++ l) (string-found k.0.1 v.0 v.1)
          ∙ sym (append_assoc k.0.0 v.0.0 v.0.1),
      done_injective {E = Error} (One (record { key = k.0.0; value = v.0.0 }), v.0.1) found v.2,
    )

pub read-fits : (depth level : ℕ) (bytes : List ℕ) (found : Found) → depth + level ≡ 256
    → tree_read depth bytes ≡ Ok found
    → FitsKeys level found.0
read-fits depth level [] found sum e = none depth e
  where
    none : (depth : ℕ) → tree_read depth [] ≡ Ok found → FitsKeys level found.0
    none zero e = absurd cc
    none (suc depth) e = absurd cc
read-fits zero level (tag ∷ rest) found sum e = by_tag (λ (f : Found). FitsKeys level f.0) tag rest (Err invalid) found
    tt
    (λ one. let f = entry-found rest found one in subst (λ (f : Found). FitsKeys level f.0) f.4 tt) (λ two. absurd cc)
    (λ hidden. let d = bind_ok (string_read rest) _ found hidden in
    subst (λ (f : Found). FitsKeys level f.0) (done_injective {E = Error} (Hidden d.0.0, d.0.1) found d.2) tt) e
read-fits (suc depth) level (tag ∷ rest) found sum e =
    by_tag (λ (f : Found). FitsKeys level f.0) tag rest (sides_read depth rest) found tt
    (λ one. let f = entry-found rest found one in subst (λ (f : Found). FitsKeys level f.0) f.4 tt)
    (λ two.
    let l = bind_ok (tree_read depth rest) _ found two in
    let r = bind_ok (tree_read depth l.0.1) (λ right. Ok (Fork l.0.0 right.0, right.1)) found l.2 in
    subst (λ (f : Found). FitsKeys level f.0) (done_injective {E = Error} (Fork l.0.0 r.0.0, r.0.1) found r.2) (
      omega (arith, sum),
      read-fits depth (suc level) rest l.0 (omega (arith, sum)) l.1,
      read-fits depth (suc level) l.0.1 r.0 (omega (arith, sum)) r.1,
    ))
    (λ hidden. let d = bind_ok (string_read rest) _ found hidden in
    subst (λ (f : Found). FitsKeys level f.0) (done_injective {E = Error} (Hidden d.0.0, d.0.1) found d.2) tt) e

-- ---- what is read is spelled so

module _ where
  abbrev IsSpelled : List ℕ → Found → Type 0
  IsSpelled bytes found = bytes ≡ spelled found.0 ++ found.1

  entry-spelled : (rest : List ℕ) (found : Found) → entry_read rest ≡ Ok found → IsSpelled (0 ∷ rest) found
  entry-spelled rest found e = let f = entry-found rest found e in
      ap (λ (l : List ℕ). 0 ∷ l) f.3 ∙ ap (λ (f : Found). spelled f.0 ++ f.1) f.4

  digest-spelled : (rest : List ℕ) (found : Found) → digest_read rest ≡ Ok found → IsSpelled (3 ∷ rest) found
  digest-spelled rest found e =
      let d = bind_ok (string_read rest) _ found e in
      ap (λ (l : List ℕ). 3 ∷ l) (string-found rest d.0 d.1)
      ∙ ap (λ (f : Found). spelled f.0 ++ f.1) (done_injective {E = Error} (Hidden d.0.0, d.0.1) found d.2)

  tagged-spelled : (tag : ℕ) (rest : List ℕ) (sides : Outcome Found) (found : Found)
      → (sides ≡ Ok found → IsSpelled (1 ∷ rest) found) → tagged tag rest sides ≡ Ok found → IsSpelled
      (tag ∷ rest) found
  tagged-spelled tag rest sides found two e = first (tag == 0) (tag == 1) (tag == 2) (tag == 3) refl refl refl refl e
    where
      named : (n : ℕ) → (tag == n) ≡ true → IsSpelled (n ∷ rest) found → IsSpelled (tag ∷ rest) found
      named n is p = subst (λ (t : ℕ). IsSpelled (t ∷ rest) found) (sym ((Decides-eqb tag n).0 is)) p

      first : (a b c d : Bool) → (tag == 0) ≡ a → (tag == 1) ≡ b → (tag == 2) ≡ c → (tag == 3) ≡ d
          → (if a then entry_read rest else if b then sides else
          if c then Ok (Empty, rest) else if d then digest_read rest else Err invalid) ≡ Ok found
          → IsSpelled (tag ∷ rest) found
      first true b c d p q r s e = named 0 p (entry-spelled rest found e)
      first false true c d p q r s e = named 1 q (two e)
      first false false true d p q r s e = named 2 r
          (ap (λ (f : Found). spelled f.0 ++ f.1) (done_injective {E = Error} (Empty, rest) found e))
      first false false false true p q r s e = named 3 s (digest-spelled rest found e)
      first false false false false p q r s e = absurd cc

  pub read-spelled : (depth : ℕ) (bytes : List ℕ) (found : Found) → tree_read depth bytes ≡ Ok found
      → IsSpelled bytes found
  read-spelled depth [] found e = none depth e
    where
      none : (depth : ℕ) → tree_read depth [] ≡ Ok found → [] ≡ spelled found.0 ++ found.1
      none zero e = absurd cc
      none (suc depth) e = absurd cc
  read-spelled zero (tag ∷ rest) found e = tagged-spelled tag rest (Err invalid) found (λ two. absurd cc) e
  read-spelled (suc depth) (tag ∷ rest) found e = tagged-spelled tag rest (sides_read depth rest) found
      (λ two.
      let l = bind_ok (tree_read depth rest) _ found two in
      let r = bind_ok (tree_read depth l.0.1) (λ right. Ok (Fork l.0.0 right.0, right.1)) found l.2 in
      ap (λ (l : List ℕ). 1 ∷ l) (read-spelled depth rest l.0 l.1
      ∙ ap (λ (b : List ℕ). spelled l.0.0 ++ b) (read-spelled depth l.0.1 r.0 r.1)
      ∙ sym (append_assoc (spelled l.0.0) (spelled r.0.0) r.0.1))
      ∙ ap (λ (f : Found). spelled f.0 ++ f.1) (done_injective {E = Error} (Fork l.0.0 r.0.0, r.0.1) found r.2)) e

-- ---- what is spelled is read

pub string-read-back : (value rest : List ℕ) → length value ≡ 32 → string_read (value ++ rest) ≡ Ok (value, rest)
string-read-back value rest long =
    let sum = length-append value rest in
    let enough : nat_lt (length (value ++ rest)) 32 ≡ false = le-ltb (length (value ++ rest)) 32 (omega
    (arith, sum, long)) in
    let front : take 32 (value ++ rest) ≡ value = ap (λ (n : ℕ). take n (value ++ rest)) (sym long)
    ∙ take-append_seam value rest in
    let end : drop 32 (value ++ rest) ≡ rest = ap (λ (n : ℕ). drop n (value ++ rest)) (sym long)
    ∙ drop-append_seam value rest in
    if_false (nat_lt (length (value ++ rest)) 32) (Err truncated) (Ok (
      take 32 (value ++ rest),
      drop 32
          (value ++ rest),
    )) enough
    ∙ ap (λ (l : List ℕ). Ok (l, drop 32 (value ++ rest))) front ∙ ap (λ (l : List ℕ). Ok (value, l)) end

pub read-back : (depth level : ℕ) (tree : Shape) (rest : List ℕ) → depth + level ≡ 256 → FitsKeys level tree
    → IsOf32 tree
    → tree_read depth (spelled tree ++ rest) ≡ Ok (tree, rest)
read-back zero level Empty rest sum fits sized = refl
read-back (suc depth) level Empty rest sum fits sized = refl
read-back depth level (One entry) rest sum fits sized =
    by_depth depth ∙ ap entry_read (append_assoc entry.key entry.value rest)
    ∙ ap (λ o. o >>= λ key. string_read key.1 >>= λ value. Ok (One (record { key = key.0; value = value.0 }), value.1))
    (string-read-back entry.key (entry.value ++ rest) sized.0.0)
    ∙ ap (λ o. o >>= λ value. Ok (One (record { key = entry.key; value = value.0 }), value.1))
    (string-read-back entry.value rest sized.1)
  where
    by_depth : (depth : ℕ) → tree_read depth (0 ∷ ((entry.key ++ entry.value) ++ rest)) ≡ entry_read ((entry.key ++
        entry.value) ++ rest)
    by_depth zero = refl
    by_depth (suc depth) = refl
read-back depth level (Hidden digest) rest sum fits sized =
    by_depth depth ∙ ap (λ o. o >>= λ d. Ok (Hidden d.0, d.1)) (string-read-back digest rest sized)
  where
    by_depth : (depth : ℕ) → tree_read depth (3 ∷ (digest ++ rest)) ≡ digest_read (digest ++ rest)
    by_depth zero = refl
    by_depth (suc depth) = refl
read-back zero level (Fork left right) rest sum fits sized = absurd (omega (arith, sum, fits.0))
read-back (suc depth) level (Fork left right) rest sum fits sized =
    ap (sides_read depth) (append_assoc (spelled left) (spelled right) rest)
    ∙ ap (λ o. o >>= λ l. tree_read depth l.1 >>= λ r. Ok (Fork l.0 r.0, r.1))
    (read-back depth (suc level) left (spelled right ++ rest) (omega (arith, sum)) fits.1 sized.0)
    ∙ ap (λ o. o >>= λ r. Ok (Fork left r.0, r.1))
    (read-back depth (suc level) right rest (omega (arith, sum)) fits.2 sized.1)

-- ---- places

and_both : (a b : Bool) → (a && b) ≡ true → (a ≡ true) × (b ≡ true)
and_both true true e = (refl, refl)
and_both true false e = absurd cc
and_both false b e = absurd cc

both_and : (a b : Bool) → a ≡ true → b ≡ true → (a && b) ≡ true
both_and a b p q = rw (p, q) refl

-- Each entry is on this way.
abbrev Agrees : List Bool → Shape → Type 0
Agrees bits Empty = Unit {0}
Agrees bits (One entry) = way (length bits) entry.key ≡ bits
Agrees bits (Fork left right) = Agrees bits left × Agrees bits right
Agrees bits (Hidden digest) = Unit {0}

bit_is : (b : Bool) (level : ℕ) (key : Key) → has_bit b level key ≡ true → bit_of level key ≡ b
bit_is true level key e = e
bit_is false level key e = by_bit (bit_of level key) e
  where
    by_bit : (b : Bool) → not b ≡ true → b ≡ false
    by_bit true e = absurd cc
    by_bit false e = refl

agrees-next : (b : Bool) (bits : List Bool) (s : Shape) → Agrees bits s → all_have b (length bits) s ≡ true
    → Agrees (b ∷ bits) s
agrees-next b bits Empty h e = tt
agrees-next b bits (Hidden d) h e = tt
agrees-next b bits (One entry) h e =
    ap (λ (c : Bool). c ∷ way (length bits) entry.key) (bit_is b (length bits) entry.key e)
    ∙ ap (λ (l : List Bool). b ∷ l) h
agrees-next b bits (Fork l r) h e =
    let both = and_both (all_have b (length bits) l) (all_have b (length bits) r) e in
    (agrees-next b bits l h.0 both.0, agrees-next b bits r h.1 both.1)

placed-stands : (bits : List Bool) (level : ℕ) (s : Shape) → length bits ≡ level → Agrees bits s → FitsKeys level s
    → IsOf32 s
    → is_placed level s ≡ true → StandsAt bits s
placed-stands bits level Empty long h fits sized e = tt
placed-stands bits level (Hidden d) long h fits sized e = tt
placed-stands bits level (One entry) long h fits sized e = (sized.0, h)
placed-stands bits level (Fork l r) long h fits sized e =
    let outer = and_both (not (nat_lt (weight l + weight r) 2)) ((all_have false level l && all_have true level r)
    && (is_placed (suc level) l && is_placed (suc level) r)) e in
    let inner = and_both (all_have false level l && all_have true level r) (is_placed (suc level) l && is_placed
    (suc level) r) outer.1 in
    let have = and_both (all_have false level l) (all_have true level r) inner.0 in
    let below = and_both (is_placed (suc level) l) (is_placed (suc level) r) inner.1 in
    let two : 2 ≤ weight l + weight r = heavy (weight l + weight r) outer.0 in (
      omega (arith, long, fits.0),
      two,
      placed-stands (false ∷ bits) (suc level) l (omega (arith, long)) (agrees-next false bits l h.0
          (ap (λ (n : ℕ). all_have false n l) long ∙ have.0)) fits.1 sized.0 below.0,
      placed-stands (true ∷ bits) (suc level) r (omega (arith, long)) (agrees-next true bits r h.1
          (ap (λ (n : ℕ). all_have true n r) long ∙ have.1)) fits.2 sized.1 below.1,
    )
  where
    heavy : (n : ℕ) → not (nat_lt n 2) ≡ true → 2 ≤ n
    heavy n e = ltb-false n 2 (by_bool (nat_lt n 2) e)
      where
        by_bool : (b : Bool) → not b ≡ true → b ≡ false
        by_bool true e = absurd cc
        by_bool false e = refl

agrees-all : (s : Shape) → Agrees [] s
agrees-all Empty = tt
agrees-all (One entry) = refl
agrees-all (Fork l r) = (agrees-all l, agrees-all r)
agrees-all (Hidden d) = tt

-- a tree whose places were tested stands at the root
pub tested-stands : (s : Shape) → FitsKeys 0 s → IsOf32 s → is_placed 0 s ≡ true → StandsAt [] s
tested-stands s fits sized e = placed-stands [] 0 s refl (agrees-all s) fits sized e

own_has : (b : Bool) (level : ℕ) (key : Key) → bit_of level key ≡ b → has_bit b level key ≡ true
own_has true level key e = e
own_has false level key e = rw e refl

have-below : (more : List Bool) (b : Bool) (bits : List Bool) (s : Shape) → StandsAt (more ++ b ∷ bits) s
    → all_have b (length bits) s ≡ true
have-below more b bits Empty stands = refl
have-below more b bits (Hidden d) stands = refl
have-below more b bits (One entry) stands = own_has b (length bits) entry.key (way-bit more b bits entry.key stands.1)
have-below more b bits (Fork l r) stands = both_and (all_have b (length bits) l) (all_have b (length bits) r)
    (have-below (false ∷ more) b bits l stands.2) (have-below (true ∷ more) b bits r stands.3)

-- and one that stands passes the test
stands-placed : (bits : List Bool) (level : ℕ) (s : Shape) → length bits ≡ level → StandsAt bits s
    → is_placed level s ≡ true
stands-placed bits level Empty long stands = refl
stands-placed bits level (Hidden d) long stands = refl
stands-placed bits level (One entry) long stands = refl
stands-placed bits level (Fork l r) long stands =
    both_and (not (nat_lt (weight l + weight r) 2)) ((all_have false level l && all_have true level r)
    && (is_placed (suc level) l && is_placed (suc level) r))
    (ap not (le-ltb (weight l + weight r) 2 stands.1))
    (both_and (all_have false level l && all_have true level r) (is_placed (suc level) l && is_placed (suc level) r)
    (both_and (all_have false level l) (all_have true level r)
    (ap (λ (n : ℕ). all_have false n l) (sym long) ∙ have-below [] false bits l stands.2)
    (ap (λ (n : ℕ). all_have true n r) (sym long) ∙ have-below [] true bits r stands.3))
    (both_and (is_placed (suc level) l) (is_placed (suc level) r)
    (stands-placed (false ∷ bits) (suc level) l (omega (arith, long)) stands.2)
    (stands-placed (true ∷ bits) (suc level) r (omega (arith, long)) stands.3)))

-- ---- all the bytes

module _ (bytes : List ℕ) where
  -- what is read is spelled so
  pub bytes-spelled : (s : Shape) → tree_of_bytes bytes ≡ Ok s → bytes ≡ spelled s
  bytes-spelled s e =
      let found = bind_ok (tree_read 256 bytes) _ s e in
      by_tests found.0 (is_placed 0 found.0.0) (nat_lt 0 (length found.0.1)) refl found.2
      (read-spelled 256 bytes found.0 found.1)
    where
      none : (xs : List ℕ) → nat_lt 0 (length xs) ≡ false → xs ≡ []
      none [] e = refl
      none (x ∷ xs) e = absurd (omega (arith, ltb-false 0 (length (x ∷ xs)) e))

      by_tests : (found : Found) (placed left : Bool) → nat_lt 0 (length found.1) ≡ left
          → (if placed then (if left then Err invalid else Ok found.0) else Err invalid) ≡ Ok s
          → bytes ≡ spelled found.0 ++ found.1 → bytes ≡ spelled s
      by_tests found false left t e is = absurd cc
      by_tests found true true t e is = absurd cc
      by_tests found true false t e is = is ∙ ap (λ (l : List ℕ). spelled found.0 ++ l) (none found.1 t)
          ∙ append-nil (spelled found.0) ∙ ap spelled (done_injective {E = Error} found.0 s e)

  -- what is spelled is read
  pub spelled-bytes : (s : Shape) → StandsAt [] s → IsOf32 s → bytes ≡ spelled s → tree_of_bytes bytes ≡ Ok s
  spelled-bytes s stands sized is =
      let whole : tree_read 256 bytes ≡ Ok (s, []) = ap (tree_read 256) (is ∙ sym (append-nil (spelled s)))
      ∙ read-back 256 0 s [] refl (stands-fits [] 0 s refl stands) sized in
      ap (λ o. o >>= λ found. if is_placed 0 found.0 then (if nat_lt 0
      (length found.1) then Err invalid else Ok found.0)
      else Err invalid) whole
      ∙ if_true (is_placed 0 s) (Ok s) (Err invalid) (stands-placed [] 0 s refl stands)

pub reads-back : (bytes : List ℕ) → ReadsBack bytes
reads-back bytes s stands sized is = spelled-bytes bytes s stands sized is

-- a tree that is returned stands at the root
pub bytes-stand : (bytes : List ℕ) (s : Shape) → IsOf32 s → tree_of_bytes bytes ≡ Ok s → StandsAt [] s
bytes-stand bytes s sized e =
    let found = bind_ok (tree_read 256 bytes) _ s e in
    by_tests found.0 (is_placed 0 found.0.0) (nat_lt 0 (length found.0.1)) refl found.2
    (read-fits 256 0 bytes found.0 refl found.1)
  where
    by_tests : (found : Found) (placed left : Bool) → is_placed 0 found.0 ≡ placed
        → (if placed then (if left then Err invalid else Ok found.0) else Err invalid) ≡ Ok s → FitsKeys 0 found.0 →
        StandsAt [] s
    by_tests found false left t e fits = absurd cc
    by_tests found true true t e fits = absurd cc
    by_tests found true false t e fits =
        let same = done_injective {E = Error} found.0 s e in
        tested-stands s (subst (FitsKeys 0) same fits) sized (ap (is_placed 0) (sym same) ∙ t)
