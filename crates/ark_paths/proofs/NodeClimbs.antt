-- One level up for all nodes at once.
use Rattle.std.proofs.Common.{suc, ◌≡◌, ◌==◌, ℕ, ◌/◌, ◌%◌, ◌<◌, ◌^◌, List, [], ◌∷◌, ◌++◌, length, take, get_or, Ok, Err, arith, refl, ap, sym, ◌∙◌, add-one}
use Rattle.std.proofs.lemmas.List.{take_all, take_more, length-append}
use Rattle.std.proofs.Math.Nat.{pow-succ', div-div-eq-div-mul}
use Rattle.ark_base.specs.Outcome.{Outcome, ◌>>=◌}
use Rattle.ark_crh.specs.Ahead.{of_couple}
use Rattle.ark_paths.specs.Bind.{couple}
use Rattle.ark_paths.specs.Nodes.{AllClimb, AllRoot, AreBeside, AreAmongFirst, AreJoined}
use Rattle.ark_paths.specs.Index.{bit_at}
use Rattle.ark_paths.specs.Pair.{Digest, HashPair, hash_in_order}
use Rattle.ark_paths.specs.Path.{climb}
use Rattle.ark_paths.specs.Root.{all_hashes}
use Rattle.ark_paths.proofs.Binds.{bound_alone}
use Rattle.ark_paths.proofs.ListOutcomes.{get_or-each}
use Rattle.ark_paths.proofs.OwnPaths.{hashed-couple, place-above}

-- ---- a path without its lowest digest

halved : (i n : ℕ) → i / 2 ^ suc n ≡ i / 2 / 2 ^ n
halved i n = ap (λ (x : ℕ). i / x) (pow-succ' 2 n) ∙ sym (div-div-eq-div-mul i 2 (2 ^ n))

bit_at-half : (i n : ℕ) → bit_at i (suc n) ≡ bit_at (i / 2) n
bit_at-half i n = rw (halved i n) refl

-- the bits from level 1 on are those of the half
climb-same : (hash : Digest → Digest → Outcome Digest) (i j : ℕ) → i / 2 ≡ j / 2 → (ds : List Digest) (lowest : Digest)
    → climb hash i ds lowest ≡ climb hash j ds lowest
climb-same hash i j half [] lowest = refl
climb-same hash i j half (d ∷ ds) lowest =
    let bit : bit_at i (suc (length ds)) ≡ bit_at j (suc (length ds)) =
    bit_at-half i (length ds) ∙ ap (λ (n : ℕ). bit_at n (length ds)) half ∙ sym (bit_at-half j (length ds)) in
    rw (climb-same hash i j half ds lowest, bit) refl

in_turn : (o : Outcome Digest) (f g : Digest → Outcome Digest) → ((o >>= f) >>= g) ≡ (o >>= λ y. f y >>= g)
in_turn (Ok y) f g = refl
in_turn (Err e) f g = refl

climb-last : (hash : Digest → Digest → Outcome Digest) (i : ℕ) (ds : List Digest) (x lowest : Digest)
    → climb hash i (ds ++ x ∷ []) lowest ≡ (hash_in_order hash (bit_at i 1) lowest x >>= climb hash (i / 2) ds)
climb-last hash i [] x lowest = sym (bound_alone (hash_in_order hash (bit_at i 1) lowest x))
climb-last hash i (d ∷ ds) x lowest =
    let long : length (ds ++ x ∷ []) ≡ suc (length ds) = length-append ds (x ∷ []) ∙ add-one (length ds) in
    let bit : bit_at i (suc (length (ds ++ x ∷ []))) ≡ bit_at (i / 2) (suc (length ds)) =
    ap (λ (n : ℕ). bit_at i (suc n)) long ∙ bit_at-half i (suc (length ds)) in
    rw (climb-last hash i ds x lowest, bit)
    (in_turn (hash_in_order hash (bit_at i 1) lowest x) (climb hash (i / 2) ds)
    (λ below. hash_in_order hash (bit_at (i / 2) (suc (length ds))) below d))

-- ---- a level

module _ (h : HashPair) (root : Digest) (above : List (List Digest)) (indexes : List ℕ) where
  abbrev on : ℕ → List Digest
  on path = get_or above path []

  abbrev index_of : ℕ → ℕ
  index_of path = get_or indexes path 0

  climb-up : (row depth path : ℕ) (own beside : Digest) → depth < length (on path)
      → beside ≡ get_or (on path) depth []
      → climb h.upper (index_of path / 2 ^ row) (take (suc depth) (on path)) own
      ≡ (hash_in_order h.upper (bit_at (index_of path) (suc row)) own beside
      >>= climb h.upper (index_of path / 2 ^ suc row) (take depth (on path)))
  climb-up row depth path own beside inside is =
      let split : take (suc depth) (on path) ≡ take depth (on path) ++ beside ∷ [] =
      rw (is, ← add-one) (take_more (on path) depth [] inside) in
      let bit : bit_at (index_of path / 2 ^ row) 1 ≡ bit_at (index_of path) (suc row) =
      ap (λ (n : ℕ). n % 2 == 1) (sym (place-above (index_of path) row)) in
      let half : index_of path / 2 ^ row / 2 ≡ index_of path / 2 ^ suc row = sym (place-above (index_of path) row) in
      rw (split, climb-last h.upper (index_of path / 2 ^ row) (take depth (on path)) beside own, bit, half) refl

  -- what a couple's hash gives on the path that stands for it, it gives on each path that is joined
  pub all-climb-below : (row depth : ℕ) (next : List ℕ) (couples : List (Digest × Digest)) (values : List Digest)
      (paths : List ℕ) (own beside : List Digest)
      → AreJoined above indexes (suc row) depth next couples (length paths) paths own beside
      → AreBeside above depth paths beside
      → ((g : ℕ) → g < length paths → depth < length (on (get_or paths g 0)))
      → length couples ≡ length next → all_hashes (of_couple h.upper) couples ≡ Ok values
      → AllClimb h root above indexes (suc row) depth next values
      → AllClimb h root above indexes row (suc depth) paths own
  all-climb-below row depth next couples values paths own beside joined are long many hashed climbs = λ g below.
      let path = get_or paths g 0 in
      let j = joined g below in
      let first = get_or next j.at 0 in
      let value : of_couple h.upper (get_or couples j.at ([], [])) ≡ Ok (get_or values j.at []) =
      get_or-each (of_couple h.upper) couples values j.at ([], []) [] hashed j.inside in
      let given : hash_in_order h.upper (bit_at (index_of path) (suc row)) (get_or own g []) (get_or beside g [])
      ≡ Ok (get_or values j.at []) =
      sym (hashed-couple h.upper (bit_at (index_of path) (suc row)) (get_or own g []) (get_or beside g []))
      ∙ ap (of_couple h.upper) (sym j.couple_is) ∙ value in
      let same : index_of path / 2 ^ suc row / 2 ≡ index_of first / 2 ^ suc row / 2 =
      sym (place-above (index_of path) (suc row)) ∙ j.number ∙ place-above (index_of first) (suc row) in
      climb-up row depth path (get_or own g []) (get_or beside g []) (long g below) (are g below)
      ∙ rw (
        given,
        j.digests,
        climb-same h.upper (index_of path / 2 ^ suc row) (index_of first / 2 ^ suc row) same
            (take depth (on first)) (get_or values j.at []),
      )
      (climbs j.at (omega (arith, j.inside, many)))

  -- the same of leaf digests, each of a path of its own
  pub all-root-below : (most : ℕ) (next : List ℕ) (couples : List (Digest × Digest)) (values : List Digest)
      (paths : List ℕ) (own beside : List Digest) (count : ℕ)
      → AreJoined above indexes 0 most next couples count paths own beside
      → ((g : ℕ) → g < count → get_or paths g 0 ≡ g)
      → ((g : ℕ) → g < count → length (on g) ≡ most) → AreAmongFirst count next
      → length couples ≡ length next → all_hashes (of_couple h.bottom) couples ≡ Ok values
      → AllClimb h root above indexes 0 most next values
      → AllRoot h root above beside indexes count own
  all-root-below most next couples values paths own beside count joined are long inside many hashed climbs = λ g below.
      let j = joined g below in
      let first = get_or next j.at 0 in
      let here : first < count = inside j.at (omega (arith, j.inside, many)) in
      let couple_is : get_or couples j.at ([], []) ≡ couple (bit_at (index_of g) 0) (get_or own g [])
      (get_or beside g []) = rw (are g below) at j.couple_is in
      let number : index_of g / 2 ^ 1 ≡ index_of first / 2 ^ 1 = rw (are g below) at j.number in
      let digests : take most (on g) ≡ take most (on first) = rw (are g below) at j.digests in
      let value : of_couple h.bottom (get_or couples j.at ([], [])) ≡ Ok (get_or values j.at []) =
      get_or-each (of_couple h.bottom) couples values j.at ([], []) [] hashed j.inside in
      let given : hash_in_order h.bottom (bit_at (index_of g) 0) (get_or own g []) (get_or beside g [])
      ≡ Ok (get_or values j.at []) =
      sym (hashed-couple h.bottom (bit_at (index_of g) 0) (get_or own g []) (get_or beside g []))
      ∙ ap (of_couple h.bottom) (sym couple_is) ∙ value in
      let whole : on g ≡ take most (on first) =
      sym (take_all most (on g) (omega (arith, long g below))) ∙ digests in
      let same : index_of g / 2 ≡ index_of first / 2 ^ 0 / 2 = omega (arith, number) in
      rw (
        given,
        whole,
        climb-same h.upper (index_of g) (index_of first / 2 ^ 0) same (take most (on first))
            (get_or values j.at []),
      )
      (climbs j.at (omega (arith, j.inside, many)))
