-- Levels of parts that are copied to the tree that joins them.
use Rattle.std.proofs.Common.{◌≡◌, ℕ, suc, ◌+◌, ◌-◌, ◌*◌, ◌<◌, ◌≤◌, ◌^◌, List, [], ◌++◌, length, take, drop, get_or, ◌⊎◌, refl, sym, ap, ◌∙◌, inl, inr, arith, pow_pos}
use Rattle.std.proofs.lemmas.Bool.{cases_lt}
use Rattle.std.proofs.lemmas.List.{get_or-append_right, get_or-drop, get_or-take, get_or_append_left, length-append, length-drop, length-take-le}
use Rattle.std.proofs.Math.Nat.{add-mul, mul-add, mul-le-mul_left, mul-le-mul_right, pow-le-pow_right, pow-succ'}
use Rattle.ark_paths.specs.Pair.{Digest}
use Rattle.kept_tree.specs.JoinedTrees.{CopiesLevel, CopiesLevels, place_apart, place_joined}

-- ---- what is written to a place and those behind it

module _ (old digests : List Digest) (place : ℕ) (inside : place + length digests ≤ length old) where
  abbrev written : List Digest
  written = take place old ++ (digests ++ drop (place + length digests) old)

  front-long : length (take place old) ≡ place
  front-long = length-take-le place old (omega (arith, inside))

  pub written-long : length written ≡ length old
  written-long = omega (
    arith,
    front-long,
    length-append (take place old) (digests ++ drop (place + length digests) old),
    length-append digests (drop (place + length digests) old),
    length-drop (place + length digests) old,
  )

  pub written-before : (i : ℕ) → i < place → get_or written i [] ≡ get_or old i []
  written-before i below = get_or_append_left (take place old) _ [] i (omega (arith, front-long, below))
      ∙ get_or-take place old i [] below

  pub written-here : (i : ℕ) → i < length digests → get_or written (place + i) [] ≡ get_or digests i []
  written-here i below =
      let back : place + i - place ≡ i = omega arith in
      get_or-append_right (take place old) (digests ++ drop (place + length digests) old) place (place + i) []
      front-long (omega arith)
      ∙ ap (λ (k : ℕ). get_or (digests ++ drop (place + length digests) old) k []) back
      ∙ get_or_append_left digests (drop (place + length digests) old) [] i below

  pub written-behind : (i : ℕ) → place + length digests ≤ i → get_or written i [] ≡ get_or old i []
  written-behind i above =
      let rest : place + length digests + (i - place - length digests) ≡ i = omega (arith, above) in
      get_or-append_right (take place old) (digests ++ drop (place + length digests) old) place i [] front-long
      (omega (arith, above))
      ∙ get_or-append_right digests (drop (place + length digests) old) (length digests) (i - place) [] refl
      (omega (arith, above))
      ∙ get_or-drop (place + length digests) old (i - place - length digests) []
      ∙ ap (λ (k : ℕ). get_or old k []) rest

-- what is read of a run of digests
pub run-long : (parts : List Digest) (from width : ℕ) → from + width ≤ length parts
    → length (take (from + width - from) (drop from parts)) ≡ width
run-long parts from width inside =
    let back : from + width - from ≡ width = omega arith in
    rw back (length-take-le width (drop from parts) (omega (arith, length-drop from parts, inside)))

pub run-read : (parts : List Digest) (from width : ℕ) (at : ℕ) → at < width
    → get_or (take (from + width - from) (drop from parts)) at [] ≡ get_or parts (from + at) []
run-read parts from width at below =
    get_or-take (from + width - from) (drop from parts) at [] (omega (arith, below)) ∙ get_or-drop from parts at []

-- ---- products

-- one row more
pub row-below : (a b w : ℕ) → a < b → a * w + w ≤ b * w
row-below a b w less =
    let le : a + 1 ≤ b = omega arith in
    let rows : (a + 1) * w ≤ b * w = mul-le-mul_right w le in
    omega (arith, rows, add-mul a 1 w)

pub twice-row : (count width : ℕ) → count * (2 * width) ≡ (count + count) * width
twice-row count width =
    ap (λ (n : ℕ). count * n) (omega arith) ∙ mul-add count width width ∙ sym (add-mul count count width)

-- the places of a level of a part are inside both
pub places-fit : (count size width n : ℕ) → 0 < width → 2 * width ≤ size + 1 → n < count
    → ((count + n) * width + width ≤ count * (size + 1)) × (n * size + 2 * width ≤ count * size + 1)
places-fit count size width n some wide below =
    let rows = row-below (count + n) (count + count) width (omega arith) in
    let all = mul-le-mul_left count wide in
    let part = row-below n count size below in
    (omega (arith, rows, all, twice-row count width), omega (arith, part, wide))

-- ---- a level of each part

module _ {count size width : ℕ} {parts old : List Digest} where
  pub level-more : (n : ℕ) (mid digests : List Digest) (place : ℕ) → CopiesLevel count size width n parts old mid
      → 0 < count → 0 < width → place ≡ (count + n) * width - 1 → length digests ≡ width
      → place + length digests ≤ length mid
      → ((at : ℕ) → at < width → get_or digests at [] ≡ get_or parts (n * size + width - 1 + at) [])
      → CopiesLevel count size width (n + 1) parts old
      (take place mid ++ (digests ++ drop (place + length digests) mid))
  level-more n mid digests place before some wide place_is long inside reads = record {
    long = written-long mid digests place inside ∙ before.long;
    copied = λ k at less below. elim (cases_lt k n) [
      | inl lt ↦
          let rows = row-below (count + k) (count + n) width (omega arith) in
          written-before mid digests place inside (place_joined count width k at)
          (omega (arith, rows, place_is, some_row k))
          ∙ before.copied k at lt below
      | inr ge ↦
          let same : k ≡ n = omega arith in
          let here : place_joined count width k at ≡ place + at = rw same (omega (arith, place_is, some_row n)) in
          let there : n * size + width - 1 + at ≡ place_apart size width k at = rw same (omega (arith, wide)) in
          ap (λ (i : ℕ). get_or (take place mid ++ (digests ++ drop (place + length digests) mid)) i []) here
          ∙ written-here mid digests place inside at (omega (arith, long, below)) ∙ reads at below
          ∙ ap (λ (i : ℕ). get_or parts i []) there
    ];
    others = λ i out. elim out [
      | inl lt ↦ written-before mid digests place inside i (omega (arith, place_is, lt, from_first))
          ∙ before.others i (inl lt)
      | inr ge ↦ written-behind mid digests place inside i (omega (arith, place_is, long, ge, some_row n, next))
          ∙ before.others i (inr (omega (arith, ge, next)))
    ];
  }
    where
      from_first : count * width ≤ (count + n) * width
      from_first = mul-le-mul_right width (omega arith)

      next : (count + (n + 1)) * width ≡ (count + n) * width + width
      next = let sum : count + (n + 1) ≡ count + n + 1 = omega arith in
          ap (λ (m : ℕ). m * width) sum ∙ omega (arith, add-mul (count + n) 1 width)

      some_row : (k : ℕ) → 0 < (count + k) * width
      some_row k = omega (arith, row-below 0 (count + k) width (omega (arith, some)), wide)

-- ---- all levels

power-cases : (level at : ℕ) → 2 ^ level < 2 * 2 ^ at → (2 * 2 ^ level ≤ 2 ^ at) ⊎ (2 ^ level ≡ 2 ^ at)
power-cases level at less = elim (cases_lt level at) [
  | inl lt ↦
      let two : 0 < 2 = omega arith in
      let up : 2 ^ suc level ≤ 2 ^ at = pow-le-pow_right two (omega arith) in
      inl (omega (arith, up, pow-succ' 2 level))
  | inr ge ↦
      let two : 0 < 2 = omega arith in
      elim (cases_lt at level) [
        | inl lt ↦
            let up : 2 ^ suc at ≤ 2 ^ level = pow-le-pow_right two (omega arith) in
            absurd (omega (arith, up, less, pow-succ' 2 at))
        | inr le ↦ let same : level ≡ at = omega arith in inr (ap (λ (k : ℕ). 2 ^ k) same)
      ]
]

module _ {count size : ℕ} {parts old : List Digest} where
  pub levels-more : (at : ℕ) (mid new : List Digest) → CopiesLevels count size (2 ^ at) parts old mid
      → CopiesLevel count size (2 ^ at) count parts mid new → CopiesLevels count size (2 ^ at * 2) parts old new
  levels-more at mid new before here = record {
    long = here.long ∙ before.long;
    copied = λ level n i small below within. elim (power-cases level at (omega (arith, small))) [
      | inl lower ↦
          let rows = row-below (count + n) (count + count) (2 ^ level) (omega arith) in
          let all = mul-le-mul_left count lower in
          here.others (place_joined count (2 ^ level) n i)
          (inl (omega (arith, rows, all, twice-row count (2 ^ level), within, first n level)))
          ∙ before.copied level n i (omega (arith, lower, pow_pos level)) below within
      | inr same ↦ rw same (here.copied n i below (rw same at within))
    ];
  }
    where
      first : (n level : ℕ) → n < count → 0 < (count + n) * 2 ^ level
      first n level below = omega (arith, row-below 0 (count + n) (2 ^ level) (omega arith), pow_pos level)
