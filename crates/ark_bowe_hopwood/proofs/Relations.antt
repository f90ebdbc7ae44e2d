-- Two inputs with one hash give a relation among the elements of the segments.
use Rattle.std.proofs.Common.{◌≡◌, ℕ, zero, suc, ◌+◌, ◌-◌, ◌*◌, ◌/◌, ◌<◌, ◌≤◌, Bool, false, List, [], ◌∷◌, All}
use Rattle.std.proofs.Common.{length, take, drop, ℤ, pos, negsuc, ◌+ℤ◌, ◌-ℤ◌, refl, sym, ◌∙◌, ap, ap₂, arith, mod-eq_of_lt, cond, Ok, Err}
use Rattle.std.specs.Int.{int_rem_euclid}
use Rattle.std.proofs.lemmas.Int.{ints}
use Rattle.std.proofs.lemmas.Bool.{leb-true, le-ltb}
use Rattle.ark_base.specs.Outcome.{Outcome}
use Rattle.ark_base.specs.Laws.Steps.{done_injective}
use Rattle.ark_base.specs.declared.error.Error.TheVariants.{IncorrectInputLength}
use Rattle.ark_groups.specs.Group.{Group, IsCommutativeGroup}
use Rattle.ark_pedersen.specs.Pedersen.{bits_of_bytes}
use Rattle.ark_pedersen.specs.declared.window.Window.{Ghosts as Windows}
use Rattle.ark_pedersen.proofs.Halves.{length-bits_of_bytes}
use Rattle.ark_pedersen.proofs.Relations.{adds_nothing, crossed, length-take-short, both_empty, same_parts, same_bytes}
use Rattle.ark_bowe_hopwood.specs.BoweHopwood.{Chunk, chunks_of, segment_scalar, signed_times, segments_sum, segments_hash}
use Rattle.ark_bowe_hopwood.specs.BoweHopwood.{greatest_scalar, is_fitting}
use Rattle.ark_bowe_hopwood.specs.Binding.{segment_scalars, scalar_differences, signed_combination, bit_coefficients}
use Rattle.ark_bowe_hopwood.specs.Binding.{IsWithinSegments, HashesGiveRelations, RelationsAreSome, BitRelationsAreSome}
use Rattle.ark_bowe_hopwood.proofs.Scalars.{IsWithin, scalar-within, alone}
use Rattle.ark_bowe_hopwood.proofs.SignedTimes.{signed_times-add}

module _ {G : Type 0} {g : Group G} (laws : IsCommutativeGroup g) where
  segments_sum-combination : (size : ℕ) (xs : List G) (chunks : List Chunk) → segments_sum g size xs chunks
      ≡ signed_combination g (segment_scalars size (length xs) chunks) xs
  unfolding segments_sum segment_scalars signed_combination
  segments_sum-combination size [] chunks = refl
  segments_sum-combination size (x ∷ xs) chunks =
      ap (g.plus (signed_times g (segment_scalar (take size chunks)) x))
      (segments_sum-combination size xs (drop size chunks))

  difference-times : (a b : ℤ) (x : G) → g.plus (signed_times g (a -ℤ b) x) (signed_times g b x) ≡ signed_times g a x
  difference-times a b x =
      sym (signed_times-add laws (a -ℤ b) b x) ∙ ap (λ z. signed_times g z x) (back a b)
    where
      back : (a b : ℤ) → a -ℤ b +ℤ b ≡ a
      back a b = omega (arith, ints)

  combination-differences : (ms ns : List ℤ) (xs : List G) → length ms ≡ length ns
      → g.plus (signed_combination g (scalar_differences ms ns) xs) (signed_combination g ns xs)
      ≡ signed_combination g ms xs
  unfolding signed_combination scalar_differences
  combination-differences [] [] xs long = laws.left_identity g.identity
  combination-differences [] (n ∷ ns) xs long = absurd (omega arith)
  combination-differences (m ∷ ms) [] xs long = absurd (omega arith)
  combination-differences (m ∷ ms) (n ∷ ns) [] long = laws.left_identity g.identity
  combination-differences (m ∷ ms) (n ∷ ns) (x ∷ xs) long =
      crossed laws (signed_times g (m -ℤ n) x) (signed_combination g (scalar_differences ms ns) xs)
      (signed_times g n x) (signed_combination g ns xs)
      ∙ ap₂ g.plus (difference-times m n x) (combination-differences ms ns xs (omega arith))

length-segment_scalars : (size count : ℕ) (chunks : List Chunk) → length (segment_scalars size count chunks) ≡ count
unfolding segment_scalars
length-segment_scalars size zero chunks = refl
length-segment_scalars size (suc count) chunks = ap suc (length-segment_scalars size count (drop size chunks))

-- where two sums over the segments are one, the combination by the coefficients is zero
pub relation : {G W : Type 0} {g : Group G} (laws : IsCommutativeGroup g) (windows : Windows W) (elements : List G)
    (left right : List Bool) → length elements ≡ windows.NUM_WINDOWS
    → segments_sum g windows.WINDOW_SIZE elements (chunks_of left)
    ≡ segments_sum g windows.WINDOW_SIZE elements (chunks_of right)
    → signed_combination g (bit_coefficients windows left right) elements ≡ g.identity
relation {G} {W} {g} laws windows elements left right long sums =
    let size = windows.WINDOW_SIZE in
    let count = windows.NUM_WINDOWS in
    let ms = segment_scalars size count (chunks_of left) in
    let ns = segment_scalars size count (chunks_of right) in
    adds_nothing laws (signed_combination g (scalar_differences ms ns) elements) (signed_combination g ns elements)
    (combination-differences laws ms ns elements (length-segment_scalars size count (chunks_of left)
    ∙ sym (length-segment_scalars size count (chunks_of right)))
    ∙ sym (by_count left) ∙ sums ∙ by_count right)
  where
    by_count : (bits : List Bool) → segments_sum g windows.WINDOW_SIZE elements (chunks_of bits)
        ≡ signed_combination g (segment_scalars windows.WINDOW_SIZE windows.NUM_WINDOWS (chunks_of bits)) elements
    by_count bits =
        segments_sum-combination laws windows.WINDOW_SIZE elements (chunks_of bits)
        ∙ ap (λ n. signed_combination g (segment_scalars windows.WINDOW_SIZE n (chunks_of bits)) elements) long

pub give_relations : {G W : Type 0} {g : Group G} (laws : IsCommutativeGroup g) (coordinate : G → ℕ)
    (windows : Windows W)
    → ((a b : G) → coordinate a ≡ coordinate b → a ≡ b) → HashesGiveRelations g coordinate windows
give_relations {G} {W} {g} laws coordinate windows told elements left right long fits_left fits_right same =
    relation laws windows elements (bits_of_bytes left) (bits_of_bytes right) long
    (told _ _ (done_injective _ _ (sym (hash_is left fits_left) ∙ same ∙ hash_is right fits_right)))
  where
    hash_is : (input : List ℕ) → IsWithinSegments windows input → segments_hash g coordinate windows elements input
        ≡ Ok (coordinate (segments_sum g windows.WINDOW_SIZE elements (chunks_of (bits_of_bytes input))))
    hash_is input fits =
        ap (λ (b : Bool). let o : Outcome ℕ = cond b (Err (IncorrectInputLength (length input)))
        (Ok (coordinate (segments_sum g windows.WINDOW_SIZE elements (chunks_of (bits_of_bytes input))))) in o)
        (le-ltb (3 * (windows.WINDOW_SIZE * windows.NUM_WINDOWS)) (8 * length input) fits)

-- ---- coefficients that are all multiples of the order

abbrev natural : ℤ → ℕ
natural (pos n) = n
natural (negsuc n) = 0

-- a whole number nearer to 0 than the order, which divides it, is 0
zero_of : (m order : ℕ) (z : ℤ) → m < order → IsWithin m z → int_rem_euclid z (pos order) ≡ pos 0 → z ≡ pos 0
zero_of m order (pos n) below within none =
    let least : n < order = omega (arith, ints, within.over) in
    let zero' : n ≡ 0 = sym (mod-eq_of_lt least) ∙ ap natural none in
    ap pos zero'
zero_of m order (negsuc n) below within none =
    let least : suc n < order = omega (arith, ints, within.under) in
    let zero' : order - 1 - n ≡ 0 = ap (λ k. order - 1 - k) (sym
    (mod-eq_of_lt {n = n} {m = order} (omega (arith, least))))
    ∙ ap natural none in
    absurd (omega (arith, zero', least))

-- a difference of two whole numbers within half of the order that it divides is 0
same_scalar : (m order : ℕ) (a b : ℤ) → 2 * m < order → IsWithin m a → IsWithin m b
    → int_rem_euclid (a -ℤ b) (pos order) ≡ pos 0 → a ≡ b
same_scalar m order a b half first second none =
    let zero' : a -ℤ b ≡ pos 0 = zero_of (2 * m) order (a -ℤ b) half (record {
      over = omega (arith, ints, first.over, second.under);
      under = omega (arith, ints, first.under, second.over);
    }) none in
    omega (arith, ints, zero')

-- the first chunk of a list, and the chunks behind it
abbrev head : List Chunk → Chunk
head [] = (false, false, false)
head (x ∷ xs) = x

abbrev behind : List Chunk → List Chunk
behind [] = []
behind (x ∷ xs) = xs

chunks_long : (a b : List Bool) → length a ≡ length b → length (chunks_of a) ≡ length (chunks_of b)
unfolding chunks_of
chunks_long [] [] long = refl
chunks_long [] (y ∷ b) long = absurd (omega arith)
chunks_long (x ∷ a) [] long = absurd (omega arith)
chunks_long (x ∷ []) (y ∷ []) long = refl
chunks_long (x ∷ []) (y ∷ y' ∷ b) long = absurd (omega arith)
chunks_long (x ∷ x' ∷ a) (y ∷ []) long = absurd (omega arith)
chunks_long (x ∷ x' ∷ []) (y ∷ y' ∷ []) long = refl
chunks_long (x ∷ x' ∷ []) (y ∷ y' ∷ y'' ∷ b) long = absurd (omega arith)
chunks_long (x ∷ x' ∷ x'' ∷ a) (y ∷ y' ∷ []) long = absurd (omega arith)
chunks_long (x ∷ x' ∷ x'' ∷ a) (y ∷ y' ∷ y'' ∷ b) long = ap suc (chunks_long a b (omega arith))

chunks_few : (a : List Bool) → 3 * length (chunks_of a) ≤ length a + 2
unfolding chunks_of
chunks_few [] = omega arith
chunks_few (x ∷ []) = omega arith
chunks_few (x ∷ x' ∷ []) = omega arith
chunks_few (x ∷ x' ∷ x'' ∷ a) = omega (arith, chunks_few a)

bits_of_chunks : (a b : List Bool) → length a ≡ length b → chunks_of a ≡ chunks_of b → a ≡ b
unfolding chunks_of
bits_of_chunks [] [] long same = refl
bits_of_chunks [] (y ∷ b) long same = absurd (omega arith)
bits_of_chunks (x ∷ a) [] long same = absurd (omega arith)
bits_of_chunks (x ∷ []) (y ∷ []) long same = ap (λ t. t ∷ []) (first_of same)
  where
    first_of : ◌≡◌ {A = List Chunk} ((x, false, false) ∷ []) ((y, false, false) ∷ []) → x ≡ y
    first_of e = ap (λ (t : List Chunk). (head t).0) e
bits_of_chunks (x ∷ []) (y ∷ y' ∷ b) long same = absurd (omega arith)
bits_of_chunks (x ∷ x' ∷ a) (y ∷ []) long same = absurd (omega arith)
bits_of_chunks (x ∷ x' ∷ []) (y ∷ y' ∷ []) long same =
    ap₂ (λ s t. s ∷ t ∷ []) (ap (λ (t : List Chunk). (head t).0) same) (ap (λ (t : List Chunk). (head t).1) same)
bits_of_chunks (x ∷ x' ∷ []) (y ∷ y' ∷ y'' ∷ b) long same = absurd (omega arith)
bits_of_chunks (x ∷ x' ∷ x'' ∷ a) (y ∷ y' ∷ []) long same = absurd (omega arith)
bits_of_chunks (x ∷ x' ∷ x'' ∷ a) (y ∷ y' ∷ y'' ∷ b) long same =
    ap₂ (λ s t. s ∷ t) (ap (λ (t : List Chunk). (head t).0) same) (ap₂ (λ s t. s ∷ t)
    (ap (λ (t : List Chunk). (head t).1) same) (ap₂ (λ s t. s ∷ t) (ap (λ (t : List Chunk). (head t).2) same)
    (bits_of_chunks a b (omega arith) (ap behind same))))

module _ (order size : ℕ) (half : 2 * greatest_scalar size < order) where
  same_chunks : (count : ℕ) (a b : List Chunk) → length a ≡ length b → length a ≤ size * count
      → All (λ z. int_rem_euclid z (pos order) ≡ pos 0)
      (scalar_differences (segment_scalars size count a) (segment_scalars size count b)) → a ≡ b
  unfolding scalar_differences segment_scalars
  same_chunks zero a b long within none = both_empty a b long (omega (arith, within))
  same_chunks (suc count) a b long within none =
      let here : segment_scalar (take size a) ≡ segment_scalar (take size b) =
      same_scalar (greatest_scalar size) order (segment_scalar (take size a)) (segment_scalar (take size b)) half
      (scalar-within (take size a) size (length-take-short size a))
      (scalar-within (take size b) size (length-take-short size b)) (none 0 (pos 0) (omega arith)) in
      same_parts size count a b long within (λ same. alone (take size a) (take size b) same here)
      (λ same short. same_chunks count (drop size a) (drop size b) same short
      (λ k d l. none (suc k) d (omega (arith, l))))

-- as many bits whose coefficients are all multiples of the order are the same
pub bits_are_some : {W : Type 0} (order : ℕ) (windows : Windows W) → 0 < order → BitRelationsAreSome order windows
unfolding is_fitting
bits_are_some order windows some fitting left right long within none =
    let most = greatest_scalar windows.WINDOW_SIZE in
    let fits : most ≤ (order - 1) / 2 = leb-true _ _ fitting in
    bits_of_chunks left right long
    (same_chunks order windows.WINDOW_SIZE (omega (arith, fits)) windows.NUM_WINDOWS (chunks_of left) (chunks_of right)
    (chunks_long left right long) (few (chunks_few left)) none)
  where
    few : 3 * length (chunks_of left) ≤ length left + 2
        → length (chunks_of left) ≤ windows.WINDOW_SIZE * windows.NUM_WINDOWS
    few l = omega (arith, l, within)

pub are_some : {W : Type 0} (order : ℕ) (windows : Windows W) → 0 < order → RelationsAreSome order windows
are_some order windows some fitting left right bytes_left bytes_right long within none =
    same_bytes left right bytes_left bytes_right long
    (bits_are_some order windows some fitting (bits_of_bytes left) (bits_of_bytes right)
    (length-bits_of_bytes left ∙ ap (λ n. 8 * n) long ∙ sym (length-bits_of_bytes right))
    (short (length-bits_of_bytes left)) none)
  where
    short : length (bits_of_bytes left) ≡ 8 * length left
        → length (bits_of_bytes left) ≤ 3 * (windows.WINDOW_SIZE * windows.NUM_WINDOWS)
    short e = omega (arith, e, within)
