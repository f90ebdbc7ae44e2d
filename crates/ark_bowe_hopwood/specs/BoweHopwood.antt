-- Bowe-Hopwood hashes: the first coordinate of a sum of elements, each as often as a signed digit of three bits says.
use Rattle.std.specs.Prelude.{◌≡◌, ℕ, suc, ◌*◌, ◌-◌, ◌/◌, ◌^◌, ◌≤◌, nat_lt, nat_le, Bool, false, if◌then◌else◌}
use Rattle.std.specs.Prelude.{List, [], ◌∷◌, length, map, take, drop, ℤ, pos, negsuc, ◌+ℤ◌, ◌-ℤ◌, ◌*ℤ◌, Ok, Err}
use Rattle.std.specs.Int.{int_rem_euclid}
use Rattle.ark_base.specs.Outcome.{Outcome}
use Rattle.ark_base.specs.declared.error.Error.TheVariants.{IncorrectInputLength, GenericError}
use Rattle.ark_base.specs.declared.error.Refusal.TheVariants.{ParameterShape, WindowTooLarge}
use Rattle.rand_core.specs.Stream.{Stream}
use Rattle.ark_groups.specs.Group.{Group, times}
use Rattle.ark_pedersen.specs.Pedersen.{bits_of_bytes, iterates, concatenation, has_shape, window_elements}
use Rattle.ark_pedersen.specs.declared.window.Window.{Ghosts as Windows}

-- ---- digits

-- three bits, the lowest first
abbrev pub Chunk : Type 0
Chunk = Bool × Bool × Bool

-- the bits in threes; missing ones are false
unfoldable pub chunks_of : List Bool → List Chunk
chunks_of [] = []
chunks_of (a ∷ []) = (a, false, false) ∷ []
chunks_of (a ∷ b ∷ []) = (a, b, false) ∷ []
chunks_of (a ∷ b ∷ c ∷ bits) = (a, b, c) ∷ chunks_of bits

-- 1 where a bit is set, else 0
abbrev pub one_if : Bool → ℤ
one_if b = if b then pos 1 else pos 0

-- of a chunk of the bits a, b and c: the whole number (1 - 2 c) (1 + a + 2 b), one of -4 .. -1 and 1 .. 4
abbrev pub digit : Chunk → ℤ
digit (a, b, c) = (pos 1 -ℤ pos 2 *ℤ one_if c) *ℤ (pos 1 +ℤ one_if a +ℤ pos 2 *ℤ one_if b)

-- the scalar of the chunks of a segment: the sum of digit j times 16 ^ j
unfoldable pub segment_scalar : List Chunk → ℤ
segment_scalar [] = pos 0
segment_scalar (chunk ∷ chunks) = digit chunk +ℤ pos 16 *ℤ segment_scalar chunks

-- the greatest scalar of a count of chunks: 4 times the sum of 16 ^ j
unfoldable pub greatest_scalar : ℕ → ℕ
greatest_scalar count = 4 * (16 ^ count - 1) / 15

-- 4 (16^n - 1) / 15, the greatest scalar of a segment of n chunks, is at most half of the order less one
unfoldable pub is_fitting : ℕ → ℕ → Bool
is_fitting order size = nat_le (greatest_scalar size) ((order - 1) / 2)

-- Two lists of chunks of one length up to a size are equal where their scalars leave one remainder by the order.
abbrev pub TellsChunksApart : ℕ → ℕ → Type 0
TellsChunksApart order size =
    (a b : List Chunk) → length a ≡ length b → length a ≤ size
    → int_rem_euclid (segment_scalar a) (pos order) ≡ int_rem_euclid (segment_scalar b) (pos order) → a ≡ b

-- ---- sums

-- x, as often as a whole number says; where that is negative, the opposite of x so often
abbrev pub signed_times : {G : Type 0} → Group G → ℤ → G → G
signed_times g (pos n) x = times g n x
signed_times g (negsuc n) x = g.opposite (times g (suc n) x)

-- the sum of the elements, each as often as the digit of its chunk says; a chunk that is not there counts nothing
unfoldable pub digits_sum : {G : Type 0} → Group G → List G → List Chunk → G
digits_sum g [] chunks = g.identity
digits_sum g (x ∷ xs) [] = g.identity
digits_sum g (x ∷ xs) (chunk ∷ chunks) = g.plus (signed_times g (digit chunk) x) (digits_sum g xs chunks)

-- an element, sixteen times it, sixteen times that, up to a count of elements
abbrev pub sixteenfolds : {G : Type 0} → Group G → ℕ → G → List G
sixteenfolds g count x = iterates (times g 16) count x

-- the sum over segments of one size, each element as often as the scalar of its segment says
unfoldable pub segments_sum : {G : Type 0} → Group G → ℕ → List G → List Chunk → G
segments_sum g size [] chunks = g.identity
segments_sum g size (x ∷ xs) chunks =
    g.plus (signed_times g (segment_scalar (take size chunks)) x) (segments_sum g size xs (drop size chunks))

-- ---- parameters

-- the lists are those of the elements, one for each segment: it and its sixteenfolds, as many as the segment has chunks
abbrev pub AreSegmentsOf : {G W : Type 0} → Group G → Windows W → List G → List (List G) → Type 0
AreSegmentsOf g windows elements lists =
    (length elements ≡ windows.NUM_WINDOWS) × (lists ≡ map (sixteenfolds g windows.WINDOW_SIZE) elements)

-- the lists are those of the elements that are drawn
abbrev pub AreDrawnSegments : {G W : Type 0}
    → Group G → (Stream → G × Stream) → Windows W → Stream → List (List G) → Type 0
AreDrawnSegments g draw windows stream lists =
    AreSegmentsOf g windows (window_elements draw windows stream).0 lists

-- what making parameters leaves of a stream, or `WindowTooLarge` where a segment does not fit the order
abbrev pub segments_outcome : {G W : Type 0} → ℕ → (Stream → G × Stream) → Windows W → Stream → Outcome Stream
segments_outcome order draw windows stream =
    if is_fitting order windows.WINDOW_SIZE then Ok (window_elements draw windows stream).1
    else Err (GenericError WindowTooLarge)

-- ---- hashes

-- The coordinate of the sum of the elements, each as often as the digit of its chunk of the input says: refused where
-- the input has more than three bits for each element, and where the lists have not the windows' shape.
abbrev pub bowe_hopwood_hash : {G W : Type 0} → Group G → (G → ℕ) → Windows W → List (List G) → List ℕ → Outcome ℕ
bowe_hopwood_hash g coordinate windows lists input =
    if nat_lt (3 * (windows.WINDOW_SIZE * windows.NUM_WINDOWS)) (8 * length input) then
    Err (IncorrectInputLength (length input))
    else if has_shape windows.NUM_WINDOWS windows.WINDOW_SIZE lists then
    Ok (coordinate (digits_sum g (concatenation lists) (chunks_of (bits_of_bytes input))))
    else Err (GenericError ParameterShape)

-- the same where the lists are those of elements: each element as often as the scalar of its segment says
abbrev pub segments_hash : {G W : Type 0} → Group G → (G → ℕ) → Windows W → List G → List ℕ → Outcome ℕ
segments_hash g coordinate windows elements input =
    if nat_lt (3 * (windows.WINDOW_SIZE * windows.NUM_WINDOWS)) (8 * length input) then
    Err (IncorrectInputLength (length input))
    else Ok (coordinate (segments_sum g windows.WINDOW_SIZE elements (chunks_of (bits_of_bytes input))))
