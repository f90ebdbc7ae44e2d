-- Pedersen hashes: the sum of the elements at the set bits of an input.
use Rattle.std.specs.Prelude.{◌≡◌, ℕ, zero, suc, ◌*◌, ◌-◌, ◌/◌, Bool, false, ◌&&◌, ◌||◌, ◌==◌}
use Rattle.std.specs.Prelude.{List, [], ◌∷◌, ◌++◌, length, replicate, map, take, drop, Ok, Err, nat_lt, if◌then◌else◌}
use Rattle.std.specs.declared.vec.Vec.{Vec}
use Rattle.std.specs.List.{flat_map, list_all}
use Rattle.ark_base.specs.Outcome.{Outcome, ◌>>=◌}
use Rattle.ark_base.specs.declared.error.Error.TheVariants.{IncorrectInputLength, GenericError}
use Rattle.ark_base.specs.declared.error.Refusal.TheVariants.{ParameterShape}
use Rattle.rand_core.specs.Stream.{Stream}
use Rattle.ark_groups.specs.Draws.{drawn_values}
use Rattle.ark_groups.specs.Bits.{bits_of_number, number_of_bits}
use Rattle.ark_groups.specs.Group.{Group, times}
use Rattle.ark_pedersen.specs.declared.parameters.Parameters.{Parameters}
use Rattle.ark_pedersen.specs.declared.window.Window.{Ghosts as Windows}

-- ---- bits

-- the binary digits of bytes, the lowest of each byte first
abbrev pub bits_of_bytes : List ℕ → List Bool
bits_of_bytes bytes = flat_map (bits_of_number 8) bytes

-- a bit is set where it is set in one of two lists
unfoldable pub union : List Bool → List Bool → List Bool
union (a ∷ left) (b ∷ right) = (a || b) ∷ union left right
union left right = []

-- no bit is set in both
unfoldable pub AreDisjoint : List Bool → List Bool → Type 0
AreDisjoint (a ∷ left) (b ∷ right) = ((a && b) ≡ false) × AreDisjoint left right
AreDisjoint left right = Unit {0}

-- ---- sums

-- the sum of the elements that stand where a bit is set
unfoldable pub pedersen_sum : {G : Type 0} → Group G → List G → List Bool → G
pedersen_sum g [] bits = g.identity
pedersen_sum g (x ∷ xs) [] = g.identity
pedersen_sum g (x ∷ xs) (b ∷ bits) = if b then g.plus x (pedersen_sum g xs bits) else pedersen_sum g xs bits

-- a value, what a map makes of it, what it makes of that, up to a count of values
unfoldable pub iterates : {A : Type 0} → (A → A) → ℕ → A → List A
iterates next zero x = []
iterates next (suc count) x = x ∷ iterates next count (next x)

-- an element, its double, the double of that, up to a count of elements
abbrev pub doublings : {G : Type 0} → Group G → ℕ → G → List G
doublings g count x = iterates (λ y. g.plus y y) count x

-- the sum over windows of one size of the window's number times its element
unfoldable pub windows_sum : {G : Type 0} → Group G → ℕ → List G → List Bool → G
windows_sum g size [] bits = g.identity
windows_sum g size (x ∷ xs) bits =
    g.plus (times g (number_of_bits (take size bits)) x) (windows_sum g size xs (drop size bits))

-- ---- parameters

-- the bits of all windows
abbrev pub window_bits : {W : Type 0} → Windows W → ℕ
window_bits windows = windows.WINDOW_SIZE * windows.NUM_WINDOWS

-- lists as their items
abbrev pub lists_in : {G Z : Type 0} → List (Vec G Z) → List (List G)
lists_in lists = map (λ list. list.items) lists

-- the generators of parameters: a list for each window
abbrev pub generators_in : {G S T : Type 0} → Parameters G S T → List (List G)
generators_in parameters = lists_in parameters.generators.items

-- the lists, one behind the other
abbrev pub concatenation : {G : Type 0} → List (List G) → List G
concatenation lists = flat_map (λ list. list) lists

-- the lists are as many as a count says, and each has one size
abbrev pub has_shape : {G : Type 0} → ℕ → ℕ → List (List G) → Bool
has_shape count size lists = (length lists == count) && list_all (λ list. length list == size) lists

-- the lists are those of the elements, one for each window: it and its doublings, as many as the window has bits
abbrev pub AreGeneratorsOf : {G W : Type 0} → Group G → Windows W → List G → List (List G) → Type 0
AreGeneratorsOf g windows elements lists =
    (length elements ≡ windows.NUM_WINDOWS) × (lists ≡ map (doublings g windows.WINDOW_SIZE) elements)

-- The elements of the windows, drawn one after another from a stream, and the stream that is left.
abbrev pub window_elements : {G W : Type 0} → (Stream → G × Stream) → Windows W → Stream → List G × Stream
window_elements draw windows stream = drawn_values draw windows.NUM_WINDOWS stream

-- the lists are those of the elements that are drawn
abbrev pub AreDrawn : {G W : Type 0} → Group G → (Stream → G × Stream) → Windows W → Stream → List (List G) → Type 0
AreDrawn g draw windows stream lists = AreGeneratorsOf g windows (window_elements draw windows stream).0 lists

-- the sum of the elements of lists at the set bits, the lowest of which stands at this place
abbrev pub sum_from : {G : Type 0} → Group G → ℕ → List (List G) → List Bool → G
sum_from g first lists bits = pedersen_sum g (drop first (concatenation lists)) bits

-- ---- hashes

-- The sum of the elements at the set bits of the input, refused where the input has more bits than the windows, and
-- where the lists have not the windows' shape.
abbrev pub pedersen_hash : {G W : Type 0} → Group G → Windows W → List (List G) → List ℕ → Outcome G
pedersen_hash g windows lists input =
    if nat_lt (window_bits windows) (8 * length input) then Err (IncorrectInputLength (length input))
    else if has_shape windows.NUM_WINDOWS windows.WINDOW_SIZE lists then
    Ok (pedersen_sum g (concatenation lists) (bits_of_bytes input))
    else Err (GenericError ParameterShape)

-- the same where the lists are those of elements: the sum over the windows of the window's number times its element
abbrev pub windows_hash : {G W : Type 0} → Group G → Windows W → List G → List ℕ → Outcome G
windows_hash g windows elements input =
    if nat_lt (window_bits windows) (8 * length input) then Err (IncorrectInputLength (length input))
    else Ok (windows_sum g windows.WINDOW_SIZE elements (bits_of_bytes input))

-- left, right, and zeros behind them up to the bytes of two halves, whose size is given in bits
abbrev pub full_halves : ℕ → List ℕ → List ℕ → List ℕ
full_halves half left right = (left ++ right) ++ replicate (2 * half / 8 - length (left ++ right)) 0

-- The hash of two halves, whose size is given in bits: refused where right is not as long as left, and where left has
-- more bits than a half.
abbrev pub hash_of_halves : {G : Type 0} → ℕ → (List ℕ → Outcome G) → List ℕ → List ℕ → Outcome G
hash_of_halves half hash left right =
    if length left == length right then
    (if nat_lt half (8 * length left) then Err (IncorrectInputLength (length left))
    else hash (full_halves half left right))
    else Err (IncorrectInputLength (length right))

-- the same of two inputs, each of half of the windows' bits at most
abbrev pub of_halves : {G W : Type 0} → Windows W → (List ℕ → Outcome G) → List ℕ → List ℕ → Outcome G
of_halves windows hash left right = hash_of_halves (window_bits windows / 2) hash left right

-- what is seen of the value, where there is one
abbrev pub seen_by : {A B : Type 0} → (A → B) → Outcome A → Outcome B
seen_by view outcome = outcome >>= λ value. Ok (view value)

-- the image of the value under a map, where there is one
abbrev pub image_of : {A B : Type 0} → (A → Outcome B) → Outcome A → Outcome B
image_of mapped outcome = outcome >>= mapped

-- what is seen of that image
abbrev pub seen_image : {A B D : Type 0} → (B → D) → (A → Outcome B) → Outcome A → Outcome D
seen_image view mapped outcome = seen_by view (image_of mapped outcome)
