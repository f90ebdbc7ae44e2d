-- Pedersen commitments: the Pedersen hash of the input, and to it another element as often as the randomness says.
use Rattle.std.specs.Prelude.{◌≡◌, ℕ, ◌==◌, ◌⊎◌, List, length, Ok, Err, if◌then◌else◌}
use Rattle.ark_base.specs.Outcome.{Outcome, ◌>>=◌}
use Rattle.ark_base.specs.declared.error.Error.{Error}
use Rattle.ark_base.specs.declared.error.Error.TheVariants.{GenericError, OutOfMemory}
use Rattle.ark_base.specs.declared.error.Refusal.TheVariants.{ParameterShape}
use Rattle.rand_core.specs.Stream.{Stream}
use Rattle.ark_groups.specs.Group.{Group, times}
use Rattle.ark_groups.specs.Bits.{bits_of_number}
use Rattle.ark_pedersen.specs.Pedersen.{bits_of_bytes, union, AreDisjoint, pedersen_sum, doublings}
use Rattle.ark_pedersen.specs.Pedersen.{lists_in, AreGeneratorsOf, window_elements, pedersen_hash, windows_hash}
use Rattle.ark_pedersen.specs.declared.window.Window.{Ghosts as Windows}
use Rattle.ark_schemes.specs.declared.commitment.pedersen.parameters.Parameters.{Parameters}
use Rattle.ark_schemes.specs.declared.commitment.pedersen.prepared.PreparedParameters.{PreparedParameters}

-- ---- parameters

-- the elements for the bits of the randomness, and those for the bits of the input: a list for each window
pub record Generators (G : Type 0) : Type 0 where
  pub randomness : List G
  pub windows : List (List G)

-- the elements for the randomness and for the windows that parameters have
abbrev pub elements_in : {G S T : Type 0} → Parameters G S T → Generators G
elements_in parameters = record {
  randomness = parameters.randomness_generator.items;
  windows = lists_in parameters.generators.items;
}

-- The lists are the doublings of an element, one for each bit of the randomness, and those of the windows' elements.
pub record AreOf {G W : Type 0} (g : Group G) (bits : ℕ) (windows : Windows W)
    (element : G) (elements : List G) (lists : Generators G) : Type 0 where
  pub of_randomness : lists.randomness ≡ doublings g bits element
  pub of_windows : AreGeneratorsOf g windows elements lists.windows

-- the lists are those of some elements, with their doublings
abbrev pub AreMade : {G W : Type 0} → Group G → ℕ → Windows W → Generators G → Type 0
AreMade {G} g bits windows lists = (element : G) × (elements : List G) × AreOf g bits windows element elements lists

-- The randomness element and the windows' elements, drawn one after another from a stream, and the stream that is left.
abbrev pub drawn_elements : {G W : Type 0} → (Stream → G × Stream) → Windows W → Stream → (G × List G) × Stream
drawn_elements draw windows stream =
    let others = window_elements draw windows (draw stream).1 in
    (((draw stream).0, others.0), others.1)

-- of a commitment: the randomness's list and the windows' are those of the elements that are drawn from a stream
abbrev pub AreAllDrawn : {G W : Type 0} → Group G → (Stream → G × Stream) → ℕ → Windows W → Stream → Generators G
    → Type 0
AreAllDrawn g draw bits windows stream lists =
    let elements = (drawn_elements draw windows stream).0 in
    AreOf g bits windows elements.0 elements.1 lists

-- ---- parameters with a table

-- the elements that parameters with a table have: for the randomness the doublings of the table's element
abbrev pub elements_by_table : {G S T L : Type 0} → (L → G) → Group G → ℕ → PreparedParameters G L S T → Generators G
elements_by_table base g bits prepared = record {
  randomness = doublings g bits (base prepared.table);
  windows = lists_in prepared.generators.items;
}

-- why there is no table: a lack of memory, or a list that is not an element's doublings
abbrev pub IsDoublingFault : {G : Type 0} → Group G → ℕ → List G → Error → Type 0
IsDoublingFault {G} g bits elements error =
    (error ≡ OutOfMemory)
    ⊎ ((error ≡ GenericError ParameterShape) × ((element : G) → elements ≡ doublings g bits element → ⊥))

-- ---- commitments

-- the sum of the elements at the set bits of the randomness, refused where there is not one for each bit
abbrev pub randomness_sum : {G : Type 0} → Group G → ℕ → List G → ℕ → Outcome G
randomness_sum g bits elements randomness =
    if length elements == bits then Ok (pedersen_sum g elements (bits_of_number bits randomness))
    else Err (GenericError ParameterShape)

-- the hash of the input, and to it that sum
abbrev pub pedersen_commitment : {G W : Type 0} → Group G → ℕ → Windows W → Generators G → List ℕ → ℕ → Outcome G
pedersen_commitment g bits windows lists input randomness = do
  hash ← pedersen_hash g windows lists.windows input
  more ← randomness_sum g bits lists.randomness randomness
  Ok (g.plus hash more)

-- the same where the lists are those of elements: the sum over the windows, and the element randomness times
abbrev pub windows_commitment : {G W : Type 0} → Group G → Windows W → G → List G → List ℕ → ℕ → Outcome G
windows_commitment g windows element elements input randomness = do
  hash ← windows_hash g windows elements input
  Ok (g.plus hash (times g randomness element))

-- ---- their sums

-- the sum of two outcomes, or the first refusal
abbrev pub sum_of : {G : Type 0} → Group G → Outcome G → Outcome G → Outcome G
sum_of g left right = do
  x ← left
  y ← right
  Ok (g.plus x y)

-- the bytes have the bits of two inputs of their length that share no set bit
pub record IsUnion (bytes left right : List ℕ) : Type 0 where
  pub as_long_left : length left ≡ length bytes
  pub as_long_right : length right ≡ length bytes
  pub apart : AreDisjoint (bits_of_bytes left) (bits_of_bytes right)
  pub bits : bits_of_bytes bytes ≡ union (bits_of_bytes left) (bits_of_bytes right)
