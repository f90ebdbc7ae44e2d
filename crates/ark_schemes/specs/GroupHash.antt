-- Elements from labels: try and increment over BLAKE2s. Zcash's protocol specification, 5.4.9.5.
use Rattle.std.specs.Prelude.{◌≡◌, ℕ, zero, suc, ◌+◌, ◌*◌, ◌^◌, ◌<◌, ◌≤◌, ◌⊎◌, List, [], ◌∷◌, ◌++◌, map, replicate, codes, Option, Some, None}
use Rattle.std.specs.Option.{option_map_or}
use Rattle.std.specs.List.{range_with_len}
use Rattle.ark_base.specs.Digits.{bytes_of_number}
use Rattle.ark_base.specs.declared.error.Error.{Error}
use Rattle.ark_base.specs.declared.error.Error.TheVariants.{OutOfMemory, GenericError}
use Rattle.ark_base.specs.declared.error.Refusal.TheVariants.{DrawsExhausted, LengthOverflow}
use Rattle.ark_pedersen.specs.declared.window.Window.{Ghosts as Windows}
use Rattle.ark_schemes.specs.Blake2s.{blake2s_with}

-- the random beacon that stands before each text: 64 hexadecimal digits (5.9)
abbrev pub beacon : List ℕ
beacon = codes "096b36a5804bfacef1691e173c366a47ff5ba84a44f26ddd7e8d9f79d5b42df0"

-- the digest of the beacon, a text and a last byte, personalized by a label
unfoldable pub group_digest : List ℕ → List ℕ → ℕ → List ℕ
group_digest label text last = blake2s_with (replicate 8 0) label ((beacon ++ text) ++ last ∷ [])

-- the first element that is found in the digests of a count of last bytes, from one on
unfoldable pub first_found : {G : Type 0} → (List ℕ → Option G) → List ℕ → List ℕ → ℕ → ℕ → Option G
first_found find label text last zero = None
first_found find label text last (suc count) =
    option_map_or (λ x. Some x) (find (group_digest label text last)) (first_found find label text (last + 1) count)

-- the first element that is found in the digests of the 256 last bytes
abbrev pub group_hash : {G : Type 0} → (List ℕ → Option G) → List ℕ → List ℕ → Option G
group_hash find label text = first_found find label text 0 256

-- ---- texts of a label

-- the role of texts for the segments of Bowe-Hopwood hashes, which are Zcash's
abbrev pub for_segments : ℕ
for_segments = 0

-- the role of texts for the windows of Pedersen hashes
abbrev pub for_hashes : ℕ
for_hashes = 1

-- the role of texts for the windows of Pedersen commitments
abbrev pub for_commitments : ℕ
for_commitments = 2

-- the role of texts for the randomness of Pedersen commitments
abbrev pub for_randomness : ℕ
for_randomness = 3

-- The text of a role, of the bits of a window and of a place. Zcash's are the 4 bytes of the place. All others have 17:
-- the place in eight, the bits in eight, and in the last one the role.
abbrev pub text_of : ℕ → ℕ → ℕ → List ℕ
text_of zero bits place = bytes_of_number 4 place
text_of (suc role) bits place = bytes_of_number 17 (2 ^ 128 * suc role + 2 ^ 64 * bits + place)

-- ---- elements of texts

-- the elements of a label's texts: of each place from 0 on the hash of its text
abbrev pub AreOfTexts : {G : Type 0} → (List ℕ → Option G) → List ℕ → (ℕ → List ℕ) → ℕ → List G → Type 0
AreOfTexts find label text count elements =
    map (λ x. Some x) elements ≡ map (λ i. group_hash find label (text i)) (range_with_len 0 count)

-- the elements of a label: of each place its hash, with the place's 4 bytes as the text
abbrev pub AreOfLabel : {G : Type 0} → (List ℕ → Option G) → List ℕ → ℕ → List G → Type 0
AreOfLabel find label count elements = AreOfTexts find label (text_of for_segments 0) count elements

-- why a label's texts have no elements: memory was refused, or the text of a place has none
abbrev pub IsTextFault : {G : Type 0} → (List ℕ → Option G) → List ℕ → (ℕ → List ℕ) → ℕ → Error → Type 0
IsTextFault find label text count error = (error ≡ OutOfMemory)
    ⊎ ((error ≡ GenericError DrawsExhausted) × ((i : ℕ) × (i < count) × (group_hash find label (text i) ≡ None)))

-- why a label has no elements for so many places
abbrev pub IsLabelFault : {G : Type 0} → (List ℕ → Option G) → List ℕ → ℕ → Error → Type 0
IsLabelFault find label count error = IsTextFault find label (text_of for_segments 0) count error

-- why no label has elements for so many windows: their places have over 32 bits
abbrev pub IsTooMany : ℕ → Error → Type 0
IsTooMany count error = (2 ^ 32 ≤ count) × (error ≡ GenericError LengthOverflow)

-- why a label has no elements for so many windows
abbrev pub IsWindowsFault : {G : Type 0} → (List ℕ → Option G) → List ℕ → (ℕ → List ℕ) → ℕ → Error → Type 0
IsWindowsFault find label text count error =
    IsTooMany count error ⊎ ((count < 2 ^ 32) × IsTextFault find label text count error)

-- ---- commitments

-- a label's elements for a commitment: the randomness's, and one for each window, each of a text of its own
pub record AreForCommitment {G W : Type 0} (find : List ℕ → Option G) (label : List ℕ) (windows : Windows W)
    (element : G) (elements : List G) : Type 0 where
  pub of_randomness : group_hash find label (text_of for_randomness windows.WINDOW_SIZE 0) ≡ Some element
  pub of_windows : AreOfTexts find label (text_of for_commitments windows.WINDOW_SIZE) windows.NUM_WINDOWS elements

-- why a label has no elements for a commitment: the randomness's text has none, or a window's has none
abbrev pub IsCommitmentFault : {G W : Type 0} → (List ℕ → Option G) → List ℕ → Windows W → Error → Type 0
IsCommitmentFault find label windows error =
    ((error ≡ GenericError DrawsExhausted)
    × (group_hash find label (text_of for_randomness windows.WINDOW_SIZE 0) ≡ None))
    ⊎ IsWindowsFault find label (text_of for_commitments windows.WINDOW_SIZE) windows.NUM_WINDOWS error
