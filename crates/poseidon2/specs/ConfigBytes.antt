-- The canonical bytes of what the permutation is set up with: its fields in turn.
use Rattle.std.specs.Prelude.{◌≡◌, ℕ, List, Ok}
use Rattle.ark_base.specs.Reading.{Reading}
use Rattle.ark_base.specs.Spelling.{IsWord, word, word_at, IsCounted, counted_list, counted_list_at, BothFit, both, both_at, made_at}
use Rattle.ark_base.specs.Digits.{bytes_of_number, IsBelow, below_at, bytes_for}
use Rattle.ark_sponge.specs.ConfigBytes.{tested_at}
use Rattle.poseidon2.specs.Permutation.{Poseidon2Parameters, lawful_poseidon2}

-- The fields, with elements of some kind: exponent, first rows, partial constants, last rows and diagonal.
abbrev pub Poseidon2Fields : Type 0 → Type 0
Poseidon2Fields V = ℕ × (List (List V) × (List V × (List (List V) × List V)))

-- the fields of parameters
abbrev pub poseidon2_fields_of : Poseidon2Parameters → Poseidon2Fields ℕ
poseidon2_fields_of c = (c.alpha, (c.first, (c.partial, (c.last, c.diagonal))))

-- the parameters that fields are
abbrev pub of_poseidon2_fields : Poseidon2Fields ℕ → Poseidon2Parameters
of_poseidon2_fields (alpha, (first, (partial, (last, diagonal)))) = record {
  alpha = alpha;
  first = first;
  partial = partial;
  last = last;
  diagonal = diagonal;
}

-- the exponent is a word, rows are counted lists of counted lists, and constants are counted lists
abbrev pub HavePoseidon2Spelling : {V : Type 0} → (V → Type 0) → Poseidon2Fields V → Type 0
HavePoseidon2Spelling has_spelling =
    let Row = IsCounted has_spelling in
    BothFit IsWord (BothFit (IsCounted Row) (BothFit Row (BothFit (IsCounted Row) Row)))

-- the bytes of the fields, one behind the other
abbrev pub poseidon2_fields_spelling : {V : Type 0} → (V → List ℕ) → Poseidon2Fields V → List ℕ
poseidon2_fields_spelling spelling =
    let row = counted_list spelling in
    both word (both (counted_list row) (both row (both (counted_list row) row)))

-- the fields that bytes begin with
abbrev pub poseidon2_fields_at : {V : Type 0} → (List ℕ → Reading V) → List ℕ → Reading (Poseidon2Fields V)
poseidon2_fields_at reads =
    let row = counted_list_at reads in
    both_at word_at (both_at (counted_list_at row) (both_at row (both_at (counted_list_at row) row)))

-- ---- parameters: their fields, of a shape that is lawful

-- the numbers of parameters fit their bytes, and `new` takes them
abbrev pub IsPoseidon2Spelled : ℕ → Poseidon2Parameters → Type 0
IsPoseidon2Spelled p c = HavePoseidon2Spelling (IsBelow p) (poseidon2_fields_of c) × (lawful_poseidon2 c ≡ Ok c)

-- the fields of parameters in turn, as bytes
abbrev pub poseidon2_spelling : ℕ → Poseidon2Parameters → List ℕ
poseidon2_spelling bits c = poseidon2_fields_spelling (bytes_of_number (bytes_for bits)) (poseidon2_fields_of c)

-- how parameters are read whose elements are read so; after the last field a shape that `new` refuses is `InvalidData`
abbrev pub poseidon2_by : (List ℕ → Reading ℕ) → List ℕ → Reading Poseidon2Parameters
poseidon2_by reads = tested_at lawful_poseidon2 (made_at of_poseidon2_fields (poseidon2_fields_at reads))

-- how canonical bytes are read
abbrev pub poseidon2_at : ℕ → ℕ → List ℕ → Reading Poseidon2Parameters
poseidon2_at p bits = poseidon2_by (below_at p (bytes_for bits))
