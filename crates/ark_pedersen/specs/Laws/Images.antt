-- An equality of values as one of their canonical bytes.
use Rattle.std.proofs.Common.{◌≡◌, ℕ, ◌<◌, Bool, List, sym, ap, ◌∙◌}
use Rattle.std.specs.Bool.{Decides}
use Rattle.ark_base.specs.Digits.{bytes_of_number, bytes_for}
use Rattle.ark_base.specs.Reading.{Reading, IsCanonical}
use Rattle.ark_base.specs.Laws.Parts.{spelling-alone}
use Rattle.ark_groups.specs.Field.{HasBits}
use Rattle.ark_groups.specs.Laws.Fp.{number-alone}

-- of elements of a field, whose bytes are those of their numbers
pub number_bytes-Decides : (p bits : ℕ) → HasBits p bits → (m n : ℕ) → m < p → n < p → (x y : List ℕ)
    → x ≡ bytes_of_number (bytes_for bits) m → y ≡ bytes_of_number (bytes_for bits) n
    → (equal : Bool) → Decides equal (m ≡ n) → Decides equal (x ≡ y)
number_bytes-Decides p bits has m n below_m below_n x y of_m of_n equal decides = (
  λ t. of_m ∙ ap (bytes_of_number (bytes_for bits)) (decides.0 t) ∙ sym of_n,
  λ e. decides.1 (number-alone p bits has m n below_m below_n (sym of_m ∙ e ∙ of_n)),
)

-- of values that are known by their canonical values
pub bytes-Decides : {G V : Type 0} (view : G → V) (has_spelling : V → Type 0) (spelling : V → List ℕ)
    (reads : List ℕ → Reading V) → IsCanonical has_spelling spelling reads → ((x : G) → has_spelling (view x))
    → ((x y : G) → view x ≡ view y → x ≡ y)
    → (x y : G) (equal : Bool) → Decides equal (x ≡ y) → Decides equal (spelling (view x) ≡ spelling (view y))
bytes-Decides view has_spelling spelling reads laws is_spelled same_view x y equal decides = (
  λ t. ap (λ z. spelling (view z)) (decides.0 t),
  λ e. decides.1 (same_view x y
      (spelling-alone has_spelling spelling reads laws (view x) (view y) (is_spelled x) (is_spelled y) e)),
)
