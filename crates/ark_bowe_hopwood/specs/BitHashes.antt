-- Bowe-Hopwood hashes of bits.
use Rattle.std.specs.Prelude.{ℕ, ◌*◌, Bool, List, length, nat_lt, Ok, Err, if◌then◌else◌}
use Rattle.ark_base.specs.Outcome.{Outcome}
use Rattle.ark_base.specs.declared.error.Error.TheVariants.{IncorrectInputLength, GenericError}
use Rattle.ark_base.specs.declared.error.Refusal.TheVariants.{ParameterShape}
use Rattle.ark_groups.specs.Group.{Group}
use Rattle.ark_pedersen.specs.Pedersen.{concatenation, has_shape}
use Rattle.ark_pedersen.specs.declared.window.Window.{Ghosts as Windows}
use Rattle.ark_bowe_hopwood.specs.BoweHopwood.{chunks_of, digits_sum}

-- The coordinate of the sum of the elements, each as often as the digit of its chunk of the bits says: refused where
-- there are more than three bits for each element, and where the lists have not the windows' shape.
abbrev pub bits_hash : {G W : Type 0} → Group G → (G → ℕ) → Windows W → List (List G) → List Bool → Outcome ℕ
bits_hash g coordinate windows lists bits =
    if nat_lt (3 * (windows.WINDOW_SIZE * windows.NUM_WINDOWS)) (length bits) then
    Err (IncorrectInputLength (length bits))
    else if has_shape windows.NUM_WINDOWS windows.WINDOW_SIZE lists then
    Ok (coordinate (digits_sum g (concatenation lists) (chunks_of bits)))
    else Err (GenericError ParameterShape)
