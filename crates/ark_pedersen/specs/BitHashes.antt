-- Pedersen hashes of bits.
use Rattle.std.specs.Prelude.{Bool, List, length, nat_lt, Ok, Err, if◌then◌else◌}
use Rattle.ark_base.specs.Outcome.{Outcome}
use Rattle.ark_base.specs.declared.error.Error.TheVariants.{IncorrectInputLength, GenericError}
use Rattle.ark_base.specs.declared.error.Refusal.TheVariants.{ParameterShape}
use Rattle.ark_groups.specs.Group.{Group}
use Rattle.ark_pedersen.specs.Pedersen.{window_bits, concatenation, has_shape, pedersen_sum, windows_sum}
use Rattle.ark_pedersen.specs.declared.window.Window.{Ghosts as Windows}

-- The sum of the elements at the set bits: refused where there are more bits than the windows have, and where the lists
-- have not the windows' shape.
abbrev pub bits_hash : {G W : Type 0} → Group G → Windows W → List (List G) → List Bool → Outcome G
bits_hash g windows lists bits =
    if nat_lt (window_bits windows) (length bits) then Err (IncorrectInputLength (length bits))
    else if has_shape windows.NUM_WINDOWS windows.WINDOW_SIZE lists then
    Ok (pedersen_sum g (concatenation lists) bits)
    else Err (GenericError ParameterShape)

-- the same where the lists are those of elements: the sum over the windows of the window's number times its element
abbrev pub bit_windows_hash : {G W : Type 0} → Group G → Windows W → List G → List Bool → Outcome G
bit_windows_hash g windows elements bits =
    if nat_lt (window_bits windows) (length bits) then Err (IncorrectInputLength (length bits))
    else Ok (windows_sum g windows.WINDOW_SIZE elements bits)
