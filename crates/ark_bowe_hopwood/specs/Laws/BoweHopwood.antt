-- The laws of Bowe-Hopwood hashes: no refusal is `OutOfMemory`.
use Rattle.std.specs.Prelude.{ℕ, ◌*◌, List, length, nat_lt}
use Rattle.rand_core.specs.Stream.{Stream}
use Rattle.ark_base.specs.Outcome.{IsDecided}
use Rattle.ark_base.specs.Laws.Outcomes.{tested-decided}
use Rattle.ark_groups.specs.Group.{Group}
use Rattle.ark_pedersen.specs.Pedersen.{has_shape, of_halves}
use Rattle.ark_pedersen.specs.Laws.Pedersen.{of_halves-decided}
use Rattle.ark_pedersen.specs.declared.window.Window.{Ghosts as Windows}
use Rattle.ark_bowe_hopwood.specs.BoweHopwood.{is_fitting, segments_outcome, bowe_hopwood_hash}

module _ {G W : Type 0} (g : Group G) (coordinate : G → ℕ) (windows : Windows W) (lists : List (List G)) where
  pub bowe_hopwood-decided : (input : List ℕ) → IsDecided (bowe_hopwood_hash g coordinate windows lists input)
  bowe_hopwood-decided input =
      tested-decided (nat_lt (3 * (windows.WINDOW_SIZE * windows.NUM_WINDOWS)) (8 * length input)) _ _ (λ same. cc)
      (tested-decided (has_shape windows.NUM_WINDOWS windows.WINDOW_SIZE lists) _ _ tt (λ same. cc))

  pub bowe_hopwood_halves-decided : (left right : List ℕ)
      → IsDecided (of_halves windows (bowe_hopwood_hash g coordinate windows lists) left right)
  bowe_hopwood_halves-decided left right =
      of_halves-decided windows (bowe_hopwood_hash g coordinate windows lists) bowe_hopwood-decided left right

pub segments-decided : {G W : Type 0} (order : ℕ) (draw : Stream → G × Stream) (windows : Windows W) (stream : Stream)
    → IsDecided (segments_outcome order draw windows stream)
segments-decided order draw windows stream =
    tested-decided (is_fitting order windows.WINDOW_SIZE) _ _ tt (λ same. cc)
