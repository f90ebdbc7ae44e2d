-- The hash of a text with zeros behind it.
use Rattle.std.proofs.Common.{◌≡◌, ℕ, ◌*◌, ◌≤◌, Bool, true, cond, List, ◌++◌, length, replicate, Ok, Err, sym, ap, ◌∙◌}
use Rattle.std.specs.Int.{div_ceil}
use Rattle.std.proofs.lemmas.Bool.{le-ltb}
use Rattle.ark_base.specs.Outcome.{Outcome}
use Rattle.ark_base.specs.declared.error.Error.TheVariants.{IncorrectInputLength, GenericError}
use Rattle.ark_base.specs.declared.error.Refusal.TheVariants.{ParameterShape}
use Rattle.ark_base.specs.Digits.{number_of_bytes}
use Rattle.ark_base.specs.Reading.{IsBytes}
use Rattle.ark_groups.specs.Group.{Group}
use Rattle.ark_groups.specs.Bits.{bits_of_number}
use Rattle.ark_pedersen.specs.Pedersen.{bits_of_bytes, concatenation, has_shape}
use Rattle.ark_pedersen.specs.declared.window.Window.{Ghosts as Windows}
use Rattle.ark_bowe_hopwood.specs.BoweHopwood.{Chunk, chunks_of, digits_sum, bowe_hopwood_hash}
use Rattle.ark_bowe_hopwood.proofs.Words.{chunks_of-text}

module _ {G W : Type 0} (g : Group G) (coordinate : G → ℕ) (windows : Windows W) (lists : List (List G)) where
  -- it is the coordinate of the sum over the chunks of the text's number
  pub hash_of_text : (text whole : List ℕ) (zeros chunks : ℕ) (sum : G) → IsBytes text
      → whole ≡ text ++ replicate zeros 0
      → 8 * length whole ≤ 3 * (windows.WINDOW_SIZE * windows.NUM_WINDOWS) → has_shape windows.NUM_WINDOWS
      windows.WINDOW_SIZE lists ≡ true
      → chunks ≡ div_ceil (8 * length whole) 3 → sum ≡ digits_sum g (concatenation lists)
      (chunks_of (bits_of_number (3 * chunks) (number_of_bytes text)))
      → Ok (coordinate sum) ≡ bowe_hopwood_hash g coordinate windows lists whole
  hash_of_text text whole zeros chunks sum fits is short shape count sums =
      let most : ℕ = 3 * (windows.WINDOW_SIZE * windows.NUM_WINDOWS) in
      let hashed : Outcome ℕ = Ok (coordinate (digits_sum g (concatenation lists) (chunks_of (bits_of_bytes whole)))) in
      let shapeless : Outcome ℕ = Err (GenericError ParameterShape) in
      let too_long : Outcome ℕ = Err (IncorrectInputLength (length whole)) in
      let shaped = has_shape windows.NUM_WINDOWS windows.WINDOW_SIZE lists in
      let chunks_are : chunks_of (bits_of_bytes whole)
      ≡ chunks_of (bits_of_number (3 * chunks) (number_of_bytes text)) =
      ap (λ (t : List ℕ). chunks_of (bits_of_bytes t)) is ∙ chunks_of-text text zeros fits
      ∙ ap (λ (t : List ℕ). chunks_of (bits_of_number (3 * div_ceil (8 * length t) 3) (number_of_bytes text))) (sym is)
      ∙ ap (λ (n : ℕ). chunks_of (bits_of_number (3 * n) (number_of_bytes text))) (sym count) in
      sym (ap (λ (b : Bool). cond b too_long (cond shaped hashed shapeless)) (le-ltb _ _ short)
      ∙ ap (λ (b : Bool). cond b hashed shapeless) shape
      ∙ ap (λ (cs : List Chunk). let o : Outcome ℕ = Ok (coordinate (digits_sum g (concatenation lists) cs)) in
      o) chunks_are
      ∙ ap (λ (x : G). let o : Outcome ℕ = Ok (coordinate x) in o) (sym sums))
