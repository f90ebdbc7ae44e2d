-- Hashes over generators that are elements with their sixteenfolds.
use Rattle.std.proofs.Common.{◌≡◌, ℕ, zero, suc, ◌*◌, List, [], ◌∷◌, length, map, take, drop, Err, refl, sym, ap, ◌∙◌, nat_lt, pos, ◌*ℤ◌}
use Rattle.ark_base.specs.declared.error.Error.TheVariants.{IncorrectInputLength}
use Rattle.ark_groups.specs.Group.{Group, IsCommutativeGroup, times}
use Rattle.ark_pedersen.specs.Pedersen.{bits_of_bytes, concatenation}
use Rattle.ark_pedersen.specs.declared.window.Window.{Ghosts as Windows}
use Rattle.ark_pedersen.specs.Pedersen.{iterates}
use Rattle.ark_pedersen.proofs.Iterates.{length-iterates}
use Rattle.ark_pedersen.proofs.PedersenSums.{take-take}
use Rattle.ark_pedersen.proofs.Windows.{tested-lists}
use Rattle.ark_bowe_hopwood.specs.BoweHopwood.{Chunk, chunks_of, digit, segment_scalar, signed_times, digits_sum, sixteenfolds, segments_sum}
use Rattle.ark_bowe_hopwood.specs.BoweHopwood.{AreSegmentsOf, bowe_hopwood_hash, segments_hash}
use Rattle.ark_bowe_hopwood.proofs.Chunks.{digits_sum-append}
use Rattle.ark_bowe_hopwood.proofs.SignedTimes.{signed_times-add, signed_times-times}

module _ {G : Type 0} {g : Group G} (laws : IsCommutativeGroup g) where
  -- over an element with its sixteenfolds, the sum is the element as often as the scalar says
  digits_sum-sixteenfolds : (count : ℕ) (x : G) (chunks : List Chunk) → digits_sum g (sixteenfolds g count x) chunks
      ≡ signed_times g (segment_scalar (take count chunks)) x
  unfolding digits_sum iterates segment_scalar
  digits_sum-sixteenfolds zero x chunks = refl
  digits_sum-sixteenfolds (suc count) x [] = refl
  digits_sum-sixteenfolds (suc count) x (chunk ∷ chunks) =
      let rest = segment_scalar (take count chunks) in
      ap (g.plus (signed_times g (digit chunk) x)) (digits_sum-sixteenfolds count (times g 16 x) chunks
      ∙ signed_times-times laws rest 16 x)
      ∙ sym (signed_times-add laws (digit chunk) (pos 16 *ℤ rest) x)

  -- over elements with their sixteenfolds, it is that of the segments
  pub digits_sum-segments : (size : ℕ) (elements : List G) (chunks : List Chunk) → digits_sum g
      (concatenation (map (sixteenfolds g size) elements)) chunks ≡ segments_sum g size elements chunks
  unfolding digits_sum segments_sum
  digits_sum-segments size [] chunks = refl
  digits_sum-segments size (x ∷ elements) chunks =
      let here = sixteenfolds g size x in
      let others = concatenation (map (sixteenfolds g size) elements) in
      digits_sum-append laws here others chunks
      ∙ ap (λ (n : ℕ). g.plus (digits_sum g here (take n chunks)) (digits_sum g others (drop n chunks)))
      (length-iterates (times g 16) size x)
      ∙ ap (λ (s : G). g.plus s (digits_sum g others (drop size chunks))) (digits_sum-sixteenfolds size x
      (take size chunks) ∙ ap (λ (t : List Chunk). signed_times g (segment_scalar t) x) (take-take size chunks))
      ∙ ap (g.plus (signed_times g (segment_scalar (take size chunks)) x)) (digits_sum-segments size elements
      (drop size chunks))

  -- the hash is the coordinate of the sum over the segments
  pub bowe_hopwood_hash-segments : {W : Type 0} (coordinate : G → ℕ) (windows : Windows W) (elements : List G)
      (lists : List (List G)) (input : List ℕ)
      → AreSegmentsOf g windows elements lists → bowe_hopwood_hash g coordinate windows lists input ≡ segments_hash g
      coordinate windows elements input
  bowe_hopwood_hash-segments coordinate windows elements lists input are =
      let size = windows.WINDOW_SIZE in
      let chunks = chunks_of (bits_of_bytes input) in
      tested-lists (sixteenfolds g size) size (length-iterates (times g 16) size) windows.NUM_WINDOWS elements lists
      (nat_lt (3 * (size * windows.NUM_WINDOWS)) (8 * length input)) (Err (IncorrectInputLength (length input)))
      (λ l. coordinate (digits_sum g (concatenation l) chunks)) (coordinate (segments_sum g size elements chunks))
      are.0 are.1 (ap coordinate (digits_sum-segments size elements chunks))
