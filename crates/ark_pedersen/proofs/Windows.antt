-- Pedersen hashes over generators that are elements with their doublings.
use Rattle.std.proofs.Common.{◌≡◌, ℕ, ◌*◌, Bool, true, cond, eqb, ◌&&◌, List, [], ◌∷◌, length, map, Ok, Err, refl, ap, ◌∙◌, nat_lt}
use Rattle.std.specs.List.{list_all}
use Rattle.std.proofs.lemmas.Bool.{eq-eqb}
use Rattle.std.proofs.lemmas.List.{length-map}
use Rattle.ark_base.specs.Outcome.{Outcome}
use Rattle.ark_base.specs.declared.error.Error.TheVariants.{IncorrectInputLength, GenericError}
use Rattle.ark_base.specs.declared.error.Refusal.TheVariants.{ParameterShape}
use Rattle.ark_groups.specs.Group.{Group, IsCommutativeGroup}
use Rattle.ark_pedersen.specs.BitHashes.{bits_hash, bit_windows_hash}
use Rattle.ark_pedersen.specs.Pedersen.{bits_of_bytes, pedersen_sum, doublings, windows_sum, window_bits, concatenation, has_shape}
use Rattle.ark_pedersen.specs.Pedersen.{AreGeneratorsOf, pedersen_hash, windows_hash}
use Rattle.ark_pedersen.specs.declared.window.Window.{Ghosts as Windows}
use Rattle.ark_pedersen.proofs.Iterates.{length-iterates}
use Rattle.ark_pedersen.proofs.PedersenSums.{pedersen_sum-windows}

module _ {G : Type 0} (make : G → List G) (size : ℕ) (long : (x : G) → length (make x) ≡ size) where
  lists_are_long : (elements : List G) → list_all (λ list. eqb (length list) size) (map make elements) ≡ true
  lists_are_long [] = refl
  lists_are_long (x ∷ elements) =
      ap (λ (b : Bool). b && list_all (λ list. eqb (length list) size) (map make elements)) (eq-eqb _ _ (long x))
      ∙ lists_are_long elements

  lists_have_shape : (count : ℕ) (elements : List G) → length elements ≡ count
      → has_shape count size (map make elements) ≡ true
  lists_have_shape count elements are =
      ap (λ (b : Bool). b && list_all (λ list. eqb (length list) size) (map make elements))
      (eq-eqb _ _ (length-map elements make ∙ are)) ∙ lists_are_long elements

  -- what is made of lists of elements has their shape, whatever else is refused
  pub tested-lists : {A : Type 0} (count : ℕ) (elements : List G) (lists : List (List G)) (over : Bool)
      (refused : Outcome A) (hash : List (List G) → A) (whole : A) → length elements ≡ count
      → lists ≡ map make elements → hash (map make elements) ≡ whole
      → cond over refused (cond (has_shape count size lists) (Ok (hash lists)) (Err (GenericError ParameterShape)))
      ≡ cond over refused (Ok whole)
  tested-lists {A} count elements lists over refused hash whole are made is =
      let shapeless : Outcome A = Err (GenericError ParameterShape) in
      ap (λ (l : List (List G)). let o : Outcome A = Ok (hash l) in
      cond over refused (cond (has_shape count size l) o shapeless)) made
      ∙ ap (λ (b : Bool). let o : Outcome A = Ok (hash (map make elements)) in cond over refused (cond b o shapeless))
      (lists_have_shape count elements are)
      ∙ ap (λ (x : A). let o : Outcome A = Ok x in cond over refused o) is

module _ {G W : Type 0} (g : Group G) (windows : Windows W) (elements : List G) (lists : List (List G)) where
  -- the sum at bits is that over the windows
  tested-windows : (bits : List Bool) (over : Bool) (refused : Outcome G) → IsCommutativeGroup g
      → AreGeneratorsOf g windows elements lists
      → cond over refused (cond (has_shape windows.NUM_WINDOWS windows.WINDOW_SIZE lists)
      (Ok (pedersen_sum g (concatenation lists) bits)) (Err (GenericError ParameterShape)))
      ≡ cond over refused (Ok (windows_sum g windows.WINDOW_SIZE elements bits))
  tested-windows bits over refused laws are =
      let size = windows.WINDOW_SIZE in
      tested-lists (doublings g size) size (length-iterates (λ y. g.plus y y) size) windows.NUM_WINDOWS elements lists
      over refused (λ l. pedersen_sum g (concatenation l) bits) (windows_sum g size elements bits) are.0 are.1
      (pedersen_sum-windows laws size elements bits)

  -- the hash is the sum over the windows
  pub pedersen_hash-windows : (input : List ℕ) → IsCommutativeGroup g → AreGeneratorsOf g windows elements lists
      → pedersen_hash g windows lists input ≡ windows_hash g windows elements input
  pedersen_hash-windows input =
      tested-windows (bits_of_bytes input) (nat_lt (window_bits windows) (8 * length input))
      (Err (IncorrectInputLength (length input)))

  -- and so is that of bits
  pub bits_hash-windows : (bits : List Bool) → IsCommutativeGroup g → AreGeneratorsOf g windows elements lists
      → bits_hash g windows lists bits ≡ bit_windows_hash g windows elements bits
  bits_hash-windows bits =
      tested-windows bits (nat_lt (window_bits windows) (length bits))
      (Err (IncorrectInputLength (length bits)))
