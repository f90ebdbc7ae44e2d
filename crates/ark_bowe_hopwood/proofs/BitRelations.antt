-- Two lists of bits, or two couples of nodes, with one hash give a relation among the elements of the segments.
use Rattle.std.proofs.Common.{◌≡◌, ℕ, ◌+◌, ◌*◌, ◌^◌, ◌<◌, ◌≤◌, Bool, true, false, cond, List, ◌++◌, length, Ok, Err, sym, ap, ap₂, ◌∙◌, arith, length-append}
use Rattle.std.specs.Prelude.{nat_lt}
use Rattle.ark_base.specs.Outcome.{Outcome}
use Rattle.ark_base.specs.Laws.Steps.{done_injective}
use Rattle.ark_base.specs.declared.error.Error.TheVariants.{IncorrectInputLength, GenericError}
use Rattle.ark_base.specs.declared.error.Refusal.TheVariants.{LengthOverflow, ParameterShape}
use Rattle.ark_groups.specs.Bits.{bits_of_number, number_of_bits}
use Rattle.ark_groups.specs.Group.{Group, IsCommutativeGroup}
use Rattle.ark_pedersen.specs.Pedersen.{concatenation, has_shape}
use Rattle.ark_pedersen.specs.declared.window.Window.{Ghosts as Windows}
use Rattle.ark_pedersen.proofs.BitSums.{length-bits_of_number}
use Rattle.ark_pedersen.proofs.Relations.{number_of_bits-bits_of_number, fronts, backs}
use Rattle.ark_bowe_hopwood.specs.BitHashes.{bits_hash}
use Rattle.ark_bowe_hopwood.specs.BoweHopwood.{AreSegmentsOf, chunks_of, digits_sum, segments_sum}
use Rattle.ark_bowe_hopwood.specs.Binding.{BitHashesGiveRelations, NodesGiveRelations, NodeRelationsAreSome, Children, bits_in}
use Rattle.ark_bowe_hopwood.specs.Nodes.{node_bits, node_hash}
use Rattle.ark_bowe_hopwood.proofs.Relations.{relation, bits_are_some}
use Rattle.ark_bowe_hopwood.proofs.Segments.{digits_sum-segments}

-- ---- outcomes that are no refusal

behind_one : (test : Bool) (o refused : Outcome ℕ) (h : ℕ) → ((k : ℕ) → refused ≡ Ok k → ⊥) → cond test o refused ≡ Ok h
    → o ≡ Ok h
behind_one true o refused h never is = is
behind_one false o refused h never is = absurd (never h is)

behind_two : (long shaped : Bool) (too_long shapeless : Outcome ℕ) (value h : ℕ) → ((k : ℕ) → too_long ≡ Ok k → ⊥)
    → ((k : ℕ) → shapeless ≡ Ok k → ⊥)
    → (let o : Outcome ℕ = cond long too_long (cond shaped (Ok value) shapeless) in o ≡ Ok h) → value ≡ h
behind_two true shaped too_long shapeless value h never other is = absurd (never h is)
behind_two false true too_long shapeless value h never other is = done_injective value h is
behind_two false false too_long shapeless value h never other is = absurd (other h is)

-- ---- relations

module _ {G W : Type 0} {g : Group G} (laws : IsCommutativeGroup g) (coordinate : G → ℕ) (windows : Windows W)
    (told : (a b : G) → coordinate a ≡ coordinate b → a ≡ b) where
  -- the value of a hash is the coordinate of the sum over the segments
  sum_of_hash : (elements : List G) (lists : List (List G)) (bits : List Bool) (hash : ℕ)
      → AreSegmentsOf g windows elements lists → bits_hash g coordinate windows lists bits ≡ Ok hash
      → coordinate (segments_sum g windows.WINDOW_SIZE elements (chunks_of bits)) ≡ hash
  sum_of_hash elements lists bits hash are is =
      let size = windows.WINDOW_SIZE in
      ap coordinate (sym (ap (λ (l : List (List G)). digits_sum g (concatenation l) (chunks_of bits)) are.1
      ∙ digits_sum-segments laws size elements (chunks_of bits)))
      ∙ behind_two (nat_lt (3 * (size * windows.NUM_WINDOWS)) (length bits)) (has_shape windows.NUM_WINDOWS size lists)
      (Err (IncorrectInputLength (length bits))) (Err (GenericError ParameterShape))
      (coordinate (digits_sum g (concatenation lists) (chunks_of bits))) hash (λ k e. absurd (cc)) (λ k e. absurd (cc))
      is

  pub bits_give : BitHashesGiveRelations g coordinate windows
  bits_give elements lists left right hash are one other =
      relation laws windows elements left right are.0 (told _ _ (sum_of_hash elements lists left hash are one
      ∙ sym (sum_of_hash elements lists right hash are other)))

  pub nodes_give : NodesGiveRelations g coordinate windows
  nodes_give elements lists a b hash are one other =
      bits_give elements lists (bits_in a) (bits_in b) hash are (within a one) (within b other)
    where
      within : (c : Children) → node_hash g coordinate windows lists c.level c.left c.right ≡ Ok hash
          → bits_hash g coordinate windows lists (bits_in c) ≡ Ok hash
      within c is =
          behind_one (nat_lt c.level 64) (bits_hash g coordinate windows lists (bits_in c))
          (Err (GenericError LengthOverflow)) hash (λ k e. absurd (cc)) is

-- ---- nodes that differ

-- a number is that of its bits
number_in : (k m n : ℕ) → m < 2 ^ k → n < 2 ^ k → bits_of_number k m ≡ bits_of_number k n → m ≡ n
number_in k m n first second same =
    sym (number_of_bits-bits_of_number k m first) ∙ ap number_of_bits same ∙ number_of_bits-bits_of_number k n second

pub nodes_are_some : {W : Type 0} (order : ℕ) (windows : Windows W) → 0 < order → NodeRelationsAreSome order windows
unfolding node_bits
nodes_are_some order windows some fitting room a b in_a in_b none =
    let levels = as_long 6 a.level b.level in
    let lefts = as_long 255 a.left b.left in
    let same = bits_are_some order windows some fitting (bits_in a) (bits_in b) (long a ∙ sym (long b))
    (within (long a)) none in
    let behind = backs (bits_of_number 6 a.level) (bits_of_number 6 b.level) _ _ levels same in (
      number_in 6 a.level b.level in_a.level in_b.level
          (fronts (bits_of_number 6 a.level) (bits_of_number 6 b.level) _ _ levels same),
      number_in 255 a.left b.left in_a.left in_b.left
          (fronts (bits_of_number 255 a.left) (bits_of_number 255 b.left) _ _ lefts behind),
      number_in 255 a.right b.right in_a.right in_b.right
          (backs (bits_of_number 255 a.left) (bits_of_number 255 b.left) _ _ lefts behind),
    )
  where
    as_long : (k m n : ℕ) → length (bits_of_number k m) ≡ length (bits_of_number k n)
    as_long k m n = length-bits_of_number k m ∙ sym (length-bits_of_number k n)

    long : (c : Children) → length (bits_in c) ≡ 516
    long c =
        length-append (bits_of_number 6 c.level) (bits_of_number 255 c.left ++ bits_of_number 255 c.right)
        ∙ ap₂ (λ (m n : ℕ). m + n) (length-bits_of_number 6 c.level)
        (length-append (bits_of_number 255 c.left) (bits_of_number 255 c.right)
        ∙ ap₂ (λ (m n : ℕ). m + n) (length-bits_of_number 255 c.left) (length-bits_of_number 255 c.right))

    within : length (bits_in a) ≡ 516 → length (bits_in a) ≤ 3 * (windows.WINDOW_SIZE * windows.NUM_WINDOWS)
    within e = omega (arith, e, room)
