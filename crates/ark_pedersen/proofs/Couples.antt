-- Two couples of inputs with one hash give a relation among the elements.
use Rattle.std.proofs.Common.{◌≡◌, ℕ, ◌*◌, ◌/◌, ◌^◌, ◌<◌, ◌≤◌, List, ◌++◌, length, refl, sym, ◌∙◌, arith, append_assoc}
use Rattle.std.proofs.lemmas.Bool.{leb-true}
use Rattle.ark_base.specs.Reading.{IsBytes}
use Rattle.ark_groups.specs.Group.{Group, IsCommutativeGroup, times}
use Rattle.ark_pedersen.specs.declared.window.Window.{Ghosts as Windows}
use Rattle.ark_pedersen.specs.Pedersen.{window_bits, windows_hash, of_halves}
use Rattle.ark_pedersen.specs.Binding.{CouplesGiveRelations, CoupleRelationsAreSome, IsCouple, couple_bytes, couple_coefficients}
use Rattle.ark_pedersen.proofs.ByteLists.{IsBytes-append, IsBytes-zeros}
use Rattle.ark_pedersen.proofs.Halves.{length-full_halves, of_halves-full}
use Rattle.ark_pedersen.proofs.Relations.{fronts, backs, is_relation, same_inputs}

module _ {W : Type 0} (windows : Windows W) (couple : List ℕ × List ℕ) (is : IsCouple windows couple) where
  pub half_within : length couple.0 ≤ window_bits windows / 2 / 8
  half_within = omega (arith, is.within)

  pub couple_within : 8 * length (couple_bytes windows couple) ≤ window_bits windows
  couple_within = omega (
    arith,
    length-full_halves (window_bits windows / 2) couple.0 couple.1 is.as_long half_within,
  )

pub give_relations : {G W : Type 0} {g : Group G} (laws : IsCommutativeGroup g) (r : ℕ) → 0 < r
    → ((x : G) → times g r x ≡ g.identity) → (windows : Windows W) → CouplesGiveRelations g r windows
give_relations {G} {W} {g} laws r some order windows elements left right long is_left is_right same =
    is_relation laws r some order windows (couple_bytes windows left) (couple_bytes windows right)
    (couple_coefficients r windows left right) (couple_within windows left is_left)
    (couple_within windows right is_right) refl elements long
    (sym (whole left is_left) ∙ same ∙ whole right is_right)
  where
    whole : (couple : List ℕ × List ℕ) → IsCouple windows couple
        → of_halves windows (windows_hash g windows elements) couple.0 couple.1
        ≡ windows_hash g windows elements (couple_bytes windows couple)
    whole couple is =
        of_halves-full windows (windows_hash g windows elements) couple.0 couple.1 is.as_long
        (half_within windows couple is)

pub are_some : {G W : Type 0} {g : Group G} (laws : IsCommutativeGroup g) (r : ℕ) → 0 < r
    → ((x : G) → times g r x ≡ g.identity) → (windows : Windows W) → CoupleRelationsAreSome r windows
are_some laws r some order windows fits left right fits0 fits1 fits2 fits3 is_left is_right long none =
    let half = window_bits windows / 2 in
    let one : couple_bytes windows left ≡ couple_bytes windows right =
    same_inputs laws r some order windows (couple_bytes windows left) (couple_bytes windows right)
    (couple_coefficients r windows left right) (couple_within windows left is_left)
    (couple_within windows right is_right) refl (leb-true (2 ^ windows.WINDOW_SIZE) r fits)
    (are_bytes left fits0 fits1) (are_bytes right fits2 fits3) none
    (length-full_halves half left.0 left.1 is_left.as_long (half_within windows left is_left)
    ∙ sym (length-full_halves half right.0 right.1 is_right.as_long (half_within windows right is_right))) in
    let whole = sym (append_assoc left.0 left.1 _) ∙ one ∙ append_assoc right.0 right.1 _ in (
      fronts left.0 right.0 _ _ long whole,
      fronts left.1 right.1 _ _ (sym is_left.as_long ∙ long ∙ is_right.as_long)
          (backs left.0 right.0 _ _ long whole),
    )
  where
    are_bytes : (couple : List ℕ × List ℕ) → IsBytes couple.0 → IsBytes couple.1 → IsBytes (couple_bytes windows couple)
    are_bytes couple first second =
        IsBytes-append (couple.0 ++ couple.1) _ (IsBytes-append couple.0 couple.1 first second) (IsBytes-zeros _)
