-- Leaves that are cut off for a tree.
use Rattle.std.proofs.Common.{◌≡◌, ℕ, suc, List, [], ◌∷◌, length, take, drop, nat_lt, Bool, true, false, if◌then◌else◌, Option, Some, None, IfOk, refl, sym, ap, subst, ◌∙◌}
use Rattle.std.specs.Option.{option_map}
use Rattle.ark_paths.specs.Index.{IsTreeSize, is_tree_size}
use Rattle.ark_paths.proofs.ReceivedProofs.{size-decided}
use Rattle.paxidore_calls.specs.Answer.{tree_leaves_in}
use Rattle.paxidore_calls.specs.Cut.{parts_by}

-- as many parts as lengths
pub parts-count : (bytes lengths : List ℕ) (parts : List (List ℕ)) → parts_by bytes lengths ≡ Some parts
    → length parts ≡ length lengths
parts-count bytes [] parts is = by_rest (nat_lt 0 (length bytes)) is
  where
    by_rest : (left : Bool) → (if left then None else Some []) ≡ Some parts → length parts ≡ 0
    by_rest true is = absurd cc
    by_rest false is = let same : [] ≡ parts = cc in ap length (sym same)
parts-count bytes (len ∷ lengths) parts is = by_rest (nat_lt (length bytes) len)
    (parts_by (drop len bytes) lengths) (parts-count (drop len bytes) lengths) is
  where
    by_rest : (short : Bool) (rest : Option (List (List ℕ)))
        → ((more : List (List ℕ)) → rest ≡ Some more → length more ≡ length lengths)
        → (if short then None else option_map (λ more. take len bytes ∷ more) rest) ≡ Some parts
        → length parts ≡ suc (length lengths)
    by_rest true rest counts is = absurd cc
    by_rest false None counts is = absurd cc
    by_rest false (Some more) counts is =
        let same : take len bytes ∷ more ≡ parts = cc in ap length (sym same) ∙ ap suc (counts more refl)

-- There are as many as lengths, and a tree has so many.
pub leaves-fit : (leaves lengths : List ℕ) → IfOk (tree_leaves_in leaves lengths) (λ xs. (length xs ≡ length lengths)
    × IsTreeSize (length xs))
leaves-fit leaves lengths = by_size (is_tree_size (length lengths)) refl (parts_by leaves lengths) refl
  where
    by_size : (sized : Bool) → is_tree_size (length lengths) ≡ sized → (parts : Option (List (List ℕ)))
        → parts_by leaves lengths ≡ parts
        → IfOk (tree_leaves_in leaves lengths) (λ xs. (length xs ≡ length lengths) × IsTreeSize (length xs))
    by_size false is parts cut = rw is tt
    by_size true is None cut = rw (is, cut) tt
    by_size true is (Some xs) cut =
        let count : length xs ≡ length lengths = parts-count leaves lengths xs cut in
        rw (is, cut) (count, subst IsTreeSize (sym count) (size-decided (length lengths) is))
