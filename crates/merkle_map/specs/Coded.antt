-- A code of trees: their nodes, each before what stands below it.
use Rattle.std.specs.Prelude.{◌≡◌, ℕ, Bool, true, false, List, [], ◌∷◌, ◌++◌, refl}
use Rattle.std.specs.Coded.{Coded, code_by, coded_ℕ, coded_bool, coded_list, coded×}
use Rattle.std.proofs.Common.{ap, ◌∙◌, append_assoc}
use Rattle.merkle_map.specs.Tree.{Shape, Empty, One, Fork, Hidden}

-- a kind, and up to two lists of numbers
abbrev pub Token : Type 0
Token = (Bool × Bool) × (List ℕ × List ℕ)

-- the nodes of a tree, each before what stands below it
abbrev pub tokens : Shape → List Token
tokens Empty = ((false, false), ([], [])) ∷ []
tokens (One entry) = ((false, true), (entry.key, entry.value)) ∷ []
tokens (Fork left right) = ((true, false), ([], [])) ∷ (tokens left ++ tokens right)
tokens (Hidden digest) = ((true, true), (digest, [])) ∷ []

-- a node before trees that were read
abbrev pub before : Bool → Bool → List ℕ → List ℕ → List Shape → List Shape
before false false a b trees = Empty ∷ trees
before false true a b trees = One (record { key = a; value = b }) ∷ trees
before true true a b trees = Hidden a ∷ trees
before true false a b [] = []
before true false a b (left ∷ []) = []
before true false a b (left ∷ right ∷ trees) = Fork left right ∷ trees

-- the trees that nodes are
abbrev pub trees_of : List Token → List Shape
trees_of [] = []
trees_of (token ∷ rest) = before token.0.0 token.0.1 token.1.0 token.1.1 (trees_of rest)

-- the first tree
abbrev pub first_of_trees : List Shape → Shape
first_of_trees [] = Empty
first_of_trees (tree ∷ rest) = tree

pub trees_of-tokens : (tree : Shape) (rest : List Token) → trees_of (tokens tree ++ rest) ≡ tree ∷ trees_of rest
trees_of-tokens Empty rest = refl
trees_of-tokens (One entry) rest = refl
trees_of-tokens (Hidden digest) rest = refl
trees_of-tokens (Fork left right) rest =
    ap (λ (ts : List Token). before true false [] [] (trees_of ts)) (append_assoc (tokens left) (tokens right) rest)
    ∙ ap (before true false [] []) (trees_of-tokens left (tokens right ++ rest))
    ∙ ap (λ (trees : List Shape). before true false [] [] (left ∷ trees)) (trees_of-tokens right rest)

-- trees by the list of their nodes
abbrev pub shape_code : Coded Shape
shape_code =
    code_by (List Token) (coded_list (coded× (coded× coded_bool coded_bool) (coded× (coded_list coded_ℕ)
    (coded_list coded_ℕ))))
    (λ tree. tokens tree ++ []) (λ ts. first_of_trees (trees_of ts)) (λ tree. ap first_of_trees
    (trees_of-tokens tree []))
