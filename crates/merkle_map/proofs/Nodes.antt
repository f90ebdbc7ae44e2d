-- Different nodes have different bytes.
use Rattle.std.proofs.Common.{◌≡◌, ℕ, List, [], ◌∷◌, ◌++◌, length, take, drop, refl, ap, sym, ◌∙◌}
use Rattle.std.proofs.Math.Seq.{take-append_seam, drop-append_seam}
use Rattle.merkle_map.specs.Map.{Node, Nothing, Leaf, Pair}
use Rattle.merkle_map.specs.Sha256.{node_bytes, HasPartsOf32}

tails : (a b : ℕ) (xs ys : List ℕ) → a ∷ xs ≡ b ∷ ys → xs ≡ ys
tails a b xs ys e = ap (λ (l : List ℕ). elim l [ [] ↦ xs | x ∷ rest ↦ rest ]) e

-- two lists, the first ones of one length, are the same where they are so together
first_same : (a b x y : List ℕ) → length a ≡ length x → a ++ b ≡ x ++ y → a ≡ x
first_same a b x y long e = sym (take-append_seam a b) ∙ ap (take (length a)) e ∙ ap (λ (n : ℕ). take n (x ++ y)) long
    ∙ take-append_seam x y

second_same : (a b x y : List ℕ) → length a ≡ length x → a ++ b ≡ x ++ y → b ≡ y
second_same a b x y long e = sym (drop-append_seam a b) ∙ ap (drop (length a)) e ∙ ap (λ (n : ℕ). drop n (x ++ y)) long
    ∙ drop-append_seam x y

pub same_node : (a b : Node) → HasPartsOf32 a → HasPartsOf32 b → node_bytes a ≡ node_bytes b → a ≡ b
same_node Nothing Nothing p q e = refl
same_node Nothing (Leaf y) p q e = absurd cc
same_node Nothing (Pair y z) p q e = absurd cc
same_node (Leaf x) Nothing p q e = absurd cc
same_node (Leaf x) (Leaf y) p q e =
    let rest = tails 0 0 (x.key ++ x.value) (y.key ++ y.value) e in
    let long = p.0 ∙ sym q.0 in
    ap (λ (k : List ℕ). Leaf (record { key = k; value = x.value })) (first_same x.key x.value y.key y.value long rest)
    ∙ ap (λ (v : List ℕ). Leaf (record { key = y.key; value = v })) (second_same x.key x.value y.key y.value long rest)
same_node (Leaf x) (Pair y z) p q e = absurd cc
same_node (Pair w x) Nothing p q e = absurd cc
same_node (Pair w x) (Leaf y) p q e = absurd cc
same_node (Pair w x) (Pair y z) p q e =
    let rest = tails 1 1 (w ++ x) (y ++ z) e in
    let long = p.0 ∙ sym q.0 in
    ap (λ (l : List ℕ). Pair l x) (first_same w x y z long rest) ∙ ap (λ (r : List ℕ). Pair y r) (second_same w x y z
    long rest)
