-- The nodes beside a way as a path of a tree.
use Rattle.std.proofs.Common.{◌≡◌, ℕ, suc, ◌+◌, ◌/◌, ◌^◌, ◌<◌, List, [], ◌∷◌, length, reverse, Ok, Err, arith, refl, ap, sym, ◌∙◌}
use Rattle.std.proofs.lemmas.List.{length-reverse, reverse-append, reverse-reverse}
use Rattle.std.proofs.lemmas.Nat.{shr-shr}
use Rattle.ark_base.specs.Outcome.{Outcome, ◌>>=◌}
use Rattle.ark_paths.specs.Index.{bit_at}
use Rattle.ark_paths.specs.Pair.{Digest, HashPair, hash_in_order}
use Rattle.ark_paths.specs.Path.{climb, path_root}
use Rattle.incremental_trees.specs.Nodes.{level_hash, rising_root}
use Rattle.incremental_trees.specs.KeptPaths.{way_through}
use Rattle.incremental_trees.proofs.Rising.{rising-push}

pub bit-above : (index n : ℕ) → bit_at (index / 2 / 2 ^ n) 0 ≡ bit_at index (suc n)
bit-above index n =
    let one : index / 2 / 2 ^ n / 2 ^ 0 ≡ index / 2 / 2 ^ n = omega arith in
    let sum : 1 + n ≡ suc n = omega arith in
    let down : index / 2 / 2 ^ n ≡ index / 2 ^ suc n = shr-shr index 1 n ∙ ap (λ k. index / 2 ^ k) sum in
    rw (one, down) refl

-- The nodes above the lowest one rise as they are climbed.
climbed-rising : (h : HashPair) (index : ℕ) (above : List Digest) (lowest : Digest)
    → rising_root (level_hash h) 1 (index / 2) (reverse above) lowest ≡ climb h.upper index above lowest
climbed-rising h index [] lowest = refl
climbed-rising h index (first ∷ above) lowest =
    let long = length-reverse above in
    let up : 1 + length (reverse above) ≡ suc (length above) = omega (arith, long) in
    ap (λ l. rising_root (level_hash h) 1 (index / 2) l lowest) (reverse-append (first ∷ []) above)
    ∙ rising-push (level_hash h) 1 (index / 2) (reverse above) first lowest
    ∙ ap (λ o. o >>= λ t. hash_in_order (level_hash h (1 + length (reverse above)))
    (bit_at (index / 2 / 2 ^ length (reverse above)) 0) t first) (climbed-rising h index above lowest)
    ∙ ap (λ n. climb h.upper index above lowest >>= λ t. hash_in_order (level_hash h n)
    (bit_at (index / 2 / 2 ^ length (reverse above)) 0) t first) up
    ∙ ap (λ n. climb h.upper index above lowest >>= λ t. hash_in_order h.upper
    (bit_at (index / 2 / 2 ^ n) 0) t first) long
    ∙ ap (λ b. climb h.upper index above lowest >>= λ t. hash_in_order h.upper b t first)
    (bit-above index (length above))

same-steps : {A : Type 0} (o : Outcome A) (f g : A → Outcome Digest) → ((x : A) → f x ≡ g x) → (o >>= f) ≡ (o >>= g)
same-steps (Ok x) f g same = same x
same-steps (Err e) f g same = refl

-- What nodes beside a way make of a leaf is the top of the path through them.
pub way-root : (h : HashPair) (index : ℕ) (nodes : List Digest) (leaf : Digest) → 0 < length nodes
    → rising_root (level_hash h) 0 index nodes leaf ≡ path_root h (way_through index nodes) leaf
way-root h index [] leaf some = absurd (omega arith)
way-root h index (sibling ∷ rest) leaf some =
    same-steps (hash_in_order h.bottom (bit_at index 0) leaf sibling)
    (λ above. rising_root (level_hash h) 1 (index / 2) rest above) (λ above. climb h.upper index (reverse rest) above)
    (λ above. ap (λ l. rising_root (level_hash h) 1 (index / 2) l above) (sym (reverse-reverse rest))
    ∙ climbed-rising h index (reverse rest) above)
