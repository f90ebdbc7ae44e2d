-- A leaf and the nodes beside its way make the root.
use Rattle.std.proofs.Common.{Bool, true, false, ◌≡◌, ℕ, zero, suc, ◌+◌, ◌*◌, ◌/◌, ◌^◌, List, [], ◌∷◌, ◌++◌, length, get_or, Ok, Err, arith, refl, ap, sym, ◌∙◌, length-append}
use Rattle.std.proofs.lemmas.Nat.{shr-shr}
use Rattle.ark_base.specs.Outcome.{Outcome, ◌>>=◌}
use Rattle.ark_base.specs.declared.error.Error.{Error}
use Rattle.ark_base.specs.Laws.Steps.{bind_ok, done_injective}
use Rattle.ark_paths.specs.Index.{bit_at, neighbour}
use Rattle.ark_paths.specs.Pair.{Digest, hash_in_order}
use Rattle.incremental_trees.specs.Nodes.{LevelHash, node_at, nodes_beside, rising_root}
use Rattle.incremental_trees.proofs.Halves.{half-up}
use Rattle.incremental_trees.proofs.Besides.{IsBeside, is_beside}

-- What stands behind the other nodes is hashed last.
pub rising-push : (hash : LevelHash) (level place : ℕ) (nodes : List Digest) (last node : Digest)
    → rising_root hash level place (nodes ++ (last ∷ [])) node
    ≡ (rising_root hash level place nodes node
    >>= λ top. hash_in_order (hash (level + length nodes)) (bit_at (place / 2 ^ length nodes) 0) top last)
rising-push hash level place [] last node =
    let one : place ≡ place / 2 ^ 0 = omega arith in
    let same : level ≡ level + 0 = omega arith in
    ends (hash_in_order (hash level) (bit_at place 0) node last) (suc level) (place / 2)
    ∙ ap (λ n. hash_in_order (hash n) (bit_at place 0) node last) same
    ∙ ap (λ n. hash_in_order (hash (level + 0)) (bit_at n 0) node last) one
  where
    ends : (o : Outcome Digest) (up half : ℕ) → (o >>= λ above. rising_root hash up half [] above) ≡ o
    ends (Ok d) up half = refl
    ends (Err e) up half = refl
rising-push hash level place (first ∷ nodes) last node =
    go (hash_in_order (hash level) (bit_at place 0) node first)
    (λ d. rising-push hash (suc level) (place / 2) nodes last d)
  where
    go : (o : Outcome Digest)
        → ((d : Digest) → rising_root hash (suc level) (place / 2) (nodes ++ (last ∷ [])) d
        ≡ (rising_root hash (suc level) (place / 2) nodes d
        >>= λ top. hash_in_order (hash (suc level + length nodes)) (bit_at (place / 2 / 2 ^ length nodes) 0) top last))
        → (o >>= λ above. rising_root hash (suc level) (place / 2) (nodes ++ (last ∷ [])) above)
        ≡ ((o >>= λ above. rising_root hash (suc level) (place / 2) nodes above)
        >>= λ top. hash_in_order (hash (level + length (first ∷ nodes))) (bit_at (place / 2 ^ length (first ∷ nodes)) 0)
        top last)
    go (Err e) rest = refl
    go (Ok d) rest =
        let count : suc level + length nodes ≡ level + suc (length nodes) = omega arith in
        let sum : 1 + length nodes ≡ suc (length nodes) = omega arith in
        let half : place / 2 / 2 ^ length nodes ≡ place / 2 ^ suc (length nodes) = shr-shr place 1 (length nodes)
        ∙ ap (λ n. place / 2 ^ n) sum in
        rest d
        ∙ ap (λ n. rising_root hash (suc level) (place / 2) nodes d
        >>= λ top. hash_in_order (hash n) (bit_at (place / 2 / 2 ^ length nodes) 0) top last) count
        ∙ ap (λ n. rising_root hash (suc level) (place / 2) nodes d
        >>= λ top. hash_in_order (hash (level + suc (length nodes))) (bit_at n 0) top last) half

-- A node and the one beside it make the one above.
node-up : (hash : LevelHash) (empty : Digest) (leaves : List Digest) (level place : ℕ) (odd : Bool) (node : Digest)
    → IsBeside odd place → node_at hash empty leaves level (neighbour place) ≡ Ok node
    → (node_at hash empty leaves level place >>= λ top. hash_in_order (hash level) odd top node)
    ≡ node_at hash empty leaves (suc level) (place / 2)
node-up hash empty leaves level place true node b beside =
    let left : node_at hash empty leaves level (2 * (place / 2)) ≡ Ok node =
    ap (node_at hash empty leaves level) (sym b.beside_is) ∙ beside in
    ap (λ n. node_at hash empty leaves level n >>= λ top. hash level node top) b.place_is ∙ rw left refl
node-up hash empty leaves level place false node b beside =
    let right : node_at hash empty leaves level (2 * (place / 2) + 1) ≡ Ok node =
    ap (node_at hash empty leaves level) (sym b.beside_is) ∙ beside in
    ap (λ n. node_at hash empty leaves level n >>= λ top. hash level top node) b.place_is ∙ rw right refl

pub length-beside : (hash : LevelHash) (empty : Digest) (leaves : List Digest) (depth index : ℕ) (nodes : List Digest)
    → nodes_beside hash empty leaves depth index ≡ Ok nodes → length nodes ≡ depth
length-beside hash empty leaves zero index nodes is = let none : [] ≡ nodes = done_injective {E = Error} [] nodes is in
    ap length (sym none)
length-beside hash empty leaves (suc depth) index nodes is =
    let low = bind_ok (nodes_beside hash empty leaves depth index) (λ below.
    node_at hash empty leaves depth (neighbour (index / 2 ^ depth)) >>= λ node. Ok (below ++ (node ∷ []))) nodes is in
    let top = bind_ok (node_at hash empty leaves depth (neighbour (index / 2 ^ depth)))
    (λ node. Ok (low.0 ++ (node ∷ []))) nodes low.2 in
    let same = done_injective {E = Error} (low.0 ++ (top.0 ∷ [])) nodes top.2 in
    ap length (sym same) ∙ length-append low.0 (top.0 ∷ [])
    ∙ ap (λ n. n + 1) (length-beside hash empty leaves depth index low.0 low.1) ∙ omega arith

-- The leaf of an index rises to the node above it.
pub rising-own : (hash : LevelHash) (empty : Digest) (leaves : List Digest) (depth index : ℕ) (nodes : List Digest)
    → nodes_beside hash empty leaves depth index ≡ Ok nodes
    → rising_root hash 0 index nodes (get_or leaves index empty) ≡ node_at hash empty leaves depth (index / 2 ^ depth)
rising-own hash empty leaves zero index nodes is =
    let none : [] ≡ nodes = done_injective {E = Error} [] nodes is in
    let one : index / 2 ^ 0 ≡ index = omega arith in
    ap (λ l. rising_root hash 0 index l (get_or leaves index empty)) (sym none)
    ∙ ap (λ n. Ok (get_or leaves n empty)) (sym one)
rising-own hash empty leaves (suc depth) index nodes is =
    let low = bind_ok (nodes_beside hash empty leaves depth index) (λ below.
    node_at hash empty leaves depth (neighbour (index / 2 ^ depth)) >>= λ node. Ok (below ++ (node ∷ []))) nodes is in
    let top = bind_ok (node_at hash empty leaves depth (neighbour (index / 2 ^ depth)))
    (λ node. Ok (low.0 ++ (node ∷ []))) nodes low.2 in
    let same = done_injective {E = Error} (low.0 ++ (top.0 ∷ [])) nodes top.2 in
    let place = index / 2 ^ depth in
    let long : 0 + length low.0 ≡ depth = omega (arith, length-beside hash empty leaves depth index low.0 low.1) in
    let count : length low.0 ≡ depth = omega arith in
    ap (λ l. rising_root hash 0 index l (get_or leaves index empty)) (sym same)
    ∙ rising-push hash 0 index low.0 top.0 (get_or leaves index empty)
    ∙ ap (λ o. o >>= λ t. hash_in_order (hash (0 + length low.0)) (bit_at (index / 2 ^ length low.0) 0) t top.0)
    (rising-own hash empty leaves depth index low.0 low.1)
    ∙ ap (λ n. node_at hash empty leaves depth place
    >>= λ t. hash_in_order (hash n) (bit_at (index / 2 ^ length low.0) 0) t top.0) long
    ∙ ap (λ n. node_at hash empty leaves depth place
    >>= λ t. hash_in_order (hash depth) (bit_at (index / 2 ^ n) 0) t top.0)
    count
    ∙ node-up hash empty leaves depth place (bit_at place 0) top.0 (is_beside place) top.1
    ∙ ap (node_at hash empty leaves (suc depth)) (sym (half-up index depth))
