-- The hash by a table.
use Rattle.std.proofs.Common.{◌≡◌, ℕ, ◌+◌, ◌/◌, ◌%◌, ◌<◌, ◌≤◌, List, [], ◌∷◌, length, take, drop, set, map, get_or, All, Ok, sym, ap, ◌∙◌, arith, eq-eqb}
use Rattle.std.proofs.lemmas.List.Elements.{All-cons}
use Rattle.ark_base.specs.Outcome.{Outcome, ◌>>=◌}
use Rattle.ark_sponge.specs.Permutation.{Parameters, permutation}
use Rattle.ark_sponge.specs.Table.{IsShortOf, ShortParts, short_permutation}
use Rattle.ark_poseidon.specs.Circom.{circom_outcome}
use Rattle.circom.specs.declared.elements.ByteOrder.{ByteOrder}
use Rattle.circom.specs.declared.elements.ByteOrder.TheVariants.{LittleEndian}
use Rattle.circom.specs.Elements.{element_bytes, element_in}
use Rattle.circom.specs.Hash.{TableValue, elements_hashed, hash_outcome, modulus, node_outcome, power, table_outcome}

take_first : (after : List ℕ) (first : ℕ) → 1 ≤ length after → first ≡ get_or after 0 first → take 1 after ≡ first ∷ []
take_first [] first some is = absurd (omega (arith, some))
take_first (x ∷ after) first some is = ap (λ n. n ∷ []) (sym is)

-- the first number behind the permutation of a table is the hash at its parameters
pub hash_is : (p : ℕ) (sbox : ℕ → ℕ → ℕ) (c : Parameters) (t : ShortParts) (xs after : List ℕ) (first : ℕ) → 0 < p
    → IsShortOf p c t → c.capacity ≡ 1 → length xs + 1 ≡ length t.mds → All (λ x. x < p) xs
    → after ≡ short_permutation p sbox t (0 ∷ xs) → 1 ≤ length after → first ≡ get_or after 0 first
    → circom_outcome p sbox c xs ≡ Ok (first ∷ [])
hash_is p sbox c t xs after first some short one long below is_after has is_first =
    let count : length xs ≡ c.rate = omega (arith, long, short.wide, one) in
    let wide : length (0 ∷ xs) ≡ c.rate + c.capacity = omega (arith, count, one) in
    let whole : after ≡ permutation p sbox c (0 ∷ xs) =
    is_after ∙ short.same sbox (0 ∷ xs) wide (All-cons (λ x. x < p) 0 xs some below) in
    rw (eq-eqb c.capacity 1 one, eq-eqb (length xs) c.rate count) (ap Ok (ap (take 1) (sym whole)
    ∙ take_first after first has is_first))

-- a state whose first element is 0, by its numbers
pub begun : {F : Type 0} (f : F → ℕ) (state : List F) (zero : F) → 1 ≤ length state → f zero ≡ 0
    → map f (set state 0 zero) ≡ 0 ∷ map f (drop 1 state)
begun f [] zero some is = absurd (omega (arith, some))
begun f (x ∷ state) zero some is = ap (λ n. n ∷ map f state) is

-- the number of the first element
pub read_first : {F : Type 0} (f : F → ℕ) (state : List F) (x : F) → 1 ≤ length state → x ≡ get_or state 0 x
    → f x ≡ get_or (map f state) 0 (f x)
read_first f [] x some is = absurd (omega (arith, some))
read_first f (y ∷ state) x some is = ap f is

-- the first number of a state that is permuted
pub first_read : {F : Type 0} (f : F → ℕ) (state : List F) (x : F) (after : List ℕ) → 1 ≤ length state
    → x ≡ get_or state 0 x → map f state ≡ after → f x ≡ get_or after 0 0
first_read f [] x after some is same = absurd (omega (arith, some))
first_read f (y ∷ state) x after some is same = ap f is ∙ ap (λ l. get_or l 0 0) same

-- the hash of two elements that bytes are, by what a table runs by
pub by_table_is : (t : TableValue) (left right bytes : List ℕ) (x y d : ℕ) → element_in modulus LittleEndian left ≡ Ok x
    → element_in modulus LittleEndian right ≡ Ok y → 2 ≡ t.inputs
    → d ≡ get_or (short_permutation modulus power t.parts (0 ∷ x ∷ y ∷ [])) 0 0
    → bytes ≡ element_bytes LittleEndian d → table_outcome t left right ≡ Ok bytes
by_table_is t left right bytes x y d is_left is_right two is_digest is_bytes =
    rw (is_left, is_right, eq-eqb 2 t.inputs two, ← is_digest) (ap Ok (sym is_bytes))

-- the hash of two elements that bytes are
pub node_is : (c : Parameters) (left right bytes : List ℕ) (x y d : ℕ) → element_in modulus LittleEndian left ≡ Ok x
    → element_in modulus LittleEndian right ≡ Ok y → circom_outcome modulus power c (x ∷ y ∷ []) ≡ Ok (d ∷ [])
    → bytes ≡ element_bytes LittleEndian d → node_outcome c left right ≡ Ok bytes
node_is c left right bytes x y d is_left is_right is_hash is_bytes =
    rw (is_left, is_right, is_hash) (ap Ok (sym is_bytes))

-- the hash of elements that bytes are, as many as the rate says
pub hashed_is : (order : ByteOrder) (c : Parameters) (bytes : List ℕ) (outcome : Outcome (List ℕ))
    → length bytes % 32 ≡ 0 → length bytes / 32 ≡ c.rate
    → elements_hashed modulus power c order (length bytes / 32) bytes ≡ outcome
    → hash_outcome order c bytes ≡ (outcome >>= λ digest. Ok (element_bytes order (get_or digest 0 0)))
hashed_is order c bytes outcome whole count is =
    rw (eq-eqb (length bytes % 32) 0 whole, eq-eqb (length bytes / 32) c.rate count)
    (ap (λ r. r >>= λ digest. Ok (element_bytes order (get_or digest 0 0))) is)
