-- A state as an image and a window.
use Rattle.std.proofs.Common.{◌≡◌, ℕ, suc, ◌+◌, ◌-◌, ◌%◌, ◌≤◌, List, [], ◌∷◌, ◌++◌, length, get_or, set, take, drop, map, refl, sym, ◌∙◌, ap, ap₂, arith}
use lib.Seq.{paste}
use Rattle.std.proofs.Math.Nat.{add-mod-mod}
use Rattle.std.proofs.lemmas.List.{append-nil, take_all, drop_all, map-append, drop-map}
use Rattle.ark_groups.specs.Field.{dot_product}
use Rattle.ark_sponge.specs.Permutation.{matrix_product}
use Rattle.ark_sponge.specs.Recurrence.{on_tail, turned, short_round}

last-set : {X : Type 0} (b : X) (rest : List X) (y : X)
    → set (rest ++ drop (length rest) (b ∷ rest)) (length rest) y ≡ rest ++ y ∷ []
last-set b [] y = refl
last-set b (c ∷ rest) y = ap (λ t. c ∷ t) (last-set c rest y)

-- what moving up and two writes leave
pub shifted : {X : Type 0} (state : List X) (first last : X) (k e : ℕ) → 2 ≤ length state → k ≡ length state - 2
    → e ≡ length state - 1
    → set (set (paste state 1 (drop 2 state) k) e last) 0 first ≡ first ∷ (drop 2 state ++ last ∷ [])
shifted [] first last k e two is_k is_e = absurd (omega (arith, two))
shifted (a ∷ []) first last k e two is_k is_e = absurd (omega (arith, two))
shifted (a ∷ b ∷ rest) first last k e two is_k is_e =
    let is_n : k ≡ length rest = omega (arith, is_k) in
    let is_m : e ≡ suc (length rest) = omega (arith, is_e) in
    let one_more : 1 + length rest ≡ suc (length rest) = omega arith in
    let pasted : paste (a ∷ b ∷ rest) 1 rest (length rest) ≡ a ∷ (rest ++ drop (length rest) (b ∷ rest)) =
    ap₂ (λ t n. (a ∷ t) ++ drop n (a ∷ b ∷ rest)) (take_all (length rest) rest (omega arith)) one_more in
    ap₂ (λ n m. set (set (paste (a ∷ b ∷ rest) 1 rest n) m last) 0 first) is_n is_m
    ∙ ap (λ t. set (set t (suc (length rest)) last) 0 first) pasted
    ∙ ap (λ t. first ∷ t) (last-set b rest last)

module _ {F : Type 0} (f : F → ℕ) (p : ℕ) where
  pub tail_changed : (rows : List (List ℕ)) (state out new : List F) (x : F) → 1 ≤ length state
      → length out ≡ length state → x ≡ get_or state 0 x
      → map f new ≡ matrix_product p rows (map f (take (length state - 1) (drop 1 state)))
      → map f (take 1 (set out 0 x) ++ (new ++ drop (length (set out 0 x) - 1) (drop 1 (set out 0 x))))
      ≡ on_tail (matrix_product p rows) (map f state)
  tail_changed rows [] out new x some same is_x is = absurd (omega (arith, some))
  tail_changed rows (y ∷ state) [] new x some same is_x is = absurd (omega (arith, same))
  tail_changed rows (y ∷ state) (o ∷ out) new x some same is_x is =
      let none : drop (length (x ∷ out) - 1) out ≡ [] = drop_all (length (x ∷ out) - 1) out (omega arith) in
      let whole : take (length (y ∷ state) - 1) state ≡ state = take_all (length (y ∷ state) - 1) state (omega arith) in
      ap (λ t. map f (x ∷ (new ++ t))) none ∙ ap (λ t. map f (x ∷ t)) (append-nil new)
      ∙ ap₂ (λ n ts. n ∷ ts) (ap f is_x) (is ∙ ap (λ t. matrix_product p rows (map f t)) whole)

module _ {F : Type 0} (f : F → ℕ) (p : ℕ) (sbox : ℕ → ℕ) (output feedback : List F) (k : ℕ) where
  pub turned-of : (state : List F) (x sum image first product last : F) → 2 ≤ length state
      → x ≡ get_or state 0 x → f sum ≡ (f x + k) % p → f image ≡ sbox (f sum)
      → f first ≡ dot_product (map f output) (map f (set state 0 image)) % p
      → f product ≡ dot_product (map f feedback)
      (map f (take (length (set state 0 image) - 1) (drop 1 (set state 0 image)))) % p
      → f last ≡ (f image + f product) % p
      → map f (first ∷ (drop 2 (set state 0 image) ++ last ∷ []))
      ≡ short_round p sbox (map f output) (map f feedback) (map f state) k
  turned-of [] x sum image first product last two is_x is_sum is_image is_first is_product is_last =
      absurd (omega (arith, two))
  turned-of (y ∷ rest) x sum image first product last two is_x is_sum is_image is_first is_product is_last =
      let numbers = map f rest in
      let whole : take (length (image ∷ rest) - 1) rest ≡ rest = take_all (length (image ∷ rest) - 1) rest (omega arith)
      in
      let value : f image ≡ sbox ((f y + k) % p) = is_image ∙ ap sbox (is_sum ∙ ap (λ z. (f z + k) % p) is_x) in
      let end : f last ≡ (f image + dot_product (map f feedback) numbers) % p =
      is_last
      ∙ ap (λ n. (f image + n) % p) (is_product ∙ ap (λ t. dot_product (map f feedback) (map f t) % p) whole)
      ∙ add-mod-mod (f image) (dot_product (map f feedback) numbers) p in
      ap₂ (λ n ts. n ∷ ts) is_first
      (map-append f (drop 1 rest) (last ∷ []) ∙ ap₂ (λ ts n. ts ++ n ∷ []) (sym (drop-map f 1 rest)) end)
      ∙ ap (λ n. turned p (map f output) (map f feedback) n numbers) value
