-- Powers modulo a number, by products.
use Rattle.std.proofs.Common.{◌≡◌, ℕ, suc, ◌+◌, ◌*◌, ◌%◌, ◌^◌, ◌<◌, refl, sym, ap, ap₂, ◌∙◌, arith}
use Rattle.std.proofs.Math.Nat.{mod-eq_of_lt, pow-zero, pow-suc, one-mul, mul-one}
use Rattle.std.proofs.lemmas.Nat.{mul-mod, mul-mod_first, mul-mod_second, mul-pow, pow-add, pow-mod}

-- the number itself, and the product of two powers
pub first_power : (x p : ℕ) → x < p → x ≡ x ^ 1 % p
first_power x p below = sym (mod-eq_of_lt below) ∙ ap (λ n. n % p) one
  where
    one : x ≡ x ^ 1
    one = sym (pow-suc x 0 ∙ ap (λ n. n * x) (pow-zero x) ∙ one-mul x)

pub powers_multiplied : (x i j p y z w : ℕ) → y ≡ x ^ i % p → z ≡ x ^ j % p → w ≡ (y * z) % p → w ≡ x ^ (i + j) % p
powers_multiplied x i j p y z w is_y is_z is_w =
    is_w ∙ ap₂ (λ (m n : ℕ). (m * n) % p) is_y is_z ∙ sym (mul-mod (x ^ i) (x ^ j) p) ∙ ap (λ n. n % p)
    (sym (pow-add x i j))

-- ---- a step of the power by binary digits: what is done, times the base to the power of the rest

-- the base is squared
squared : (base next rest p : ℕ) → next ≡ (base * base) % p → next ^ rest % p ≡ base ^ (rest + rest) % p
squared base next rest p is_next =
    ap (λ n. n ^ rest % p) is_next ∙ pow-mod (base * base) rest p ∙ ap (λ n. n % p) (twice base rest)
  where
    twice : (b k : ℕ) → (b * b) ^ k ≡ b ^ (k + k)
    twice b k = mul-pow b b k ∙ sym (pow-add b k k)

pub even_step : (done base next rest half p whole : ℕ) → half + half ≡ rest → next ≡ (base * base) % p
    → (done * base ^ rest) % p ≡ whole → (done * next ^ half) % p ≡ whole
even_step done base next rest half p whole parts is_next so_far =
    sym (mul-mod_second done (next ^ half) p) ∙ ap (λ n. (done * n) % p) (squared base next half p is_next)
    ∙ mul-mod_second done (base ^ (half + half)) p ∙ ap (λ n. (done * base ^ n) % p) parts ∙ so_far

pub odd_step : (done more base next rest half p whole : ℕ) → half + half + 1 ≡ rest → next ≡ (base * base) % p
    → more ≡ (done * base) % p → (done * base ^ rest) % p ≡ whole → (more * next ^ half) % p ≡ whole
odd_step done more base next rest half p whole parts is_next is_more so_far =
    even_step more base next (half + half) half p whole refl is_next
    (ap (λ n. (n * base ^ (half + half)) % p) is_more ∙ mul-mod_first (done * base) (base ^ (half + half)) p
    ∙ ap (λ n. n % p) (ring done base (base ^ (half + half))) ∙ ap (λ n. (done * n) % p) one ∙ so_far)
  where
    ring : (d b q : ℕ) → d * b * q ≡ d * (q * b)
    ring d b q = grind arith

    one : base ^ (half + half) * base ≡ base ^ rest
    one = sym (pow-suc base (half + half)) ∙ ap (λ n. base ^ n) next_is
      where
        next_is : suc (half + half) ≡ rest
        next_is = omega (arith, parts)

-- nothing is left
pub whole_power : (done base p whole : ℕ) → done < p → (done * base ^ 0) % p ≡ whole → done ≡ whole
whole_power done base p whole below so_far =
    sym (ap (λ n. (done * n) % p) (pow-zero base) ∙ ap (λ n. n % p) (mul-one done) ∙ mod-eq_of_lt below) ∙ so_far

-- nothing is done
pub no_power : (x k p : ℕ) → (1 * x ^ k) % p ≡ x ^ k % p
no_power x k p = ap (λ n. n % p) (one-mul (x ^ k))
