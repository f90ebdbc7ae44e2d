-- The rows over a list, and over a part of it.
use Rattle.std.proofs.Common.{zero, suc, ◌≡◌, ℕ, ◌+◌, ◌*◌, ◌%◌, ◌<◌, ◌^◌, List, [], ◌∷◌, ◌++◌, length, take, drop, get_or, refl, Ok, ap, sym, ◌∙◌, arith}
use Rattle.std.proofs.lemmas.List.{get_or-drop, get_or-take}
use Rattle.ark_paths.specs.Pair.{Digest}
use Rattle.ark_trees.specs.Rfc6962.{node_hash, node_of}
use Rattle.merkle_log.specs.Frontier.{complete_pairs}
use Rattle.merkle_log.specs.Stored.{row_pairs, IsStored}
use Rattle.merkle_log.specs.Walk.{index_up}
use Rattle.merkle_log.proofs.Peaks.{length-complete_pairs}
use Rattle.merkle_log.proofs.Tests.{mul-twice, power-rises}
use Rattle.log_tiles.specs.Audit.{rows_over}

-- ---- pairs of a part

take-none : {A : Type 0} (n : ℕ) → take {A = A} n [] ≡ []
take-none zero = refl
take-none (suc n) = refl

drop-none : {A : Type 0} (n : ℕ) → drop {A = A} n [] ≡ []
drop-none zero = refl
drop-none (suc n) = refl

take-pairs : {A : Type 0} (join : A → A → A) (c d : ℕ) (xs : List A) → d ≡ c + c → complete_pairs join (take d xs)
    ≡ take c (complete_pairs join xs)
take-pairs join zero zero xs e = refl
take-pairs join (suc c) (suc (suc d)) [] e = refl
take-pairs join (suc c) (suc (suc d)) (a ∷ []) e = ap (complete_pairs join) (ap (λ l. a ∷ l) (take-none (suc d)))
take-pairs join (suc c) (suc (suc d)) (a ∷ b ∷ rest) e =
    ap (λ l. join a b ∷ l) (take-pairs join c d rest (omega arith))
take-pairs join c d xs e = absurd (omega arith)

drop-pairs : {A : Type 0} (join : A → A → A) (c d : ℕ) (xs : List A) → d ≡ c + c → complete_pairs join (drop d xs)
    ≡ drop c (complete_pairs join xs)
drop-pairs join zero zero xs e = refl
drop-pairs join (suc c) (suc (suc d)) [] e = refl
drop-pairs join (suc c) (suc (suc d)) (a ∷ []) e = ap (complete_pairs join) (drop-none (suc d))
drop-pairs join (suc c) (suc (suc d)) (a ∷ b ∷ rest) e = drop-pairs join c d rest (omega arith)
drop-pairs join c d xs e = absurd (omega arith)

-- one pair more
pub pairs-more : {A : Type 0} (join : A → A → A) (none : A) (p d : ℕ) (xs : List A) → d ≡ p + p → suc d < length xs
    → complete_pairs join (take (suc (suc d)) xs)
    ≡ complete_pairs join (take d xs) ++ (join (get_or xs d none) (get_or xs (suc d) none) ∷ [])
pairs-more join none zero zero (a ∷ b ∷ xs) e inside = refl
pairs-more join none (suc p) (suc (suc d)) (a ∷ b ∷ xs) e inside =
    ap (λ l. join a b ∷ l) (pairs-more join none p d xs (omega arith) (omega arith))
pairs-more join none p d xs e inside = absurd (omega arith)

-- the leaves below a place, as the program counts them
pub one-shifted : (level : ℕ) → level < 8 → 1 * 2 ^ level % 18446744073709551616 ≡ 2 ^ level
one-shifted level low = omega (arith, power-rises level 7 (omega arith))

-- ---- rows of a part

pub length-rows_over : (leaves : List Digest) (level : ℕ) → length (rows_over leaves level)
    ≡ index_up level (length leaves)
length-rows_over leaves zero = refl
length-rows_over leaves (suc level) = length-rows_over (complete_pairs node_hash leaves) level
    ∙ ap (index_up level) (length-complete_pairs node_hash leaves)

pub rows_over-sum : (leaves : List Digest) (level more : ℕ) → rows_over leaves (level + more)
    ≡ rows_over (rows_over leaves level) more
rows_over-sum leaves zero more = let e : 0 + more ≡ more = omega arith in ap (rows_over leaves) e
rows_over-sum leaves (suc level) more =
    let e : suc level + more ≡ suc (level + more) = omega arith in
    ap (rows_over leaves) e ∙ rows_over-sum (complete_pairs node_hash leaves) level more

take-rows : (leaves : List Digest) (c level : ℕ) → rows_over (take (c * 2 ^ level) leaves) level
    ≡ take c (rows_over leaves level)
take-rows leaves c zero = let e : c * 2 ^ 0 ≡ c = omega arith in ap (λ n. take n leaves) e
take-rows leaves c (suc level) =
    ap (λ l. rows_over l level)
    (take-pairs node_hash (c * 2 ^ level) (c * 2 ^ suc level) leaves (mul-twice level c))
    ∙ take-rows (complete_pairs node_hash leaves) c level

drop-rows : (leaves : List Digest) (c level : ℕ) → rows_over (drop (c * 2 ^ level) leaves) level
    ≡ drop c (rows_over leaves level)
drop-rows leaves c zero = let e : c * 2 ^ 0 ≡ c = omega arith in ap (λ n. drop n leaves) e
drop-rows leaves c (suc level) =
    ap (λ l. rows_over l level)
    (drop-pairs node_hash (c * 2 ^ level) (c * 2 ^ suc level) leaves (mul-twice level c))
    ∙ drop-rows (complete_pairs node_hash leaves) c level

-- A digest of a row is the root of as many leaves as stand below it.
pub root-of-part : (leaves : List Digest) (level place first count : ℕ) → first ≡ place * 2 ^ level → count ≡ 2 ^ level
    → get_or (rows_over (take count (drop first leaves)) level) 0 [] ≡ get_or (rows_over leaves level) place []
root-of-part leaves level place first count from all =
    let one : count ≡ 1 * 2 ^ level = omega arith in
    let zero_at : place + 0 ≡ place = omega arith in
    ap (λ n. get_or (rows_over (take n (drop first leaves)) level) 0 []) one
    ∙ ap (λ l. get_or l 0 []) (take-rows (drop first leaves) 1 level)
    ∙ get_or-take 1 (rows_over (drop first leaves) level) 0 [] (omega arith)
    ∙ ap (λ n. get_or (rows_over (drop n leaves) level) 0 []) from
    ∙ ap (λ l. get_or l 0 []) (drop-rows leaves place level)
    ∙ get_or-drop place (rows_over leaves level) 0 []
    ∙ ap (λ n. get_or (rows_over leaves level) n []) zero_at

-- ---- the rows as those of a log

pairs-ok : (row : List Digest) → row_pairs node_of row ≡ Ok (complete_pairs node_hash row)
pairs-ok [] = refl
pairs-ok (a ∷ []) = refl
pairs-ok (a ∷ b ∷ row) = rw (pairs-ok row) refl

over-next : (leaves : List Digest) (level : ℕ) → rows_over leaves (suc level)
    ≡ complete_pairs node_hash (rows_over leaves level)
over-next leaves zero = refl
over-next leaves (suc level) = over-next (complete_pairs node_hash leaves) level

pub rows-stored : (leaves : List Digest) → IsStored node_of (rows_over leaves)
rows-stored leaves = record {
  pairs = λ level. pairs-ok (rows_over leaves level) ∙ ap Ok (sym (over-next leaves level));
}
