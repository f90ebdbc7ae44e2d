-- What memory has after a write.
use Rattle.std.proofs.Common.{◌≡◌, ℕ, ◌+◌, ◌<◌, ◌≤◌, List, [], ◌++◌, length, take, drop, get_or, set, arith, ap, sym, ◌∙◌, length-append}
use Rattle.std.proofs.lemmas.List.{append-nil, get_or-set_same, drop-drop, length-drop}
use Rattle.std.proofs.Math.ListN.{drop_of_length-le}
use Rattle.std.proofs.Math.Seq.{drop-append_seam, drop-append-add, take-append_seam}
use Rattle.ark_base.specs.Digits.{number_of_bytes}
use Rattle.kept_map.specs.KeptMap.{kept_digest, left_at, right_at}
use borrow.Rule.Slice.PartMut.{put_mid}

-- an entry's two halves, written one after the other
pub halves : (key zeros value : List ℕ) → length key ≡ 32 → length zeros ≡ 32 → length value ≡ 32
    → put_mid 32 32 (key ++ zeros) value ≡ key ++ value
halves key zeros value k z v =
    let front : take 32 (key ++ zeros) ≡ key = ap (λ n. take n (key ++ zeros)) (sym k) ∙ take-append_seam key zeros in
    let long : length (drop 32 (key ++ zeros)) ≤ 32 = omega (
      arith,
      length-drop 32 (key ++ zeros),
      length-append key
          zeros,
      k,
      z,
    ) in
    let back = drop_of_length-le (drop 32 (key ++ zeros)) long in
    ap (λ l. l ++ (value ++ drop 32 (drop 32 (key ++ zeros)))) front
    ∙ ap (λ l. key ++ (value ++ l)) back ∙ ap (λ l. key ++ l) (append-nil value)

-- a digest that is written over that of a fork
module _ (forks : List (List ℕ)) (place : ℕ) (digest : List ℕ) (long : length digest
    ≡ 32) (inside : place < length forks)
  where
    abbrev rest : List ℕ
    rest = drop 32 (get_or forks place [])

    at : get_or (set forks place (digest ++ rest)) place [] ≡ digest ++ rest
    at = get_or-set_same forks place (digest ++ rest) [] inside

    pub digest-written : kept_digest (set forks place (digest ++ rest)) place ≡ digest
    digest-written = ap (take 32) at ∙ ap (λ n. take n (digest ++ rest)) (sym long) ∙ take-append_seam digest rest

    behind : drop 32 (digest ++ rest) ≡ rest
    behind = ap (λ n. drop n (digest ++ rest)) (sym long) ∙ drop-append_seam digest rest

    pub numbers-written : (left_at (set forks place (digest ++ rest)) place ≡ left_at forks place)
        × (right_at (set forks place (digest ++ rest)) place ≡ right_at forks place)
    numbers-written = (
      ap (λ item. number_of_bytes (take 8 (drop 32 item))) at ∙ ap (λ l. number_of_bytes (take 8 l)) behind,
      ap (λ item. number_of_bytes (drop 40 item)) at ∙ ap number_of_bytes (later digest rest long
          ∙ drop-drop 8 32 (get_or forks place [])),
    )
      where
        later : (xs ys : List ℕ) → length xs ≡ 32 → drop 40 (xs ++ ys) ≡ drop 8 ys
        later xs ys long = ap (λ n. drop (n + 8) (xs ++ ys)) (sym long) ∙ drop-append-add xs ys 8
