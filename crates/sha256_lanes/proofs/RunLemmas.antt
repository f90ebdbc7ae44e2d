-- Results that are written one after the other.
use Rattle.std.proofs.Common.{zero, suc, ◌≡◌, ℕ, ◌+◌, ◌≤◌, List, [], ◌∷◌, ◌++◌, length, map, take, drop, refl, ap, sym, ◌∙◌, arith, zero-add}
use Rattle.std.proofs.lemmas.List.{map-append}
use Rattle.std.proofs.lemmas.Slice.{take-put_mid}
use borrow.Rule.Slice.PartMut.{put_mid}

take-nil : {A : Type 0} (b : ℕ) → take {A = A} b [] ≡ []
take-nil zero = refl
take-nil (suc b) = refl

take-both : {A : Type 0} (a b : ℕ) (xs : List A) → take a xs ++ take b (drop a xs) ≡ take (a + b) xs
take-both zero b xs = rw zero-add refl
take-both (suc a) b [] = let e : suc a + b ≡ suc (a + b) = omega arith in rw e (take-nil b)
take-both (suc a) b (x ∷ xs) = let e : suc a + b ≡ suc (a + b) = omega arith in
    rw e (ap (λ ys. x ∷ ys) (take-both a b xs))

module _ {A B : Type 0} (f : A → B) (xs : List A) where
  -- what a function makes of the first items stands in front
  abbrev pub AreWritten : List B → ℕ → Type 0
  AreWritten ys n = take n ys ≡ map f (take n xs)

  -- a part is written behind them
  pub written-part : (old part : List B) (n k m : ℕ) → n ≤ length old → length part ≡ k → m ≡ n + k → AreWritten old n
      → part ≡ map f (take k (drop n xs)) → AreWritten (put_mid n k old part) m
  written-part old part n k m inside size em so is =
      let end : n + k ≡ n + length part = omega arith in
      rw em (take-put_mid n k old part (n + k) end inside ∙ ap (λ ys. ys ++ part) so
      ∙ ap (λ ys. map f (take n xs) ++ ys) is ∙ sym (map-append f (take n xs) (take k (drop n xs)))
      ∙ ap (map f) (take-both n k xs))
