-- Runs that are hashed whole, by hashes that refuse nothing.
use Rattle.std.proofs.Common.{zero, suc, ◌≡◌, ℕ, ◌+◌, ◌<◌, List, [], ◌∷◌, ◌++◌, length, map, take, get_or, Bor, Ok, Err, inl, inr, refl, ap, sym, subst, ◌∙◌, arith}
use Rattle.std.proofs.lemmas.List.{length-map, take_all, take_at, take_more, get_or-map}
use Rattle.std.proofs.lemmas.Simd.{map-map}
use Rattle.std.specs.declared.vec.Vec.{Vec}
use Rattle.ark_base.specs.Digits.{itself}
use Rattle.ark_base.specs.Laws.Steps.{done_injective}
use Rattle.ark_base.specs.Outcome.{Outcome, AnswersBy}
use Rattle.ark_crh.specs.Ahead.{AreOfFirst, HashesAhead, lent, of_bytes, sure}

module _ {R A : Type 0} (hash : A → List ℕ) (view : R → A) (run : List R) where
  sure-all : AreOfFirst (sure hash) (map view run) (map hash (map view run))
  sure-all =
      ap (map (sure hash)) (take_all (length (map hash (map view run))) (map view run)
      (omega (arith, length-map (map view run) hash))) ∙ sym (map-map Ok hash (map view run))

  pub sure-run : (made : List (List ℕ)) → made ≡ map (λ r. hash (view r)) run → AreOfFirst (sure hash) (map view run)
      made
  sure-run made is = subst (AreOfFirst (sure hash) (map view run)) (map-map hash view run ∙ sym is) sure-all

-- the digests in a list that was written whole
module _ (f : List ℕ → List ℕ) (same : (xs : List (List ℕ)) → map f xs ≡ xs) (written rest : List (List ℕ)) where
  pub whole-list : (n : ℕ) → length written ≡ n → map f (take n (written ++ rest)) ≡ written
  whole-list n long = same (take n (written ++ rest)) ∙ take_at written rest n long

-- the next of what is seen of a run
pub seen-more : {R A : Type 0} (view : R → A) (run : List R) (n : ℕ) (x : R) (y : A) (made : List A)
    → made ≡ take n (map view run) → n < length run → x ≡ get_or run n x → y ≡ view x
    → made ++ y ∷ [] ≡ take (n + 1) (map view run)
seen-more view run n x y made so inside at is =
    let here : get_or (map view run) n (view x) ≡ view x = get_or-map view run n x (view x) inside ∙ ap view (sym at) in
    (λ i. so i ++ is i ∷ []) ∙ ap (λ z. take n (map view run) ++ z ∷ []) (sym here)
    ∙ sym (take_more (map view run) n (view x) (omega (arith, inside, length-map run view)))

-- what is hashed of the first items is so of all
pub first-of_first : {A B : Type 0} (hash : A → Outcome B) (n : ℕ) (xs : List A) (values : List B)
    → AreOfFirst hash (take n xs) values → AreOfFirst hash xs values
first-of_first hash n xs [] is = refl
first-of_first hash zero xs (v ∷ values) is = absurd cc
first-of_first hash (suc n) [] (v ∷ values) is = absurd cc
first-of_first hash (suc n) (x ∷ xs) (v ∷ values) is =
    let here : hash x ≡ Ok v = cc in
    let others : AreOfFirst hash (take n xs) values = cc in
    (λ i. here i ∷ first-of_first hash n xs values others i)

-- what a hash makes of the bytes of byte strings
pub strings-run : {Z : Type 0} (hash : List ℕ → List ℕ) (strings : List (Bor (Vec ℕ Z))) (run : List (Bor (List ℕ)))
    → map (of_bytes itself) (lent strings) ≡ lent run
    → map (λ bytes. hash bytes.now) run ≡ map (λ string. hash string.now.items) strings
strings-run {Z = Z} hash strings run same =
    let items : Vec ℕ Z → List ℕ = λ string. string.items in
    sym (map-map hash (λ (bytes : Bor (List ℕ)). bytes.now) run) ∙ ap (map hash) (sym same)
    ∙ map-map hash items (lent strings) ∙ map-map (λ string. hash (items string)) (λ (r : Bor (Vec ℕ Z)). r.now) strings

-- digests that are handed on as byte strings
pub strings-ahead : {A Z Y : Type 0} (hash : A → Outcome (List ℕ)) (xs : List A) (digests : List (List ℕ))
    (result : Outcome (Vec (Vec ℕ Z) Y)) → AreOfFirst hash xs digests
    → AnswersBy (λ made. map (of_bytes itself) made.items) (Ok digests) result
    → HashesAhead (of_bytes itself) hash xs result
strings-ahead hash xs digests (Ok made) first is = subst (AreOfFirst hash xs) (done_injective _ _ is) first
strings-ahead hash xs digests (Err e) first (inl memory) = memory
strings-ahead hash xs digests (Err e) first (inr is) = absurd cc
