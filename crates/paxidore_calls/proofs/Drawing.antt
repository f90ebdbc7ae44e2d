-- What is made of the leaves that are cut off from a place on.
use Rattle.std.proofs.Common.{◌≡◌, ℕ, ◌+◌, List, [], ◌++◌, length, take, drop, map, Option, Some, None, IfSome, refl, sym, ap, ◌∙◌, arith}
use Rattle.std.proofs.lemmas.List.{drop-drop, map-append, take_all}
use Rattle.std.proofs.Math.Seq.{drop-append_seam, take-add, take-append_seam}
use Rattle.std.specs.Option.{option_map}
use Rattle.paxidore_calls.specs.Cut.{parts_by}

module _ {B : Type 0} (made : List ℕ → B) (lengths : List ℕ) (first : ℕ) where
  -- Of leaves from there on, these results are of those before a place; the others are the rest.
  pub record IsDrawnOf (xs : List (List ℕ)) (place : ℕ) (front : List B) (rest : List ℕ) : Type 0 where
    pub results : front ≡ map made (take place xs)
    pub others : parts_by rest (drop (first + place) lengths) ≡ Some (drop place xs)

  -- the same, where there are such leaves
  abbrev pub IsDrawn : Option (List (List ℕ)) → ℕ → List B → List ℕ → Type 0
  IsDrawn cut place front rest = IfSome cut (λ xs. IsDrawnOf xs place front rest)

  pub drawn-none : (bytes : List ℕ) → IsDrawn (parts_by bytes (drop first lengths)) 0 [] bytes
  drawn-none bytes = by_cut (parts_by bytes (drop first lengths)) refl
    where
      by_cut : (cut : Option (List (List ℕ))) → parts_by bytes (drop first lengths) ≡ cut → IsDrawn cut 0 [] bytes
      by_cut None is = tt
      by_cut (Some xs) is = let z : first + 0 ≡ first = omega arith in record { results = refl; others = rw z is }

  pub drawn-more : (cut : Option (List (List ℕ))) (place count : ℕ) (front : List B) (rest next : List ℕ)
      (parts : List (List ℕ)) → IsDrawn cut place front rest → length parts ≡ count
      → parts_by rest (drop (first + place) lengths)
      ≡ option_map (λ others. parts ++ others) (parts_by next (drop (first + place + count) lengths))
      → IsDrawn cut (place + count) (front ++ map made parts) next
  drawn-more None place count front rest next parts so long are = tt
  drawn-more (Some xs) place count front rest next parts so long are =
      by_next (parts_by next (drop (first + place + count) lengths)) refl (sym so.others ∙ are)
    where
      by_next : (o : Option (List (List ℕ))) → parts_by next (drop (first + place + count) lengths) ≡ o
          → Some (drop place xs) ≡ option_map (λ others. parts ++ others) o
          → IsDrawnOf xs (place + count) (front ++ map made parts) next
      by_next None is e = absurd cc
      by_next (Some others) is e =
          let same : drop place xs ≡ parts ++ others = cc in
          let now : take count (drop place xs) ≡ parts =
          ap (take count) same ∙ ap (λ (n : ℕ). take n (parts ++ others)) (sym long) ∙ take-append_seam parts others in
          let later : drop (place + count) xs ≡ others =
          sym (drop-drop count place xs) ∙ ap (drop count) same
          ∙ ap (λ (n : ℕ). drop n (parts ++ others)) (sym long) ∙ drop-append_seam parts others in
          let all : take (place + count) xs ≡ take place xs ++ parts =
          take-add place count xs ∙ ap (λ more. take place xs ++ more) now in
          let at : first + (place + count) ≡ first + place + count = omega arith in
          record {
            results = ap (λ f. f ++ map made parts) so.results ∙ sym (map-append made (take place xs) parts)
                ∙ ap (map made) (sym all);
            others = rw at (is ∙ ap Some (sym later));
          }

  -- where nothing can be cut off, there are no such leaves
  pub drawn-short : (cut : Option (List (List ℕ))) (place : ℕ) (front : List B) (rest : List ℕ)
      → IsDrawn cut place front rest → parts_by rest (drop (first + place) lengths) ≡ None
      → (P : List (List ℕ) → Type 0) → IfSome cut P
  drawn-short None place front rest so none P = tt
  drawn-short (Some xs) place front rest so none P = let never = sym so.others ∙ none in absurd cc

  pub drawn-results : (cut : Option (List (List ℕ))) (digests : List B) (place : ℕ) (rest : List ℕ)
      → IsDrawn cut place (take place digests) rest → place ≡ length digests
      → IfSome cut (λ xs. digests ≡ map made (take (length digests) xs))
  drawn-results None digests place rest so end = tt
  drawn-results (Some xs) digests place rest so end =
      sym (take_all place digests (omega (arith, end))) ∙ so.results
      ∙ ap (λ (n : ℕ). map made (take n xs)) end

  pub drawn-others : (cut : Option (List (List ℕ))) (count : ℕ) (front : List B) (place : ℕ) (rest : List ℕ)
      → IsDrawn cut place front rest → place ≡ count
      → IfSome cut (λ xs. parts_by rest (drop (first + count) lengths) ≡ Some (drop count xs))
  drawn-others None count front place rest so end = tt
  drawn-others (Some xs) count front place rest so end = rw (← end) so.others
