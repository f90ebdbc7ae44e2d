-- Leaves that are cut off in turn, and what is made of each.
use Rattle.std.proofs.Common.{◌≡◌, ℕ, ◌<◌, ◌≤◌, List, [], ◌∷◌, ◌++◌, length, drop, map, nat_lt, true, Option, Some, None, Result, Ok, Err, refl, sym, ap, ◌∙◌, append_assoc, append-nil}
use Rattle.std.proofs.lemmas.Bool.{lt-ltb}
use Rattle.std.proofs.lemmas.List.{drop_all, map-append}
use Rattle.std.specs.Option.{option_map}
use Rattle.paxidore_calls.specs.Answer.{leaves_in, results_of}
use Rattle.paxidore_calls.specs.Cut.{parts_by}
use Rattle.paxidore_calls.specs.declared.refused.Refused.{Refused}
use Rattle.paxidore_calls.specs.declared.refused.Refused.TheVariants.{Lengths}

-- some results before others, where those are there
abbrev pub behind : {B : Type 0} → List B → Result (List B) Refused → Result (List B) Refused
behind front (Ok more) = Ok (front ++ more)
behind front (Err refused) = Err refused

behind-nil : {B : Type 0} (rest : Result (List B) Refused) → rest ≡ behind [] rest
behind-nil (Ok more) = refl
behind-nil (Err refused) = refl

behind-onto : {B : Type 0} (front more : List B) (rest : Result (List B) Refused) → behind front (behind more rest)
    ≡ behind (front ++ more) rest
behind-onto front more (Ok others) = ap Ok (sym (append_assoc front more others))
behind-onto front more (Err refused) = refl

-- four parts, each in front of others
pub four-parts : {A : Type 0} (a b c d : A) (o : Option (List A)) → option_map (λ others. a ∷ others)
    (option_map (λ others. b ∷ others) (option_map (λ others. c ∷ others) (option_map (λ others. d ∷ others) o)))
    ≡ option_map (λ others. a ∷ b ∷ c ∷ d ∷ others) o
four-parts a b c d None = refl
four-parts a b c d (Some others) = refl

module _ {B : Type 0} (made : List ℕ → B) where
  -- what is made of the parts of some bytes
  abbrev pub of_parts : List ℕ → List ℕ → Result (List B) Refused
  of_parts bytes lengths = results_of made (leaves_in (parts_by bytes lengths))

  first-parts : (parts : List (List ℕ)) (rest : Option (List (List ℕ))) → results_of made
      (leaves_in (option_map (λ others. parts ++ others) rest))
      ≡ behind (map made parts) (results_of made (leaves_in rest))
  first-parts parts None = refl
  first-parts parts (Some others) = ap Ok (map-append made parts others)

  module _ (bytes : List ℕ) (lengths : List ℕ) where
    -- before place i all is made; the rest is left
    abbrev pub IsSoFar : ℕ → List B → List ℕ → Type 0
    IsSoFar i front rest = of_parts bytes lengths ≡ behind front (of_parts rest (drop i lengths))

    pub so_far-none : of_parts bytes lengths ≡ behind [] (of_parts bytes (drop 0 lengths))
    so_far-none = behind-nil (of_parts bytes lengths)

    module _ (i : ℕ) (front : List B) (rest : List ℕ) (so : of_parts bytes lengths
        ≡ behind front (of_parts rest (drop i lengths))) where
      pub so_far-more : (j : ℕ) (next : List ℕ) (parts : List (List ℕ)) → parts_by rest (drop i lengths)
          ≡ option_map (λ others. parts ++ others) (parts_by next (drop j lengths)) → of_parts bytes lengths
          ≡ behind (front ++ map made parts) (of_parts next (drop j lengths))
      so_far-more j next parts are =
          so ∙ rw (are, first-parts parts (parts_by next (drop j lengths)))
          (behind-onto front (map made parts) (of_parts next (drop j lengths)))

      pub so_far-short : parts_by rest (drop i lengths) ≡ None → of_parts bytes lengths ≡ Err Lengths
      so_far-short none = so ∙ rw none refl

      module _ (past : length lengths ≤ i) where
        pub so_far-all : length rest ≡ 0 → of_parts bytes lengths ≡ Ok front
        so_far-all none = so ∙ rw (drop_all i lengths past, none) (ap Ok (append-nil front))

        pub so_far-left : 0 < length rest → of_parts bytes lengths ≡ Err Lengths
        so_far-left some = let test : nat_lt 0 (length rest) ≡ true =
            lt-ltb 0 (length rest) some in so ∙ rw (drop_all i lengths past, test) refl
