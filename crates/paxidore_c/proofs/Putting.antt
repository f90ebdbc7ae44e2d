-- Digests that are put in the places of their indexes, one after the other.
use Rattle.std.proofs.Common.{◌≡◌, ℕ, ◌+◌, ◌<◌, ◌≤◌, List, [], ◌∷◌, ◌++◌, length, take, drop, map, set, get_or, Bool, true, false, nat_lt, if◌then◌else◌, Option, Some, None, IfSome, refl, subst, sym, ap, ap₂, ◌∙◌, arith}
use Rattle.std.proofs.lemmas.List.{append-nil, drop-drop, drop_all, length-append, map-append, take-append-drop}
use Rattle.std.proofs.Math.Seq.{take-add}
use Rattle.std.specs.List.{zip}
use Rattle.ark_paths.specs.Pair.{Digest}
use Rattle.ark_merkle.specs.Batch.{puts}
use Rattle.paxidore_calls.proofs.Drawing.{IsDrawn}
use Rattle.paxidore_calls.specs.Cut.{parts_by}

-- one more change behind others
pub puts-more : (digests : List Digest) (indexes : List ℕ) (front : List Digest) (digest : Digest)
    → length front < length indexes → puts digests (zip indexes (front ++ digest ∷ []))
    ≡ set (puts digests (zip indexes front)) (get_or indexes (length front) 0) digest
puts-more digests [] front digest below = absurd (omega arith)
puts-more digests (i ∷ indexes) [] digest below = last digests indexes
  where
    last : (digests : List Digest) (indexes : List ℕ) → puts (set digests i digest)
        (zip indexes []) ≡ set digests i digest
    last digests [] = refl
    last digests (j ∷ indexes) = refl
puts-more digests (i ∷ indexes) (d ∷ front) digest below = puts-more (set digests i d) indexes front digest
    (omega arith)

-- no change
pub puts-none : (digests : List Digest) (indexes : List ℕ) → puts digests (zip indexes []) ≡ digests
puts-none digests [] = refl
puts-none digests (i ∷ indexes) = refl

-- further changes behind others
pub puts-further : (digests : List Digest) (indexes : List ℕ) (front run : List Digest)
    → puts digests (zip indexes (front ++ run))
    ≡ puts (puts digests (zip indexes front)) (zip (drop (length front) indexes) run)
puts-further digests [] [] run = refl
puts-further digests (i ∷ indexes) [] run = refl
puts-further digests [] (d ∷ front) run = refl
puts-further digests (i ∷ indexes) (d ∷ front) run = puts-further (set digests i d) indexes front run

module _ (made : List ℕ → Digest) (lengths indexes : List ℕ) (old : List Digest) where
  -- the digests of the leaves before a place are put, of which these are the results
  pub record PutUpTo (cut : Option (List (List ℕ))) (now : List Digest) (place : ℕ) (rest : List ℕ) : Type 0 where
    pub front : List Digest
    pub count : length front ≡ place
    pub drawn : IsDrawn made lengths 0 cut place front rest
    pub put : now ≡ puts old (zip indexes front)

  -- what is drawn with a run behind it
  run-drawn : (cut : Option (List (List ℕ))) (place count : ℕ) (front run : List Digest) (rest next : List ℕ)
      → IsDrawn made lengths 0 cut place front rest
      → IfSome (parts_by rest (drop place lengths)) (λ ys. run ≡ map made (take count ys))
      → IfSome (parts_by rest (drop place lengths)) (λ ys. parts_by next (drop (place + count) lengths)
      ≡ Some (drop count ys)) → IsDrawn made lengths 0 cut (place + count) (front ++ run) next
  run-drawn None place count front run rest next so made_of behind = tt
  run-drawn (Some xs) place count front run rest next so made_of behind =
      let from : place ≡ 0 + place = omega arith in
      let to : 0 + (place + count) ≡ place + count = omega arith in
      let here : parts_by rest (drop place lengths) ≡ Some (drop place xs) =
      ap (λ n. parts_by rest (drop n lengths)) from ∙ so.others in
      let run_is = subst (λ o. IfSome o (λ ys. run ≡ map made (take count ys))) here made_of in
      let rest_of = λ (ys : List (List ℕ)). parts_by next (drop (place + count) lengths) ≡ Some (drop count ys) in
      let rest_is = subst (λ o. IfSome o rest_of) here behind in
      record {
        results = ap₂ (λ a b. a ++ b) so.results run_is
            ∙ sym (map-append made (take place xs) (take count (drop place xs)))
            ∙ sym (ap (map made) (take-add place count xs));
        others = ap (λ n. parts_by next (drop n lengths)) to ∙ rest_is ∙ ap Some (drop-drop count place xs);
      }

  pub put-run : (cut : Option (List (List ℕ))) (now run : List Digest) (place count : ℕ) (rest next : List ℕ)
      → PutUpTo cut now place rest → length run ≡ count
      → IfSome (parts_by rest (drop place lengths)) (λ ys. run ≡ map made (take count ys))
      → IfSome (parts_by rest (drop place lengths)) (λ ys. parts_by next (drop (place + count) lengths)
      ≡ Some (drop count ys)) → PutUpTo cut (puts now (zip (drop place indexes) run)) (place + count) next
  put-run cut now run place count rest next so long made_of behind = record {
    front = so.front ++ run;
    count = length-append so.front run ∙ ap₂ (λ a b. a + b) so.count long;
    drawn = run-drawn cut place count so.front run rest next so.drawn made_of behind;
    put = rw (so.put, ← so.count) (sym (puts-further old indexes so.front run));
  }

  -- at the end all are put
  pub all-put : (cut : Option (List (List ℕ))) (now : List Digest) (place : ℕ) (rest : List ℕ) → length lengths ≤ place
      → PutUpTo cut now place rest → IfSome cut (λ xs. now ≡ puts old (zip indexes (map made xs)))
  all-put None now place rest end so = tt
  all-put (Some xs) now place rest end so =
      let from : place ≡ 0 + place = omega arith in
      let none : parts_by rest [] ≡ Some (drop place xs) = ap (parts_by rest) (sym (drop_all place lengths end))
      ∙ ap (λ n. parts_by rest (drop n lengths)) from ∙ so.drawn.others in
      let all : take place xs ≡ xs = taken place xs (no-parts rest (drop place xs) none) in
      so.put ∙ ap (λ front. puts old (zip indexes front)) (so.drawn.results ∙ ap (map made) all)
    where
      by_test : (b : Bool) (ys : List (List ℕ)) → (if b then None else Some []) ≡ Some ys → ys ≡ []
      by_test true ys e = absurd cc
      by_test false ys e = cc

      no-parts : (rest : List ℕ) (ys : List (List ℕ)) → parts_by rest [] ≡ Some ys → ys ≡ []
      no-parts rest ys e = by_test (nat_lt 0 (length rest)) ys e

      taken : (n : ℕ) (ys : List (List ℕ)) → drop n ys ≡ [] → take n ys ≡ ys
      taken n ys none = sym (append-nil (take n ys)) ∙ ap (λ more. take n ys ++ more) (sym none) ∙ take-append-drop n ys

-- what follows of the parts
pub over-parts : (o : Option (List (List ℕ))) (P Q : List (List ℕ) → Type 0) → IfSome o P
    → ((xs : List (List ℕ)) → P xs → Q xs) → IfSome o Q
over-parts None P Q holds step = tt
over-parts (Some xs) P Q holds step = step xs holds
