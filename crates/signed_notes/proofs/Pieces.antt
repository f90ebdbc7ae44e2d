-- The pieces of bytes before marks.
use Rattle.std.proofs.Common.{◌≡◌, ℕ, ◌<◌, ◌==◌, List, [], ◌∷◌, length, inl, inr, Option, Some, None, refl, ap, ◌∙◌, arith}
use Rattle.std.proofs.lemmas.Bool.{cases_Bool}
use Rattle.signed_notes.specs.Cutting.{cut, onto_first, onto_front, pieces_in}
use Rattle.signed_notes.proofs.Cuts.{cut_parts}

same : (mark : ℕ) (f r front rest : List ℕ) → ◌≡◌ {A = Option (List ℕ × List ℕ)} (Some (f, r)) (Some (front, rest))
    → f ∷ pieces_in mark r ≡ front ∷ pieces_in mark rest
same mark f r front rest e =
    let both = cut_parts f r front rest e in
    ap (λ l. l ∷ pieces_in mark r) both.0 ∙ ap (λ l. front ∷ pieces_in mark l) both.1

before : (mark b : ℕ) (bytes : List ℕ) (found : Option (List ℕ × List ℕ)) (front rest : List ℕ)
    → ((f r : List ℕ) → found ≡ Some (f, r) → pieces_in mark bytes ≡ f ∷ pieces_in mark r)
    → onto_front b found ≡ Some (front, rest) → onto_first b (pieces_in mark bytes) ≡ front ∷ pieces_in mark rest
before mark b bytes None front rest ih e = absurd cc
before mark b bytes (Some (f, r)) front rest ih e =
    ap (onto_first b) (ih f r refl) ∙ same mark (b ∷ f) r front rest e

-- the first piece ends at the first mark
pub pieces-cut : (mark : ℕ) (bytes front rest : List ℕ) → cut mark bytes ≡ Some (front, rest)
    → pieces_in mark bytes ≡ front ∷ pieces_in mark rest
pieces-cut mark [] front rest e = absurd cc
pieces-cut mark (b ∷ bytes) front rest e =
    elim (cases_Bool (b == mark)) [
      | inl is ↦
          rw is (same mark [] bytes front rest (rw is at e))
      | inr not ↦
          rw not (before mark b bytes (cut mark bytes) front rest (λ f r found. pieces-cut mark bytes f r found)
          (rw not at e))
    ]

alone : (mark b : ℕ) (bytes : List ℕ) (found : Option (List ℕ × List ℕ))
    → (found ≡ None → 0 < length bytes → pieces_in mark bytes ≡ bytes ∷ []) → onto_front b found ≡ None
    → onto_first b (pieces_in mark bytes) ≡ (b ∷ bytes) ∷ []
alone mark b [] found ih e = refl
alone mark b (c ∷ bytes) None ih e = ap (onto_first b) (ih refl (omega arith))
alone mark b (c ∷ bytes) (Some found) ih e = absurd cc

-- bytes without a mark are one piece
pub pieces-one : (mark : ℕ) (bytes : List ℕ) → cut mark bytes ≡ None → 0 < length bytes
    → pieces_in mark bytes ≡ bytes ∷ []
pieces-one mark [] e some = absurd (omega arith)
pieces-one mark (b ∷ bytes) e some =
    elim (cases_Bool (b == mark)) [
      | inl is ↦ absurd (let whole : Some ([], bytes) ≡ None = rw is at e in cc)
      | inr not ↦
          rw not (alone mark b bytes (cut mark bytes) (λ found more. pieces-one mark bytes found more) (rw not at e))
    ]
