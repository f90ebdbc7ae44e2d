-- Where bytes are cut.
use Rattle.std.proofs.Common.{zero, suc, ◌≡◌, ℕ, ◌<◌, ◌≤◌, ◌==◌, true, false, List, [], ◌∷◌, ◌++◌, length, take, drop, get_or, inl, inr, Option, Some, None, refl, ap, ◌∙◌, arith}
use Rattle.std.proofs.lemmas.Bool.{cases_Bool, false_from_ne_true}
use Rattle.signed_notes.specs.Cutting.{cut, cut_at_blank, if_feed, lines_in, onto_first, onto_front, or_here}

-- no byte before a place is the mark
abbrev pub HasNone : ℕ → List ℕ → ℕ → Type 0
HasNone mark bytes end = (k : ℕ) → k < end → (get_or bytes k 0 == mark) ≡ true → ⊥

-- the first byte is not the mark
first_not : (mark b : ℕ) (bytes : List ℕ) (end : ℕ) → HasNone mark (b ∷ bytes) (suc end) → (b == mark) ≡ false
first_not mark b bytes end none = false_from_ne_true (b == mark) (none 0 (omega arith))

-- and none behind it
others_not : (mark b : ℕ) (bytes : List ℕ) (end : ℕ) → HasNone mark (b ∷ bytes) (suc end) → HasNone mark bytes end
others_not mark b bytes end none = λ k below here. none (suc k) (omega arith) here

pub cut-none : (mark : ℕ) (bytes : List ℕ) → HasNone mark bytes (length bytes) → cut mark bytes ≡ None
cut-none mark [] none = refl
cut-none mark (b ∷ bytes) none =
    rw (first_not mark b bytes (length bytes) none)
    (ap (onto_front b) (cut-none mark bytes (others_not mark b bytes (length bytes) none)))

pub cut-at : (mark : ℕ) (bytes : List ℕ) (end : ℕ) → end < length bytes → (get_or bytes end 0 == mark) ≡ true
    → HasNone mark bytes end → cut mark bytes ≡ Some (take end bytes, drop (suc end) bytes)
cut-at mark [] end inside is none = absurd (omega arith)
cut-at mark (b ∷ bytes) zero inside is none = rw is refl
cut-at mark (b ∷ bytes) (suc end) inside is none =
    rw (first_not mark b bytes end none)
    (ap (onto_front b) (cut-at mark bytes end (omega arith) is (others_not mark b bytes end none)))

-- ---- lines

-- the parts of a cut
front_in : Option (List ℕ × List ℕ) → List ℕ
front_in None = []
front_in (Some p) = p.0

rest_in : Option (List ℕ × List ℕ) → List ℕ
rest_in None = []
rest_in (Some p) = p.1

pub cut_parts : (f r front rest : List ℕ) → ◌≡◌ {A = Option (List ℕ × List ℕ)} (Some (f, r)) (Some (front, rest))
    → (f ≡ front) × (r ≡ rest)
unfolding front_in rest_in
cut_parts f r front rest e = (ap front_in e, ap rest_in e)

lines-same : (f r front rest : List ℕ) → ◌≡◌ {A = Option (List ℕ × List ℕ)} (Some (f, r)) (Some (front, rest))
    → f ∷ lines_in r ≡ front ∷ lines_in rest
lines-same f r front rest e =
    let same = cut_parts f r front rest e in
    ap (λ l. l ∷ lines_in r) same.0 ∙ ap (λ l. front ∷ lines_in l) same.1

lines-before : (b : ℕ) (bytes : List ℕ) (found : Option (List ℕ × List ℕ)) (front rest : List ℕ)
    → ((f r : List ℕ) → found ≡ Some (f, r) → lines_in bytes ≡ f ∷ lines_in r)
    → onto_front b found ≡ Some (front, rest) → onto_first b (lines_in bytes) ≡ front ∷ lines_in rest
lines-before b bytes None front rest ih e = absurd cc
lines-before b bytes (Some (f, r)) front rest ih e =
    ap (onto_first b) (ih f r refl) ∙ lines-same (b ∷ f) r front rest e

-- the first line ends at the first line feed
pub lines-cut : (bytes front rest : List ℕ) → cut 10 bytes ≡ Some (front, rest) → lines_in bytes ≡ front ∷ lines_in rest
lines-cut [] front rest e = absurd cc
lines-cut (b ∷ bytes) front rest e =
    elim (cases_Bool (b == 10)) [
      | inl is ↦
          rw is (lines-same [] bytes front rest (rw is at e))
      | inr not ↦
          rw not (lines-before b bytes (cut 10 bytes) front rest (λ f r found. lines-cut bytes f r found) (rw not at e))
    ]

lines-alone : (b : ℕ) (bytes : List ℕ) (found : Option (List ℕ × List ℕ))
    → (found ≡ None → 0 < length bytes → lines_in bytes ≡ bytes ∷ []) → onto_front b found ≡ None
    → onto_first b (lines_in bytes) ≡ (b ∷ bytes) ∷ []
lines-alone b [] found ih e = refl
lines-alone b (c ∷ bytes) None ih e = ap (onto_first b) (ih refl (omega arith))
lines-alone b (c ∷ bytes) (Some found) ih e = absurd cc

-- bytes without a line feed are one line
pub lines-one : (bytes : List ℕ) → cut 10 bytes ≡ None → 0 < length bytes → lines_in bytes ≡ bytes ∷ []
lines-one [] e some = absurd (omega arith)
lines-one (b ∷ bytes) e some =
    elim (cases_Bool (b == 10)) [
      | inl is ↦ absurd (let whole : Some ([], bytes) ≡ None = rw is at e in cc)
      | inr not ↦ rw not (lines-alone b bytes (cut 10 bytes) (λ found more. lines-one bytes found more) (rw not at e))
    ]

-- ---- the last empty line

-- where no empty line follows
pub blank-step : (b : ℕ) (bytes : List ℕ) → cut_at_blank bytes ≡ None → cut_at_blank (b ∷ bytes) ≡ if_feed b bytes
blank-step b bytes none = ap (or_here b bytes) none

pub blank-here : (rest : List ℕ) (b c : ℕ) → b ≡ 10 → c ≡ 10 → if_feed b (c ∷ rest) ≡ Some (b ∷ [], rest)
blank-here rest b c is next = rw (is, next) refl

-- what is found behind some bytes is found behind more
pub blank-lift : (bytes : List ℕ) (at : ℕ) (front rest : List ℕ) → at ≤ length bytes
    → cut_at_blank (drop at bytes) ≡ Some (front, rest) → cut_at_blank bytes ≡ Some (take at bytes ++ front, rest)
blank-lift bytes zero front rest inside e = e
blank-lift [] (suc at) front rest inside e = absurd (omega arith)
blank-lift (b ∷ bytes) (suc at) front rest inside e = ap (or_here b bytes) (blank-lift bytes at front rest
    (omega arith) e)

pub blank-at : (bytes : List ℕ) (at : ℕ) → suc at < length bytes → get_or bytes at 0 ≡ 10 → get_or bytes (suc at) 0 ≡ 10
    → cut_at_blank (drop (suc at) bytes) ≡ None
    → cut_at_blank bytes ≡ Some (take (suc at) bytes, drop (suc (suc at)) bytes)
blank-at [] at inside is next none = absurd (omega arith)
blank-at (b ∷ []) at inside is next none = absurd (omega arith)
blank-at (b ∷ c ∷ bytes) zero inside is next none = blank-step b (c ∷ bytes) none ∙ blank-here bytes b c is next
blank-at (b ∷ c ∷ bytes) (suc at) inside is next none =
    ap (or_here b (c ∷ bytes)) (blank-at (c ∷ bytes) at (omega arith) is next none)
