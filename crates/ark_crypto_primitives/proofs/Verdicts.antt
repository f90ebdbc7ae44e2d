-- What a verdict on two openings says.
use Rattle.std.proofs.Common.{◌≡◌, ℕ, ◌<◌, inl, inr, get_or, arith, Bool, true, false, not, ◌&&◌, List, length, Ok, Err, refl, ap, sym, ◌∙◌}
use Rattle.std.specs.Prelude.{if◌then◌else◌, IfOk}
use Rattle.std.specs.Str.{bytes_eq}
use Rattle.std.proofs.lemmas.Bool.{cases_lt, eqb-true, false≢true}
use Rattle.std.proofs.lemmas.List.{get_or_past}
use Rattle.std.proofs.lemmas.Slice.Eq.{bytes_eq-Decides}
use Rattle.ark_base.specs.Outcome.{Outcome, Answers}
use Rattle.ark_base.specs.Reading.{IsBytes}
use Rattle.ark_base.specs.Laws.Steps.{bind_ok, done_injective}
use Rattle.ark_paths.specs.Pair.{Digest}
use Rattle.ark_crypto_primitives.specs.Conflicts.{TreeHashes, ShownLeaf, AreInConflict, IsShownUnder, shown_verdict, conflict_verdict}

-- numbers that are bytes at each place are bytes
pub bytes-within : (t : List ℕ) → ((i d : ℕ) → i < length t → get_or t i d < 256) → IsBytes t
bytes-within t are i = elim (cases_lt i (length t)) [
  | inl under ↦ are i 0 under
  | inr past ↦ rw (get_or_past t i 0 past) (omega arith)
]

-- a test that was passed, and what followed
passed : (t : Bool) (o : Outcome Bool) → (let whole : Outcome Bool = if t then o else Ok false in whole ≡ Ok true)
    → (t ≡ true) × (o ≡ Ok true)
passed true o e = (refl, e)
passed false o e = absurd (false≢true (done_injective false true e))

both : (s t : Bool) → (s && t) ≡ true → (s ≡ true) × (t ≡ true)
both true true e = (refl, refl)
both true false e = absurd (false≢true e)
both false t e = absurd (false≢true e)

-- bytes that a test tells apart
apart : (a b : List ℕ) → not (bytes_eq a b) ≡ true → a ≡ b → ⊥
apart a b e same = false≢true (sym (ap not ((bytes_eq-Decides a b).1 same)) ∙ e)

-- two openings are in conflict, and both paths give the root
pub record Found {D : Type 0} (tree : TreeHashes D) (root : Digest) (a b : ShownLeaf D) : Type 0 where
  pub conflict : AreInConflict a b
  pub left : IsShownUnder tree root a
  pub right : IsShownUnder tree root b

pub verdict-found : {D : Type 0} (tree : TreeHashes D) (root : Digest) (a b : ShownLeaf D) → IsBytes a.leaf
    → IsBytes b.leaf → conflict_verdict tree root a b ≡ Ok true → Found tree root a b
verdict-found tree root a b bytes_a bytes_b is =
    let tested = passed _ _ is in
    let left = bind_ok (shown_verdict tree root a) _ true tested.1 in
    let right = passed left.0 (shown_verdict tree root b) left.2 in
    let first = both _ _ tested.0 in
    let second = both _ _ first.1 in
    let third = both _ _ second.1 in
    record {
      conflict = record {
        bytes = (bytes_a, bytes_b);
        as_long = eqb-true (length a.leaf) (length b.leaf) first.0;
        differ = apart a.leaf b.leaf second.0;
        index = eqb-true a.index b.index third.0;
        height = eqb-true (length a.above) (length b.above) third.1;
      };
      left = left.1 ∙ ap Ok right.0;
      right = right.1;
    }

-- what a conflict gives, a call gives that returns whether there is one
pub verdict-gives : {D : Type 0} (tree : TreeHashes D) (root : Digest) (a b : ShownLeaf D) (P : Type 0)
    (result : Outcome Bool) → IsBytes a.leaf → IsBytes b.leaf
    → (AreInConflict a b → IsShownUnder tree root a → IsShownUnder tree root b → P)
    → Answers (conflict_verdict tree root a b) result → IfOk result (λ found. found ≡ true → P)
verdict-gives tree root a b P (Ok found) bytes_a bytes_b gives answers = λ is.
    let known = verdict-found tree root a b bytes_a bytes_b (answers ∙ ap Ok is) in
    gives known.conflict known.left known.right
verdict-gives tree root a b P (Err error) bytes_a bytes_b gives answers = tt
