-- Each log of a list is found by its origin.
use Rattle.std.proofs.Common.{suc, ◌≡◌, ℕ, Bool, true, false, List, [], ◌∷◌, ◌++◌, Contains, codes, Option, Some, None, Result, Ok, Err, refl, subst, ⊎_elim, arith}
use Rattle.std.proofs.lemmas.List.Elements.{Contains-push_cases}
use Rattle.std.proofs.lemmas.Slice.Eq.{bytes_eq-Decides}
use Rattle.std.specs.Str.{bytes_eq}
use Rattle.signed_notes.specs.Cutting.{cut, lines_in}
use Rattle.signed_notes.specs.LogLists.{log_of_origin, log_of_words, read_logs, with_log, with_log_line, with_log_lines, with_log_words, ListedParts}
use Rattle.signed_notes.specs.PolicyFiles.{spaced_words, uncommented}
use Rattle.signed_notes.specs.declared.logs_fault.LogsFault.{LogsFault}
use Rattle.signed_notes.specs.declared.logs_fault.LogsFaultAt.{LogsFaultAt}
use Rattle.signed_notes.proofs.Opened.{one-value}

-- Each log is the first of its origin.
abbrev AreFound : List ListedParts → Type 0
AreFound logs = (log : ListedParts) → Contains logs log → log_of_origin logs log.origin ≡ Some log

never-ok : {A E : Type 0} (e : E) (a : A) → Err e ≡ Ok a → ⊥
never-ok e a is = absurd cc

never-found : {A : Type 0} (a : A) → None ≡ Some a → ⊥
never-found a is = absurd cc

-- ---- a log more

still-found : (logs more : List ListedParts) (origin : List ℕ) (log : ListedParts)
    → log_of_origin logs origin ≡ Some log → log_of_origin (logs ++ more) origin ≡ Some log
still-found [] more origin log is = absurd (never-found log is)
still-found (one ∷ logs) more origin log is =
    by_test (bytes_eq one.origin origin) refl (still-found logs more origin log)
  where
    by_test : (t : Bool) → bytes_eq one.origin origin ≡ t
        → (log_of_origin logs origin ≡ Some log → log_of_origin (logs ++ more) origin ≡ Some log)
        → log_of_origin ((one ∷ logs) ++ more) origin ≡ Some log
    by_test true e rest = rw e (rw e at is)
    by_test false e rest = rw e (rest (rw e at is))

found-last : (logs : List ListedParts) (log : ListedParts) → log_of_origin logs log.origin ≡ None
    → log_of_origin (logs ++ (log ∷ [])) log.origin ≡ Some log
found-last [] log none = rw ((bytes_eq-Decides log.origin log.origin).1 refl) refl
found-last (one ∷ logs) log none = by_test (bytes_eq one.origin log.origin) refl (found-last logs log)
  where
    by_test : (t : Bool) → bytes_eq one.origin log.origin ≡ t
        → (log_of_origin logs log.origin ≡ None → log_of_origin (logs ++ (log ∷ [])) log.origin ≡ Some log)
        → log_of_origin ((one ∷ logs) ++ (log ∷ [])) log.origin ≡ Some log
    by_test true e rest = let some : Some one ≡ None = rw e at none in absurd cc
    by_test false e rest = rw e (rest (rw e at none))

found-more : (before : List ListedParts) (log : ListedParts) → AreFound before
    → log_of_origin before log.origin ≡ None → AreFound (before ++ (log ∷ []))
found-more before log are none other there =
    ⊎_elim (λ old. still-found before (log ∷ []) other.origin other (are other old))
    (λ same. subst (λ (l : ListedParts). log_of_origin (before ++ (log ∷ [])) l.origin ≡ Some l) same
    (found-last before log none)) (Contains-push_cases before log other there)

added-found : (before after : List ListedParts) (log : ListedParts) → AreFound before
    → with_log before log ≡ Ok after → AreFound after
added-found before after log are is = by_found (log_of_origin before log.origin) refl
  where
    by_found : (found : Option ListedParts) → log_of_origin before log.origin ≡ found → AreFound after
    by_found None e =
        subst AreFound (one-value (before ++ (log ∷ [])) after (with_log before log) (rw e refl) is)
        (found-more before log are e)
    by_found (Some one) e = absurd (never-ok _ after (rw e at is))

-- ---- lines

words-found : (before after : List ListedParts) (words : List (List ℕ)) → AreFound before
    → with_log_words before words ≡ Ok after → AreFound after
words-found before after [] are is = subst AreFound (one-value before after (Ok before) refl is) are
words-found before after (word ∷ words) are is = by_word (bytes_eq word (codes "log")) refl
  where
    by_log : bytes_eq word (codes "log") ≡ true → (log : Result ListedParts LogsFault) → log_of_words words ≡ log
        → AreFound after
    by_log t (Ok log) e = added-found before after log are (rw (t, e) at is)
    by_log t (Err why) e = absurd (never-ok why after (rw (t, e) at is))

    by_word : (t : Bool) → bytes_eq word (codes "log") ≡ t → AreFound after
    by_word true t = by_log t (log_of_words words) refl
    by_word false t = absurd (never-ok _ after (rw t at is))

lines-found : (lines : List (List ℕ)) (before : List ListedParts) (count : ℕ) (all : List ListedParts × ℕ)
    → AreFound before → with_log_lines before count lines ≡ Ok all → AreFound all.0
lines-found [] before count all are is =
    subst (λ (a : List ListedParts × ℕ). AreFound a.0) (one-value (before, count) all (Ok (before, count)) refl is) are
lines-found (line ∷ lines) before count all are is =
    by_line (with_log_line before line) refl (λ after. lines-found lines after (suc count) all)
  where
    by_line : (after : Result (List ListedParts) LogsFault) → with_log_line before line ≡ after
        → ((more : List ListedParts) → AreFound more → with_log_lines more (suc count) lines ≡ Ok all
        → AreFound all.0) → AreFound all.0
    by_line (Ok after) e rest =
        rest after (words-found before after (spaced_words (uncommented line (cut 35 line))) are e) (rw e at is)
    by_line (Err why) e rest = absurd (never-ok _ all (rw e at is))

pub list-found : (text : List ℕ) (logs : List ListedParts) (log : ListedParts) → read_logs text ≡ Ok logs
    → Contains logs log → log_of_origin logs log.origin ≡ Some log
list-found text logs log is there = by_lines (with_log_lines [] 0 (lines_in text)) refl log there
  where
    none-found : AreFound []
    none-found log there = absurd (omega (arith, there.1))

    by_lines : (all : Result (List ListedParts × ℕ) LogsFaultAt) → with_log_lines [] 0 (lines_in text) ≡ all
        → AreFound logs
    by_lines (Ok ([], count)) e = absurd (never-ok _ logs (rw e at is))
    by_lines (Ok (first ∷ more, count)) e =
        subst AreFound (one-value (first ∷ more) logs (read_logs text) (rw e refl) is)
        (lines-found (lines_in text) [] 0 (first ∷ more, count) none-found e)
    by_lines (Err fault) e = absurd (never-ok fault logs (rw e at is))
