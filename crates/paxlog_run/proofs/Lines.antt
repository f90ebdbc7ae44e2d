-- The lines of some bytes.
use Rattle.std.proofs.Common.{zero, suc, ◌≡◌, ℕ, ◌+◌, ◌<◌, ◌≤◌, ◌==◌, true, List, [], ◌∷◌, ◌++◌, length, take, drop, get_or, refl, ap, sym, ◌∙◌, append_assoc, arith}
use Rattle.std.proofs.lemmas.Bool.{false_from_ne_true}
use Rattle.std.proofs.lemmas.List.{append-nil, length-append, length-drop, take-append-drop}
use Rattle.std.proofs.Math.Seq.{take-add}
use Rattle.paxlog_run.specs.Entries.{lines_of, onto_first}

-- no byte is a line feed
abbrev pub NoLineFeed : List ℕ → ℕ → Type 0
NoLineFeed bytes end = (k : ℕ) → k < end → (get_or bytes k 0 == 10) ≡ true → ⊥

-- bytes with no line feed are one line
pub lines_of-one : (bytes : List ℕ) → 0 < length bytes → NoLineFeed bytes (length bytes) → lines_of bytes ≡ bytes ∷ []
lines_of-one [] some none = absurd (omega arith)
lines_of-one (b ∷ []) some none = rw (false_from_ne_true (b == 10) (none 0 (omega arith))) refl
lines_of-one (b ∷ c ∷ bytes) some none =
    rw (false_from_ne_true (b == 10) (none 0 (omega arith)))
    (ap (onto_first b) (lines_of-one (c ∷ bytes) (omega arith) (λ k below here. none (suc k) (omega arith) here)))

-- the first line ends before the first line feed
pub lines_of-cut : (bytes : List ℕ) (end : ℕ) → end < length bytes → (get_or bytes end 0 == 10) ≡ true
    → NoLineFeed bytes end → lines_of bytes ≡ take end bytes ∷ lines_of (drop (suc end) bytes)
lines_of-cut [] end inside is none = absurd (omega arith)
lines_of-cut (b ∷ bytes) zero inside is none = rw is refl
lines_of-cut (b ∷ bytes) (suc end) inside is none =
    rw (false_from_ne_true (b == 10) (none 0 (omega arith)))
    (ap (onto_first b) (lines_of-cut bytes end (omega arith) is (λ k below here. none (suc k) (omega arith) here)))

-- at most one line has no line feed
pub lines_of-few : (bytes : List ℕ) → NoLineFeed bytes (length bytes) → length (lines_of bytes) ≤ 1
lines_of-few [] none = omega arith
lines_of-few (b ∷ bytes) none = omega (arith, ap length (lines_of-one (b ∷ bytes) (omega arith) none))

-- ---- whole lines

-- a line with its line feed, before other bytes
line-before : (bytes : List ℕ) (end : ℕ) → end < length bytes → (get_or bytes end 0 == 10) ≡ true
    → NoLineFeed bytes end → (more : List ℕ) → lines_of (take (suc end) bytes ++ more) ≡ take end bytes ∷ lines_of more
line-before [] end inside is none more = absurd (omega arith)
line-before (b ∷ bytes) zero inside is none more = rw is refl
line-before (b ∷ bytes) (suc end) inside is none more =
    rw (false_from_ne_true (b == 10) (none 0 (omega arith)))
    (ap (onto_first b) (line-before bytes end (omega arith) is (λ k below here. none (suc k) (omega arith) here) more))

-- The first bytes are so many whole lines.
pub record AreWhole (bytes : List ℕ) (end count : ℕ) : Type 0 where
  pub inside : end ≤ length bytes
  pub count_is : length (lines_of (take end bytes)) ≡ count
  pub ends : (more : List ℕ) → lines_of (take end bytes ++ more) ≡ lines_of (take end bytes) ++ lines_of more

pub whole-none : (bytes : List ℕ) → AreWhole bytes 0 0
whole-none bytes = record {
  inside = omega arith;
  count_is = refl;
  ends = λ more. refl;
}

pub whole-next : (bytes : List ℕ) (end count at : ℕ) → AreWhole bytes end count → at < length (drop end bytes)
    → (get_or (drop end bytes) at 0 == 10) ≡ true → NoLineFeed (drop end bytes) at
    → AreWhole bytes (end + (at + 1)) (count + 1)
whole-next bytes end count at whole inside is none =
    let rest = drop end bytes in
    let one : at + 1 ≡ suc at = omega arith in
    let front : take (end + (at + 1)) bytes ≡ take end bytes ++ take (suc at) rest =
    rw (one) (take-add end (suc at) bytes) in
    let all : (more : List ℕ) → lines_of (take (end + (at + 1)) bytes ++ more)
    ≡ lines_of (take end bytes) ++ (take at rest ∷ lines_of more) = λ more.
    ap (λ l. lines_of (l ++ more)) front ∙ ap lines_of (append_assoc (take end bytes) (take (suc at) rest) more)
    ∙ whole.ends (take (suc at) rest ++ more)
    ∙ ap (λ l. lines_of (take end bytes) ++ l) (line-before rest at inside is none more) in
    let own : lines_of (take (end + (at + 1)) bytes) ≡ lines_of (take end bytes) ++ (take at rest ∷ []) =
    ap lines_of (sym (append-nil (take (end + (at + 1)) bytes))) ∙ all [] in
    record {
      inside = omega (arith, inside, length-drop end bytes, whole.inside);
      count_is = omega (
        arith,
        ap length own,
        length-append (lines_of (take end bytes)) (take at rest ∷ []),
        whole.count_is,
      );
      ends = λ more. all more ∙ sym (ap (λ l. l ++ lines_of more) own
          ∙ append_assoc (lines_of (take end bytes)) (take at rest ∷ []) (lines_of more));
    }

pub whole-all : (bytes : List ℕ) (end count : ℕ) → AreWhole bytes end count → (more : List ℕ)
    → lines_of (bytes ++ more) ≡ lines_of (take end bytes) ++ lines_of (drop end bytes ++ more)
whole-all bytes end count whole more =
    ap (λ l. lines_of (l ++ more)) (sym (take-append-drop end bytes))
    ∙ ap lines_of (append_assoc (take end bytes) (drop end bytes) more) ∙ whole.ends (drop end bytes ++ more)
