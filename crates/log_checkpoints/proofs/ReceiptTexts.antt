-- The text of a receipt is read as the receipt, and as nothing else.
use Rattle.std.proofs.Common.{suc, ◌≡◌, ℕ, ◌+◌, ◌<◌, ◌≤◌, ◌^◌, List, [], ◌∷◌, ◌++◌, length, drop, Some, None, true, false, nat_eq, codes, get_or, refl, ap, sym, subst, ◌∙◌, append_assoc, append-nil, arith}
use Rattle.std.proofs.lemmas.Bool.Decides.{nat_tests}
use Rattle.std.specs.List.{flat_map, AllByRecursion}
use Rattle.std.specs.Fmt.{decimal}
use Rattle.std.proofs.lemmas.List.{drop-drop, drop_at, length-drop}
use Rattle.base64.specs.Engines.{standard}
use Rattle.base64.specs.GeneralPurpose.{encode_of}
use Rattle.ark_base.specs.Digits.{AreBytes}
use Rattle.ark_paths.specs.Pair.{Digest}
use Rattle.decimals.specs.Decimals.{decimal_number}
use Rattle.log_checkpoints.specs.Receipts.{digest_line, numbered, IsPath}
use Rattle.signed_notes.specs.Cutting.{cut}
use Rattle.signed_notes.proofs.CheckpointTexts.{lacks-decimal, number-whole}
use Rattle.signed_notes.proofs.Cuts.{cut_parts}
use Rattle.signed_notes.proofs.Lacking.{lacks-base64}
use Rattle.signed_notes.proofs.ReadBack.{cut-whole}
use Rattle.signed_notes.proofs.WrittenNotes.{cut-written}

-- ---- the lines of a path

-- lines, an empty one, and a note
abbrev pub lined : List Digest → List ℕ → List ℕ
lined path note = flat_map digest_line path ++ (10 ∷ note)

pub lined-first : (digest : Digest) (path : List Digest) (note : List ℕ)
    → lined (digest ∷ path) note ≡ encode_of standard digest ++ (10 ∷ lined path note)
lined-first digest path note =
    append_assoc (encode_of standard digest ++ (10 ∷ [])) (flat_map digest_line path) (10 ∷ note)
    ∙ append_assoc (encode_of standard digest) (10 ∷ []) (lined path note)

pub lined-cut : (digest : Digest) (path : List Digest) (note : List ℕ)
    → cut 10 (lined (digest ∷ path) note) ≡ Some (encode_of standard digest, lined path note)
lined-cut digest path note = ap (cut 10) (lined-first digest path note)
    ∙ cut-written 10 (encode_of standard digest) (lined path note) (lacks-base64 digest)

-- A line is left.
pub line-left : (path : List Digest) (note : List ℕ) → cut 10 (lined path note) ≡ None → ⊥
line-left [] note none = absurd cc
line-left (digest ∷ path) note none = let both = sym none ∙ lined-cut digest path note in absurd cc

-- a line that is empty, and one that is not
pub empty_line : (line : List ℕ) → nat_eq (length line) 0 ≡ true → line ≡ []
empty_line [] is = refl
empty_line (byte ∷ line) is =
    let none : length (byte ∷ line) ≡ 0 = grind (arith, nat_tests, is) in absurd (omega (arith, none))

pub some_line : (line : List ℕ) → nat_eq (length line) 0 ≡ false → 0 < length line
some_line [] is = absurd cc
some_line (byte ∷ line) is = omega arith

-- What is left of a path and a note behind so many lines.
pub record IsLeft (path : List Digest) (note rest : List ℕ) (count : ℕ) : Type 0 where
  pub few : count ≤ length path
  pub all : AllByRecursion (AreBytes 32) (drop count path)
  pub is : rest ≡ lined (drop count path) note

-- The next line, which is not empty, is that of a digest.
pub record IsNext (path : List Digest) (note line behind : List ℕ) (count : ℕ) : Type 0 where
  pub digest : Digest
  pub bytes : AreBytes 32 digest
  pub line_is : line ≡ encode_of standard digest
  pub left : IsLeft path note behind (count + 1)

pub next-left : (path : List Digest) (note rest line behind : List ℕ) (count : ℕ) → IsLeft path note rest count
    → cut 10 rest ≡ Some (line, behind) → 0 < length line → IsNext path note line behind count
next-left path note rest line behind count left is some = go (drop count path) refl
  where
    go : (more : List Digest) → drop count path ≡ more → IsNext path note line behind count
    go [] none =
        let both = cut_parts [] note line behind (sym (ap (cut 10) (left.is ∙ ap (λ l. lined l note) none)) ∙ is) in
        absurd (omega (arith, some, ap length both.0))
    go (digest ∷ more) those =
        let both = cut_parts (encode_of standard digest) (lined more note) line behind
        (sym (ap (cut 10) (left.is ∙ ap (λ l. lined l note) those) ∙ lined-cut digest more note) ∙ is) in
        let behind-is : drop (count + 1) path ≡ more = sym (drop-drop 1 count path) ∙ ap (drop 1) those in
        let all = subst (AllByRecursion (AreBytes 32)) those left.all in
        let long : suc (length more) ≡ length (drop count path) = ap length (sym those) in
        record {
          digest = digest;
          bytes = all.0;
          line_is = sym both.0;
          left = record {
            few = omega (arith, long, length-drop count path, left.few);
            all = subst (AllByRecursion (AreBytes 32)) (sym behind-is) all.1;
            is = sym both.1 ∙ ap (λ l. lined l note) (sym behind-is);
          };
        }

pub none-left : (path : List Digest) (note : List ℕ) → IsPath path → (rest : List ℕ) → rest ≡ lined path note
    → IsLeft path note rest 0
none-left path note are rest is = record { few = omega arith; all = are.1; is = is }

-- one digest more
pub bytes-more : (path : List Digest) (digest : Digest) → AllByRecursion (AreBytes 32) path → AreBytes 32 digest
    → AllByRecursion (AreBytes 32) (path ++ (digest ∷ []))
bytes-more [] digest all own = (own, tt)
bytes-more (first ∷ path) digest all own = (all.0, bytes-more path digest all.1 own)

pub lined-more : (path : List Digest) (digest : Digest) (bytes line rest behind : List ℕ)
    → bytes ≡ flat_map digest_line path ++ rest → cut 10 rest ≡ Some (line, behind) → line ≡ encode_of standard digest
    → bytes ≡ flat_map digest_line (path ++ (digest ∷ [])) ++ behind
lined-more [] digest bytes line rest behind so is spelled =
    so ∙ sym (cut-whole 10 rest line behind is) ∙ ap (λ l. l ++ (10 ∷ behind)) spelled
    ∙ sym (append_assoc (encode_of standard digest) (10 ∷ []) behind)
    ∙ ap (λ l. l ++ behind) (sym (append-nil (encode_of standard digest ++ (10 ∷ []))))
lined-more (first ∷ path) digest bytes line rest behind so is spelled =
    so ∙ append_assoc (digest_line first) (flat_map digest_line path) rest
    ∙ ap (λ l. digest_line first ++ l) (lined-more path digest (flat_map digest_line path ++ rest) line rest behind refl
    is spelled) ∙ sym (append_assoc (digest_line first) (flat_map digest_line (path ++ (digest ∷ []))) behind)

-- ---- a number, and the title

pub index-line : (n : ℕ) (path : List Digest) (note : List ℕ) → n < 2 ^ 64
    → cut 10 (numbered n path note) ≡ Some (decimal n, lined path note)
index-line n path note fits = cut-written 10 (decimal n) (lined path note) (lacks-decimal n fits)

-- The bytes are that number, path and note.
pub whole : (bytes line rest note : List ℕ) (n : ℕ) (path : List Digest) → cut 10 bytes ≡ Some (line, rest)
    → decimal_number line ≡ Some n → rest ≡ lined path note → bytes ≡ numbered n path note
whole bytes line rest note n path is number lines =
    sym (cut-whole 10 bytes line rest is) ∙ ap (λ l. l ++ (10 ∷ rest)) (sym (number-whole line n number).digits_are)
    ∙ ap (λ l. decimal n ++ (10 ∷ l)) lines

-- Bytes that begin with others have one rest behind them.
pub one-rest : (front a b : List ℕ) → front ++ a ≡ front ++ b → a ≡ b
one-rest front a b same =
    sym (drop_at front a (length front) refl) ∙ ap (drop (length front)) same ∙ drop_at front b (length front) refl

pub never-none : {A : Type 0} (x : A) → Some x ≡ None → ⊥
never-none x is = absurd cc

-- A line of further bytes does not begin as that of an index.
pub never-both : (a b : List ℕ) → codes "extra " ++ a ≡ codes "index " ++ b → ⊥
never-both a b same = let first = ap (λ l. get_or l 0 0) same in absurd (omega (arith, first))
