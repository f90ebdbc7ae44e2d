-- What tokens say, one after the other.
use Rattle.std.proofs.Common.{◌≡◌, Bor, true, ℕ, ◌+◌, List, [], ◌∷◌, ◌++◌, length, Option, Some, None, refl, sym, ap, ◌∙◌, append_assoc, append-nil}
use Rattle.std.specs.Option.{option_map, option_and, option_copied}
use Rattle.std.specs.Str.{bytes_eq}
use Rattle.std.proofs.lemmas.Slice.Eq.{bytes_eq-Decides}
use Rattle.acp_run.specs.Arguments.{none_left, onto_all, some}
use Rattle.acp_run.specs.Lines.{tokens_of, tokens_left}
use Rattle.acp_run.proofs.Cutting.{tokens_of-some}

-- some values before others, where those are there
abbrev pub behind : {A : Type 0} → List A → Option (List A) → Option (List A)
behind front rest = option_map (λ more. front ++ more) rest

-- how much is left of a line, with the space before it
abbrev pub left_size : Option (List ℕ) → ℕ
left_size None = 0
left_size (Some bytes) = 1 + length bytes

module _ {A : Type 0} where
  pub behind-start : (front : List A) (rest : Option (List A)) → front ≡ [] → rest ≡ behind front rest
  behind-start front None none = refl
  behind-start front (Some more) none = rw none refl

  behind-onto : (front : List A) (x : A) (rest : Option (List A)) → behind front (onto_all (Some x) rest)
      ≡ behind (front ++ x ∷ []) rest
  behind-onto front x None = refl
  behind-onto front x (Some more) = ap (λ (xs : List A). Some xs) (sym (append_assoc front (x ∷ []) more))

  pub behind-more : (whole : Option (List A)) (front : List A) (said : Option A) (rest : Option (List A)) (x : A)
      → whole ≡ behind front (onto_all said rest) → said ≡ Some x → whole ≡ behind (front ++ x ∷ []) rest
  behind-more whole front said rest x so is = so ∙ rw is (behind-onto front x rest)

  pub behind-nothing : (whole : Option (List A)) (front : List A) (said : Option A) (rest : Option (List A)) → whole
      ≡ behind front (onto_all said rest) → said ≡ None → whole ≡ None
  behind-nothing whole front said rest so is = so ∙ rw is refl

  pub behind-all : (whole : Option (List A)) (front : List A) → whole ≡ behind front (Some []) → whole ≡ Some front
  behind-all whole front so = so ∙ ap (λ (xs : List A). Some xs) (append-nil front)

-- what is left of a line has a token
left-some : {A : Type 0} (tokens : List (List ℕ)) (x : Option A) → (tokens ≡ [] → ⊥) → x ≡ some tokens x
left-some [] x some = absurd (some refl)
left-some (token ∷ tokens) x some = refl

-- a value where something is left of a line, as it is seen
pub some_left : {X Y : Type 0} (view : X → Y) (left : Option (Bor (List ℕ))) (o x : Option X) (seen : Option Y)
    → o ≡ option_and left x → option_map view x ≡ seen
    → option_map view o ≡ some (tokens_left (option_copied left)) seen
some_left view None o x seen is same = ap (option_map view) is
some_left view (Some line) o x seen is same =
    ap (option_map view) is ∙ same ∙ left-some (tokens_of line.now) seen (tokens_of-some line.now)

-- what is seen of what is seen
pub option_map-seen : {A B C : Type 0} (seen : A → B) (more : B → C) (x : Option A) → option_map (λ a. more (seen a)) x
    ≡ option_map more (option_map seen x)
option_map-seen seen more None = refl
option_map-seen seen more (Some a) = refl

-- what is made of a value that is there, or not
module _ {X Y Z : Type 0} (view : X → Y) (make : Y → Z) (o : Option X) where
  pub made-some : (x : X) (seen : Option Y) → o ≡ Some x → option_map view o ≡ seen → Some (make (view x))
      ≡ option_map make seen
  made-some x seen is same = ap (option_map make) (sym (ap (option_map view) is) ∙ same)

  pub made-none : (seen : Option Y) → o ≡ None → option_map view o ≡ seen → None ≡ option_map make seen
  made-none seen is same = ap (option_map make) (sym (ap (option_map view) is) ∙ same)

-- a token that equals a word
pub is_word : (token word spelled : List ℕ) → true ≡ bytes_eq token word → word ≡ spelled → token ≡ spelled
is_word token word spelled same is = (bytes_eq-Decides token word).0 (sym same) ∙ is

-- nothing is left behind a word alone
pub none_left-more : {A : Type 0} (x : A) (line : List ℕ) → None ≡ none_left x (tokens_of line)
none_left-more x line = by_tokens (tokens_of line) (tokens_of-some line)
  where
    by_tokens : (tokens : List (List ℕ)) → (tokens ≡ [] → ⊥) → None ≡ none_left x tokens
    by_tokens [] some = absurd (some refl)
    by_tokens (token ∷ tokens) some = refl
