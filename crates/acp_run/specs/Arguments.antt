-- What the tokens behind a word say, each told by a function of its bytes.
use Rattle.std.specs.Prelude.{ℕ, List, [], ◌∷◌, Option, Some, None}

-- a value, where a token is left
abbrev pub some : {A : Type 0} → List (List ℕ) → Option A → Option A
some [] x = None
some (token ∷ tokens) x = x

-- a value, where no token is left
abbrev pub none_left : {A : Type 0} → A → List (List ℕ) → Option A
none_left x [] = Some x
none_left x (token ∷ tokens) = None

-- two values, where both are there
abbrev pub both_values : {A B : Type 0} → Option A → Option B → Option (A × B)
both_values (Some x) (Some y) = Some (x, y)
both_values (Some x) None = None
both_values None y = None

-- a value before others, where all are there
abbrev pub onto_all : {A : Type 0} → Option A → Option (List A) → Option (List A)
onto_all (Some x) (Some others) = Some (x ∷ others)
onto_all (Some x) None = None
onto_all None others = None

-- the values of all tokens
abbrev pub values : {A : Type 0} → (List ℕ → Option A) → List (List ℕ) → Option (List A)
values value [] = Some []
values value (token ∷ tokens) = onto_all (value token) (values value tokens)

-- the value of one token alone
abbrev pub only_value : {A : Type 0} → (List ℕ → Option A) → List (List ℕ) → Option A
only_value value [] = None
only_value value (token ∷ []) = value token
only_value value (token ∷ more ∷ tokens) = None

-- the values of two tokens alone
abbrev pub two_values : {A B : Type 0} → (List ℕ → Option A) → (List ℕ → Option B) → List (List ℕ) → Option (A × B)
two_values value other [] = None
two_values value other (first ∷ []) = None
two_values value other (first ∷ second ∷ []) = both_values (value first) (other second)
two_values value other (first ∷ second ∷ more ∷ tokens) = None

-- the values of tokens two by two, where their number is even
abbrev pub pairs : {A B : Type 0} → (List ℕ → Option A) → (List ℕ → Option B) → List (List ℕ) → Option (List (A × B))
pairs value other [] = Some []
pairs value other (first ∷ []) = None
pairs value other (first ∷ second ∷ tokens) =
    onto_all (both_values (value first) (other second)) (pairs value other tokens)

-- the value of a first token, and those of the others
abbrev pub value_and_others : {A B : Type 0} → (List ℕ → Option A) → (List ℕ → Option B) → List (List ℕ)
    → Option (A × List B)
value_and_others value other [] = None
value_and_others value other (first ∷ tokens) = both_values (value first) (values other tokens)
