-- Shamir's secret sharing over the numbers modulo a prime m.
use Rattle.std.specs.Prelude.{◌≡◌, ℕ, ◌+◌, ◌-◌, ◌*◌, ◌%◌, ◌^◌, ◌<◌, ◌==◌, if◌then◌else◌, List, [], ◌∷◌}
use Rattle.std.specs.Prelude.{map, length, get_or}
use Rattle.ark_signatures.specs.Schnorr.{response}
use Rattle.ark_signatures.specs.declared.secret_shares.Share.{Share}
use Rattle.ark_signatures.specs.declared.secret_shares.NoSecret.{NoSecret}
use Rattle.ark_signatures.specs.declared.secret_shares.NoSecret.TheVariants.{NoShares, ZeroPlace, SamePlace}

-- the value at x of the polynomial with these coefficients, the constant one first, by Horner's rule
abbrev pub polynomial_value : ℕ → List ℕ → ℕ → ℕ
polynomial_value m [] x = 0
polynomial_value m (c ∷ cs) x = (c + x * polynomial_value m cs x) % m

-- ---- shares

-- what contracts see of shares: of each its place and its value, as numbers
abbrev pub numbers_of_shares : {F : Type 0} → (F → ℕ) → List (Share F) → List (ℕ × ℕ)
numbers_of_shares value shares = map (λ share. (value share.place, value share.value)) shares

-- the places of shares
abbrev pub places_of : List (ℕ × ℕ) → List ℕ
places_of shares = map (λ share. share.0) shares

-- the places of shares of elements, as numbers
abbrev pub share_places : {F : Type 0} → (F → ℕ) → List (Share F) → List ℕ
share_places value shares = places_of (numbers_of_shares value shares)

-- each share is the value of the polynomial at its place
abbrev pub AreSharesOf : ℕ → List ℕ → List (ℕ × ℕ) → Type 0
AreSharesOf m coefficients [] = Unit {0}
AreSharesOf m coefficients (share ∷ shares) =
    (share.1 ≡ polynomial_value m coefficients share.0) × AreSharesOf m coefficients shares

-- the first places, as many as are asked for, are not 0, and no two of them are the same
pub record ArePlaces (places : List ℕ) (count : ℕ) : Type 0 where
  pub some : (j : ℕ) → j < count → get_or places j 0 ≡ 0 → ⊥
  pub different : (i j : ℕ) → i < j → j < count → get_or places i 0 ≡ get_or places j 0 → ⊥

-- shares with these places give a secret: there is one, no place is 0, and no two are the same
abbrev pub GiveSecret : List ℕ → Type 0
GiveSecret places = (0 < length places) × ArePlaces places (length places)

-- why shares with these places give no secret: there are none, or this is the first that is 0, or that stands before
abbrev pub IsWhyNoSecret : List ℕ → NoSecret → Type 0
IsWhyNoSecret places NoShares = length places ≡ 0
IsWhyNoSecret places (ZeroPlace j) = (j < length places) × (get_or places j 0 ≡ 0) × ArePlaces places j
IsWhyNoSecret places (SamePlace i j) =
    (i < j) × (j < length places) × (get_or places i 0 ≡ get_or places j 0) × ArePlaces places j

-- ---- Lagrange's interpolation, at 0

-- z / (z - x) for numbers below m: the divisor's inverse is its power m - 2 (Fermat)
unfoldable pub ratio : ℕ → ℕ → ℕ → ℕ
ratio m z x = z * (z + (m - x)) ^ (m - 2) % m

-- the product of z / (z - x) over the places z other than x
abbrev pub lagrange_weight : ℕ → List ℕ → ℕ → ℕ
lagrange_weight m [] x = 1
lagrange_weight m (z ∷ zs) x =
    if z == x then lagrange_weight m zs x else ratio m z x * lagrange_weight m zs x % m

-- the weight of a share, by the places of all shares
abbrev pub share_weight : {F : Type 0} → ℕ → (F → ℕ) → List (Share F) → Share F → ℕ
share_weight m value shares share = lagrange_weight m (share_places value shares) (value share.place)

-- the sum of value times weight over some shares, where all have these places
abbrev pub lagrange_sum : ℕ → List ℕ → List (ℕ × ℕ) → ℕ
lagrange_sum m places [] = 0
lagrange_sum m places (share ∷ shares) =
    (share.1 * lagrange_weight m places share.0 + lagrange_sum m places shares) % m

-- the value at 0 of the polynomial through the shares
abbrev pub value_at_zero : ℕ → List (ℕ × ℕ) → ℕ
value_at_zero m shares = lagrange_sum m (places_of shares) shares

-- ---- what fewer shares leave open

-- a secret is possible by shares if a polynomial with one coefficient more than there are shares has it, and them
abbrev pub EachSecretIsPossible : {F : Type 0} → ℕ → (F → ℕ) → Type 0
EachSecretIsPossible {F} m value = (shares : List (Share F)) (secret : F)
    → ArePlaces (share_places value shares) (length (share_places value shares))
    → (others : List F) × (length others ≡ length shares)
    × AreSharesOf m (map value (secret ∷ others)) (numbers_of_shares value shares)

-- two such polynomials with one secret have the same coefficients
abbrev pub OnePolynomialEach : {F : Type 0} → ℕ → (F → ℕ) → Type 0
OnePolynomialEach {F} m value = (shares : List (Share F)) (secret : F) (others those : List F)
    → ArePlaces (share_places value shares) (length (share_places value shares))
    → length others ≡ length shares → length those ≡ length shares
    → AreSharesOf m (map value (secret ∷ others)) (numbers_of_shares value shares)
    → AreSharesOf m (map value (secret ∷ those)) (numbers_of_shares value shares)
    → others ≡ those

-- ---- shares of responses

-- the coefficients k - x e of each two coefficients x and k
abbrev pub responses : ℕ → ℕ → List ℕ → List ℕ → List ℕ
responses m e [] ks = []
responses m e (x ∷ xs) [] = []
responses m e (x ∷ xs) (k ∷ ks) = response m x k e ∷ responses m e xs ks

-- the response to the values of two polynomials at a place is the value there of the polynomial of responses
abbrev pub ResponsesAreShares : ℕ → Type 0
ResponsesAreShares m = (e place : ℕ) (xs ks : List ℕ) → length xs ≡ length ks
    → response m (polynomial_value m xs place) (polynomial_value m ks place) e
    ≡ polynomial_value m (responses m e xs ks) place
