-- The next entry of trees in memory.
use Rattle.std.proofs.Common.{◌≡◌, ◌⊎◌, ◌≤◌, ◌+◌, ◌*◌, ℕ, suc, Bool, true, false, Option, Some, None, is_some, MatchOption, Result, Ok, Err, IfOk, List, ◌∷◌, length, take, arith, refl, ap, sym, ◌∙◌, subst, inl, inr}
use Rattle.merkle_map.specs.Map.{Key, MapHashes, bit_of}
use Rattle.merkle_map.specs.Tree.{Shape, Empty, Fork, StandsAt, way, weight}
use Rattle.merkle_map.specs.Whole.{entries_of}
use Rattle.merkle_map.proofs.Keys.{length-way}
use Rattle.kept_map.specs.KeptMap.{entry_in, left_at, right_at}
use Rattle.merkle_map.specs.Order.{HasNoneFrom, IsFirstEntry, IsKeyBelow, IsNextEntry}
use Rattle.kept_map.specs.Order.{IsFirstAt, IsNextAt}
use Rattle.kept_map.proofs.Climbing.{lies-one}
use Rattle.kept_map.proofs.Lies.{AreSides, IsForkOf, lies-fork, lies-nothing, sides-stand}
use Rattle.kept_map.proofs.Ordered.{first-left, first-only, next-first, next-left, next-only, next-right, none-left, none-only, none-right}

-- what follows of a value follows of a result
pub ok-on : {A E : Type 0} (result : Result A E) (P Q : A → Type 0) → ((x : A) → P x → Q x) → IfOk result P
    → IfOk result Q
ok-on (Ok x) P Q on is = on x is
ok-on (Err e) P Q on is = tt

module _ (entries forks : List (List ℕ)) (number : ℕ) where
  -- ---- the first entry

  pub first-entry : (k : ℕ) → number ≡ 2 * k + 1 → IsFirstAt entries forks number k
  first-entry k e = λ h first count tree bits lies stands.
      subst (λ s. IsFirstEntry (entries_of s) (entry_in entries k)) (sym (lies-one h entries forks first count number k
      tree e lies))
      (first-only (entry_in entries k))

  pub first-on-right : (k place : ℕ) → number ≡ 2 * k + 2 → left_at forks k ≡ 0
      → IsFirstAt entries forks (right_at forks k) place → IsFirstAt entries forks number place
  first-on-right k place e none is = λ h first count tree bits lies stands.
      let it = lies-fork h (take first entries) forks count number k tree e lies in
      let sides = sides-stand (length bits) bits tree it.left it.right refl it.is stands in
      let empty = lies-nothing h (take first entries) forks k (left_at forks k) it.left none it.on_left in
      subst (λ s. IsFirstEntry (entries_of s) (entry_in entries place)) (sym (it.is ∙ ap (λ l. Fork l it.right) empty))
      (is h first k it.right (true ∷ bits) it.on_right sides.on_right)

  pub first-on-left : (k place : ℕ) → number ≡ 2 * k + 2 → IsFirstAt entries forks (left_at forks k) place
      → IsFirstAt entries forks number place
  first-on-left k place e is = λ h first count tree bits lies stands.
      let it = lies-fork h (take first entries) forks count number k tree e lies in
      let sides = sides-stand (length bits) bits tree it.left it.right refl it.is stands in
      subst (λ s. IsFirstEntry (entries_of s) (entry_in entries place)) (sym it.is)
      (first-left bits it.left it.right sides.within sides.on_left sides.on_right (entry_in entries place)
      (is h first k it.left (false ∷ bits) it.on_left sides.on_left))

  -- ---- the next entry

  module _ (level : ℕ) (from : Key) where
    pub next-nothing : number ≡ 0 → IsNextAt entries forks number level from None
    next-nothing e = λ h first count tree lies stands.
        subst (λ s. HasNoneFrom from (entries_of s)) (sym (lies-nothing h (take first entries) forks count number tree
        e lies))
        (λ other some. absurd cc)

    pub next-entry : (k : ℕ) → number ≡ 2 * k + 1 → ¬ IsKeyBelow (entry_in entries k).key from
        → IsNextAt entries forks number level from (Some k)
    next-entry k e reached = λ h first count tree lies stands.
        subst (λ s. IsNextEntry from (entries_of s) (entry_in entries k))
        (sym (lies-one h entries forks first count number k tree e lies)) (next-only from (entry_in entries k) reached)

    pub next-no_entry : (k : ℕ) → number ≡ 2 * k + 1 → IsKeyBelow (entry_in entries k).key from
        → IsNextAt entries forks number level from None
    next-no_entry k e below = λ h first count tree lies stands.
        subst (λ s. HasNoneFrom from (entries_of s)) (sym (lies-one h entries forks first count number k tree e lies))
        (none-only from (entry_in entries k) below)

    -- the key's way goes on with a bit
    here : (b : Bool) → bit_of level from ≡ b → way (suc (length (way level from))) from ≡ b ∷ way level from
    here b bit = subst (λ n. way (suc n) from ≡ b ∷ way level from) (sym (length-way level from))
        (ap (λ b. b ∷ way level from) bit)

    side-on : (b : Bool) (side : Shape) → bit_of level from ≡ b → StandsAt (b ∷ way level from) side
        → StandsAt (way (level + 1) from) side
    side-on b side bit stands =
        let next : suc level ≡ level + 1 = omega arith in
        subst (λ n. StandsAt (way n from) side) next
        (subst (λ c. StandsAt (c ∷ way level from) side) (sym bit) stands)

    -- what was found in a tree
    abbrev Found : Shape → Option ℕ → Type 0
    Found tree found = MatchOption found (HasNoneFrom from (entries_of tree))
        (λ place. IsNextEntry from (entries_of tree) (entry_in entries place))

    pub next-on-right : (k : ℕ) (found : Option ℕ) → number ≡ 2 * k + 2 → bit_of level from ≡ true
        → IsNextAt entries forks (right_at forks k) (level + 1) from found
        → IsNextAt entries forks number level from found
    next-on-right k found e bit is = λ h first count tree lies stands.
        let it = lies-fork h (take first entries) forks count number k tree e lies in
        let sides = sides-stand (length (way level from)) (way level from) tree it.left it.right refl it.is stands in
        subst (λ s. Found s found) (sym it.is)
        (by_found it.left it.right sides found (is h first k it.right it.on_right
        (side-on true it.right bit sides.on_right)))
      where
        by_found : (left right : Shape) → AreSides (length (way level from)) (way level from) left right
            → (found : Option ℕ) → Found right found → Found (Fork left right) found
        by_found left right sides None none =
            none-right (way level from) left right sides.within sides.on_left sides.on_right from (here true bit) none
        by_found left right sides (Some place) next =
            next-right (way level from) left right sides.within sides.on_left sides.on_right from (here true bit)
            (entry_in entries place) next

    pub next-on-left : (k : ℕ) (found : Option ℕ) → number ≡ 2 * k + 2 → bit_of level from ≡ false
        → (is_some found ≡ true) ⊎ (right_at forks k ≡ 0)
        → IsNextAt entries forks (left_at forks k) (level + 1) from found
        → IsNextAt entries forks number level from found
    next-on-left k found e bit enough is = λ h first count tree lies stands.
        let it = lies-fork h (take first entries) forks count number k tree e lies in
        let sides = sides-stand (length (way level from)) (way level from) tree it.left it.right refl it.is stands in
        subst (λ s. Found s found) (sym it.is)
        (by_found it.left it.right sides
        (λ none. lies-nothing h (take first entries) forks k (right_at forks k) it.right none it.on_right)
        found enough (is h first k it.left it.on_left (side-on false it.left bit sides.on_left)))
      where
        by_found : (left right : Shape) → AreSides (length (way level from)) (way level from) left right
            → (right_at forks k ≡ 0 → right ≡ Empty)
            → (found : Option ℕ) → (is_some found ≡ true) ⊎ (right_at forks k ≡ 0) → Found left found
            → Found (Fork left right) found
        by_found left right sides empty None (inl some) none = absurd cc
        by_found left right sides empty None (inr no_right) none =
            none-left (way level from) left right sides.within sides.on_left sides.on_right from (here false bit)
            (empty no_right) none
        by_found left right sides empty (Some place) enough next =
            next-left (way level from) left right sides.within sides.on_left sides.on_right from (here false bit)
            (entry_in entries place) next

    pub next-across : (k place : ℕ) (found : Option ℕ) → number ≡ 2 * k + 2 → bit_of level from ≡ false
        → is_some found ≡ false → IsNextAt entries forks (left_at forks k) (level + 1) from found
        → IsFirstAt entries forks (right_at forks k) place
        → IsNextAt entries forks number level from (Some place)
    next-across k place found e bit unfound is first_is = λ h first count tree lies stands.
        let it = lies-fork h (take first entries) forks count number k tree e lies in
        let sides = sides-stand (length (way level from)) (way level from) tree it.left it.right refl it.is stands in
        subst (λ s. Found s (Some place)) (sym it.is)
        (next-first (way level from) it.left it.right sides.within sides.on_left sides.on_right from (here false bit)
        (entry_in entries place)
        (by_none it.left found unfound (is h first k it.left it.on_left (side-on false it.left bit sides.on_left)))
        (first_is h first k it.right (true ∷ way level from) it.on_right sides.on_right))
      where
        by_none : (left : Shape) (found : Option ℕ) → is_some found ≡ false → Found left found
            → HasNoneFrom from (entries_of left)
        by_none left None unfound none = none
        by_none left (Some place) unfound next = absurd cc

-- a fork has more than nothing
pub right-there : (h : MapHashes) (entries forks : List (List ℕ)) (count k : ℕ) (tree : Shape)
    → (it : IsForkOf h entries forks count k tree) → 2 ≤ weight it.left + weight it.right → left_at forks k ≡ 0
    → ¬ (right_at forks k ≡ 0)
right-there h entries forks count k tree it weighs no_left no_right =
    let left = ap weight (lies-nothing h entries forks k (left_at forks k) it.left no_left it.on_left) in
    let right = ap weight (lies-nothing h entries forks k (right_at forks k) it.right no_right it.on_right) in
    omega (arith, weighs, left, right)
