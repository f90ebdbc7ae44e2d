-- What a log's list is with the digests that were read at some positions.
use Rattle.std.proofs.Common.{◌≡◌, ℕ, ◌<◌, ◌==◌, if◌then◌else◌, Bool, true, false, List, [], ◌∷◌, ◌++◌, length, get_or, Option, Some, None, arith, refl, ap, sym, ◌∙◌}
use Rattle.std.specs.Prelude.{unwrap_or}
use Rattle.std.proofs.lemmas.Bool.Decides.{nat_tests}
use Rattle.std.proofs.lemmas.List.{ext_get_or}
use Rattle.std.proofs.lemmas.List.FromFn.{length-map-range_with_len, get_or-map-range_with_len}
use Rattle.ark_paths.specs.Pair.{Digest}
use Rattle.merkle_log.specs.Stored.{position, stored_count, row_at}
use Rattle.merkle_log.specs.Walk.{index_up}
use Rattle.merkle_log.proofs.Positions.{place-within, position-within, row_of-at}
use Rattle.log_store.specs.Spots.{found, spotted, AreMore, AreSpotsOf, IsRead}
use Rattle.log_store.specs.declared.spots.Spot.{Spot}

same_test : (n : ℕ) → (n == n) ≡ true
same_test n = grind (arith, nat_tests)

is-place : (a b : ℕ) → (a == b) ≡ true → a ≡ b
is-place a b is = grind (arith, nat_tests)

-- ---- a digest behind those that were read

-- what was read is read still
found-more : (xs : List Spot) (spot : Spot) (at : ℕ) (digest : Digest) → found xs at ≡ Some digest
    → found (xs ++ (spot ∷ [])) at ≡ Some digest
found-more [] spot at digest is = absurd (cc)
found-more (x ∷ xs) spot at digest is = go (found-more xs spot at digest) (x.position == at) is
  where
    go : (found xs at ≡ Some digest → found (xs ++ (spot ∷ [])) at ≡ Some digest) → (here : Bool)
        → (if here then (Some x.digest) else (found xs at)) ≡ Some digest
        → (if here then (Some x.digest) else (found (xs ++ (spot ∷ [])) at)) ≡ Some digest
    go more true is = is
    go more false is = more is

pub read-more : (xs : List Spot) (spot : Spot) → AreMore xs (xs ++ (spot ∷ []))
read-more xs spot at read = (read.0, found-more xs spot at read.0 read.1)

-- and so is what comes
pub read-last : (xs : List Spot) (spot : Spot) → IsRead (xs ++ (spot ∷ [])) spot.position
read-last [] spot = (spot.digest, rw (same_test spot.position) refl)
read-last (x ∷ xs) spot = go (x.position == spot.position) (read-last xs spot)
  where
    go : (here : Bool) → IsRead (xs ++ (spot ∷ [])) spot.position → (digest : Digest)
        × ((if here then (Some x.digest) else (found (xs ++ (spot ∷ [])) spot.position)) ≡ Some digest)
    go true more = (x.digest, refl)
    go false more = more

own-at : (xs : List Spot) (spot : Spot) (digests : List Digest) (at : ℕ) (digest : Digest)
    → ((other : Digest) → found xs at ≡ Some other → other ≡ get_or digests at [])
    → spot.digest ≡ get_or digests spot.position [] → found (xs ++ (spot ∷ [])) at ≡ Some digest
    → digest ≡ get_or digests at []
own-at [] spot digests at digest own is told = go (spot.position == at) refl told
  where
    digest_in : Option Digest → Digest
    digest_in None = digest
    digest_in (Some other) = other

    go : (here : Bool) → (spot.position == at) ≡ here → (if here then (Some spot.digest) else None) ≡ Some digest
        → digest ≡ get_or digests at []
    go true test told = sym (ap digest_in told) ∙ is ∙ ap (λ n. get_or digests n []) (is-place spot.position at test)
    go false test told = absurd (cc)
own-at (x ∷ xs) spot digests at digest own is told =
    go (λ own told. own-at xs spot digests at digest own is told) (x.position == at) own told
  where
    go : (((other : Digest) → found xs at ≡ Some other → other ≡ get_or digests at [])
        → found (xs ++ (spot ∷ [])) at ≡ Some digest → digest ≡ get_or digests at [])
        → (here : Bool)
        → ((other : Digest) → (if here then (Some x.digest) else (found xs at)) ≡ Some other
        → other ≡ get_or digests at [])
        → (if here then (Some x.digest) else (found (xs ++ (spot ∷ [])) at)) ≡ Some digest
        → digest ≡ get_or digests at []
    go more true own told = own digest told
    go more false own told = more own told

pub own-more : (xs : List Spot) (spot : Spot) (digests : List Digest) → AreSpotsOf xs digests
    → spot.digest ≡ get_or digests spot.position [] → AreSpotsOf (xs ++ (spot ∷ [])) digests
own-more xs spot digests own is at digest told = own-at xs spot digests at digest (own at) is told

-- ---- the list

module _ (size : ℕ) (spots : List Spot) (digests : List Digest) where
  pub spotted-long : length (spotted size spots digests).digests ≡ stored_count size
  spotted-long = length-map-range_with_len (λ at. unwrap_or (found spots at) (get_or digests at [])) 0
      (stored_count size)

  spotted-at : (at : ℕ) → at < stored_count size → get_or (spotted size spots digests).digests at []
      ≡ unwrap_or (found spots at) (get_or digests at [])
  spotted-at at below = get_or-map-range_with_len (λ at. unwrap_or (found spots at) (get_or digests at [])) 0
      (stored_count size) at at [] below (omega arith)

  -- Each digest that was read stands in its place.
  pub spotted-held : (level place : ℕ) → place < index_up level size → IsRead spots (position level place)
      → found spots (position level place) ≡ Some (get_or (row_at (spotted size spots digests) level) place [])
  spotted-held level place below read =
      let within = position-within level place size (place-within level place size below) in
      read.1 ∙ ap Some (sym (row_of-at (spotted size spots digests) level place below
      ∙ spotted-at (position level place) within
      ∙ ap (λ o. unwrap_or o (get_or digests (position level place) [])) read.1))

  -- Where those are the list's own, everything is.
  pub spotted-own : length digests ≡ stored_count size → AreSpotsOf spots digests
      → (spotted size spots digests).digests ≡ digests
  spotted-own long own = ext_get_or [] (spotted size spots digests).digests digests (spotted-long ∙ sym long)
      (λ at below. spotted-at at (omega (arith, spotted-long)) ∙ by_found (found spots at) at (own at))
    where
      by_found : (o : Option Digest) (at : ℕ) → ((digest : Digest) → o ≡ Some digest → digest ≡ get_or digests at [])
          → unwrap_or o (get_or digests at []) ≡ get_or digests at []
      by_found None at own = refl
      by_found (Some digest) at own = own digest refl
