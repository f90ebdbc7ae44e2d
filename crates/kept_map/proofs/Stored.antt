-- What changed trees have.
use Rattle.std.proofs.Common.{◌≡◌, [], List, Some, None, Ok, refl, ap, sym, ◌∙◌, subst}
use Rattle.ark_base.specs.Outcome.{◌>>=◌}
use Rattle.merkle_map.specs.Changes.{is_there, known_at, losing, tree_without, with_value}
use Rattle.merkle_map.specs.Kept.{IsTreeOf}
use Rattle.merkle_map.specs.Map.{Digest, Entry, HaveSame, Key, put, value_at, without}
use Rattle.merkle_map.specs.Tree.{IsKey, Shape}
use Rattle.merkle_map.specs.Whole.{entries_of}
use Rattle.merkle_map.proofs.Entries.{absent-without}
use Rattle.merkle_map.proofs.Calls.{put-follows, put-stands, returned, there-losing, without-stands}
use Rattle.merkle_map.proofs.Keeping.{now-whole, store-found, without-same}
use Rattle.merkle_map.proofs.Wholes.{plain, put-can, stores, under}

-- A tree is that of its entries, and these have the same at each key as some map.
pub record HasOwn (xs : List Entry) (tree : Shape) : Type 0 where
  pub is : IsTreeOf (entries_of tree) tree
  pub same : HaveSame (entries_of tree) xs

pub put-has : (own : Entry) → IsKey own.key → (xs : List Entry) (old new : Shape) → IsTreeOf xs old
    → with_value 0 own old ≡ Ok new → HasOwn (put own.key own.value xs) new
put-has own own_key xs old new is made =
    let change = put own.key own.value in
    let stands = put-stands own own_key old new is.stands returned made tt in
    let stored = stores plain change old new is.stands stands (with_value 0 own old) returned (put-can own old) made
    (under plain change old new returned (put-follows own own_key old new is.stands returned made)) is.whole in
    record {
      is = record { stands = stands; whole = stored.0.whole; has = refl };
      same = subst (λ ys. HaveSame (entries_of new) (change ys)) is.has stored.0.same;
    }

pub without-has : (key : Key) (xs : List Entry) (old new : Shape) → IsTreeOf xs old
    → tree_without [] key old ≡ Ok new → HasOwn (without key xs) new
without-has key xs old new is made =
    let stands = without-stands [] key old new returned made tt is.stands in
    record {
      is = record { stands = stands; whole = now-whole old new is.whole key made; has = refl };
      same = subst (λ ys. HaveSame (entries_of new) (without key ys)) is.has
          (without-same old new is.whole key is.stands stands made);
    }

-- an entry that is there is lost
pub removed-has : (key : Key) (xs : List Entry) (old new : Shape) → IsTreeOf xs old → (value : Digest)
    → value_at key xs ≡ Some value → losing [] 0 key old ≡ Ok new → HasOwn (without key xs) new
removed-has key xs old new is value there made =
    let known : known_at 0 key old ≡ Ok (Some value) =
    store-found plain old key is.stands is.whole (known_at 0 key old) refl
    ∙ ap (λ ys. Ok (value_at key ys)) is.has ∙ ap (λ v. Ok v) there in
    without-has key xs old new is
    (there-losing [] key old (ap (λ o. o >>= λ value. Ok (is_there value)) known) ∙ made)

-- a map without what it has not is the same
pub absent-same : (key : Key) (xs : List Entry) → value_at key xs ≡ None → HaveSame xs (without key xs)
absent-same key xs none other = ap (value_at other) (sym (absent-without key xs none))
