-- Stores that keep digests.
use Rattle.std.proofs.Common.{◌≡◌, refl, ap, sym, ◌∙◌, subst, Ok, Err, OnOk, OnErr, IfOk, List, [], Option}
use Rattle.ark_base.specs.Outcome.{Outcome, AnswersBy}
use Rattle.ark_base.specs.declared.error.Error.{Error}
use Rattle.ark_base.specs.Laws.Steps.{done_injective}
use Rattle.merkle_map.specs.Changes.{known_at, tree_without, with_value, Becomes}
use Rattle.merkle_map.specs.Kept.{IsKept}
use Rattle.merkle_map.specs.Map.{Digest, Entry, HaveSame, Key, MapHashes, value_at, without}
use Rattle.merkle_map.specs.Tree.{IsWhole, Shape, StandsAt}
use Rattle.merkle_map.specs.Whole.{IsStoreOf, entries_of}
use Rattle.merkle_map.specs.declared.part.Part.{Part}
use Rattle.merkle_map.proofs.Calls.{returned, without-follows}
use Rattle.merkle_map.proofs.Known.{known-shown}
use Rattle.merkle_map.proofs.Pruning.{whole-known}
use Rattle.merkle_map.proofs.Wholes.{plain, put-can, remove-can, stores, whole-shows}

-- A tree over two that keep right digests keeps right ones.
pub kept-above : {D : Type 0} (numbers : D → Digest) (result : Outcome (Part D)) (left right : Part D)
    → IfOk result (λ new. (h : MapHashes) → IsKept numbers h left → IsKept numbers h right → IsKept numbers h new)
    → ((h : MapHashes) → IsKept numbers h left) → ((h : MapHashes) → IsKept numbers h right)
    → IfOk result (λ new. (h : MapHashes) → IsKept numbers h new)
kept-above numbers (Ok new) left right made on_left on_right = λ h. made h (on_left h) (on_right h)
kept-above numbers (Err error) left right made on_left on_right = tt

-- What a store's tree has at a key, the map has.
pub store-found : (h : MapHashes) (s : Shape) (key : Key) → StandsAt [] s → IsWhole s
    → (found : Outcome (Option Digest)) → known_at 0 key s ≡ found → found ≡ Ok (value_at key (entries_of s))
store-found h s key stands whole (Ok value) is =
    ap Ok (sym (known-shown h key 0 s (entries_of s) value (whole-shows h [] 0 s refl whole stands) is))
store-found h s key stands whole (Err error) is =
    let known = rw (is) at (whole-known h 0 key s whole) in absurd cc

module _ (old new : Shape) (whole : IsWhole old) where
  pub put-whole : (own : Entry) (result : Outcome (Unit {0})) → AnswersBy (λ _. new) (with_value 0 own old) result
      → OnErr result (new ≡ old) → IsWhole new
  put-whole own (Ok x) is kept =
      let n = put-can own old whole in
      subst IsWhole (done_injective {E = Error} n.0 new (sym n.1 ∙ is)) n.2
  put-whole own (Err error) is kept = subst IsWhole (sym kept) whole

  pub without-whole : (key : Key) → ((nothing : Digest) → Becomes (tree_without nothing key old) new)
      → tree_without [] key old ≡ Ok new
  without-whole key is = let n = remove-can [] key old whole in
      n.1 ∙ ap Ok (let same = is [] in by_outcome (tree_without [] key old) n.0 n.1 same)
    where
      by_outcome : (o : Outcome Shape) (n : Shape) → o ≡ Ok n → Becomes o new → n ≡ new
      by_outcome (Ok s) n e same = sym (done_injective {E = Error} s n e) ∙ same
      by_outcome (Err error) n e same = absurd cc

  pub now-whole : (key : Key) → tree_without [] key old ≡ Ok new → IsWhole new
  now-whole key is =
      let n = remove-can [] key old whole in
      subst IsWhole (done_injective {E = Error} n.0 new (sym n.1 ∙ is)) n.2

  pub without-same : (key : Key) → StandsAt [] old → StandsAt [] new → tree_without [] key old ≡ Ok new
      → HaveSame (entries_of new) (without key (entries_of old))
  without-same key stands after is =
      (stores plain (without key) old new stands after (tree_without [] key old) returned (remove-can [] key old)
      is (without-follows plain key old new returned is) whole).0.same

pub same-of : {A : Type 0} (entries : List Entry) (new : Shape) (result : Outcome A)
    → OnOk result (IsStoreOf entries new) → OnOk result (HaveSame (entries_of new) entries)
same-of entries new (Ok x) is = is.same
same-of entries new (Err error) is = tt
