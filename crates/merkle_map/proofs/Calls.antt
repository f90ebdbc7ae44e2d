-- What calls on whole trees show.
use Rattle.std.proofs.Common.{◌≡◌, Bool, true, false, [], Option, Some, None, Ok, Err, IfOk, OnOk, OnErr, refl, ap, sym, ◌∙◌, subst, arith}
use Rattle.std.specs.Str.{bytes_eq}
use Rattle.std.proofs.lemmas.Slice.Eq.{bytes_eq-Decides}
use Rattle.ark_base.specs.declared.error.Error.{Error}
use Rattle.ark_base.specs.Outcome.{Outcome, ◌>>=◌, AnswersBy, Answers}
use Rattle.ark_base.specs.Laws.Steps.{bind_ok, done_injective}
use Rattle.merkle_map.specs.Map.{Key, Digest, Entry, MapHashes, put, without}
use Rattle.merkle_map.specs.Tree.{Shape, Empty, One, Fork, Hidden, shape_digest, Shows, IsKey, StandsAt}
use Rattle.merkle_map.specs.Changes.{with_value, losing, known_at, tree_without, losing_known, hides, has_entry, is_there, Becomes}
use Rattle.merkle_map.specs.Rests.{rest_of, is_hidden_rest}
use Rattle.merkle_map.specs.Parts.{found_seen, value_seen}
use Rattle.merkle_map.specs.Shown.{BindsTree, Follows, FollowsBy, Has, has_digest}
use Rattle.merkle_map.proofs.Entries.{absent-without}
use Rattle.merkle_map.proofs.Known.{known-shown}
use Rattle.merkle_map.proofs.Rest.{IsSeen, seen-losing, losing-hides}
use Rattle.merkle_map.proofs.Putting.{with-shows}
use Rattle.merkle_map.proofs.Take.{losing-shows}
use Rattle.merkle_map.proofs.Stands.{with-stands, losing-stands}
use Rattle.merkle_map.proofs.Shows.{shows-or_collides}

-- ---- get

pub found-has : {A : Type 0} (numbers : A → Digest) (shape : Shape) (key : Key) (result : Outcome (Option A))
    → known_at 0 key shape ≡ found_seen numbers result
    → IfOk result (λ found. Has shape key (value_seen numbers found))
found-has numbers shape key (Ok found) e =
    λ h entries shown. known-shown h key 0 shape entries (value_seen numbers found) shown e
found-has numbers shape key (Err error) e = tt

-- ---- insert

module _ (own : Entry) (own_key : IsKey own.key) (old new : Shape) (stands : StandsAt [] old) where
  pub put-stands : (result : Outcome (Unit {0})) → AnswersBy (λ _. new) (with_value 0 own old) result
      → OnErr result (new ≡ old) → StandsAt [] new
  put-stands (Ok x) is kept = with-stands own own_key 0 old new (omega arith) stands is
  put-stands (Err error) is kept = subst (StandsAt []) (sym kept) stands

  pub put-follows : (result : Outcome (Unit {0})) → AnswersBy (λ _. new) (with_value 0 own old) result
      → OnOk result (Follows (put own.key own.value) old new)
  put-follows (Ok x) is =
      λ h entries map shown. with-shows h own own_key 0 old new entries (omega arith) stands is map shown
  put-follows (Err error) is = tt

-- ---- remove

pub known_rest : (o : Outcome Shape) → is_hidden_rest (rest_of o) ≡ false → (new : Shape) → Becomes o new → o ≡ Ok new
known_rest (Ok s) e new is = ap Ok is
known_rest (Err error) e new is = absurd cc

-- an entry that is there is lost
pub there-losing : (nothing : Digest) (key : Key) (old : Shape) → has_entry key old ≡ Ok true
    → tree_without nothing key old ≡ losing nothing 0 key old
there-losing nothing key old e = by_known (known_at 0 key old) e
  where
    by_known : (o : Outcome (Option Digest)) → (o >>= λ value. Ok (is_there value)) ≡ Ok true
        → (o >>= losing_known nothing key old) ≡ losing nothing 0 key old
    by_known (Ok None) e = let no = done_injective {E = Error} false true e in absurd cc
    by_known (Ok (Some value)) e = refl
    by_known (Err error) e = absurd cc

-- what is not there leaves the tree
absent_known : (key : Key) (old : Shape) → has_entry key old ≡ Ok false → known_at 0 key old ≡ Ok None
absent_known key old e = by_known (known_at 0 key old) e
  where
    by_known : (o : Outcome (Option Digest)) → (o >>= λ value. Ok (is_there value)) ≡ Ok false → o ≡ Ok None
    by_known (Ok None) e = refl
    by_known (Ok (Some value)) e = let no = done_injective {E = Error} true false e in absurd cc
    by_known (Err error) e = absurd cc

pub absent-followed : (key : Key) (old : Shape) → has_entry key old ≡ Ok false → Follows (without key) old old
absent-followed key old e = λ h entries map shown.
    let none = known-shown h key 0 old entries None shown (absent_known key old e) in
    subst (λ es. Shows h 0 old es) (sym (absent-without key entries none)) shown

-- what is hidden decides: the error is that
pub unknown_losing : (nothing : Digest) (key : Key) (old : Shape)
    → is_hidden_rest (rest_of (losing nothing 0 key old)) ≡ true
    → losing nothing 0 key old ≡ Err hides
unknown_losing nothing key old e = by_outcome (losing nothing 0 key old) (seen-losing nothing 0 key old)
    (losing-hides nothing 0 key old) e
  where
    by_outcome : (o : Outcome Shape) → IsSeen o → ((error : Error) → o ≡ Err error → error ≡ hides)
        → is_hidden_rest (rest_of o) ≡ true → o ≡ Err hides
    by_outcome (Ok Empty) seen why e = absurd cc
    by_outcome (Ok (One entry)) seen why e = absurd cc
    by_outcome (Ok (Fork left right)) seen why e = absurd cc
    by_outcome (Ok (Hidden digest)) seen why e = absurd seen
    by_outcome (Err error) seen why e = ap (λ (x : Error). Err x) (why error refl)

-- a call that returned
abbrev pub returned : Outcome (Unit {0})
returned = Ok (tt {0})

-- a tree without a key shows the maps without it, and stands where it stood
module _ (h : MapHashes) (key : Key) (old new : Shape) where
  pub without-follows : {A : Type 0} (result : Outcome A)
      → AnswersBy (λ _. new) (tree_without h.nothing key old) result
      → OnOk result (FollowsBy h (without key) old new)
  without-follows (Err error) e = tt
  without-follows (Ok x) e = by_known (known_at 0 key old) refl e
    where
      by_known : (o : Outcome (Option Digest)) → known_at 0 key old ≡ o
          → (o >>= losing_known h.nothing key old) ≡ Ok new → FollowsBy h (without key) old new
      by_known (Ok None) is e =
          subst (FollowsBy h (without key) old) (done_injective {E = Error} old new e)
          (absent-followed key old (ap (λ o. o >>= λ value. Ok (is_there value)) is) h)
      by_known (Ok (Some value)) is e = λ entries map shown. losing-shows h 0 key old new entries e shown
      by_known (Err error) is e = absurd cc

module _ (nothing : Digest) (key : Key) (old new : Shape) where
  pub without-stands : {A : Type 0} (result : Outcome A) → AnswersBy (λ _. new) (tree_without nothing key old) result
      → OnErr result (new ≡ old) → StandsAt [] old → StandsAt [] new
  without-stands (Err error) e same stands = subst (StandsAt []) (sym same) stands
  without-stands (Ok x) e same stands = by_known (known_at 0 key old) e
    where
      by_known : (o : Outcome (Option Digest)) → (o >>= losing_known nothing key old) ≡ Ok new → StandsAt [] new
      by_known (Ok None) e = subst (StandsAt []) (done_injective {E = Error} old new e) stands
      by_known (Ok (Some value)) e = losing-stands nothing [] 0 key old new stands e
      by_known (Err error) e = absurd cc

-- ---- roots

pub same_root : (h : MapHashes) (root : Digest) (shape : Shape) (result : Outcome Bool)
    → Answers (has_digest h root shape) result → IfOk result (λ accepted. accepted ≡ true → BindsTree h root shape)
same_root h root shape (Err error) e = tt
same_root h root shape (Ok accepted) e = λ yes entries tree.
    let digest = bind_ok (shape_digest h shape) _ accepted e in
    let same = (bytes_eq-Decides digest.0 root).0 (done_injective {E = Error}
    (bytes_eq digest.0 root) accepted digest.2 ∙ yes) in
    shows-or_collides h 0 shape entries root (digest.1 ∙ ap Ok same) tree
