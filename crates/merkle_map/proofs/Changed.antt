-- Maps and trees that change step by step.
use Rattle.std.proofs.Common.{suc, ◌≡◌, ℕ, ◌+◌, ◌<◌, Bool, true, List, [], ◌∷◌, ◌++◌, length, map, take, drop, get_or, Ok, Err, IfOk, arith, refl, ap, sym, ◌∙◌, subst, inl, inr}
use Rattle.std.proofs.Math.Seq.{take-suc}
use Rattle.std.proofs.lemmas.List.{map-append, take-append-drop}
use Rattle.std.proofs.lemmas.Slice.Eq.{bytes_eq-Decides}
use Rattle.std.specs.Str.{bytes_eq}
use Rattle.ark_base.specs.declared.error.Error.{Error}
use Rattle.ark_base.specs.Outcome.{Outcome, ◌>>=◌, Answers}
use Rattle.ark_base.specs.Laws.Steps.{bind_ok, done_injective}
use Rattle.merkle_map.specs.Map.{Digest, Entry, MapHashes, IsMap}
use Rattle.merkle_map.specs.Tree.{Shape, shape_digest, Shows}
use Rattle.merkle_map.specs.Shown.{BindsTree, FollowsBy, has_digest}
use Rattle.merkle_map.specs.Transition.{ChangeSeen, Puts, Removes, changed_by, changed_by_all, tree_after, tree_after_all, LeadsOn, LeadsTo}
use Rattle.merkle_map.proofs.Entries.{map-put, map-without}
use Rattle.merkle_map.proofs.Shows.{shows-digest}

changed-map : (change : ChangeSeen) (entries : List Entry) → IsMap entries → IsMap (changed_by change entries)
changed-map (Puts key value) entries is = map-put key value entries is
changed-map (Removes key) entries is = map-without key entries is

changed-all-map : (changes : List ChangeSeen) (entries : List Entry) → IsMap entries
    → IsMap (changed_by_all changes entries)
changed-all-map [] entries is = is
changed-all-map (change ∷ changes) entries is =
    changed-all-map changes (changed_by change entries) (changed-map change entries is)

changed-more : (xs : List ChangeSeen) (x : ChangeSeen) (entries : List Entry)
    → changed_by_all (xs ++ x ∷ []) entries ≡ changed_by x (changed_by_all xs entries)
changed-more [] x entries = refl
changed-more (y ∷ xs) x entries = changed-more xs x (changed_by y entries)

-- ---- trees

after-all : (h : MapHashes) (xs ys : List ChangeSeen) (tree : Shape)
    → tree_after_all h.nothing (xs ++ ys) tree ≡ (tree_after_all h.nothing xs tree >>= tree_after_all h.nothing ys)
after-all h [] ys tree = refl
after-all h (x ∷ xs) ys tree = by_first (tree_after h.nothing x tree) (λ s. after-all h xs ys s)
  where
    by_first : (o : Outcome Shape) → ((s : Shape)
        → tree_after_all h.nothing (xs ++ ys) s ≡ (tree_after_all h.nothing xs s >>= tree_after_all h.nothing ys))
        → (o >>= tree_after_all h.nothing (xs ++ ys))
        ≡ ((o >>= tree_after_all h.nothing xs) >>= tree_after_all h.nothing ys)
    by_first (Ok s) ih = ih s
    by_first (Err e) ih = refl

-- The changes so far were made.
pub record IsMade (h : MapHashes) (first now : Shape) (changes : List ChangeSeen) : Type 0 where
  pub tree : tree_after_all h.nothing changes first ≡ Ok now
  pub maps : FollowsBy h (changed_by_all changes) first now

module _ {A : Type 0} (h : MapHashes) (seen : A → ChangeSeen) (items : List A) (first : Shape) where
  pub made-none : IsMade h first first (map seen (take 0 items))
  made-none = record { tree = refl; maps = λ entries map shown. shown }

  module _ (i : ℕ) (item : A) (before : Shape) (inside : i < length items) (is : item ≡ get_or items i item)
      (so_far : IsMade h first before (map seen (take i items))) where
    front : map seen (take (i + 1) items) ≡ map seen (take i items) ++ seen item ∷ []
    front = let more : i + 1 ≡ suc i = omega arith in
        ap (λ k. map seen (take k items)) more ∙ ap (map seen) (take-suc items i item inside)
        ∙ map-append seen (take i items) (get_or items i item ∷ [])
        ∙ ap (λ x. map seen (take i items) ++ seen x ∷ []) (sym is)

    single : (o : Outcome Shape) → (o >>= tree_after_all h.nothing []) ≡ o
    single (Ok s) = refl
    single (Err e) = refl

    next : tree_after_all h.nothing (map seen (take (i + 1) items)) first ≡ tree_after h.nothing (seen item) before
    next = ap (λ l. tree_after_all h.nothing l first) front
        ∙ after-all h (map seen (take i items)) (seen item ∷ []) first
        ∙ ap (λ o. o >>= tree_after_all h.nothing (seen item ∷ [])) so_far.tree
        ∙ single (tree_after h.nothing (seen item) before)

    -- one change more
    pub made-next : (new : Shape) → tree_after h.nothing (seen item) before ≡ Ok new
        → FollowsBy h (changed_by (seen item)) before new
        → IsMade h first new (map seen (take (i + 1) items))
    made-next new tree_is follows = record {
      tree = next ∙ tree_is;
      maps = λ entries is_map shown.
          let now = so_far.maps entries is_map shown in
          let e : changed_by_all (map seen (take (i + 1) items)) entries
          ≡ changed_by (seen item) (changed_by_all (map seen (take i items)) entries) =
          ap (λ l. changed_by_all l entries) front ∙ changed-more (map seen (take i items)) (seen item) entries in
          subst (Shows h 0 new) (sym e) (follows (changed_by_all (map seen (take i items)) entries)
          (changed-all-map (map seen (take i items)) entries is_map) now);
    }

    -- the error of one change is that of all
    pub made-error : (error : Error) → tree_after h.nothing (seen item) before ≡ Err error
        → tree_after_all h.nothing (map seen items) first ≡ Err error
    made-error error e =
        let whole : map seen items ≡ map seen (take (i + 1) items) ++ map seen (drop (i + 1) items) =
        ap (map seen) (sym (take-append-drop (i + 1) items))
        ∙ map-append seen (take (i + 1) items) (drop (i + 1) items) in
        ap (λ l. tree_after_all h.nothing l first) whole
        ∙ after-all h (map seen (take (i + 1) items)) (map seen (drop (i + 1) items)) first
        ∙ ap (λ o. o >>= tree_after_all h.nothing (map seen (drop (i + 1) items))) (next ∙ e)

-- ---- roots

pub leads : (h : MapHashes) (old new : Digest) (changes : List ChangeSeen) (first after : Shape) (result : Outcome Bool)
    → BindsTree h old first → FollowsBy h (changed_by_all changes) first after → Answers (has_digest h new after) result
    → IfOk result (λ accepted. accepted ≡ true → LeadsTo h old new first changes)
leads h old new changes first after (Err error) binds follows e = tt
leads h old new changes first after (Ok accepted) binds follows e = λ yes entries is_map is_old.
    let digest = bind_ok (shape_digest h after) _ accepted e in
    let same = (bytes_eq-Decides digest.0 new).0 (done_injective {E = Error}
    (bytes_eq digest.0 new) accepted digest.2 ∙ yes) in
    elim (binds entries is_old) [
      | inr found ↦ inr found
      | inl shown ↦ inl (shows-digest h 0 after (changed_by_all changes entries) (follows entries is_map shown)
          ∙ digest.1 ∙ ap Ok same)
    ]

pub leads-on : (h : MapHashes) (old : Digest) (changes : List ChangeSeen) (first after : Shape) → BindsTree h old first
    → FollowsBy h (changed_by_all changes) first after → LeadsOn h old first changes after
leads-on h old changes first after binds follows = λ root is entries is_map is_old.
    elim (binds entries is_old) [
      | inr found ↦ inr found
      | inl shown ↦ inl (shows-digest h 0 after (changed_by_all changes entries) (follows entries is_map shown) ∙ is)
    ]
