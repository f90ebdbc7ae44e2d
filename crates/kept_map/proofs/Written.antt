-- Bytes of trees that hide what keys do not need.
use Rattle.std.proofs.Common.{◌≡◌, ◌≢◌, ◌+◌, ◌*◌, ℕ, Bool, true, false, List, [], ◌∷◌, ◌++◌, length, take, Ok, Err, Result, OnOk, Some, None, if◌then◌else◌, refl, ap, sym, ◌∙◌, subst, append_assoc}
use Rattle.std.proofs.lemmas.Slice.Eq.{bytes_eq-Decides}
use Rattle.std.specs.Str.{bytes_eq}
use Rattle.ark_base.specs.Outcome.{Outcome, ◌>>=◌}
use Rattle.merkle_map.specs.Bytes.{IsOf32, spelled}
use Rattle.merkle_map.specs.Map.{Digest, Entry, Key, MapHashes}
use Rattle.merkle_map.specs.Changes.{known_at}
use Rattle.merkle_map.specs.Pruned.{IsAmong, covered, is_needed, keys_with, pruned}
use Rattle.merkle_map.specs.Tree.{Shape, Empty, One, Fork, Hidden, shape_digest}
use Rattle.merkle_map.specs.Whole.{entries_of}
use Rattle.merkle_map.proofs.Keeping.{store-found}
use Rattle.merkle_map.proofs.Pruning.{fork-made, prunes, prunes-known}
use Rattle.merkle_map.proofs.Reading.{reads-back}
use Rattle.merkle_map.proofs.Wholes.{root-of-store, whole-shows}
use Rattle.kept_map.specs.KeptMap.{KeepsMap, LaidAt, entry_in, left_at, right_at}
use Rattle.kept_map.specs.Many.{IsHiddenBy, IsShownAt, IsTreeFor, IsWritten, IsWrittenAt}
use Rattle.kept_map.specs.declared.head.Head.{Head}
use Rattle.kept_map.proofs.Climbing.{lies-one}
use Rattle.kept_map.proofs.Lies.{lies-fork, lies-nothing}
use Rattle.kept_map.proofs.Rising.{some-keys}
use Rattle.kept_map.proofs.UnderHeads.{lies-under}

-- what follows of a call that is done
pub done-on : {A E : Type 0} (result : Result A E) (P Q : Type 0) → (P → Q) → OnOk result P → OnOk result Q
done-on (Ok x) P Q on is = on is
done-on (Err e) P Q on is = tt

-- ---- pruned trees, by their tops

module _ (h : MapHashes) (level : ℕ) where
  pub pruned-empty : (keys : List Key) → pruned h false false level keys Empty ≡ Ok Empty
  pruned-empty [] = refl
  pruned-empty (key ∷ keys) = refl

  pub pruned-one : (keys : List Key) (entry : Entry) → pruned h false false level keys (One entry) ≡ Ok (One entry)
  pruned-one [] entry = refl
  pruned-one (key ∷ keys) entry = refl

  -- no key needs the top of a side
  needs-none : (own : List Key) (n : ℕ) (keys : List Key) (other : Shape) → is_needed false own n keys other ≡ false
  needs-none [] n keys other = refl
  needs-none (key ∷ own) n keys other = refl

  covered-fork : (left right : Shape) (digest : Digest) → shape_digest h (Fork left right) ≡ Ok digest
      → covered h (Fork left right) ≡ (if bytes_eq digest h.nothing
      then (covered h left >>= λ l. covered h right >>= λ r. Ok (Fork l r)) else Ok (Hidden digest))
  covered-fork left right digest is = ap (λ o. o >>= λ digest. if bytes_eq digest h.nothing
      then (covered h left >>= λ l. covered h right >>= λ r. Ok (Fork l r)) else Ok (Hidden digest)) is

  covered-hidden : (left right : Shape) (digest : Digest) → shape_digest h (Fork left right) ≡ Ok digest
      → digest ≢ h.nothing → covered h (Fork left right) ≡ Ok (Hidden digest)
  covered-hidden left right digest is other = covered-fork left right digest is
      ∙ by_test (bytes_eq digest h.nothing) refl
    where
      by_test : (t : Bool) → bytes_eq digest h.nothing ≡ t
          → (if t then (covered h left >>= λ l. covered h right >>= λ r. Ok (Fork l r)) else Ok (Hidden digest))
          ≡ Ok (Hidden digest)
      by_test true same = absurd (other ((bytes_eq-Decides digest h.nothing).0 same))
      by_test false same = refl

  covered-shown : (left right l r : Shape) (digest : Digest) → shape_digest h (Fork left right) ≡ Ok digest
      → digest ≡ h.nothing → covered h left ≡ Ok l → covered h right ≡ Ok r
      → covered h (Fork left right) ≡ Ok (Fork l r)
  covered-shown left right l r digest is same on_left on_right =
      let yes = (bytes_eq-Decides digest h.nothing).1 same in
      covered-fork left right digest is
      ∙ ap (λ t. if t then (covered h left >>= λ l. covered h right >>= λ r. Ok (Fork l r)) else Ok (Hidden digest)) yes
      ∙ ap (λ o. o >>= λ l. covered h right >>= λ r. Ok (Fork l r)) on_left ∙ ap (λ o. o >>= λ r. Ok (Fork l r))
      on_right

  -- a fork on a key's way, or with the digest of nothing
  pub pruned-fork : (keys : List Key) (left right l r : Shape)
      → (keys ≡ [] → (digest : Digest) × (shape_digest h (Fork left right) ≡ Ok digest) × (digest ≡ h.nothing))
      → pruned h false false (level + 1) (keys_with false level keys) left ≡ Ok l
      → pruned h false false (level + 1) (keys_with true level keys) right ≡ Ok r
      → pruned h false false level keys (Fork left right) ≡ Ok (Fork l r)
  pruned-fork [] left right l r shown on_left on_right =
      let at = shown refl in covered-shown left right l r at.0 at.1 at.2 on_left on_right
  pruned-fork (key ∷ keys) left right l r shown on_left on_right =
      let ks = key ∷ keys in
      let lows = keys_with false level ks in
      let highs = keys_with true level ks in
      fork-made h false false level ks lows highs (Fork left right) left right l r false false (some-keys key keys)
      refl refl refl
      (ap Ok (needs-none lows (level + 1) highs right)) (ap Ok (needs-none highs (level + 1) lows left)) on_left
      on_right

-- ---- what lies at a number is written

module _ (h : MapHashes) (entries forks : List (List ℕ)) (number : ℕ) (made : Shape → Outcome Shape) (old : List ℕ)
  where
    pub written-nothing : number ≡ 0 → made Empty ≡ Ok Empty
        → IsWrittenAt h entries forks number made old (old ++ 2 ∷ [])
    written-nothing e is = λ first count tree lies. record {
      shown = Empty;
      is = ap made (lies-nothing h (take first entries) forks count number tree e lies) ∙ is;
      sized = tt;
      bytes = refl;
    }

    pub written-entry : (k : ℕ) (new : List ℕ) → number ≡ 2 * k + 1
        → ((entry : Entry) → made (One entry) ≡ Ok (One entry))
        → IsOf32 (One (entry_in entries k)) → new ≡ old ++ spelled (One (entry_in entries k))
        → IsWrittenAt h entries forks number made old new
    written-entry k new e is sized spelt = λ first count tree lies. record {
      shown = One (entry_in entries k);
      is = ap made (lies-one h entries forks first count number k tree e lies) ∙ is (entry_in entries k);
      sized = sized;
      bytes = spelt;
    }

    -- a fork is written by its sides
    pub written-sides : (k : ℕ) → number ≡ 2 * k + 2 → (made_left made_right : Shape → Outcome Shape)
        → (mid new : List ℕ) → ((first count : ℕ) (left right l r : Shape)
        → LaidAt h (take first entries) forks count number (Fork left right) → made_left left ≡ Ok l
        → made_right right ≡ Ok r → made (Fork left right) ≡ Ok (Fork l r))
        → IsWrittenAt h entries forks (left_at forks k) made_left (old ++ 1 ∷ []) mid
        → IsWrittenAt h entries forks (right_at forks k) made_right mid new
        → IsWrittenAt h entries forks number made old new
    written-sides k e made_left made_right mid new is left right = λ first count tree lies.
        let it = lies-fork h (take first entries) forks count number k tree e lies in
        let l = left first k it.left it.on_left in
        let r = right first k it.right it.on_right in
        record {
          shown = Fork l.shown r.shown;
          is = ap made it.is ∙ is first count it.left it.right l.shown r.shown
              (subst (LaidAt h (take first entries) forks count number) it.is lies) l.is r.is;
          sized = (l.sized, r.sized);
          bytes = r.bytes ∙ ap (λ b. b ++ spelled r.shown) l.bytes
              ∙ append_assoc (old ++ 1 ∷ []) (spelled l.shown) (spelled r.shown)
              ∙ append_assoc old (1 ∷ []) (spelled l.shown ++ spelled r.shown);
        }

module _ (h : MapHashes) (entries forks : List (List ℕ)) (number level : ℕ) (keys : List Key) (old : List ℕ) (k : ℕ)
    (e : number ≡ 2 * k + 2) where
  pub written-hidden : (digest : Digest) (new : List ℕ) → IsHiddenBy h entries forks number keys (Some digest)
      → length digest ≡ 32 → new ≡ old ++ spelled (Hidden digest)
      → IsWrittenAt h entries forks number (pruned h false false level keys) old new
  written-hidden digest new hides long is = λ first count tree lies.
      let it = lies-fork h (take first entries) forks count number k tree e lies in
      record {
        shown = Hidden digest;
        is = ap (λ l. pruned h false false level l tree) hides.0 ∙ ap (covered h) it.is
            ∙ covered-hidden h level it.left it.right digest
            (ap (shape_digest h) (sym it.is) ∙ hides.1 first count tree lies) hides.2;
        sized = long;
        bytes = is;
      }

  pub written-fork : (mid new : List ℕ) (on_left on_right : List Key) → IsHiddenBy h entries forks number keys None
      → keys_with false level keys ≡ on_left → keys_with true level keys ≡ on_right
      → IsWrittenAt h entries forks (left_at forks k) (pruned h false false (level + 1) on_left) (old ++ 1 ∷ []) mid
      → IsWrittenAt h entries forks (right_at forks k) (pruned h false false (level + 1) on_right) mid new
      → IsWrittenAt h entries forks number (pruned h false false level keys) old new
  written-fork mid new on_left on_right shown lows highs =
      written-sides h entries forks number (pruned h false false level keys) old k e
      (pruned h false false (level + 1) on_left) (pruned h false false (level + 1) on_right) mid new
      (λ first count left right l r lies on_l on_r. pruned-fork h level keys left right l r
      (λ none. let at = shown none in (at.0, at.1 first count (Fork left right) lies, at.2))
      (ap (λ ks. pruned h false false (level + 1) ks left) lows ∙ on_l)
      (ap (λ ks. pruned h false false (level + 1) ks right) highs ∙ on_r))

-- ---- under a head

module _ (h : MapHashes) (entries forks : List (List ℕ)) (head : Head) (keys : List Key) (bytes : List ℕ)
    (written : IsWrittenAt h entries forks head.top (pruned h false false 0 keys) [] bytes) (xs : List Entry)
    (keeps : KeepsMap h entries forks head xs) where
  here : IsWritten (pruned h false false 0 keys keeps.tree) [] bytes
  here = written head.entries head.forks keeps.tree (lies-under h entries forks head xs keeps)

  pub tree-for : IsTreeFor h keys xs bytes
  tree-for = record {
    tree = keeps.tree;
    is = keeps.is;
    shown = here.shown;
    made = here.is;
    written = here.bytes;
  }

  pub shown-at : IsShownAt h (λ key. IsAmong key keys) xs bytes
  shown-at =
      let tree = keeps.tree in
      let whole = keeps.is.whole in
      let stands = keeps.is.stands in
      let copy = prunes h false 0 false [] keys tree here.shown here.is in
      subst (λ xs. IsShownAt h (λ key. IsAmong key keys) xs bytes) keeps.is.has (record {
        tree = here.shown;
        read = reads-back bytes here.shown (copy.stands stands) here.sized here.bytes;
        root = copy.digest ∙ sym (root-of-store h tree stands whole);
        known = λ key among. prunes-known h false 0 false keys key tree here.shown among here.is
            ∙ store-found h tree key stands whole (known_at 0 key tree) refl;
        shows = copy.shows (entries_of tree) (whole-shows h [] 0 tree refl whole stands);
      })
