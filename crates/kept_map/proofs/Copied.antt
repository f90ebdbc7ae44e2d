-- What is copied, part by part, and what room that takes.
use Rattle.std.proofs.Common.{◌≡◌, ℕ, ◌+◌, ◌*◌, ◌<◌, ◌≤◌, List, ◌++◌, length, take, set, arith, refl, ap, sym, ◌∙◌, subst, length-set}
use Rattle.std.proofs.lemmas.List.{length-take-le}
use Rattle.merkle_map.specs.Changes.{entry_of}
use Rattle.merkle_map.specs.Map.{Entry, MapHashes}
use Rattle.merkle_map.specs.Tree.{Shape, Empty, One, Fork, shape_digest}
use Rattle.merkle_map.specs.Whole.{entries_of}
use Rattle.kept_map.specs.declared.head.Head.{Head}
use Rattle.kept_map.specs.Copied.{HasRoomFor, IsBehind, IsCopied}
use Rattle.kept_map.specs.KeptMap.{IsKeptFor, LaidAt, kept_digest, left_at, right_at}
use Rattle.kept_map.proofs.Copying.{ForkBelow, counted, still-lies}
use Rattle.kept_map.proofs.Frames.{lies-kept}
use Rattle.kept_map.proofs.Heads.{entry-written, with_entry}

-- ---- room

pub full-entry : (entries forks : List (List ℕ)) (to : Head) (tree : Shape) (entry : Entry) → tree ≡ One entry
    → HasRoomFor entries forks to tree → length entries ≤ to.entries → ⊥
full-entry entries forks to tree entry is room full =
    let one = ap (λ t. length (entries_of t)) is in
    let r = room.0 in
    omega (arith, one, r, full)

module _ (h : MapHashes) (from_entries from_forks : List (List ℕ)) (k level : ℕ) (tree : Shape)
    (fork : ForkBelow h from_entries from_forks k level tree) where
  pub room-left : (entries forks : List (List ℕ)) (to : Head) → HasRoomFor entries forks to tree
      → HasRoomFor entries forks to fork.at.left
  room-left entries forks to room =
      let c = counted tree fork.at.left fork.at.right fork.at.is in
      let c0 = c.0 in
      let c1 = c.1 in
      let r0 = room.0 in
      let r1 = room.1 in
      (omega (arith, c0, r0), omega (arith, c1, r1))

  module _ (entries forks next next_forks : List (List ℕ)) (to middle : Head) (left : ℕ)
      (copied : IsCopied h next next_forks to middle left fork.at.left)
      (e_long : length next ≡ length entries) (f_long : length next_forks ≡ length forks) where
    pub room-right : HasRoomFor entries forks to tree → HasRoomFor next next_forks middle fork.at.right
    room-right room =
        let c = counted tree fork.at.left fork.at.right fork.at.is in
        let c0 = c.0 in
        let c1 = c.1 in
        let r0 = room.0 in
        let r1 = room.1 in
        let e = copied.entry_count in
        let f = copied.forks_count in
        (omega (arith, c0, r0, e, e_long), omega (arith, c1, r1, f, f_long))

    pub full-fork : (last last_forks : List (List ℕ)) (newer : Head) (right : ℕ)
        → IsCopied h last last_forks middle newer right fork.at.right → length last_forks ≡ length next_forks
        → length last_forks ≤ newer.forks → HasRoomFor entries forks to tree → ⊥
    full-fork last last_forks newer right then long full room =
        let c = (counted tree fork.at.left fork.at.right fork.at.is).1 in
        let r = room.1 in
        let f = copied.forks_count in
        let g = then.forks_count in
        omega (arith, c, r, f, g, long, full, f_long)

-- ---- what is copied

pub copied-nothing : (h : MapHashes) (entries forks : List (List ℕ)) (to : Head) (tree : Shape) → tree ≡ Empty
    → IsCopied h entries forks to to 0 tree
copied-nothing h entries forks to tree is =
    subst (IsCopied h entries forks to to 0) (sym is) (record {
      lies = refl;
      entry_count = omega arith;
      forks_count = omega arith;
    })

module _ (h : MapHashes) (entries now forks : List (List ℕ)) (to newer : Head) (key value : List ℕ)
    (long : length key ≡ 32) (room : to.entries < length entries) where
  pub copied-entry : (tree : Shape) → tree ≡ One (entry_of key value) → now ≡ set entries to.entries (key ++ value)
      → newer.entries ≡ to.entries + 1 → newer.forks ≡ to.forks → (number : ℕ) → number ≡ 2 * to.entries + 1
      → IsCopied h now forks to newer number tree
  copied-entry tree is written one same number at =
      let front : take newer.entries now ≡ with_entry entries to.entries key value long room =
      ap (λ n. take n now) one ∙ ap (take (to.entries + 1)) written in
      let size = length-with_entry in
      subst (IsCopied h now forks to newer number) (sym is) (record {
        lies = subst (λ l. LaidAt h l forks newer.forks number (One (entry_of key value))) (sym front)
            (to.entries, at, omega (arith, size), entry-written entries to.entries key value long room);
        entry_count = omega (arith, one);
        forks_count = omega (arith, same);
      })
    where
      length-with_entry : length (with_entry entries to.entries key value long room) ≡ to.entries + 1
      length-with_entry =
          let all = length-set entries to.entries (key ++ value) in
          length-take-le (to.entries + 1) (set entries to.entries (key ++ value)) (omega (arith, room, all))

-- a fork over what was copied
module _ (h : MapHashes) (from_entries from_forks : List (List ℕ)) (k level : ℕ) (tree : Shape)
    (fork : ForkBelow h from_entries from_forks k level tree) (next next_forks last last_forks : List (List ℕ)) where
  module _ (to middle newer : Head) (left right : ℕ) (on_left : IsCopied h next next_forks to middle left fork.at.left)
      (on_right : IsCopied h last last_forks middle newer right fork.at.right)
      (behind : IsBehind middle newer next last next_forks last_forks) (room : newer.entries ≤ length last) where
    pub copied-fork : (forks : List (List ℕ)) (number : ℕ) → take newer.forks forks ≡ take newer.forks last_forks
        → kept_digest forks newer.forks ≡ kept_digest from_forks k → left_at forks newer.forks ≡ left
        → right_at forks newer.forks ≡ right → number ≡ 2 * newer.forks + 2
        → (newest : Head) → newest.entries ≡ newer.entries → newest.forks ≡ newer.forks + 1
        → IsCopied h last forks to newest number tree
    copied-fork forks number before digest l r at newest e f =
        let c = counted tree fork.at.left fork.at.right fork.at.is in
        let c0 = c.0 in
        let c1 = c.1 in
        let a0 = on_left.entry_count in
        let a1 = on_left.forks_count in
        let b0 = on_right.entry_count in
        let b1 = on_right.forks_count in
        let count = newer.forks in
        let all = take newer.entries last in
        let left_now = still-lies h middle newer next last next_forks last_forks behind room left fork.at.left
        on_left.lies in
        record {
          lies = subst (λ n. LaidAt h (take n last) forks newest.forks number tree) (sym e)
              (subst (LaidAt h all forks newest.forks number) (sym fork.at.is) (
                count,
                at,
                omega (arith, f),
                subst (IsKeptFor (shape_digest h (Fork fork.at.left fork.at.right))) (sym digest)
                    (subst (λ t. IsKeptFor (shape_digest h t) (kept_digest from_forks k)) fork.at.is fork.at.digest),
                lies-kept h all last_forks forks count count (left_at forks count) fork.at.left (omega arith) before
                    (subst (λ n. LaidAt h all last_forks count n fork.at.left) (sym l) left_now),
                lies-kept h all last_forks forks count count (right_at forks count) fork.at.right (omega arith) before
                    (subst (λ n. LaidAt h all last_forks count n fork.at.right) (sym r) on_right.lies),
              ));
          entry_count = omega (arith, c0, a0, b0, e);
          forks_count = omega (arith, c1, a1, b1, f);
        }
