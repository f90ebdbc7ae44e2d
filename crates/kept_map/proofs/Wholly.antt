-- A map that is copied whole.
use Rattle.std.proofs.Common.{ℕ, ◌≤◌, List, [], length, take, arith, refl, ap}
use Rattle.std.proofs.lemmas.List.{length-take-le}
use Rattle.merkle_map.specs.Map.{Entry, MapHashes}
use Rattle.kept_map.specs.declared.head.Head.{Head}
use Rattle.kept_map.specs.Copied.{HasRoomFor, IsCopied, FitsMemory, LiesBelow}
use Rattle.kept_map.specs.KeptMap.{KeepsMap}
use Rattle.kept_map.proofs.Heads.{lies-taken}

-- the head that names nothing
abbrev pub none : Head
none = record { top = 0; entries = 0; forks = 0 }

module _ (h : MapHashes) (entries forks : List (List ℕ)) (head : Head) (xs : List Entry)
    (keeps : KeepsMap h entries forks head xs) where
  pub top-below : LiesBelow h (take head.entries entries) (take head.forks forks) head.top 0 keeps.tree
  top-below = record {
    bound = head.forks;
    inside = let long = length-take-le head.forks forks keeps.forks_room in omega (arith, long);
    lies = keeps.lies;
    bits = [];
    long = refl;
    stands = keeps.is.stands;
  }

  pub room-in : (to_entries to_forks : List (List ℕ)) → length xs ≤ length to_entries → head.forks ≤ length to_forks
      → HasRoomFor to_entries to_forks none keeps.tree
  room-in to_entries to_forks e_room f_room =
      let size = ap length keeps.is.has in
      let count = keeps.count in
      (omega (arith, size, e_room), omega (arith, count, f_room))

  pub copied-keeps : (to_entries to_forks : List (List ℕ)) (new : Head) (number : ℕ)
      → FitsMemory to_entries to_forks new → IsCopied h to_entries to_forks none new number keeps.tree
      → KeepsMap h to_entries to_forks (record { top = number; entries = new.entries; forks = new.forks }) xs
  copied-keeps to_entries to_forks new number inside copied = record {
    entries_room = inside.0;
    forks_room = inside.1;
    tree = keeps.tree;
    lies = lies-taken h (take new.entries to_entries) to_forks new.forks number keeps.tree copied.lies;
    count = let f = copied.forks_count in omega (arith, f);
    is = keeps.is;
  }
