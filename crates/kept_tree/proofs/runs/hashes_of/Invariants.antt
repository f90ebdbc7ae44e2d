use Rattle.std.proofs.Common.{◌≡◌, ℕ, ◌+◌, ◌*◌, ◌<◌, List, [], Bor, get_or, length}
use Rattle.kept_tree.proofs.runs.hashes_of.Given as goal

abbrev pub invariant-couples : goal.invariant-couples
invariant-couples g l =
    record {
      long : length l.couples ≡ 64;
      lent : (i : ℕ) (d : Bor (List ℕ) × Bor (List ℕ)) → i < l.n
          → ((get_or l.couples i d).0.now ≡ get_or l.memory (2 * get_or l.places i 0 + 1) [])
          × ((get_or l.couples i d).1.now ≡ get_or l.memory (2 * get_or l.places i 0 + 2) []);
    }
