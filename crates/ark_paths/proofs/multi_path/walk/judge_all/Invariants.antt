use Rattle.std.proofs.Common.{◌≡◌, ◌≤◌, ◌+◌, ◌*◌, suc, length, map}
use Rattle.ark_paths.specs.Asked.{RisesBy}
use Rattle.ark_paths.specs.MultiPath.{listed_way, path_length}
use Rattle.ark_paths.specs.Table.{IsTable}
use Rattle.ark_paths.proofs.MultiWalks.{AtPlace}
use Rattle.ark_paths.proofs.CountSteps.{Counted, Decoded}
use Rattle.ark_paths.proofs.multi_path.walk.judge_all.Given as goal

-- the places before are accepted with the leaves that were taken
abbrev pub invariant-loop-place : goal.invariant-loop-place
invariant-loop-place g l =
    let leaf = g.H.Output.Numbered.numbers in
    let inner = g.D.Numbered.numbers in
    let hash = g.H.CRHScheme.meaning l.leaf_parameters in
    let h = g.T.PairHasher.pair l.fn.hasher in
    let m = listed_way leaf inner l.siblings l.prefixes l.suffixes l.indexes in
    let above = map (λ x. inner x.now) l.above.items in
    record {
      can : g.I.Iterator.can_next l.leaves;
      at : AtPlace g.I.Iterator.next_gives (λ leaf. hash leaf.now) l.fn.leaves l.leaves h (inner l.root) m
          l.place above;
      decoded : Decoded m l.place above;
      table : IsTable leaf inner h l.table;
      counted : Counted g.I.Iterator.next_gives l.fn.leaves l.leaves leaf inner h (inner l.root) m
          (λ leaf. hash leaf.now) l.place l.table;
      same : g.T.PairHasher.pair l.hasher ≡ h;
      rises : RisesBy (length l.table.made.items) (g.T.PairHasher.counted l.fn.hasher)
          (g.T.PairHasher.counted l.hasher);
      most : g.T.PairHasher.counted l.hasher ≤ g.T.PairHasher.counted l.fn.hasher + l.place * suc (path_length m);
    }
