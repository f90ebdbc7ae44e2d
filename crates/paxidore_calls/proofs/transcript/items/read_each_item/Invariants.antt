use Rattle.std.proofs.Common.{◌≡◌, ◌≤◌, ◌-◌, length, map, drop}
use Rattle.ark_base.specs.Spelling.{items_at}
use Rattle.ark_base.proofs.Items.{with_front}
use Rattle.paxidore_calls.proofs.transcript.items.read_each_item.Given as goal

-- what was read, and what is still read, are the whole
abbrev pub invariant-loop : goal.invariant-loop
invariant-loop g l = record {
  within : l.used ≤ length l.bytes;
  so_far : with_front (map g.R.ReadsItem.view l.items.items) (items_at g.R.ReadsItem.reads (l.count - l.counter)
      (drop l.used l.bytes)) ≡ items_at g.R.ReadsItem.reads l.count l.bytes;
}
