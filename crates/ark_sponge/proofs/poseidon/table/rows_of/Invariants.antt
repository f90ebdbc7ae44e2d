use Rattle.std.proofs.Common.{◌≡◌, ℕ, ◌+◌, ◌*◌, ◌≤◌, ◌++◌, length, map, All, vec_len}
use Rattle.ark_sponge.specs.Table.{rows_of}
use Rattle.ark_sponge.proofs.poseidon.table.rows_of.Given as goal

abbrev pub invariant-loop : goal.invariant-loop
invariant-loop g l = record {
  same : (k : ℕ) → l.counter + k ≡ l.count
      → map (λ row. map g.F.Valued.value row.items) l.rows.items ++ rows_of l.width k (map g.F.Valued.value l.rest)
      ≡ rows_of l.width l.count (map g.F.Valued.value l.list);
  room : (k : ℕ) → l.counter + k ≡ l.count → k * l.width ≤ length l.rest;
  widths : All (λ row. vec_len row ≡ l.width) l.rows.items;
  count : length l.rows.items ≡ l.counter;
}
