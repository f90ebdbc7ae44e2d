use Rattle.std.proofs.Common.{◌≡◌, ◌^◌, suc, length, arith, pow_pos}
use Rattle.std.proofs.lemmas.List.{length-map}
use Rattle.ark_base.proofs.Refusals.{passed_on}
use Rattle.ark_paths.specs.Rows.{digests_of}
use Rattle.ark_merkle.proofs.BuildRows.{lowest-half, above-lowest, log-size}
use Rattle.ark_merkle.proofs.tree.build.rows_above.Goals.{In_ok-row, After-ilog2}
use Rattle.ark_merkle.proofs.tree.build.rows_above.Goals as goal

half : (g : _) (c : In_ok-row g) → length (digests_of g.D.Numbered.numbers c.in_ok-row.row) ≡ 2 ^ c.requires.0
half g c = lowest-half (g.T.TreeHasher.hashes c.args.hasher.now).pair _ c.args.digests.now _ _ c.requires.1
    c.in_ok-row.ensures

levels : (g : _) (c : After-ilog2 g) → c.ilog2.result ≡ suc c.requires.0
levels g c = log-size _ _ _ c.requires.1 c.ilog2.ensures.power_le c.ilog2.ensures.next_power_gt

pub returns-in_err-rows : goal.returns-in_err-rows
returns-in_err-rows g c =
    passed_on _ _ c.from_residual-in_err-rows.result _ c.from_residual-in_err-rows.ensures.1
    (c.in_err-rows.ensures.rows c.requires.0 (half g (goal.at.returns-in_err-rows g c).In_ok-row))
    (above-lowest (g.T.TreeHasher.hashes c.args.hasher.now).pair _ c.args.digests.now _ _ c.requires.1
    c.in_ok-row.ensures _)

pub of_rows-requires : goal.of_rows-requires
of_rows-requires g c = rw (levels g c) (omega (
  arith,
  half g (goal.at.of_rows-requires g c).In_ok-row,
  length-map c.in_ok-row.row.items g.D.Numbered.numbers,
  c.in_ok-rows.ensures.whole,
  pow_pos c.requires.0,
))

pub returns : goal.returns
returns g c =
    above-lowest (g.T.TreeHasher.hashes c.args.hasher.now).pair _ c.args.digests.now _ _ c.requires.1
    c.in_ok-row.ensures _ (rw (c.of_rows.ensures, levels g (goal.at.returns g c).After-ilog2)
    (c.in_ok-rows.ensures.rows c.requires.0 (half g (goal.at.returns g c).In_ok-row)))
