use Rattle.std.proofs.Common.{◌-◌, length, get_or, arith}
use Rattle.ark_paths.specs.Rows.{beside_in}
use Rattle.ark_merkle.proofs.MultiCommon.{common-le, NextParts-first, NextParts-next}
use Rattle.ark_merkle.proofs.tree.multi_proof.prefix_at.Goals as goal

pub returns-then-place-eq0 : goal.returns-then-place-eq0
returns-then-place-eq0 g c =
    let parts = NextParts-first (beside_in c.args.rows.now (length c.args.rows.now - 1)) c.args.indexes.now
    c.args.place c.requires.place c.if-place-eq0.true in
    record { within = omega arith; prefix = parts.prefixes; suffix = parts.suffixes }

pub returns-else-place-eq0 : goal.returns-else-place-eq0
returns-else-place-eq0 g c =
    let last = length c.args.rows.now - 1 in
    let indexes = c.args.indexes.now in
    let place = c.args.place in
    let is = c.digests_in_common.ensures in
    let most = common-le c.args.rows.now last (get_or indexes (place - 1) 0) (get_or indexes place 0) in
    let more = NextParts-next (beside_in c.args.rows.now last) indexes place c.digests_in_common.result
    c.requires.place (omega arith) is in
    record { within = omega (arith, is, most); prefix = more.prefixes; suffix = more.suffixes }
