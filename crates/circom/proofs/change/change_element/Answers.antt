use Rattle.std.proofs.Common.{◌≡◌, ◌≤◌, ℕ, length, true, subst, sym, ◌∙◌, arith}
use Rattle.circom.specs.Hash.{is_element, node_outcome, table_outcome}
use Rattle.merkle_log.specs.Kept.{front}
use Rattle.merkle_log.specs.Log.{NodeHash}
use Rattle.merkle_log.specs.Stored.{IsStored, StoredValue, row_at}
use Rattle.merkle_log.proofs.KeptRows.{fewer-hashed-by}
use Rattle.merkle_log.proofs.Positions.{length-row_of}
use Rattle.circom.specs.Changed.{Climbs, HasOverLeaf, RefusesClimb}
use Rattle.circom.proofs.Changing.{changed-keeps, never-refused}
use Rattle.circom.proofs.Outcomes.{hashed_are, node-closed, table-node}
use Rattle.circom.proofs.change.change_element.Goals as goal

pub returns-in-Ok-clause-changes : goal.returns-in-Ok-clause-changes
returns-in-Ok-clause-changes c = λ parameters of leaves count keeps.
    let kept = front c.args.size c.args.digests.now in
    let Made : StoredValue → NodeHash → Type 0 = λ stored hash. (level : ℕ)
    → HasOverLeaf stored.size c.args.index level
    → Climbs hash (row_at stored) c.args.index c.args.element.now c.climb.new.over level in
    let by_table : Made kept (table_outcome c.args.table.now) =
    subst (λ stored. Made stored (table_outcome c.args.table.now)) c.new.ensures c.in-Ok.ensures.climbs in
    let made : Made kept (node_outcome parameters) = subst (Made kept) (table-node of) by_table in
    changed-keeps c.put_over.ensures made c.requires.inside count keeps

pub returns-in-Err-clause-refused : goal.returns-in-Err-clause-refused
returns-in-Err-clause-refused c = λ parameters of leaves count keeps.
    let size = c.args.size in
    let kept = front size c.args.digests.now in
    let le : size ≤ length leaves = omega (arith, count) in
    let stored : IsStored (node_outcome parameters) (row_at kept) = fewer-hashed-by keeps size le in
    let is : is_element c.args.element.now ≡ true = sym c.is_element.ensures ∙ c.if-not-is_element.false in
    let Refuses : StoredValue → NodeHash → Type 0 = λ held hash. RefusesClimb hash (row_at held) held.size c.args.index
    c.args.element.now in
    let by_table : Refuses kept (table_outcome c.args.table.now) =
    subst (λ held. Refuses held (table_outcome c.args.table.now)) c.new.ensures c.in-Err.ensures.refused in
    let refused : Refuses kept (node_outcome parameters) = subst (Refuses kept) (table-node of) by_table in
    absurd (never-refused (node-closed of c.requires.two) (hashed_are parameters) (row_at kept) size c.args.index
    c.args.element.now stored (length-row_of kept) is refused)
