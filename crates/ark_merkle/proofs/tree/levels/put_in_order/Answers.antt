use Rattle.std.proofs.Common.{◌≡◌, ◌+◌, ◌-◌, ◌*◌, ◌%◌, ◌^◌, refl, pow_pos, arith}
use Rattle.std.proofs.lemmas.Nat.{one_shl}
use Rattle.ark_merkle.proofs.LevelOrder.{level-inside, turned-none, turned-more, turned-all}
use Rattle.ark_merkle.proofs.tree.levels.put_in_order.Goals as goal
use Rattle.ark_merkle.proofs.tree.levels.put_in_order.Goals.{In-loop-level}

-- the shift gives the width of the level's row
width : (g : _) (c : In-loop-level g) → 1 * 2 ^ c.loop-level.level % 2 ^ 64 ≡ 2 ^ c.loop-level.level
width g c = one_shl c.loop-level.level 64 (omega (arith, c.requires.fits))

pub loop-level-init : goal.loop-level-init
loop-level-init g c = rw c.reverse.ensures.after (turned-none c.args.digests.now)

pub overflow_sub-first : goal.overflow_sub-first
overflow_sub-first g c = omega (arith, width g c, pow_pos c.loop-level.level)

pub turn_back-requires : goal.turn_back-requires
turn_back-requires g c =
    let room = level-inside c.args.count c.loop-level.level c.loop-level-test.true in
    let shifted = width g (goal.at.turn_back-requires g c).In-loop-level in
    omega (arith, pow_pos c.loop-level.level, c.requires.whole, c.loop-level.auto.digests, c.reverse.ensures.len)

pub loop-level-preserved : goal.loop-level-preserved
loop-level-preserved g c =
    let level = c.loop-level.level in
    let whole : 2 ^ level - 1 + 1 ≡ 2 ^ level = omega (arith, pow_pos level) in
    rw (rw (width g (goal.at.loop-level-preserved g c).In-loop-level, whole) at c.turn_back.ensures)
    (turned-more c.args.digests.now c.loop-level.digests level c.args.count c.requires.whole c.loop-level-test.true
    c.loop-level.invariant _ refl)

pub returns : goal.returns
returns g c =
    let last : c.loop-level.level ≡ c.args.count =
    omega (arith, c.loop-level-test.false, c.loop-level.auto.level-end) in
    turned-all c.args.digests.now c.loop-level.digests c.args.count c.requires.whole (rw last at c.loop-level.invariant)
