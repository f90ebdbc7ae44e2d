use Rattle.std.proofs.Common.{◌≡◌, ℕ, suc, ◌+◌, ◌*◌, ◌^◌, sym, ap, ◌∙◌, arith}
use Rattle.std.proofs.Math.Nat.{pow-suc}
use Rattle.ark_groups.specs.Group.{Group, IsCommutativeGroup, times}
use Rattle.ark_groups.proofs.Multiples.{times_at, times-add}
use Rattle.ark_pedersen.proofs.generators.doubled.Goals as goal

-- doubled once more
once_more : {G : Type 0} {g : Group G} (laws : IsCommutativeGroup g) (x sum new : G) (i : ℕ)
    → sum ≡ times g (2 ^ i) x → new ≡ g.plus sum sum → new ≡ times g (2 ^ (i + 1)) x
once_more {G} {g} laws x sum new i is is_new =
    let power : 2 ^ (i + 1) ≡ 2 ^ i * 2 = ap (λ n. 2 ^ n) (let one : i + 1 ≡ suc i = omega arith in one)
    ∙ pow-suc 2 i in
    is_new ∙ ap (λ (y : G). g.plus y y) is ∙ sym (times-add laws (2 ^ i) (2 ^ i) x)
    ∙ times_at laws {m = 2 ^ i + 2 ^ i} {n = 2 ^ (i + 1)} x (omega (arith, power))

pub loop-init : goal.loop-init
loop-init g c = sym (g.met.C.AdditiveGroup.laws.left_identity _)

pub loop-preserved : goal.loop-preserved
loop-preserved g c =
    let total = g.C.AdditiveGroup.total in
    once_more g.met.C.AdditiveGroup.laws (total c.args.sum) (total c.loop.sum) (total c.double_sum-sum.result)
    c.loop.counter c.loop.invariant c.double_sum-sum.ensures

pub returns : goal.returns
returns g c =
    let total = g.C.AdditiveGroup.total in
    let done : c.loop.counter ≡ c.args.doublings = omega arith in
    c.loop.invariant ∙ ap (λ (n : ℕ). times g.C.AdditiveGroup.group (2 ^ n) (total c.args.sum)) done
