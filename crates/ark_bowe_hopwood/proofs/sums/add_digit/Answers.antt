use Rattle.std.proofs.Common.{◌≡◌, Bool, cond, refl, sym, ap, ◌∙◌}
use Rattle.ark_groups.specs.Group.{Group, IsCommutativeGroup}
use Rattle.ark_bowe_hopwood.specs.BoweHopwood.{digit, signed_times}
use Rattle.ark_bowe_hopwood.proofs.SignedTimes.{digit-times, digit-added}
use Rattle.ark_bowe_hopwood.proofs.sums.add_digit.Goals as goal
use Rattle.ark_bowe_hopwood.proofs.sums.add_digit.Goals.{then-a, else-a}

-- the element, or its opposite, is added once or twice, and then twice or not at all
module _ {G : Type 0} {g : Group G} (laws : IsCommutativeGroup g) (sum x once twice first whole : G) where
  added : (a b c : Bool)
      → once ≡ cond c (g.opposite x) x
      → twice ≡ g.plus once once
      → first ≡ cond a twice once
      → whole ≡ cond b (g.plus (g.plus sum first) twice) (g.plus sum first)
      → whole ≡ g.plus sum (signed_times g (digit (a, b, c)) x)
  added a b c is_once is_twice is_first is =
      let signed : G = cond c (g.opposite x) x in
      is ∙ rw (is_first, is_twice, is_once) (sym (ap (g.plus sum) (digit-times laws a b c x) ∙ digit-added laws a b
      sum signed))

pub returns : goal.returns
returns g c =
    let total = g.G.AdditiveGroup.total in
    added g.met.G.AdditiveGroup.laws (total c.args.sum) c.args.x (total c.to_sum-once.result)
    (total c.double_sum-twice.result) (total c.if-a.add_sums) _ c.args.a c.args.b c.args.is_negative
    (c.to_sum-once.ensures ∙ c.signed.ensures) c.double_sum-twice.ensures (elim c.if-a.branch
    [ then-a w ↦ rw (w.add_sums-is, w.if-a.true) refl | else-a w ↦ rw (w.add_sums-is, w.if-a.false) refl ])
    (c.added_if.ensures ∙ ap (λ (m : g.row.G.Denot). cond c.args.b (g.G.AdditiveGroup.group.plus m
    (total c.double_sum-twice.result)) m) c.add_sums-more.ensures)
