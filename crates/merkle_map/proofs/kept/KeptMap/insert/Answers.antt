use Rattle.std.proofs.Common.{OnOk, subst}
use Rattle.merkle_map.specs.Changes.{entry_of, with_value}
use Rattle.merkle_map.specs.Map.{HaveSame, put}
use Rattle.merkle_map.specs.Parts.{shape}
use Rattle.merkle_map.specs.Whole.{Stores, entries_of}
use Rattle.merkle_map.proofs.Calls.{put-stands, put-follows}
use Rattle.merkle_map.proofs.Keeping.{put-whole, same-of}
use Rattle.merkle_map.proofs.Wholes.{plain, put-can, stores, under}
use Rattle.merkle_map.proofs.kept.KeptMap.insert.Goals.{After-put_in}
use Rattle.merkle_map.proofs.kept.KeptMap.insert.Goals as goal

pub invariant_of-self : goal.invariant_of-self
invariant_of-self g c =
    let numbers = g.H.Output.Numbered.numbers in
    let own = entry_of c.args.key.now c.args.value in
    let old = shape numbers c.self.inside.top in
    let new = shape numbers c.put_in.new.part in
    record {
      stands = put-stands own (c.told-key, c.fits-key) old new c.self.invariant.stands c.put_in.result
          c.put_in.ensures.changed c.put_in.ensures.kept;
      whole = put-whole old new c.self.invariant.whole own c.put_in.result c.put_in.ensures.changed
          c.put_in.ensures.kept;
      kept = c.put_in.ensures.digests (g.H.MapViews.hashes c.self.inside.hasher) c.self.invariant.kept;
    }

-- The new tree is the store of the map with the value.
stored : (g : _) (c : After-put_in g) → Stores (put c.args.key.now c.args.value)
    (shape g.H.Output.Numbered.numbers c.self.inside.top) (shape g.H.Output.Numbered.numbers c.put_in.new.part)
    c.put_in.result
stored g c =
    let numbers = g.H.Output.Numbered.numbers in
    let own = entry_of c.args.key.now c.args.value in
    let old = shape numbers c.self.inside.top in
    let new = shape numbers c.put_in.new.part in
    let stands = c.self.invariant.stands in
    stores plain (put c.args.key.now c.args.value) old new stands
    (put-stands own (c.told-key, c.fits-key) old new
    stands c.put_in.result c.put_in.ensures.changed c.put_in.ensures.kept) (with_value 0 own old) c.put_in.result
    (put-can own old) c.put_in.ensures.changed
    (under plain (put c.args.key.now c.args.value) old new c.put_in.result
    (put-follows own (c.told-key, c.fits-key) old new stands c.put_in.result c.put_in.ensures.changed))

pub returns-clause-put : goal.returns-clause-put
returns-clause-put g c =
    let numbers = g.H.Output.Numbered.numbers in
    let change = put c.args.key.now c.args.value in
    let new = shape numbers c.put_in.new.part in
    subst (λ map. OnOk c.put_in.result (HaveSame (entries_of new) (change map.entries))) c.self.view_is
    (same-of (change (entries_of (shape numbers c.self.inside.top))) new c.put_in.result
    (stored g (goal.at.returns-clause-put g c).After-put_in c.self.invariant.whole).0)

pub returns-clause-memory : goal.returns-clause-memory
returns-clause-memory g c = (stored g (goal.at.returns-clause-memory g c).After-put_in c.self.invariant.whole).1
