use Rattle.std.proofs.Common.{◌≡◌, ℕ, List, length, map, take, ap, sym, ◌∙◌, arith}
use Rattle.std.proofs.lemmas.List.{length-take-le, take-map}
use Rattle.merkle_log.specs.Stored.{stored_count, StoredValue}
use Rattle.ark_paths.specs.Pair.{Digest}
use Rattle.merkle_log.proofs.Positions.{count-rises}
use Rattle.merkle_log.proofs.stored.Stored.cut.Goals as goal

pub overflow_add-count : goal.overflow_add-count
overflow_add-count g c = omega (
  arith,
  count-rises c.args.size c.self.inside.size (rw (← c.self.view_is) at c.requires),
  c.self.invariant,
  c.self.inside.digests.ok.0,
)

pub invariant_of-self : goal.invariant_of-self
invariant_of-self g c =
    let less = count-rises c.args.size c.self.inside.size (rw (← c.self.view_is) at c.requires) in
    ap length c.truncate.ensures.items ∙ length-take-le (stored_count c.args.size) c.self.inside.digests.items
    (omega (arith, c.self.invariant))

pub returns : goal.returns
returns g c =
    let numbers = g.D.Numbered.numbers in
    let size = c.args.size in
    let items : map numbers c.truncate.new.self.items ≡ take (stored_count size)
    (map numbers c.self.inside.digests.items) = ap (map numbers) c.truncate.ensures.items
    ∙ sym (take-map numbers (stored_count size) c.self.inside.digests.items) in
    rw (← c.self.view_is) (ap (λ l. with_size size l) items)
  where
    with_size : ℕ → List Digest → StoredValue
    with_size size digests = record { size = size; digests = digests }
