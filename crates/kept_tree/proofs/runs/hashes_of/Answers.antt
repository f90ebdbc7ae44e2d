use Rattle.std.proofs.Common.{◌≡◌, ℕ, ◌+◌, ◌*◌, ◌≤◌, List, [], Bor, get_or, length, take, refl, ap, ◌∙◌, arith}
use Rattle.std.proofs.lemmas.List.{get_or_append_left, length-map, length-set, length-take-le}
use Rattle.kept_tree.proofs.Rehashed.{mapped-reads, written-next}
use Rattle.kept_tree.proofs.runs.hashes_of.Goals as goal

pub couples-preserved : goal.couples-preserved
couples-preserved g c = record {
  long = length-set c.couples.couples c.couples.n _ ∙ c.couples.invariant.long;
  lent = written-next (λ (i : ℕ) (r : Bor (List ℕ) × Bor (List ℕ)).
      (r.0.now ≡ get_or c.args.memory.now (2 * get_or c.args.places.now i 0 + 1) [])
      × (r.1.now ≡ get_or c.args.memory.now (2 * get_or c.args.places.now i 0 + 2) [])) c.couples.couples c.couples.n _
      (omega (arith, c.couples.invariant.long)) c.couples.invariant.lent (refl, refl);
}

pub returns : goal.returns
returns g c = λ i below.
    let node = g.H.ArrayHash.node_hash in
    let hash : Bor (List ℕ) × Bor (List ℕ) → List ℕ = λ r. node r.0.now r.1.now in
    let run = take (length c.args.places.now) c.couples.couples in
    let inside : (length c.args.places.now) ≤ length c.couples.couples = omega (arith, c.couples.invariant.long) in
    let long : length c.nodes.new.digests ≡ (length c.args.places.now) =
    ap length c.nodes.ensures ∙ length-map run hash
    ∙ length-take-le (length c.args.places.now) c.couples.couples inside in
    get_or_append_left c.nodes.new.digests _ [] i (omega (arith, long, below))
    ∙ ap (λ (ds : List (List ℕ)). get_or ds i []) c.nodes.ensures
    ∙ mapped-reads hash c.couples.couples (length c.args.places.now)
    (λ j. node (get_or c.args.memory.now (2 * get_or c.args.places.now j 0 + 1) [])
    (get_or c.args.memory.now (2 * get_or c.args.places.now j 0 + 2) []))
    (λ j d lt. let reads = c.couples.invariant.lent j d (omega (arith, lt)) in λ k. node (reads.0 k) (reads.1 k))
    inside i
    below
