use Rattle.std.proofs.Common.{◌≡◌, ◌≤◌, ◌∙◌, ◌+◌, ◌++◌, length, take, ap, sym, List, ℕ, Bor, arith, append_assoc}
use Rattle.std.proofs.lemmas.List.{length-append, length-map, length-take-le, take_at}
use Rattle.std.proofs.lemmas.Simd.{map-map}
use Rattle.paxidore_calls.proofs.leaves.write_run.Goals as goal

front : {A : Type 0} (place count : ℕ) (old new tail : List A) → place ≤ length old → length new ≡ count
    → take (place + count) (take place old ++ (new ++ tail)) ≡ take place old ++ new
front place count old new tail inside long =
    ap (take (place + count)) (sym (append_assoc (take place old) new tail))
    ∙ take_at (take place old ++ new) tail (place + count)
    (omega (arith, length-append (take place old) new, length-take-le place old inside, long))

pub returns : goal.returns
returns g c =
    let hash = g.H.ArrayHash.leaf_hash in
    let long : length c.leaves.new.digests ≡ c.args.count =
    ap length c.leaves.ensures ∙ length-map c.args.leaves.now (λ (leaf : Bor (List ℕ)). hash leaf.now)
    ∙ c.requires.count in
    front c.args.place c.args.count c.args.digests.now c.leaves.new.digests _ (omega (arith, c.requires.room)) long
    ∙ ap (λ ds. take c.args.place c.args.digests.now ++ ds) (c.leaves.ensures
    ∙ sym (map-map hash (λ (leaf : Bor (List ℕ)). leaf.now) c.args.leaves.now))
