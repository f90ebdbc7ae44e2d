use Rattle.std.proofs.Common.{◌++◌, sym, ap, ap₂, ◌∙◌, map, drop, length}
use Rattle.std.proofs.lemmas.List.{map-append, drop-map}
use Rattle.std.proofs.Math.ListN.{length-map}
use Rattle.poseidon2.proofs.modes.overwrite.Goals as goal

pub returns-clause-numbers : goal.returns-clause-numbers
returns-clause-numbers g c =
    let f = g.F.Valued.value in
    let block = c.args.block.now in
    let state = c.args.state.now in
    map-append f c.copy_from_slice.new.self (drop (length block) state)
    ∙ ap₂ (λ x y. x ++ y) (ap (map f) c.copy_from_slice.ensures.after)
    (sym (drop-map f (length block) state) ∙ ap (λ n. drop n (map f state)) (sym (length-map block f)))
