use Rattle.std.proofs.Common.{◌≡◌, ◌++◌, List, map, take, Ok, ap, sym, ◌∙◌}
use Rattle.std.proofs.lemmas.List.{map-append, take-map}
use Rattle.ark_base.specs.Laws.Steps.{done_injective}
use Rattle.ark_paths.specs.Pair.{Digest}
use Rattle.test_support.proofs.trees.multi.extended.Goals as goal

pub returns : goal.returns
returns g c =
    let numbers = g.D.Numbered.numbers in
    let above = c.in_ok-above.above.items in
    let more = c.in_ok-more.more.items in
    let before : map numbers c.args.before.now ≡ map numbers above =
    done_injective {A = List Digest} _ _ c.in_ok-above.ensures in
    let suffix : map numbers c.args.suffix.now ≡ map numbers more =
    done_injective {A = List Digest} _ _ c.in_ok-more.ensures in
    let items : c.append.new.self.items ≡ take c.args.prefix above ++ more =
    c.in_ok-append.ensures.items ∙ ap (λ t. t ++ more) c.truncate.ensures.items in
    ap Ok (rw (before, suffix) (ap (λ t. t ++ map numbers more) (take-map numbers c.args.prefix above)
    ∙ sym (map-append numbers (take c.args.prefix above) more) ∙ sym (ap (map numbers) items)))
