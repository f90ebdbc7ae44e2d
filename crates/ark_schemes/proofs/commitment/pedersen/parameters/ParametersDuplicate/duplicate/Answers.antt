use Rattle.std.proofs.Common.{List, Ok, sym, ap}
use Rattle.std.proofs.lemmas.List.Elements.{same_from_all_zip}
use Rattle.ark_pedersen.proofs.Copies.{copies-same}
use Rattle.ark_schemes.specs.PedersenCommitments.{Generators}
use Rattle.ark_schemes.proofs.commitment.pedersen.parameters.ParametersDuplicate.duplicate.Goals as goal

abbrev generators : {G : Type 0} → List G → List (List G) → Generators G
generators elements lists = record { randomness = elements; windows = lists }

pub returns : goal.returns
returns g c =
    let clones = g.met.C.AdditiveGroup.clones in
    let elements = same_from_all_zip g.C.Clone.is_clone _ _ c.in_ok-clone.ensures.cases.0
    (λ x y clone. sym (clones x y clone)) in
    let lists = copies-same g.C.Clone.is_clone clones _ (λ v w alike. alike.0) _ _ c.in_ok-clone-2.ensures.cases.0 in
    ap Ok (λ i. generators (sym elements i) (lists i))
