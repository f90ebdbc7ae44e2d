use Rattle.std.proofs.Common.{◌≡◌, map, Some}
use Rattle.std.specs.List.{range_with_len}
use Rattle.ark_schemes.specs.GroupHash.{group_hash, text_of}
use Rattle.ark_schemes.proofs.from_label.elements_of_texts.Given as goal

-- what is found is that of the places so far
abbrev pub invariant-loop-i : goal.invariant-loop-i
invariant-loop-i g l =
    map (λ x. Some x) l.elements.items
    ≡ map (λ i. group_hash g.C.FromDigest.found_in l.label (text_of l.role l.bits i)) (range_with_len 0 l.i)
