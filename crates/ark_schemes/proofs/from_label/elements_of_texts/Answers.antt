use Rattle.std.proofs.Common.{sym, ◌∙◌}
use Rattle.ark_schemes.specs.GroupHash.{group_hash, text_of}
use Rattle.ark_schemes.proofs.GroupHashes.{one_element_more}
use Rattle.ark_schemes.proofs.from_label.elements_of_texts.Goals as goal

pub loop-i-preserved : goal.loop-i-preserved
loop-i-preserved g c =
    one_element_more (λ i. group_hash g.C.FromDigest.found_in c.args.label.now (text_of c.args.role c.args.bits i))
    c.loop-i.elements.items _ c.in-Some.element c.loop-i.i c.in_ok-push-in-Some.ensures.items
    (sym c.element_of.ensures ∙ c.in-Some.is) c.loop-i.invariant
