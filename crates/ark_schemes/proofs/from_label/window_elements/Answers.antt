use Rattle.std.proofs.Common.{ℕ, subst}
use Rattle.std.proofs.lemmas.Result.{IfOk-weaker}
use Rattle.ark_schemes.specs.GroupHash.{AreOfTexts, text_of}
use Rattle.ark_schemes.proofs.GroupHashes.{as_many}
use Rattle.ark_schemes.proofs.from_label.window_elements.Goals as goal

pub returns-clause-made : goal.returns-clause-made
returns-clause-made g c =
    IfOk-weaker c.elements_of_texts.result _ _ (λ elements made.
    subst (λ (n : ℕ). AreOfTexts g.C.FromDigest.found_in c.args.label.now (text_of c.args.role c.args.bits) n
    elements.items) c.in_ok-count_of.ensures.count made) c.elements_of_texts.ensures.made

pub returns-clause-long : goal.returns-clause-long
returns-clause-long g c =
    IfOk-weaker c.elements_of_texts.result _ _
    (λ elements made. as_many g.C.FromDigest.found_in c.args.label.now (text_of c.args.role c.args.bits)
    g.W.Window.NUM_WINDOWS elements.items made) (returns-clause-made g c)
