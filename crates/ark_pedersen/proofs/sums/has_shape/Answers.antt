use Rattle.std.proofs.Common.{◌≡◌, ℕ, ◌&&◌, Bool, eqb, List, length, map, sym, ap, ◌∙◌, rules, tests, arith}
use Rattle.std.specs.List.{list_all}
use Rattle.std.proofs.lemmas.Bool.{eq-eqb}
use Rattle.std.proofs.lemmas.Iterator.{YieldsList-from_slice}
use Rattle.std.proofs.lemmas.Iterator.Search.{all_from_yields_List}
use Rattle.std.proofs.lemmas.List.{length-map}
use Rattle.std.proofs.lemmas.List.Folds.{list_all-map}
use Rattle.ark_pedersen.specs.Pedersen.{has_shape}
use Rattle.ark_pedersen.proofs.sums.has_shape.Goals as goal

-- where their count is right, the lists have the shape if each is long enough
by_lists : {G V : Type 0} (items : V → List G) (values : List V) (count size : ℕ) (all : Bool) → length values ≡ count
    → all ≡ list_all (λ value. eqb (length (items value)) size) values → all ≡ has_shape count size (map items values)
by_lists items values count size all long each =
    each ∙ sym (ap (λ (b : Bool). b && list_all (λ list. eqb (length list) size) (map items values))
    (eq-eqb _ _ (length-map values items ∙ long)) ∙ list_all-map (λ list. eqb (length list) size) items values)

pub returns-then-generators-NUM_WINDOWS : goal.returns-then-generators-NUM_WINDOWS
returns-then-generators-NUM_WINDOWS g c =
    let each = all_from_yields_List (λ list. eqb (length list.items) g.W.Window.WINDOW_SIZE) _ _ c.all.result
    c.all.ensures.ran (YieldsList-from_slice c.args.generators.now cc) (λ x b q k. search (rules, tests)) in
    by_lists (λ list. list.items) c.args.generators.now g.W.Window.NUM_WINDOWS g.W.Window.WINDOW_SIZE c.all.result
    (omega (arith, c.NUM_WINDOWS.ensures)) each
