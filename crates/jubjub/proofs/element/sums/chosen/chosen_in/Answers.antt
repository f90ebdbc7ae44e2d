use Rattle.std.proofs.Common.{◌∷◌, [], get_or, ap}
use Rattle.jubjub.proofs.element.sums.chosen.chosen_in.Goals as goal

pub from_form-requires : goal.from_form-requires
from_form-requires c =
    let (x, y, n, forms) = c.requires in
    (x, forms.x_below, ap (λ l. get_or l 0 [] ∷ get_or l 1 [] ∷ []) forms.words_are)

pub from_form-requires-2 : goal.from_form-requires-2
from_form-requires-2 c =
    let (x, y, n, forms) = c.requires in
    (y, forms.y_below, ap (λ l. get_or l 2 [] ∷ get_or l 3 [] ∷ []) forms.words_are)

pub from_form-requires-3 : goal.from_form-requires-3
from_form-requires-3 c =
    let (x, y, n, forms) = c.requires in
    (n, forms.c_below, ap (λ l. get_or l 4 [] ∷ get_or l 5 [] ∷ []) forms.words_are)

pub returns-clause-x : goal.returns-clause-x
returns-clause-x c x y n forms =
    c.from_form.ensures x forms.x_below (ap (λ l. get_or l 0 [] ∷ get_or l 1 [] ∷ []) forms.words_are)

pub returns-clause-y : goal.returns-clause-y
returns-clause-y c x y n forms =
    c.from_form-2.ensures y forms.y_below (ap (λ l. get_or l 2 [] ∷ get_or l 3 [] ∷ []) forms.words_are)

pub returns-clause-crossed : goal.returns-clause-crossed
returns-clause-crossed c x y n forms =
    c.from_form-3.ensures n forms.c_below (ap (λ l. get_or l 4 [] ∷ get_or l 5 [] ∷ []) forms.words_are)
