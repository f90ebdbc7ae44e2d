use Rattle.std.proofs.Common.{◌≡◌, ℕ, ◌+◌, ◌*◌, ◌%◌, ◌<◌, ◌++◌, ◌∷◌, [], List, length, map, take, get_or, sym, ap, ap₂, ◌∙◌, arith}
use Rattle.std.proofs.lemmas.List.{get_or-map, length-map, map-append, take_more}
use Rattle.ark_wide_fields.specs.Inverses.{AreInverses}
use Rattle.jubjub.specs.Jubjub.{p}
use Rattle.jubjub.specs.Sums.{total, scale_in}
use Rattle.jubjub.specs.Values.{value}
use Rattle.jubjub.proofs.element.sums.many.elements_by.Goals as goal

-- the inverse at a place is that of the number there
inverse_at : {S F : Type 0} (f : S → ℕ) (v : F → ℕ) (sums : List S) (inverses : List F) (m i : ℕ) (s : S) (x : F)
    → AreInverses m (map f sums) (map v inverses) → i < length sums → s ≡ get_or sums i s → x ≡ get_or inverses i x
    → f s * v x % m ≡ 1
inverse_at f v sums inverses m i s x are within is_s is_x =
    let in_inverses : i < length inverses = omega (arith, are.long, length-map sums f, length-map inverses v) in
    ap₂ (λ a b. a * b % m) (ap f is_s ∙ sym (get_or-map f sums i s 0 within))
    (ap v is_x ∙ sym (get_or-map v inverses i x 0 in_inverses))
    ∙ are.each i (omega (arith, length-map sums f))

-- one is made more
one_more : {S X : Type 0} (f : S → X) (sums : List S) (i : ℕ) (s : S) (x : X) (done next : List X) → i < length sums
    → s ≡ get_or sums i s → x ≡ f s → done ≡ map f (take i sums) → next ≡ done ++ x ∷ []
    → next ≡ map f (take (i + 1) sums)
one_more f sums i s x done next within is_s is_x so_far put =
    put ∙ ap₂ (λ xs y. xs ++ y ∷ []) so_far (is_x ∙ ap f is_s)
    ∙ sym (ap (map f) (take_more sums i s within) ∙ map-append f (take i sums) (get_or sums i s ∷ []))

pub element_by-requires : goal.element_by-requires
element_by-requires c =
    inverse_at (λ sum. value (scale_in sum)) value c.args.sums.now c.args.inverses.now p c.loop-i.i
    c.index-sums-i.result c.index-inverses-i.result c.requires c.loop-i-test.true c.index-sums-i.is
    c.index-inverses-i.is

pub loop-i-preserved : goal.loop-i-preserved
loop-i-preserved c =
    one_more total c.args.sums.now c.loop-i.i c.index-sums-i.result c.element_by.result c.loop-i.list.items _
    c.loop-i-test.true c.index-sums-i.is c.element_by.ensures c.loop-i.invariant c.in_ok-push.ensures.items
